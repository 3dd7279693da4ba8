-- What the calls on the user's memory mappings are lent, and what they leave.
use Rattle.std.specs.Prelude.{Result}
use Rattle.answer.specs.declared.Refusal.{Refusal}
use Rattle.std.specs.Prelude.{ℕ, ◌%◌, Bool, eqb}
use Rattle.bits.specs.Bit.{both}
use Rattle.slots.specs.Slots.{Slots}
use Rattle.paging.specs.Map.{Memory}
use Rattle.paging.specs.Calls.{whole}
use Rattle.mappings.specs.declared.MappedRegion.{MappedRegion}
use Rattle.mappings.specs.Regions.{sound_mappings}

-- words and frames, the root beside them, the list and next_addr
pub record User : Type 0 where
  pub mem : Memory
  pub regions : Slots MappedRegion
  pub next : ℕ

abbrev pub user : Memory → Slots MappedRegion → ℕ → User
user m s next = record { mem = m; regions = s; next = next }

pub record UserDid : Type 0 where
  pub answer : Result ℕ Refusal
  pub user : User

abbrev pub user_did : Result ℕ Refusal → User → UserDid
user_did a s = record { answer = a; user = s }

abbrev pub sound_user : User → ℕ → Bool
sound_user s root = both (whole s.mem root) (sound_mappings s.regions s.next)

-- page-aligned
abbrev pub on_page : ℕ → Bool
on_page a = eqb (a % 4096) 0
