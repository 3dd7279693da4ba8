-- A page-table word's fields and an address's indices, by division and remainder of powers of two.
use Rattle.std.specs.Prelude.{Ok, Err, Result}
use Rattle.answer.specs.declared.Refusal.{Refusal}
use Rattle.answer.specs.declared.Refusal.TheVariants.{NotMapped}
use Rattle.entry.specs.declared.paging.PageTableEntry.{PageTableEntry}
use Rattle.std.specs.Prelude.{ℕ, zero, suc, ◌+◌, ◌-◌, ◌*◌, ◌/◌, ◌%◌, ◌^◌, Bool, List, [], ◌∷◌, ltb, get_or}
use Rattle.bits.specs.Bit.{pick, one, bit}

-- the frame that a word's address field names: bits 51 to 12
abbrev pub frame_of : ℕ → ℕ
frame_of e = e / 2 ^ 12 % 2 ^ 40

-- the address in a word
abbrev pub addr_of : ℕ → ℕ
addr_of e = frame_of e * 2 ^ 12

-- 'An entry is the masked address joined with its flag bits': PRESENT 1, WRITABLE 2, USER 4
abbrev pub entry_of : ℕ → Bool → Bool → ℕ
entry_of a w u = addr_of a + (1 + 2 * one w + 4 * one u)

-- the same with HUGE, 128
abbrev pub huge_entry_of : ℕ → Bool → Bool → ℕ
huge_entry_of a w u = addr_of a + (128 + 1 + 2 * one w + 4 * one u)

-- a word with WRITABLE as w, every other bit as it stands
unfoldable pub with_writable : Bool → ℕ → ℕ
with_writable w e = e - 2 * bit 1 e + 2 * one w

-- the index of an address at an entry that has d levels below it: bits 20 to 12 at the last level, 'bits 56–48' at the fifth
abbrev pub index : ℕ → ℕ → ℕ
index d v = v / 2 ^ (12 + 9 * d) % 512

-- the indices of an address on a board of n levels, the top one first: what lies above the top index is ignored, bits 63 to 48 on four levels, 63 to 57 on five
abbrev pub indices : ℕ → ℕ → List ℕ
indices zero v = []
indices (suc n) v = index n v ∷ indices n v

-- 'An index of 512 or more has no entry: 14'
abbrev pub entry_of_table : List ℕ → ℕ → Result PageTableEntry Refusal
entry_of_table table i = pick (ltb i 512) (Ok (record { 0 = get_or table i 0 })) (Err NotMapped)
