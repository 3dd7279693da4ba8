-- A page fault's error code.
use Rattle.answer.specs.declared.Refusal.{Refusal}
use Rattle.answer.specs.declared.Refusal.TheVariants.{InstructionFetch, ProtectionViolation}
use Rattle.std.specs.Prelude.{ℕ, Bool}
use Rattle.bits.specs.Bit.{pick, flag}

-- 'Error bits 0 to 4: present, write, user, reserved, instruction'
abbrev pub is_present : ℕ → Bool
is_present code = flag 0 code

abbrev pub is_write : ℕ → Bool
is_write code = flag 1 code

abbrev pub is_user : ℕ → Bool
is_user code = flag 2 code

abbrev pub is_reserved : ℕ → Bool
is_reserved code = flag 3 code

abbrev pub is_fetch : ℕ → Bool
is_fetch code = flag 4 code

-- access denied to a page that is present, not for a write: 'fetch 7; else 8'
abbrev pub denied : ℕ → Refusal
denied code = pick (is_fetch code) InstructionFetch ProtectionViolation
