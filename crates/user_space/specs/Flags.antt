-- The flags that mmap reads of `prot` and `flags`.
use Rattle.std.specs.Prelude.{ℕ, Bool, ℤ}
use Rattle.std.proofs.Common.{of_z}
use Rattle.std.specs.Int.{w32}
use Rattle.bits.specs.Bit.{flag}

-- bit k of a signed 32-bit number: 'a negative value counts by its two's-complement bits'
abbrev pub signed_flag : ℕ → ℤ → Bool
signed_flag k z = flag k (of_z w32 z)

-- PROT_WRITE is 2
abbrev pub writable : ℤ → Bool
writable prot = signed_flag 1 prot

-- MAP_FIXED is 0x10
abbrev pub fixed : ℤ → Bool
fixed flags = signed_flag 4 flags
