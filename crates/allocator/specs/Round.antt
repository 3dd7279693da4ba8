-- Rounding. `align_down` and `align_up` are the source's formulas at any alignment; `rounded` is document 01's rounding of sizes, by arithmetic. `proofs/Round.antt` has
-- the one law that joins them.
use Rattle.std.specs.Prelude.{Ok, Err, Result}
use Rattle.answer.specs.declared.Refusal.{Refusal}
use Rattle.answer.specs.declared.Refusal.TheVariants.{TooLarge}
use Rattle.std.specs.Prelude.{ℕ, ◌+◌, ◌-◌, ◌*◌, ◌/◌, ◌^◌, leb}
use Rattle.std.specs.Int.Bits.{bit_and}
use Rattle.bits.specs.Bit.{pick}

-- the source's `addr & !(align - 1)`; an alignment of 0 counts as 1
unfoldable pub align_down : ℕ → ℕ → ℕ
align_down x a = bit_and x (2 ^ 64 - 1 - (a - 1))

-- the source's `(addr + align - 1) & !(align - 1)` with the exact sum; 3 where that passes 64 bits
unfoldable pub align_up : ℕ → ℕ → Result ℕ Refusal
align_up x a = pick (leb (x + (a - 1)) (2 ^ 64 - 1)) (Ok (align_down (x + (a - 1)) a)) (Err TooLarge)

-- x rounded up to a multiple of 2 ^ k
abbrev pub round_up : ℕ → ℕ → ℕ
round_up k x = (x + (2 ^ k - 1)) / 2 ^ k * 2 ^ k

-- the last page's address, 2^64 − 4096
abbrev pub last_page : ℕ
last_page = 2 ^ 64 - 2 ^ 12

-- 'Up to a page: 1 gives 4096, 4097 gives 8192. Above 2^64−4096 it is 3.'
unfoldable pub rounded : ℕ → Result ℕ Refusal
rounded x = pick (leb x last_page) (Ok (round_up 12 x)) (Err TooLarge)
