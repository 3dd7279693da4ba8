-- Masks and shifts as division and remainder: one law for each form of mask, over its place and width.
use Prim.Native.Nat.{ℕ, zero, suc, ◌+◌, ◌*◌, ◌-◌, ◌%◌, ◌^◌, ◌<◌}
use mathlib.Core.Path.{◌≡◌, ◌∙◌, ap}
use mathlib.Core.Bool.{not}
use native.Mathlib.Nat.{zero-mul, one-mul, mod-eq_of_lt}
use native.Mathlib.Numerals.{one-add}
use native.Mathlib.Omega.{arith}
use lib.Dec.{eqb}
use lib.Bits.{bit_and, and_high}
use lib.Pow.{pow-lt, pow_pos}
use borrow.Author.Tests.{ne_eqb}
use Rattle.bits.specs.Bit.{bit, flag}

-- a mask of one bit
pub mask_bit : (k x : ℕ) → bit_and x (2 ^ k) ≡ bit k x * 2 ^ k
mask_bit k x = ap (bit_and x) one_bit ∙ and_high x 1 k
  where
    one_bit : 2 ^ k ≡ 2 ^ (1 + k) - 2 ^ k
    one_bit = rw one-add (omega arith)

test_bit : (b p : ℕ) → b < 2 → 0 < p → not (eqb (b * p) 0) ≡ eqb b 1
test_bit zero p h q = simp (zero-mul)
test_bit (suc zero) p h q = rw (one-mul, ne_eqb p 0 (λ e. omega arith))
test_bit (suc (suc b)) p h q = absurd (omega arith)

-- a test of one bit, as code writes it
pub flag_mask : (k x : ℕ) → not (eqb (bit_and x (2 ^ k)) 0) ≡ flag k x
flag_mask k x = ap (λ (n : ℕ). not (eqb n 0)) (mask_bit k x) ∙ test_bit (bit k x) (2 ^ k) (omega arith) (pow_pos k)

-- a one that is shifted within a word
pub one_shifted : (k : ℕ) → k < 64 → 1 * 2 ^ k % 2 ^ 64 ≡ 2 ^ k
one_shifted k h = rw one-mul (mod-eq_of_lt (pow-lt h))
