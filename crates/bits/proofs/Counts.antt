-- The counts `count_ones` and `trailing_zeros` of a word, told by its single bits.
use Prim.Native.Nat.{ℕ, zero, suc, ◌+◌, ◌-◌, ◌/◌, ◌%◌, ◌^◌, ◌<◌}
use mathlib.Core.Path.{◌≡◌, refl, sym, ◌∙◌, ap}
use native.Mathlib.Omega.{arith}
use native.Mathlib.Numerals.{one-add}
use native.Mathlib.Nat.{mod-lt, add_comm}
use lib.Pow.{pow_pos, mod-pow-add}
use lib.Count.{ones, ones_in, ones_cat, count_trailing_zeros, trailing_le, under}
use Rattle.bits.specs.Bit.{bit}
use Rattle.bits.proofs.Single.{bit_half, bit_not}

ones_small : (b : ℕ) → b < 2 → ones b ≡ b
unfolding ones ones_in
ones_small zero h = refl
ones_small (suc zero) h = refl
ones_small (suc (suc b)) h = absurd (omega arith)

-- one more bit counted
pub ones_next : (n w : ℕ) → ones (w % 2 ^ suc n) ≡ ones (w % 2 ^ n) + bit n w
ones_next n w =
    ap (λ (m : ℕ). ones (w % 2 ^ m)) (sym (one-add n)) ∙ ap ones (mod-pow-add w 1 n)
    ∙ ones_cat n (bit n w) (w % 2 ^ n) (mod-lt w (pow_pos n))
    ∙ ap (λ (m : ℕ). m + ones (w % 2 ^ n)) (ones_small (bit n w) (omega arith))
    ∙ add_comm (bit n w) (ones (w % 2 ^ n))

-- the bits below the count of trailing zeros are clear
pub trailing_below : (n x i : ℕ) → i < count_trailing_zeros n x → bit i x ≡ 0
unfolding count_trailing_zeros
trailing_below zero x i h = absurd (omega arith)
trailing_below (suc n) x i h = go (x % 2) refl (trailing_below n (x / 2)) i h
  where
    go : (d : ℕ) → x % 2 ≡ d → ((j : ℕ) → j < count_trailing_zeros n (x / 2) → bit j (x / 2) ≡ 0)
        → (j : ℕ) → j < under d (count_trailing_zeros n (x / 2)) → bit j x ≡ 0
    go zero e r zero l = omega arith
    go zero e r (suc j) l = bit_half j x ∙ r j (omega arith)
    go (suc d) e r j l = absurd (omega arith)

-- and the bit at it is set
pub trailing_at : (n x : ℕ) → count_trailing_zeros n x < n → bit (count_trailing_zeros n x) x ≡ 1
unfolding count_trailing_zeros
trailing_at zero x h = absurd (omega arith)
trailing_at (suc n) x h = go (x % 2) refl (trailing_at n (x / 2)) h
  where
    go : (d : ℕ) → x % 2 ≡ d → (count_trailing_zeros n (x / 2) < n → bit (count_trailing_zeros n (x / 2)) (x / 2) ≡ 1)
        → under d (count_trailing_zeros n (x / 2)) < suc n → bit (under d (count_trailing_zeros n (x / 2))) x ≡ 1
    go zero e r l = bit_half (count_trailing_zeros n (x / 2)) x ∙ r (omega arith)
    go (suc d) e r l = omega arith

-- The run of ones at the low end of a word of n bits, which is the trailing zeros of its complement: it is all ones, and ends at a zero.
module _ (n w : ℕ) (small : w < 2 ^ n) where
  pub run_below : (i : ℕ) → i < count_trailing_zeros n ((2 ^ n - 1) - w) → bit i w ≡ 1
  run_below i h =
      omega (arith, trailing_below n ((2 ^ n - 1) - w) i h, bit_not n i w (omega (arith, trailing_le n ((2 ^ n - 1) - w))) small)

  pub run_end : count_trailing_zeros n ((2 ^ n - 1) - w) < n → bit (count_trailing_zeros n ((2 ^ n - 1) - w)) w ≡ 0
  run_end h = omega (arith, trailing_at n ((2 ^ n - 1) - w) h, bit_not n (count_trailing_zeros n ((2 ^ n - 1) - w)) w h small)
