-- Single bits: what adding or taking away one power of two does to a word's bits, words by their bits, and the code's `1 << k` forms.
use Prim.Native.Nat.{ℕ, zero, suc, ◌+◌, ◌*◌, ◌-◌, ◌/◌, ◌%◌, ◌^◌, ◌<◌, ◌≤◌, min}
use mathlib.Core.Path.{◌≡◌, refl, sym, ◌∙◌, ap, subst}
use mathlib.Core.Logic.{◌⊎◌, inl, inr}
use mathlib.Core.Bool.{not}
use native.Mathlib.Omega.{arith}
use native.Mathlib.Decide.{dec_lt, dec_le}
use native.Mathlib.Numerals.{one-add}
use native.Mathlib.Nat.{one-mul, zero-mul, pow-suc, sub-zero, div-eq_of_lt, add-div_right}
use lib.Dec.{eqb}
use lib.Arith.{lt_of_le-ne}
use lib.Bits.{bit_and, bit_or, and_mask, or_disjoint, or_shr, or_mod, or_zero_r, or_lt, and_step, and_zero_l}
use lib.Pow.{shl-shr, shr-shr, pow-add, pow-lt, pow_pos, field, mod-mod-pow}
use Rattle.bits.specs.Bit.{bit, flag}
use Rattle.bits.proofs.Masks.{mask_bit, flag_mask, one_shifted}

-- ---- a bit is 0 or 1

pub bit_small : (k w : ℕ) → bit k w < 2
bit_small k w = omega arith

pub bit_cases : (k w : ℕ) → (bit k w ≡ 0) ⊎ (bit k w ≡ 1)
bit_cases k w = go (bit k w) refl
  where
    go : (b : ℕ) → bit k w ≡ b → (bit k w ≡ 0) ⊎ (bit k w ≡ 1)
    go zero e = inl e
    go (suc zero) e = inr e
    go (suc (suc b)) e = absurd (omega arith)

-- a bit by halving
pub bit_half : (k w : ℕ) → bit (suc k) w ≡ bit k (w / 2)
bit_half k w = ap (λ (n : ℕ). n % 2) (ap (λ (n : ℕ). w / 2 ^ n) (sym (one-add k)) ∙ sym (shr-shr w 1 k))

-- no bit at or above a word's width
pub bit_above : (k w : ℕ) → w < 2 ^ k → bit k w ≡ 0
bit_above k w h = ap (λ (n : ℕ). n % 2) (div-eq_of_lt h)

pub bit_zero : (k : ℕ) → bit k 0 ≡ 0
bit_zero k = bit_above k 0 (pow_pos k)

-- a set bit's power is part of the word
pub pow_le : (k w : ℕ) → bit k w ≡ 1 → 2 ^ k ≤ w
pow_le k w h = go (dec_le (2 ^ k) w)
  where
    go : Dec (2 ^ k ≤ w) → 2 ^ k ≤ w
    go (yes l) = l
    go (no l) = absurd (omega (arith, bit_above k w (omega arith)))

-- cutting a word keeps the bits below the cut
pub bit_mod : (n k w : ℕ) → k < n → bit k (w % 2 ^ n) ≡ bit k w
bit_mod n k w h =
    let c = n - suc k in
    let e : n ≡ (c + 1) + k = omega arith in
    ap (λ (m : ℕ). bit k (w % 2 ^ m)) e ∙ ap (λ (m : ℕ). m % 2) (field w (c + 1) k) ∙ mod-mod-pow (w / 2 ^ k) c 1

-- ---- the bits of a power of two and of a word of ones

pub bit_own : (k : ℕ) → bit k (2 ^ k) ≡ 1
bit_own k = let e : 2 ^ k / 2 ^ k ≡ 1 = subst (λ (n : ℕ). n / 2 ^ k ≡ 1) (one-mul (2 ^ k)) (shl-shr 1 k) in rw e

pub bit_pow_other : (a b : ℕ) → (a ≡ b → ⊥) → bit a (2 ^ b) ≡ 0
bit_pow_other a b d = go (dec_lt a b)
  where
    go : Dec (a < b) → bit a (2 ^ b) ≡ 0
    go (yes h) =
        let c = b - suc a in
        let e : b ≡ suc c + a = omega arith in
        let p : 2 ^ b ≡ 2 ^ suc c * 2 ^ a = ap (λ (n : ℕ). 2 ^ n) e ∙ pow-add 2 (suc c) a in
        let q : 2 ^ b / 2 ^ a ≡ 2 ^ suc c = ap (λ (n : ℕ). n / 2 ^ a) p ∙ shl-shr (2 ^ suc c) a in
        rw q (omega arith)
    go (no h) = bit_above a (2 ^ b) (pow-lt (lt_of_le-ne (omega arith) (λ z. d (sym z))))

-- the complement within n bits
pub bit_not : (n k w : ℕ) → k < n → w < 2 ^ n → bit k ((2 ^ n - 1) - w) ≡ 1 - bit k w
bit_not zero k w h l = absurd (omega arith)
bit_not (suc n) zero w h l = let p : 2 ^ suc n ≡ 2 ^ n * 2 = pow-suc 2 n in omega arith
bit_not (suc n) (suc k) w h l =
    let p : 2 ^ suc n ≡ 2 ^ n * 2 = pow-suc 2 n in
    let q : ((2 ^ suc n - 1) - w) / 2 ≡ (2 ^ n - 1) - w / 2 = omega arith in
    rw (bit_half k ((2 ^ suc n - 1) - w), bit_half k w, q) (bit_not n k (w / 2) (omega arith) (omega arith))

pub bit_ones : (n k : ℕ) → k < n → bit k (2 ^ n - 1) ≡ 1
bit_ones n k h = ap (bit k) (sym (sub-zero (2 ^ n - 1))) ∙ bit_not n k 0 h (pow_pos n) ∙ omega (arith, bit_zero k)

-- a word of n bits is decided by them
pub ext_bit : (n x y : ℕ) → x < 2 ^ n → y < 2 ^ n → ((k : ℕ) → k < n → bit k x ≡ bit k y) → x ≡ y
ext_bit zero x y hx hy h = omega arith
ext_bit (suc n) x y hx hy h =
    let p : 2 ^ suc n ≡ 2 ^ n * 2 = pow-suc 2 n in
    let low : bit 0 x ≡ bit 0 y = h zero (omega arith) in
    let high : x / 2 ≡ y / 2 =
    ext_bit n (x / 2) (y / 2) (omega arith) (omega arith) (λ k l. sym (bit_half k x) ∙ h (suc k) (omega arith) ∙ bit_half k y) in
    omega arith

-- ---- a clear bit set: w + 2 ^ k

pub bit_or_lem : (a x y : ℕ) → bit a (bit_or x y) ≡ bit_or (bit a x) (bit a y)
bit_or_lem a x y = ap (λ (n : ℕ). n % 2) (or_shr x y a) ∙ or_mod (x / 2 ^ a) (y / 2 ^ a) 1

module _ (k w : ℕ) (free : bit k w ≡ 0) where
  pub plus_or : w + 2 ^ k ≡ bit_or w (2 ^ k)
  plus_or = sym (or_disjoint w (2 ^ k) (mask_bit k w ∙ rw free (zero-mul (2 ^ k))))

  pub bit_set : bit k (w + 2 ^ k) ≡ 1
  bit_set = ap (λ (n : ℕ). n % 2) (add-div_right w (pow_pos k)) ∙ omega arith

  pub bit_kept : (a : ℕ) → (a ≡ k → ⊥) → bit a (w + 2 ^ k) ≡ bit a w
  bit_kept a d = ap (bit a) plus_or ∙ bit_or_lem a w (2 ^ k) ∙ rw (bit_pow_other a k d) (or_zero_r (bit a w))

  pub plus_lt : (n : ℕ) → k < n → w < 2 ^ n → w + 2 ^ k < 2 ^ n
  plus_lt n h l = subst (λ (x : ℕ). x < 2 ^ n) (sym plus_or) (or_lt n w (2 ^ k) l (pow-lt h))

-- ---- a set bit cleared: w - 2 ^ k

module _ (k w : ℕ) (there : bit k w ≡ 1) where
  pub minus_plus : (w - 2 ^ k) + 2 ^ k ≡ w
  minus_plus = omega (arith, pow_le k w there)

  pub bit_gone : bit k (w - 2 ^ k) ≡ 0
  bit_gone =
      let e : w / 2 ^ k ≡ (w - 2 ^ k) / 2 ^ k + 1 = ap (λ (n : ℕ). n / 2 ^ k) (sym minus_plus) ∙ add-div_right (w - 2 ^ k) (pow_pos k) in
      omega (arith, e, there)

  pub bit_left : (a : ℕ) → (a ≡ k → ⊥) → bit a (w - 2 ^ k) ≡ bit a w
  bit_left a d = sym (bit_kept k (w - 2 ^ k) bit_gone a d) ∙ ap (bit a) minus_plus

-- ---- the code's forms: `1 << k` is `1 * 2 ^ k % 2 ^ 64`, and `!x` is `2 ^ 64 - 1 - x`

-- `w & (1 << k) != 0`
pub test_one : (k w : ℕ) → k < 64 → not (eqb (bit_and w (1 * 2 ^ k % 2 ^ 64)) 0) ≡ flag k w
test_one k w h = ap (λ (n : ℕ). not (eqb (bit_and w n) 0)) (one_shifted k h) ∙ flag_mask k w

-- `w & ((1 << k) - 1)`, the k lowest bits
pub and_below : (k w : ℕ) → k < 64 → bit_and w (1 * 2 ^ k % 2 ^ 64 - 1) ≡ w % 2 ^ k
and_below k w h = ap (λ (n : ℕ). bit_and w (n - 1)) (one_shifted k h) ∙ and_mask w k

-- `w | (1 << k)` where the bit is clear
pub or_one : (k w : ℕ) → k < 64 → bit k w ≡ 0 → bit_or w (1 * 2 ^ k % 2 ^ 64) ≡ w + 2 ^ k
or_one k w h e = ap (bit_or w) (one_shifted k h) ∙ sym (plus_or k w e)

min_bit : (a b : ℕ) → a < 2 → b < 2 → min a b + min a (1 - b) ≡ a
min_bit a b ha hb = omega arith

-- a word is what a mask keeps and what the mask's complement keeps
pub and_not : (n a b : ℕ) → a < 2 ^ n → b < 2 ^ n → bit_and a b + bit_and a ((2 ^ n - 1) - b) ≡ a
and_not zero a b ha hb = let e : a ≡ 0 = omega arith in simp (e, and_zero_l)
and_not (suc n) a b ha hb =
    let p : 2 ^ suc n ≡ 2 ^ n * 2 = pow-suc 2 n in
    let ih : bit_and (a / 2) (b / 2) + bit_and (a / 2) ((2 ^ n - 1) - b / 2) ≡ a / 2 = and_not n (a / 2) (b / 2) (omega arith) (omega arith) in
    let q : ((2 ^ suc n - 1) - b) / 2 ≡ (2 ^ n - 1) - b / 2 = omega arith in
    let m : ((2 ^ suc n - 1) - b) % 2 ≡ 1 - b % 2 = omega arith in
    rw (and_step a b, and_step a ((2 ^ suc n - 1) - b), q, m) (omega (arith, min_bit (a % 2) (b % 2) (omega arith) (omega arith)))

-- `w & !(1 << k)` where the bit is set
pub and_not_one : (k w : ℕ) → k < 64 → w < 2 ^ 64 → bit k w ≡ 1 → bit_and w ((2 ^ 64 - 1) - 1 * 2 ^ k % 2 ^ 64) ≡ w - 2 ^ k
and_not_one k w h l e =
    let a : bit_and w (2 ^ k) ≡ 2 ^ k = mask_bit k w ∙ rw e (one-mul (2 ^ k)) in
    let s : bit_and w (2 ^ k) + bit_and w ((2 ^ 64 - 1) - 2 ^ k) ≡ w = and_not 64 w (2 ^ k) l (pow-lt h) in
    rw (one_shifted k h) (omega arith)
