-- The one law of rounding: at an alignment of 2 ^ k the source's formulas are division and multiplication, and the rounding of sizes is the case k = 12. Then what rounding
-- up gives, at any k.
use Prim.Native.Nat.{ℕ, suc, ◌+◌, ◌-◌, ◌*◌, ◌/◌, ◌%◌, ◌^◌, ◌≤◌, ◌<◌}
use mathlib.Core.Path.{◌≡◌, refl, sym, ◌∙◌, ap, subst}
use mathlib.Core.Bool.{Bool, true, false}
use native.Mathlib.Nat.{le_of_suc-le-suc, suc-mul, mul-le-mul_right, mul-mod_left, div-add-mod', div-mul-le_self, lt-div-mul-add, div-lt_iff_lt-mul}
use native.Mathlib.Omega.{arith}
use lib.Dec.{leb, lit≤}
use lib.Bits.{bit_and, and_high}
use lib.Pow.{pow_pos, pow_mono, shr_mod, high_ones}
use borrow.Author.Tests.{le-leb, lt-leb, leb-true, leb-false}
use Rattle.std.specs.Prelude.{Ok, Err}
use Rattle.answer.specs.declared.Refusal.TheVariants.{TooLarge}
use Rattle.bits.specs.Bit.{pick}
use Rattle.allocator.specs.Round.{align_down, align_up, round_up, last_page, rounded}

-- a mask of all but the k low bits, in a word of j + k bits
high_mask : (j k x : ℕ) → x < 2 ^ (j + k) → bit_and x (2 ^ (j + k) - 1 - (2 ^ k - 1)) ≡ x / 2 ^ k * 2 ^ k
high_mask j k x h = ap (bit_and x) mask ∙ and_high x j k ∙ ap (λ (n : ℕ). n * 2 ^ k) (shr_mod j k h)
  where
    mask : 2 ^ (j + k) - 1 - (2 ^ k - 1) ≡ 2 ^ (j + k) - 2 ^ k
    mask = omega (arith, pow_pos k)

pub align_down_lem : (k x : ℕ) → k ≤ 63 → x < 2 ^ 64 → align_down x (2 ^ k) ≡ x / 2 ^ k * 2 ^ k
unfolding align_down
align_down_lem k x l h =
    let e : (64 - k) + k ≡ 64 = omega arith in
    subst (λ (n : ℕ). x < 2 ^ n → bit_and x (2 ^ n - 1 - (2 ^ k - 1)) ≡ x / 2 ^ k * 2 ^ k) e (high_mask (64 - k) k x) h

pub align_up_lem : (k x : ℕ) → k ≤ 63 → align_up x (2 ^ k) ≡ pick (leb x (2 ^ 64 - 2 ^ k)) (Ok (round_up k x)) (Err TooLarge)
unfolding align_up
align_up_lem k x l = by-test (leb x (2 ^ 64 - 2 ^ k)) refl
  where
    small : 2 ^ k ≤ 2 ^ 63
    small = pow_mono l

    by-test : (t : Bool) → leb x (2 ^ 64 - 2 ^ k) ≡ t → align_up x (2 ^ k) ≡ pick t (Ok (round_up k x)) (Err TooLarge)
    by-test true e =
        let sum : x + (2 ^ k - 1) ≤ 2 ^ 64 - 1 = omega (arith, leb-true x (2 ^ 64 - 2 ^ k) e, pow_pos k, small) in
        simp (le-leb _ _ sum, align_down_lem k (x + (2 ^ k - 1)) l (omega arith))
    by-test false e =
        let sum : 2 ^ 64 - 1 < x + (2 ^ k - 1) = omega (arith, leb-false x (2 ^ 64 - 2 ^ k) e, pow_pos k, small) in
        simp (lt-leb _ _ sum)

-- the rounding of sizes is the source's, at 4096
pub rounded_align : (x : ℕ) → rounded x ≡ align_up x 4096
unfolding rounded
rounded_align x = sym (align_up_lem 12 x (lit≤ tt))

-- up to the last page a size is rounded, and above it is 3
pub rounded_met : (x : ℕ) → x ≤ last_page → rounded x ≡ Ok (round_up 12 x)
unfolding rounded
rounded_met x h = simp (le-leb _ _ h)

pub rounded_above : (x : ℕ) → last_page < x → rounded x ≡ Err TooLarge
unfolding rounded
rounded_above x h = simp (lt-leb _ _ h)

-- rounding up gives a multiple
pub round_multiple : (k x : ℕ) → round_up k x % 2 ^ k ≡ 0
round_multiple k x = mul-mod_left _ (2 ^ k)

-- that is at least x, so positive where x is
pub round_le : (k x : ℕ) → x ≤ round_up k x
round_le k x = omega (arith, pow_pos k, lt-div-mul-add {a = x + (2 ^ k - 1)} (pow_pos k))

pub round_pos : (k x : ℕ) → 0 < x → 0 < round_up k x
round_pos k x h = omega (arith, round_le k x)

-- and less than one multiple above x
pub round_lt : (k x : ℕ) → round_up k x < x + 2 ^ k
round_lt k x = omega (arith, pow_pos k, div-mul-le_self (x + (2 ^ k - 1)) (2 ^ k))

-- the least multiple: it passes no multiple that x does not pass
pub round_least : (k m x : ℕ) → x ≤ m * 2 ^ k → round_up k x ≤ m * 2 ^ k
round_least k m x h =
    let next : x + (2 ^ k - 1) < suc m * 2 ^ k = rw suc-mul (omega (arith, pow_pos k)) in
    mul-le-mul_right (2 ^ k) (le_of_suc-le-suc ((div-lt_iff_lt-mul (pow_pos k)).1 next))

-- so it stays at or below the last multiple in 64 bits
pub round_last : (k x : ℕ) → k ≤ 63 → x ≤ 2 ^ 64 - 2 ^ k → round_up k x ≤ 2 ^ 64 - 2 ^ k
round_last k x l h =
    let e : (64 - k) + k ≡ 64 = omega arith in
    let last : 2 ^ 64 - 2 ^ k ≡ (2 ^ (64 - k) - 1) * 2 ^ k = ap (λ (n : ℕ). 2 ^ n - 2 ^ k) (sym e) ∙ high_ones (64 - k) k in
    subst (λ (n : ℕ). x ≤ n → round_up k x ≤ n) (sym last) (round_least k (2 ^ (64 - k) - 1) x) h

-- a multiple rounds to itself
pub round_same : (k x : ℕ) → x % 2 ^ k ≡ 0 → round_up k x ≡ x
round_same k x h =
    let e : x / 2 ^ k * 2 ^ k + x % 2 ^ k ≡ x = div-add-mod' x (2 ^ k) in
    omega (arith, round_le k x, round_least k (x / 2 ^ k) x (omega arith))
