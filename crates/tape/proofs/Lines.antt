-- The text of lines: what puts after one another leave, and the digits of a number.
use Prim.Native.Nat.{ℕ, zero, suc, ◌-◌, ◌*◌, ◌/◌, ◌%◌, ◌^◌, ◌≤◌, ◌<◌}
use mathlib.Core.Path.{◌≡◌, refl, sym, ◌∙◌, ap, subst}
use mathlib.Core.Bool.{Bool}
use mathlib.Core.List.{List, [], ◌∷◌, ◌++◌, append_assoc}
use native.Mathlib.Nat.{pow-suc, pow-le-pow_right}
use native.Mathlib.Decide.{dec_le}
use native.Mathlib.Omega.{arith}
use borrow.Author.Tests.{lt-ltb, le-ltb}
use Rattle.bits.specs.Bit.{pick}
use Rattle.io.specs.Digits.{hex_digit_ascii, last_digits, IsDigitCount}
use Rattle.tape.specs.Text.{decimal_of}

-- a text, a space and a text behind x
pub spaced : (x a b : List ℕ) {p q r : List ℕ} → p ≡ x ++ a → q ≡ p ++ (32 ∷ []) → r ≡ q ++ b → r ≡ x ++ (a ++ (32 ∷ b))
spaced x a b e f g = g ∙ ap (λ (l : List ℕ). l ++ b) (f ∙ ap (λ (l : List ℕ). l ++ (32 ∷ [])) e) ∙ simp append_assoc refl

-- .. and the line's end
pub ended : (x a b : List ℕ) {r s : List ℕ} → r ≡ x ++ (a ++ (32 ∷ b)) → s ≡ r ++ (10 ∷ []) → s ≡ x ++ (a ++ (32 ∷ b ++ (10 ∷ [])))
ended x a b e f = f ∙ ap (λ (l : List ℕ). l ++ (10 ∷ [])) e ∙ simp append_assoc refl

-- a third text behind two
pub further : (x a b d : List ℕ) {r s t : List ℕ} → r ≡ x ++ (a ++ (32 ∷ b)) → s ≡ r ++ (32 ∷ []) → t ≡ s ++ d → t ≡ x ++ (a ++ (32 ∷ (b ++ (32 ∷ d))))
further x a b d e f g = g ∙ ap (λ (l : List ℕ). l ++ d) (f ∙ ap (λ (l : List ℕ). l ++ (32 ∷ [])) e) ∙ simp append_assoc refl

pub same : (x a b d : List ℕ) → x ++ (a ++ (32 ∷ (b ++ (32 ∷ d)) ++ (10 ∷ []))) ≡ x ++ (a ++ (32 ∷ b ++ (32 ∷ d ++ (10 ∷ []))))
same x a b d = simp append_assoc refl

-- a number below b ^ k takes at most k digits
pub fewest_most : (b least n r k : ℕ) → 0 < b → least ≤ k → n < b ^ k → IsDigitCount b least n r → r ≤ k
fewest_most b least n r k p l h f = by (dec_le r k)
  where
    by : Dec (r ≤ k) → r ≤ k
    by (yes e) = e
    by (no e) =
        let more : k ≤ r - 1 = omega arith in
        let large : b ^ k ≤ b ^ (r - 1) = pow-le-pow_right p more in
        absurd (omega (arith, f.2 (omega arith), large))

tens : (r : ℕ) → 10 ^ suc r ≡ 10 ^ r * 10
tens r = pow-suc 10 r

positive : (r : ℕ) → 0 < 10 ^ r
positive zero = omega arith
positive (suc r) = omega (arith, tens r, positive r)

-- the digits but the last hold a tenth
fewer : (r n : ℕ) → IsDigitCount 10 1 n (suc (suc r)) → IsDigitCount 10 1 (n / 10) (suc r)
fewer r n f =
    let low = f.2 (omega arith) in
    let e : suc (suc r) - 1 ≡ suc r = omega arith in
    let d : suc r - 1 ≡ r = omega arith in
    let g : 10 ^ suc r ≤ n = subst (λ (k : ℕ). 10 ^ k ≤ n) e low in
    (omega arith, omega (arith, f.1, tens (suc r)), λ _. subst (λ (k : ℕ). 10 ^ k ≤ n / 10) (sym d) (omega (arith, tens r)))

-- the fewest digits that hold a number are its decimal digits
pub digits_decimal : (r k n : ℕ) → r ≤ k → IsDigitCount 10 1 n r → last_digits 10 r n ≡ decimal_of k n
digits_decimal zero k n h f = absurd (omega (arith, f.0))
digits_decimal (suc zero) zero n h f = absurd (omega arith)
digits_decimal (suc zero) (suc k) n h f =
    let small : n < 10 = f.1 in
    let e : n % 10 ≡ n = omega arith in
    ap (λ (d : ℕ). hex_digit_ascii d ∷ []) e ∙ sym (ap (λ (b : Bool). pick b (hex_digit_ascii n ∷ []) (decimal_of k (n / 10) ++ (hex_digit_ascii (n % 10) ∷ []))) (lt-ltb n 10 small))
digits_decimal (suc (suc r)) zero n h f = absurd (omega arith)
digits_decimal (suc (suc r)) (suc k) n h f =
    let e : suc (suc r) - 1 ≡ suc r = omega arith in
    let g : 10 ^ suc r ≤ n = subst (λ (i : ℕ). 10 ^ i ≤ n) e (f.2 (omega arith)) in
    let large : 10 ≤ n = omega (arith, tens r, positive r) in
    ap (λ (l : List ℕ). l ++ (hex_digit_ascii (n % 10) ∷ [])) (digits_decimal (suc r) k (n / 10) (omega arith) (fewer r n f))
    ∙ sym (ap (λ (b : Bool). pick b (hex_digit_ascii n ∷ []) (decimal_of k (n / 10) ++ (hex_digit_ascii (n % 10) ∷ []))) (le-ltb n 10 large))
