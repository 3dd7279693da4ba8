-- Signed 32-bit numbers by their bits.
use Prim.Native.Nat.{ℕ, suc, ◌-◌, ◌^◌, ◌<◌, ◌≤◌}
use mathlib.Core.Path.{◌≡◌, refl, sym, ◌∙◌, ap}
use mathlib.Core.Bool.{Bool, true, false}
use lib.IntN.{pos, negsuc}
use lib.Signed.{le_z}
use lib.Dec.{ltb}
use native.Mathlib.Omega.{arith}
use borrow.Author.Tests.{le-leb, lt-ltb, ltb-true, ltb-false}
use mir.Val.{to_z, sel}
use mir.Syntax.{w32}

-- bits below 2^31 are no negative number's
pub low_pos : (n : ℕ) → n < 2 ^ 31 → to_z w32 n ≡ pos n
low_pos n h = ap (λ (b : Bool). sel b (pos n) (negsuc (2 ^ 32 - suc n))) (lt-ltb n (2 ^ 31) h)

sign : (n : ℕ) (b : Bool) → ltb n (2 ^ 31) ≡ b → le_z (pos 0) (sel b (pos n) (negsuc (2 ^ 32 - suc n))) ≡ b
sign n true e = le-leb 0 n (omega arith)
sign n false e = refl

pub at_least_zero : (n : ℕ) → le_z (pos 0) (to_z w32 n) ≡ true → n < 2 ^ 31
at_least_zero n h = ltb-true n (2 ^ 31) (sym (sign n (ltb n (2 ^ 31)) refl) ∙ h)

pub below_zero : (n : ℕ) → le_z (pos 0) (to_z w32 n) ≡ false → 2 ^ 31 ≤ n
below_zero n h = ltb-false n (2 ^ 31) (sym (sign n (ltb n (2 ^ 31)) refl) ∙ h)
