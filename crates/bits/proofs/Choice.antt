-- Choices by a test, case by case.
use Prim.Native.Nat.{ℕ, ◌<◌}
use mathlib.Core.Path.{◌≡◌, refl, ap}
use mathlib.Core.Bool.{Bool, true, false, false≢true}
use lib.Dec.{eqb, lit<}
use Rattle.bits.specs.Bit.{pick, both, one, bit, flag}

-- both ways of a choice, with what its test said
pub pick_cases : {A : Type 0} (P : A → Type 0) (t : Bool) (a b : A) → (t ≡ true → P a) → (t ≡ false → P b) → P (pick t a b)
pick_cases P true a b x y = x refl
pick_cases P false a b x y = y refl

-- two choices between doing and leaving, of things that may be done in either order
pub pick_comm : {A : Type 0} (a b : Bool) (f g : A → A) (x : A) → g (f x) ≡ f (g x)
    → pick b (g (pick a (f x) x)) (pick a (f x) x) ≡ pick a (f (pick b (g x) x)) (pick b (g x) x)
pick_comm true true f g x h = h
pick_comm true false f g x h = refl
pick_comm false true f g x h = refl
pick_comm false false f g x h = refl

pub both_true : (a b : Bool) → both a b ≡ true → (a ≡ true) × (b ≡ true)
both_true true b h = (refl, h)
both_true false b h = absurd (false≢true h)

pub both_false : (b : Bool) → both b false ≡ false
both_false true = refl
both_false false = refl

-- the second test of two matters where the first holds
pub both_same : (t a b : Bool) → (t ≡ true → a ≡ b) → both t a ≡ both t b
both_same true a b h = h refl
both_same false a b h = refl

-- a truth value as a bit
pub one_lt : (t : Bool) → one t < 2
one_lt true = lit< tt
one_lt false = lit< tt

pub flag_is : (k e : ℕ) (t : Bool) → bit k e ≡ one t → flag k e ≡ t
flag_is k e true h = ap (λ (n : ℕ). eqb n 1) h
flag_is k e false h = ap (λ (n : ℕ). eqb n 1) h
