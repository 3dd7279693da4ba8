-- The different runs of a list: the list's members, each once.
use Prim.Native.Nat.{ℕ}
use mathlib.Core.Path.{◌≡◌, refl, sym, ◌∙◌, ap₂, subst}
use mathlib.Core.Bool.{Bool, true, false, true≢false, false≢true}
use mathlib.Core.Logic.{◌⊎◌, inl, inr, ⊎_elim}
use mathlib.Core.List.Memᴰ
use mathlib.Core.List.{List, [], ◌∷◌, Memᴰ}
use lib.Dec.{eqb}
use borrow.Author.Tests.{eq-eqb, eqb-true}
use Rattle.bits.specs.Bit.{pick}
use Rattle.bits.proofs.Choice.{both_true}
use Rattle.release.specs.Demand3.{same_run, among, different}
use Rattle.release.proofs.Lists.{Once}

-- two runs are the same where they are equal
pub same_refl : (p : List ℕ) → same_run p p ≡ true
unfolding same_run
same_refl [] = refl
same_refl (i ∷ p) = rw (eq-eqb i i refl, same_refl p)

pub same_run_lem : (p q : List ℕ) → same_run p q ≡ true → p ≡ q
unfolding same_run
same_run_lem [] [] h = refl
same_run_lem [] (j ∷ q) h = absurd (false≢true h)
same_run_lem (i ∷ p) [] h = absurd (false≢true h)
same_run_lem (i ∷ p) (j ∷ q) h =
    let b = both_true (eqb i j) (same_run p q) h in
    ap₂ (λ (x : ℕ) (xs : List ℕ). x ∷ xs) (eqb-true i j b.0) (same_run_lem p q b.1)

-- a run is among others where it is a member
pub among_member : (p : List ℕ) (l : List (List ℕ)) → among p l ≡ true → Memᴰ p l
unfolding among
among_member p [] h = absurd (false≢true h)
among_member p (q ∷ l) h = by (same_run p q) refl h (among_member p l)
  where
    by : (x : Bool) → same_run p q ≡ x → pick x true (among p l) ≡ true → (among p l ≡ true → Memᴰ p l) → Memᴰ p (q ∷ l)
    by true e g more = Memᴰ.head (same_run_lem p q e)
    by false e g more = Memᴰ.tail (more g)

pub member_among : (p : List ℕ) (l : List (List ℕ)) → Memᴰ p l → among p l ≡ true
unfolding among
member_among p [] h = absurd (Memᴰ.not-nil h)
member_among p (q ∷ l) h = ⊎_elim (λ e. rw (← e, same_refl p)) (λ m. by (same_run p q) (member_among p l m)) (Memᴰ.cases_cons h)
  where
    by : (x : Bool) → among p l ≡ true → pick x true (among p l) ≡ true
    by true g = refl
    by false g = g

pub different_from : (p : List ℕ) (l : List (List ℕ)) → Memᴰ p (different l) → Memᴰ p l
unfolding different
different_from p [] h = h
different_from p (q ∷ l) h = by (among q l) h (different_from p l)
  where
    by : (x : Bool) → Memᴰ p (pick x (different l) (q ∷ different l)) → (Memᴰ p (different l) → Memᴰ p l) → Memᴰ p (q ∷ l)
    by true h more = Memᴰ.tail (more h)
    by false h more = ⊎_elim (λ e. Memᴰ.head e) (λ m. Memᴰ.tail (more m)) (Memᴰ.cases_cons h)

pub different_all : (p : List ℕ) (l : List (List ℕ)) → Memᴰ p l → Memᴰ p (different l)
unfolding different
different_all p [] h = h
different_all p (q ∷ l) h = by (among q l) refl (different_all p l) (Memᴰ.cases_cons h)
  where
    by : (x : Bool) → among q l ≡ x → (Memᴰ p l → Memᴰ p (different l)) → (p ≡ q) ⊎ Memᴰ p l → Memᴰ p (pick x (different l) (q ∷ different l))
    by true e more (inl g) = more (subst (λ (r : List ℕ). Memᴰ r l) (sym g) (among_member q l e))
    by true e more (inr m) = more m
    by false e more (inl g) = Memᴰ.head g
    by false e more (inr m) = Memᴰ.tail (more m)

pub different_once : (l : List (List ℕ)) → Once (different l)
unfolding different
different_once [] = tt
different_once (q ∷ l) = by (among q l) refl (different_once l)
  where
    by : (x : Bool) → among q l ≡ x → Once (different l) → Once (pick x (different l) (q ∷ different l))
    by true e more = more
    by false e more = ((λ m. true≢false (sym (member_among q l (different_from q l m)) ∙ e)), more)
