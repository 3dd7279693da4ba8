-- What lies ahead of a search at a: the regions that end above it, each with a weight by its place. A region in the way is behind once it is moved past, so that a search ends,
-- and what is ahead pays for its scans.
use Prim.Native.Nat.{ℕ, zero, suc, ◌+◌, ◌-◌, ◌<◌, ◌≤◌}
use mathlib.Core.Path.{◌≡◌, refl, sym, ◌∙◌, ap}
use mathlib.Core.Bool.{Bool, true, false}
use mathlib.Core.List.{List, [], ◌∷◌}
use native.Mathlib.Omega.{arith}
use lib.Dec.{ltb}
use lib.ListN.{length}
use borrow.Author.Tests.{lt-ltb, le-ltb, ltb-true}
use Rattle.std.specs.Prelude.{Option, None, Some}
use Rattle.bits.specs.Bit.{pick}
use Rattle.bits.proofs.Choice.{both_true}
use Rattle.mappings.specs.declared.MappedRegion.{MappedRegion}
use Rattle.free_range.specs.Search.{overlaps, in_the_way, or_past}
use Rattle.free_range.specs.Compared.{compared_in}

-- the region in the way ends above the address
pub way_past : (a n e : ℕ) (l : List MappedRegion) → in_the_way a n l ≡ Some e → a < e
unfolding in_the_way
way_past a n e [] k = let z : ◌≡◌ {A = ℕ} 0 1 = cc in absurd (omega arith)
way_past a n e (r ∷ l) k = by (overlaps a n r) refl k (way_past a n e l)
  where
    by : (x : Bool) → overlaps a n r ≡ x → pick x (Some (r.start + r.size)) (in_the_way a n l) ≡ Some e → (in_the_way a n l ≡ Some e → a < e) → a < e
    by true o g more =
        let z : r.start + r.size ≡ e = cc in
        omega (arith, ltb-true a (r.start + r.size) (both_true (ltb a (r.start + r.size)) (ltb r.start (a + n)) o).0)
    by false o g more = more g

-- it is one of those compared
pub way_compared : (a n e : ℕ) (l : List MappedRegion) → in_the_way a n l ≡ Some e → 0 < compared_in a n l
unfolding in_the_way compared_in
way_compared a n e [] k = let z : ◌≡◌ {A = ℕ} 0 1 = cc in absurd (omega arith)
way_compared a n e (r ∷ l) k = omega arith

-- ---- weights, by w of the place, the first one's being j

module _ (w : ℕ → ℕ) where
  abbrev pub weighed : ℕ → ℕ → List MappedRegion → ℕ
  weighed j a [] = 0
  weighed j a (r ∷ l) = pick (ltb a (r.start + r.size)) (w j) 0 + weighed (suc j) a l

  fewer : (j a b x : ℕ) → a ≤ b → pick (ltb b x) (w j) 0 ≤ pick (ltb a x) (w j) 0
  fewer j a b x h = by (ltb b x) refl
    where
      by : (t : Bool) → ltb b x ≡ t → pick t (w j) 0 ≤ pick (ltb a x) (w j) 0
      by true e = rw (lt-ltb a x (omega (arith, ltb-true b x e))) (omega arith)
      by false e = omega arith

  weighed_fewer : (j a b : ℕ) (l : List MappedRegion) → a ≤ b → weighed j b l ≤ weighed j a l
  weighed_fewer j a b [] h = omega arith
  weighed_fewer j a b (r ∷ l) h = omega (arith, fewer j a b (r.start + r.size) h, weighed_fewer (suc j) a b l h)

  -- past the region in the way its weight is gone: it is the last of those compared
  pub weighed_less : (j a n e : ℕ) (l : List MappedRegion) → in_the_way a n l ≡ Some e → w (j + (compared_in a n l - 1)) + weighed j e l ≤ weighed j a l
  unfolding in_the_way compared_in
  weighed_less j a n e [] k = let z : ◌≡◌ {A = ℕ} 0 1 = cc in absurd (omega arith)
  weighed_less j a n e (r ∷ l) k = by (overlaps a n r) refl k (weighed_less (suc j) a n e l)
    where
      by : (x : Bool) → overlaps a n r ≡ x → pick x (Some (r.start + r.size)) (in_the_way a n l) ≡ Some e
          → (in_the_way a n l ≡ Some e → w (suc j + (compared_in a n l - 1)) + weighed (suc j) e l ≤ weighed (suc j) a l)
          → w (j + (suc (pick x 0 (compared_in a n l)) - 1)) + (pick (ltb e (r.start + r.size)) (w j) 0 + weighed (suc j) e l)
          ≤ pick (ltb a (r.start + r.size)) (w j) 0 + weighed (suc j) a l
      by true o g more =
          let z : r.start + r.size ≡ e = cc in
          let lt : ltb a (r.start + r.size) ≡ true = (both_true (ltb a (r.start + r.size)) (ltb r.start (a + n)) o).0 in
          let past : ltb e (r.start + r.size) ≡ false = le-ltb e (r.start + r.size) (omega arith) in
          let place : w (j + (1 - 1)) ≡ w j = ap w (omega arith) in
          rw (lt, past) (omega (arith, place, weighed_fewer (suc j) a e l (omega (arith, ltb-true a (r.start + r.size) lt))))
      by false o g more =
          let place : w (j + (suc (compared_in a n l) - 1)) ≡ w (suc j + (compared_in a n l - 1)) = ap w (omega (arith, way_compared a n e l g)) in
          omega (arith, place, fewer j a e (r.start + r.size) (omega (arith, way_past a n e l g)), more g)

-- ---- how many there are

abbrev pub ahead : ℕ → List MappedRegion → ℕ
ahead a l = weighed (λ _. 1) 0 a l

ahead_few_from : (j a : ℕ) (l : List MappedRegion) → weighed (λ _. 1) j a l ≤ length l
ahead_few_from j a [] = omega arith
ahead_few_from j a (r ∷ l) = by (ltb a (r.start + r.size)) (ahead_few_from (suc j) a l)
  where
    by : (x : Bool) → weighed (λ _. 1) (suc j) a l ≤ length l → pick x 1 0 + weighed (λ _. 1) (suc j) a l ≤ suc (length l)
    by true h = omega arith
    by false h = omega arith

pub ahead_few : (a : ℕ) (l : List MappedRegion) → ahead a l ≤ length l
ahead_few a l = ahead_few_from 0 a l

pub ahead_less : (a n e : ℕ) (l : List MappedRegion) → in_the_way a n l ≡ Some e → ahead e l < ahead a l
ahead_less a n e l k = omega (arith, weighed_less (λ _. 1) 0 a n e l k)

-- ---- more scans than are needed change nothing: of what F gathers in k scans from a on, by `step` from what the first ends with, or from what the others gather

module _ {A : Type 0} (l : List MappedRegion) (n : ℕ) (F : ℕ → ℕ → A) (here : ℕ → A) (step : ℕ → A → A)
    (goes : (k a : ℕ) → F (suc k) a ≡ step a (or_past (in_the_way a n l) (here a) (F k))) where
  pub scans : (k j a : ℕ) → ahead a l < k → ahead a l < j → F k a ≡ F j a
  scans zero j a h i = absurd (omega arith)
  scans (suc k) zero a h i = absurd (omega arith)
  scans (suc k) (suc j) a h i = goes k a ∙ ap (step a) (by (in_the_way a n l) refl (λ c. scans k j c)) ∙ sym (goes j a)
    where
      by : (w : Option ℕ) → in_the_way a n l ≡ w → ((c : ℕ) → ahead c l < k → ahead c l < j → F k c ≡ F j c) → or_past w (here a) (F k) ≡ or_past w (here a) (F j)
      by None e more = refl
      by (Some c) e more = let s = ahead_less a n c l e in more c (omega arith) (omega arith)
