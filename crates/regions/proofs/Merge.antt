-- The merge pass: merging what is merged, freeing in a merged list, and freeing in any order. No law here needs an order of the regions or an invariant.
use Rattle.std.proofs.Common.{◌≡◌, ℕ, ◌+◌, Bool, true, false, not, eqb, List, [], ◌∷◌, map, sym, refl, ap, ◌∙◌, ap₂, add_assoc, arith, eqb-true}
use borrow.Author.Tests.{not-true}
use Rattle.bits.specs.Bit.{pick, both}
use Rattle.bits.proofs.Choice.{both_true}
use Rattle.regions.specs.declared.VMRegion.{VMRegion}
use Rattle.regions.specs.Regions.{vm_region, joins, merge_from, merge}

-- two regions joined into one
abbrev pub join : VMRegion → VMRegion → VMRegion
join r s = vm_region r.start (r.size + s.size) false

-- what it says that two regions join
pub record Joined (r s : VMRegion) : Type 0 where
  pub first : r.used ≡ false
  pub second : s.used ≡ false
  pub meet : r.start + r.size ≡ s.start

pub joined : (r s : VMRegion) → joins r s ≡ true → Joined r s
joined r s h =
    let a = both_true (not r.used) _ h in
    let b = both_true (not s.used) _ a.1 in
    record { first = not-true r.used a.0; second = not-true s.used b.0; meet = eqb-true _ _ b.1 }

-- a joined region adjoins what its last adjoins, and is adjoined where its first is
pub left_of_lem : (r s t : VMRegion) → joins s t ≡ true → joins r (join s t) ≡ joins r s
left_of_lem r s t h = let u = (joined s t h).first in rw u

pub right_of : (r s t : VMRegion) → joins r s ≡ true → joins (join r s) t ≡ joins s t
right_of r s t h =
    let u = joined r s h in
    let e : r.start + (r.size + s.size) ≡ s.start + s.size = omega (arith, u.meet) in
    let v = u.second in
    rw (v, e)

-- merging what is merged
pub again : (r s : VMRegion) (l : List VMRegion) → merge_from r (merge_from s l) ≡ merge_from r (s ∷ l)
unfolding merge_from
again r s [] = refl
again r s (t ∷ l) = go (joins s t) refl (joins r s) refl (again r (join s t) l) (again (join r s) t l) (again s t l)
  where
    go : (x : Bool) → joins s t ≡ x → (y : Bool) → joins r s ≡ y
        → merge_from r (merge_from (join s t) l) ≡ merge_from r (join s t ∷ l) → merge_from (join r s) (merge_from t l) ≡ merge_from (join r s) (t ∷ l)
        → merge_from s (merge_from t l) ≡ merge_from s (t ∷ l)
        → merge_from r (pick x (merge_from (join s t) l) (s ∷ merge_from t l)) ≡ pick y (merge_from (join r s) (t ∷ l)) (r ∷ merge_from s (t ∷ l))
    go true a true b p q o = p ∙ rw (left_of_lem r s t a, b, right_of r s t b, a, add_assoc)
    go true a false b p q o = p ∙ rw (left_of_lem r s t a, b, a)
    go false a true b p q o = rw b q
    go false a false b p q o = rw (b, o)

pub again_all : (r : VMRegion) (l : List VMRegion) → merge_from r (merge l) ≡ merge_from r l
unfolding merge merge_from
again_all r [] = refl
again_all r (s ∷ l) = again r s l

pub merge_from_again : (r : VMRegion) (l : List VMRegion) → merge (merge_from r l) ≡ merge_from r l
unfolding merge merge_from
merge_from_again r [] = refl
merge_from_again r (s ∷ l) = go (joins r s) refl (merge_from_again (join r s) l) (again r s l)
  where
    go : (x : Bool) → joins r s ≡ x → merge (merge_from (join r s) l) ≡ merge_from (join r s) l → merge_from r (merge_from s l) ≡ merge_from r (s ∷ l)
        → merge (pick x (merge_from (join r s) l) (r ∷ merge_from s l)) ≡ pick x (merge_from (join r s) l) (r ∷ merge_from s l)
    go true h p q = p
    go false h p q = q ∙ rw h

pub merge_again : (l : List VMRegion) → merge (merge l) ≡ merge l
unfolding merge
merge_again [] = refl
merge_again (r ∷ l) = merge_from_again r l

-- a region with those that start at a freed
abbrev pub freed : ℕ → VMRegion → VMRegion
freed a r = vm_region r.start r.size (both r.used (not (eqb r.start a)))

unfoldable pub freed_all : ℕ → List VMRegion → List VMRegion
freed_all a l = map (freed a) l

-- a free region is not changed
freed_kept : (a : ℕ) (r : VMRegion) → r.used ≡ false → freed a r ≡ r
freed_kept a r h = rw h

-- freeing in a merged list
pub free_merged : (a : ℕ) (r : VMRegion) (l : List VMRegion) → merge (freed_all a (merge_from r l)) ≡ merge_from (freed a r) (freed_all a l)
unfolding merge merge_from freed_all
free_merged a r [] = refl
free_merged a r (s ∷ l) = go (joins r s) refl (free_merged a (join r s) l) (free_merged a s l)
  where
    go : (x : Bool) → joins r s ≡ x → merge (freed_all a (merge_from (join r s) l)) ≡ merge_from (freed a (join r s)) (freed_all a l)
        → merge (freed_all a (merge_from s l)) ≡ merge_from (freed a s) (freed_all a l)
        → merge (freed_all a (pick x (merge_from (join r s) l) (r ∷ merge_from s l))) ≡ merge_from (freed a r) (freed a s ∷ freed_all a l)
    go true h p q =
        let u = joined r s h in
        let j : joins (freed a r) (freed a s) ≡ true = ap₂ joins (freed_kept a r u.first) (freed_kept a s u.second) ∙ h in
        p ∙ rw j
    go false h p q = sym (again_all (freed a r) (freed_all a (merge_from s l))) ∙ ap (merge_from (freed a r)) q ∙ again (freed a r) (freed a s) (freed_all a l)

pub free_then : (a : ℕ) (l : List VMRegion) → merge (freed_all a (merge l)) ≡ merge (freed_all a l)
unfolding merge freed_all
free_then a [] = refl
free_then a (r ∷ l) = free_merged a r l

-- two regions are freed in either order
pub freed_comm : (a b : ℕ) (l : List VMRegion) → freed_all a (freed_all b l) ≡ freed_all b (freed_all a l)
unfolding freed_all
freed_comm a b [] = refl
freed_comm a b (r ∷ l) =
    ap₂ (λ (x : Bool) (xs : List VMRegion). vm_region r.start r.size x ∷ xs) (three r.used (not (eqb r.start b)) (not (eqb r.start a))) (freed_comm a b l)
  where
    three : (x y z : Bool) → both (both x y) z ≡ both (both x z) y
    three false y z = refl
    three true true true = refl
    three true true false = refl
    three true false true = refl
    three true false false = refl

pub free_comm : (a b : ℕ) (l : List VMRegion) → merge (freed_all a (merge (freed_all b l))) ≡ merge (freed_all b (merge (freed_all a l)))
free_comm a b l = free_then a (freed_all b l) ∙ ap merge (freed_comm a b l) ∙ sym (free_then b (freed_all a l))
