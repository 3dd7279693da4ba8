-- The window book's steps are those of the vmalloc list: taking the free part at the answer is first fit, joining all adjoining free parts is the merge pass.
use Prim.Native.Nat.{ℕ, ◌+◌, ◌-◌}
use mathlib.Core.Path.{◌≡◌, refl, sym, ◌∙◌, ap}
use mathlib.Core.Bool.{Bool, true, false, not}
use mathlib.Core.List.{List, [], ◌∷◌}
use native.Mathlib.Omega.{arith}
use native.Mathlib.Nat.{add_assoc}
use lib.Dec.{eqb, leb, ltb}
use borrow.Author.Tests.{eq-eqb, ne_eqb, eqb-true}
use Rattle.std.specs.Prelude.{Ok}
use Rattle.bits.specs.Bit.{pick, both}
use Rattle.bits.proofs.Choice.{both_true}
use Rattle.regions.specs.declared.VMRegion.{VMRegion}
use Rattle.regions.specs.Regions.{vm_region, fits, first_fit, behind, take_first, free_first, joins, merge_from, merge}
use Rattle.regions.proofs.Merge.{join, left_of_lem, right_of}
use Rattle.regions.proofs.Rows.{Rows, fit_from}
use Rattle.regions.proofs.Tiles.{larger}
use Rattle.release.specs.Demand3.{take_part, free_part, join_onto, join_parts, exceeds}

-- a region that does not fit, before one that does, does not start where that one does
module _ (n a lo hi : ℕ) (r : VMRegion) (l : List VMRegion) (h : Rows lo hi (r ∷ l)) (g : first_fit n l ≡ Ok a) where
  earlier : eqb r.start a ≡ false
  earlier = ne_eqb r.start a (λ e. omega (arith, fit_from n (r.start + r.size) hi a l h.1 g, h.0.some))

  passed : both (not r.used) (eqb r.start a) ≡ false
  passed = rw earlier (by (not r.used))
    where
      by : (x : Bool) → both x false ≡ false
      by true = refl
      by false = refl

pub take_cut : (n a lo hi : ℕ) (room : Bool) (l : List VMRegion) → Rows lo hi l → first_fit n l ≡ Ok a → take_part a n room l ≡ take_first true n room l
unfolding take_part take_first first_fit
take_cut n a lo hi room [] h e = refl
take_cut n a lo hi room (r ∷ l) h e = by (fits n r) refl e (take_cut n a (r.start + r.size) hi room l h.1)
  where
    tail : (x y : Bool) → pick y (pick x (vm_region (r.start + n) (r.size - n) false ∷ l) l) l ≡ pick (both x y) (vm_region (r.start + n) (r.size - n) false ∷ l) l
    tail true true = refl
    tail true false = refl
    tail false true = refl
    tail false false = refl

    by : (x : Bool) → fits n r ≡ x → pick x (Ok r.start) (first_fit n l) ≡ Ok a → (first_fit n l ≡ Ok a → take_part a n room l ≡ take_first true n room l)
        → take_part a n room (r ∷ l) ≡ pick x (vm_region r.start n true ∷ behind n room r l) (r ∷ take_first true n room l)
    by true f g more =
        let k : r.start ≡ a = cc in
        rw ((both_true (not r.used) (leb n r.size) f).0, eq-eqb r.start a k, ← k)
        (ap (λ (xs : List VMRegion). vm_region r.start n true ∷ xs) (tail room (ltb n r.size)))
    by false f g more = rw (passed n a lo hi r l h g) (ap (λ (xs : List VMRegion). r ∷ xs) (more g))

-- the part that is taken exceeds the size where the first fit does
pub exceeds_larger : (n a lo hi : ℕ) (l : List VMRegion) → Rows lo hi l → first_fit n l ≡ Ok a → exceeds a n l ≡ larger n l
unfolding exceeds first_fit
exceeds_larger n a lo hi [] h e = refl
exceeds_larger n a lo hi (r ∷ l) h e = by (fits n r) refl e (exceeds_larger n a (r.start + r.size) hi l h.1)
  where
    by : (x : Bool) → fits n r ≡ x → pick x (Ok r.start) (first_fit n l) ≡ Ok a → (first_fit n l ≡ Ok a → exceeds a n l ≡ larger n l)
        → exceeds a n (r ∷ l) ≡ pick x (ltb n r.size) (larger n l)
    by true f g more =
        let k : r.start ≡ a = cc in
        rw ((both_true (not r.used) (leb n r.size) f).0, eq-eqb r.start a k)
    by false f g more = rw (passed n a lo hi r l h g) (more g)

pub free_part_lem : (a : ℕ) (l : List VMRegion) → free_part a l ≡ free_first a l
unfolding free_part free_first
free_part_lem a [] = refl
free_part_lem a (r ∷ l) = by (eqb r.start a) refl r.used (free_part_lem a l)
  where
    by : (x : Bool) → eqb r.start a ≡ x → (y : Bool) → free_part a l ≡ free_first a l
        → pick (both y x) (vm_region a r.size false ∷ l) (r ∷ free_part a l) ≡ pick (both x y) (vm_region r.start r.size false ∷ l) (r ∷ free_first a l)
    by true e true more = ap (λ (b : ℕ). vm_region b r.size false ∷ l) (sym (eqb-true r.start a e))
    by true e false more = ap (λ (xs : List VMRegion). r ∷ xs) more
    by false e true more = ap (λ (xs : List VMRegion). r ∷ xs) more
    by false e false more = ap (λ (xs : List VMRegion). r ∷ xs) more

-- joining onto what is joined is the pass from the left
onto : (r s : VMRegion) (l : List VMRegion) → join_onto r (merge_from s l) ≡ merge_from r (s ∷ l)
unfolding merge_from
onto r s [] = refl
onto r s (t ∷ l) = by (joins s t) refl (joins r s) refl (onto r (join s t) l)
  where
    by : (x : Bool) → joins s t ≡ x → (y : Bool) → joins r s ≡ y → join_onto r (merge_from (join s t) l) ≡ merge_from r (join s t ∷ l)
        → join_onto r (pick x (merge_from (join s t) l) (s ∷ merge_from t l)) ≡ pick y (merge_from (join r s) (t ∷ l)) (r ∷ merge_from s (t ∷ l))
    by true a true b more = more ∙ rw (left_of_lem r s t a, b, right_of r s t b, a, add_assoc)
    by true a false b more = more ∙ rw (left_of_lem r s t a, b, a)
    by false a true b more = rw (b, right_of r s t b, a)
    by false a false b more = rw (b, a)

pub join_parts_lem : (l : List VMRegion) → join_parts l ≡ merge l
unfolding join_parts merge merge_from
join_parts_lem [] = refl
join_parts_lem (r ∷ []) = refl
join_parts_lem (r ∷ s ∷ l) = ap (join_onto r) (join_parts_lem (s ∷ l)) ∙ onto r s l
