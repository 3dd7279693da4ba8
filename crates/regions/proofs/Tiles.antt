-- Regions without neighbours that join, and regions without gaps: a list of free ones of both kinds is a single region.
use Rattle.std.proofs.Common.{◌≡◌, ℕ, ◌+◌, ◌-◌, ◌<◌, ◌≤◌, Bool, true, false, not, eqb, ltb, leb, List, [], ◌∷◌, refl, ap, subst, add_assoc, arith, ltb-false, eq-eqb, leb-true}
use borrow.Author.Tests.{not-true}
use Rattle.bits.specs.Bit.{pick, both}
use Rattle.bits.proofs.Choice.{both_true}
use Rattle.regions.specs.declared.VMRegion.{VMRegion}
use Rattle.regions.specs.Regions.{vm_region, fits, behind, take_first, joins, merge_from, merge}
use Rattle.regions.proofs.Merge.{join, joined, freed_all}
use Rattle.regions.proofs.Used.{AllFree}

-- no two neighbours join, a first region r before l among them
abbrev pub ApartFrom : VMRegion → List VMRegion → Type 0
ApartFrom r [] = Unit {0}
ApartFrom r (s ∷ l) = (joins r s ≡ false) × ApartFrom s l

abbrev pub Apart : List VMRegion → Type 0
Apart [] = Unit {0}
Apart (r ∷ l) = ApartFrom r l

-- merging leaves no such pair, and changes nothing where there is none
apart_from : (r : VMRegion) (l : List VMRegion) → ApartFrom r l → merge_from r l ≡ r ∷ l
unfolding merge_from
apart_from r [] h = refl
apart_from r (s ∷ l) h = rw h.0 (ap (λ (xs : List VMRegion). r ∷ xs) (apart_from s l h.1))

pub apart_merged : (l : List VMRegion) → Apart l → merge l ≡ l
unfolding merge
apart_merged [] h = refl
apart_merged (r ∷ l) h = apart_from r l h

-- the first region of a merged list: it is free, or the list's own first, and it stands where that one stood
first_like : (q r : VMRegion) (l : List VMRegion) → joins q r ≡ false → Apart (merge_from r l) → Apart (q ∷ merge_from r l)
unfolding merge_from
first_like q r [] d h = (d, tt)
first_like q r (s ∷ l) d h = by (joins r s) refl h (first_like q (join r s) l)
  where
    by : (x : Bool) → joins r s ≡ x → Apart (pick x (merge_from (join r s) l) (r ∷ merge_from s l))
        → (joins q (join r s) ≡ false → Apart (merge_from (join r s) l) → Apart (q ∷ merge_from (join r s) l))
        → Apart (q ∷ pick x (merge_from (join r s) l) (r ∷ merge_from s l))
    by true e k more =
        let u = (joined r s e).first in
        let d' : joins q (join r s) ≡ false = subst (λ (b : Bool). both (not q.used) (both (not b) (eqb (q.start + q.size) r.start)) ≡ false) u d in
        more d' k
    by false e k more = (d, k)

merge_apart : (r : VMRegion) (l : List VMRegion) → Apart (merge_from r l)
unfolding merge_from
merge_apart r [] = tt
merge_apart r (s ∷ l) = by (joins r s) refl (merge_apart (join r s) l) (merge_apart s l)
  where
    by : (x : Bool) → joins r s ≡ x → Apart (merge_from (join r s) l) → Apart (merge_from s l) → Apart (pick x (merge_from (join r s) l) (r ∷ merge_from s l))
    by true e one two = one
    by false e one two = first_like r s l e two

pub apart_merge : (l : List VMRegion) → Apart (merge l)
unfolding merge
apart_merge [] = tt
apart_merge (r ∷ l) = merge_apart r l

used_apart : (r s : VMRegion) → r.used ≡ true → joins r s ≡ false
used_apart r s u = rw u

-- cutting a used region off makes no such pair: a tail's next neighbour adjoined the whole region before
module _ (n : ℕ) (room : Bool) where
  tail_apart : (r : VMRegion) (l : List VMRegion) → r.used ≡ false → n ≤ r.size → ApartFrom r l → ApartFrom (vm_region (r.start + n) (r.size - n) false) l
  tail_apart r [] u k h = tt
  tail_apart r (s ∷ l) u k h =
      let e : r.start + n + (r.size - n) ≡ r.start + r.size = omega arith in
      let d : both (not r.used) (both (not s.used) (eqb (r.start + r.size) s.start)) ≡ false = h.0 in
      let d' : both (not s.used) (eqb (r.start + r.size) s.start) ≡ false = rw u at d in
      (rw e d', h.1)

  behind_apart : (r : VMRegion) (l : List VMRegion) → fits n r ≡ true → ApartFrom r l → ApartFrom (vm_region r.start n true) (behind n room r l)
  behind_apart r l f h = by (both room (ltb n r.size)) refl l h
    where
      u : r.used ≡ false
      u = not-true r.used (both_true (not r.used) (leb n r.size) f).0

      k : n ≤ r.size
      k = leb-true _ _ (both_true (not r.used) (leb n r.size) f).1

      whole : (l : List VMRegion) → ApartFrom r l → ApartFrom (vm_region r.start n true) l
      whole [] h = tt
      whole (s ∷ l) h = (refl, h.1)

      by : (x : Bool) → both room (ltb n r.size) ≡ x → (l : List VMRegion) → ApartFrom r l → ApartFrom (vm_region r.start n true) (pick x (vm_region (r.start + n) (r.size - n) false ∷ l) l)
      by true e l h = (refl, tail_apart r l u k h)
      by false e l h = whole l h

  before_used : (q : VMRegion) (a : ℕ) → joins q (vm_region a n true) ≡ false
  before_used q a = by q.used
    where
      by : (x : Bool) → both (not x) (both false (eqb (q.start + q.size) a)) ≡ false
      by true = refl
      by false = refl

  apart_taken_from : (q : VMRegion) (l : List VMRegion) → ApartFrom q l → ApartFrom q (take_first true n room l)
  unfolding take_first
  apart_taken_from q [] h = tt
  apart_taken_from q (r ∷ l) h = by (fits n r) refl (apart_taken_from r l h.1)
    where
      by : (x : Bool) → fits n r ≡ x → ApartFrom r (take_first true n room l) → ApartFrom q (pick x (vm_region r.start n true ∷ behind n room r l) (r ∷ take_first true n room l))
      by true f more = (before_used q r.start, behind_apart r l f h.1)
      by false f more = (h.0, more)

  pub apart_taken : (l : List VMRegion) → Apart l → Apart (take_first true n room l)
  unfolding take_first
  apart_taken [] h = tt
  apart_taken (r ∷ l) h = by (fits n r) refl
    where
      by : (x : Bool) → fits n r ≡ x → Apart (pick x (vm_region r.start n true ∷ behind n room r l) (r ∷ take_first true n room l))
      by true f = behind_apart r l f h
      by false f = apart_taken_from r l h

-- regions from lo to hi with no gap
abbrev pub Tiled : ℕ → ℕ → List VMRegion → Type 0
Tiled lo hi [] = lo ≡ hi
Tiled lo hi (r ∷ l) = (r.start ≡ lo) × Tiled (lo + r.size) hi l

pub tiled_freed : (a lo hi : ℕ) (l : List VMRegion) → Tiled lo hi l → Tiled lo hi (freed_all a l)
unfolding freed_all
tiled_freed a lo hi [] h = h
tiled_freed a lo hi (r ∷ l) h = (h.0, tiled_freed a (lo + r.size) hi l h.1)

tiled_from : (lo hi : ℕ) (r : VMRegion) (l : List VMRegion) → Tiled lo hi (r ∷ l) → Tiled lo hi (merge_from r l)
unfolding merge_from
tiled_from lo hi r [] h = h
tiled_from lo hi r (s ∷ l) h = by (joins r s) (tiled_from lo hi (join r s) l) (tiled_from (lo + r.size) hi s l h.1)
  where
    by : (x : Bool) → (Tiled lo hi (join r s ∷ l) → Tiled lo hi (merge_from (join r s) l)) → Tiled (lo + r.size) hi (merge_from s l) → Tiled lo hi (pick x (merge_from (join r s) l) (r ∷ merge_from s l))
    by true one two = one (h.0, subst (λ (k : ℕ). Tiled k hi l) (add_assoc lo r.size s.size) h.1.1)
    by false one two = (h.0, two)

pub tiled_merge : (lo hi : ℕ) (l : List VMRegion) → Tiled lo hi l → Tiled lo hi (merge l)
unfolding merge
tiled_merge lo hi [] h = h
tiled_merge lo hi (r ∷ l) h = tiled_from lo hi r l h

-- a cut leaves no gap where the tail is kept, or where there is none
pub tiled_taken : (used : Bool) (n lo hi : ℕ) (l : List VMRegion) → Tiled lo hi l → Tiled lo hi (take_first used n true l)
unfolding take_first
tiled_taken used n lo hi [] h = h
tiled_taken used n lo hi (r ∷ l) h = by (fits n r) refl (tiled_taken used n (lo + r.size) hi l h.1)
  where
    rest : n ≤ r.size → (x : Bool) → ltb n r.size ≡ x → Tiled (lo + n) hi (pick x (vm_region (r.start + n) (r.size - n) false ∷ l) l)
    rest k true e = (ap (λ (a : ℕ). a + n) h.0, subst (λ (a : ℕ). Tiled a hi l) (omega arith) h.1)
    rest k false e = subst (λ (a : ℕ). Tiled a hi l) (omega (arith, ltb-false n r.size e)) h.1

    by : (x : Bool) → fits n r ≡ x → Tiled (lo + r.size) hi (take_first used n true l) → Tiled lo hi (pick x (vm_region r.start n used ∷ behind n true r l) (r ∷ take_first used n true l))
    by true f more = (h.0, rest (leb-true _ _ (both_true (not r.used) (leb n r.size) f).1) (ltb n r.size) refl)
    by false f more = (h.0, more)

-- whether the first region large enough is larger
abbrev pub larger : ℕ → List VMRegion → Bool
larger n [] = false
larger n (r ∷ l) = pick (fits n r) (ltb n r.size) (larger n l)

-- then the tail does not matter
pub taken_exact : (used room : Bool) (n : ℕ) (l : List VMRegion) → larger n l ≡ false → take_first used n room l ≡ take_first used n true l
unfolding take_first
taken_exact used room n [] h = refl
taken_exact used room n (r ∷ l) h = by (fits n r) h (taken_exact used room n l)
  where
    same : (y : Bool) → ltb n r.size ≡ false → pick (both y (ltb n r.size)) (vm_region (r.start + n) (r.size - n) false ∷ l) l ≡ pick (ltb n r.size) (vm_region (r.start + n) (r.size - n) false ∷ l) l
    same true e = refl
    same false e = rw e

    by : (x : Bool) → pick x (ltb n r.size) (larger n l) ≡ false → (larger n l ≡ false → take_first used n room l ≡ take_first used n true l)
        → pick x (vm_region r.start n used ∷ behind n room r l) (r ∷ take_first used n room l) ≡ pick x (vm_region r.start n used ∷ behind n true r l) (r ∷ take_first used n true l)
    by true e more = ap (λ (xs : List VMRegion). vm_region r.start n used ∷ xs) (same room e)
    by false e more = ap (λ (xs : List VMRegion). r ∷ xs) (more e)

-- free regions without a gap come to one
row_one : (lo hi : ℕ) (r : VMRegion) (l : List VMRegion) → r.used ≡ false → AllFree l → Tiled lo hi (r ∷ l) → merge_from r l ≡ vm_region lo (hi - lo) false ∷ []
unfolding merge_from
row_one lo hi r [] u f h =
    let e : r.size ≡ hi - lo = omega (arith, h.1) in
    λ k. record { start = h.0 k; size = e k; used = u k } ∷ []
row_one lo hi r (s ∷ l) u f h =
    let j : joins r s ≡ true = rw (u, f.0, eq-eqb (r.start + r.size) s.start (omega (arith, h.0, h.1.0))) in
    rw j (row_one lo hi (join r s) l refl f.1 (h.0, subst (λ (k : ℕ). Tiled k hi l) (add_assoc lo r.size s.size) h.1.1))

pub one_region_lem : (lo hi : ℕ) (l : List VMRegion) → lo < hi → AllFree l → Tiled lo hi l → merge l ≡ vm_region lo (hi - lo) false ∷ []
unfolding merge
one_region_lem lo hi [] k f h = absurd (omega arith)
one_region_lem lo hi (r ∷ l) k f h = row_one lo hi r l f.0 f.1 h
