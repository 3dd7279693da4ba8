-- Which regions are used: what cutting, freeing and merging change of it. `used_size a l ≡ At n` says that l has a used region of n bytes at a.
use Rattle.std.specs.Prelude.{Ok, Err}
use Rattle.answer.specs.declared.Refusal.TheVariants.{RegionNotFound}
use Rattle.std.proofs.Common.{◌≡◌, ℕ, ◌+◌, ◌-◌, ◌%◌, ◌<◌, ◌≤◌, Bool, true, false, not, eqb, ltb, leb, List, [], ◌∷◌, sym, refl, ap, ◌∙◌, arith, eq-eqb, ne_eqb, eqb-true}
use borrow.Author.Tests.{not-true}
use Rattle.bits.specs.Bit.{pick, both}
use Rattle.bits.proofs.Choice.{both_true, both_false}
use Rattle.regions.specs.declared.VMRegion.{VMRegion}
use Rattle.regions.specs.Regions.{vm_region, fits, first_fit, behind, take_first, used_size, joins, merge_from, merge}
use Rattle.regions.proofs.Merge.{join, joined, freed_all}
use Rattle.regions.proofs.Rows.{Rows, rows_le, fit_from}

-- a free region says nothing
skip : (b : ℕ) (r : VMRegion) (l : List VMRegion) → r.used ≡ false → used_size b (r ∷ l) ≡ used_size b l
unfolding used_size
skip b r l h = rw (h, both_false (eqb r.start b))

-- merging joins free regions alone
used_from : (b : ℕ) (r : VMRegion) (l : List VMRegion) → used_size b (merge_from r l) ≡ used_size b (r ∷ l)
unfolding merge_from used_size
used_from b r [] = refl
used_from b r (s ∷ l) = by (joins r s) refl (used_from b (join r s) l) (used_from b s l)
  where
    by : (x : Bool) → joins r s ≡ x → used_size b (merge_from (join r s) l) ≡ used_size b (join r s ∷ l) → used_size b (merge_from s l) ≡ used_size b (s ∷ l)
        → used_size b (pick x (merge_from (join r s) l) (r ∷ merge_from s l)) ≡ used_size b (r ∷ s ∷ l)
    by true e one two =
        let u = joined r s e in
        one ∙ skip b (join r s) l refl ∙ sym (skip b r (s ∷ l) u.first ∙ skip b s l u.second)
    by false e one two = ap (pick (both (eqb r.start b) r.used) (Ok r.size)) two

pub used_merge : (b : ℕ) (l : List VMRegion) → used_size b (merge l) ≡ used_size b l
unfolding merge
used_merge b [] = refl
used_merge b (r ∷ l) = used_from b r l

-- freeing a
pub used_freed : (a b : ℕ) (l : List VMRegion) → (b ≡ a → ⊥) → used_size b (freed_all a l) ≡ used_size b l
unfolding freed_all used_size
used_freed a b [] d = refl
used_freed a b (r ∷ l) d = by (eqb r.start b) refl r.used (used_freed a b l d)
  where
    by : (x : Bool) → eqb r.start b ≡ x → (y : Bool) → used_size b (freed_all a l) ≡ used_size b l
        → pick (both x (both y (not (eqb r.start a)))) (Ok r.size) (used_size b (freed_all a l)) ≡ pick (both x y) (Ok r.size) (used_size b l)
    by true e true more =
        let n : eqb r.start a ≡ false = ne_eqb r.start a (λ g. d (sym (eqb-true r.start b e) ∙ g)) in
        rw n
    by true e false more = more
    by false e y more = more

pub used_gone : (a : ℕ) (l : List VMRegion) → used_size a (freed_all a l) ≡ Err RegionNotFound
unfolding freed_all used_size
used_gone a [] = refl
used_gone a (r ∷ l) = by (eqb r.start a) r.used (used_gone a l)
  where
    by : (x y : Bool) → used_size a (freed_all a l) ≡ Err RegionNotFound → pick (both x (both y (not x))) (Ok r.size) (used_size a (freed_all a l)) ≡ Err RegionNotFound
    by true true more = more
    by true false more = more
    by false y more = more

-- below its rows a list has no used region
pub used_none : (b lo hi : ℕ) (l : List VMRegion) → b < lo → Rows lo hi l → used_size b l ≡ Err RegionNotFound
unfolding used_size
used_none b lo hi [] k h = refl
used_none b lo hi (r ∷ l) k h =
    let d : eqb r.start b ≡ false = ne_eqb r.start b (λ e. omega (arith, h.0.from)) in
    rw d (used_none b (r.start + r.size) hi l (omega (arith, h.0.from)) h.1)

-- a used region lies in its rows, aligned and not empty
pub record Inside (lo hi b n : ℕ) : Type 0 where
  pub from : lo ≤ b
  pub end : b + n ≤ hi
  pub even : b % 4096 ≡ 0
  pub whole : n % 4096 ≡ 0
  pub some : 0 < n

pub used_inside : (b n lo hi : ℕ) (l : List VMRegion) → Rows lo hi l → used_size b l ≡ Ok n → Inside lo hi b n
unfolding used_size
used_inside b n lo hi [] h e = let z : ◌≡◌ {A = ℕ} 0 1 = cc in absurd (omega arith)
used_inside b n lo hi (r ∷ l) h e = by (both (eqb r.start b) r.used) refl e (used_inside b n (r.start + r.size) hi l h.1)
  where
    by : (x : Bool) → both (eqb r.start b) r.used ≡ x → pick x (Ok r.size) (used_size b l) ≡ Ok n → (used_size b l ≡ Ok n → Inside (r.start + r.size) hi b n) → Inside lo hi b n
    by true f g more =
        let k : r.size ≡ n = cc in
        let s : r.start ≡ b = eqb-true _ _ (both_true (eqb r.start b) r.used f).0 in
        let z = rows_le (r.start + r.size) hi l h.1 in
        record { from = omega (arith, h.0.from); end = omega arith; even = omega (arith, h.0.even); whole = omega (arith, h.0.whole); some = omega (arith, h.0.some) }
    by false f g more =
        let m = more g in
        record { from = omega (arith, m.from, h.0.from); end = m.end; even = m.even; whole = m.whole; some = m.some }

fits_free : (n : ℕ) (r : VMRegion) → fits n r ≡ true → r.used ≡ false
fits_free n r e = not-true r.used (both_true (not r.used) (leb n r.size) e).0

-- the first region large enough was free, and is used after it is cut; the others stay
module _ (n : ℕ) (room : Bool) where
  behind_used : (b : ℕ) (r : VMRegion) (l : List VMRegion) → used_size b (behind n room r l) ≡ used_size b l
  behind_used b r l = by (both room (ltb n r.size))
    where
      by : (x : Bool) → used_size b (pick x (vm_region (r.start + n) (r.size - n) false ∷ l) l) ≡ used_size b l
      by true = skip b (vm_region (r.start + n) (r.size - n) false) l refl
      by false = refl

  pub taken_used : (a lo hi : ℕ) (l : List VMRegion) → Rows lo hi l → first_fit n l ≡ Ok a → used_size a (take_first true n room l) ≡ Ok n
  unfolding first_fit take_first used_size
  taken_used a lo hi [] h e = let z : ◌≡◌ {A = ℕ} 0 1 = cc in absurd (omega arith)
  taken_used a lo hi (r ∷ l) h e = by (fits n r) refl e (taken_used a (r.start + r.size) hi l h.1)
    where
      by : (x : Bool) → fits n r ≡ x → pick x (Ok r.start) (first_fit n l) ≡ Ok a → (first_fit n l ≡ Ok a → used_size a (take_first true n room l) ≡ Ok n)
          → used_size a (pick x (vm_region r.start n true ∷ behind n room r l) (r ∷ take_first true n room l)) ≡ Ok n
      by true f g more = let k : r.start ≡ a = cc in rw (eq-eqb r.start a k)
      by false f g more =
          let d : eqb r.start a ≡ false = ne_eqb r.start a (λ k. omega (arith, fit_from n (r.start + r.size) hi a l h.1 g, h.0.some)) in
          rw d (more g)

  pub taken_was_free : (a lo hi : ℕ) (l : List VMRegion) → Rows lo hi l → first_fit n l ≡ Ok a → used_size a l ≡ Err RegionNotFound
  unfolding first_fit used_size
  taken_was_free a lo hi [] h e = refl
  taken_was_free a lo hi (r ∷ l) h e = by (fits n r) refl e (taken_was_free a (r.start + r.size) hi l h.1)
    where
      by : (x : Bool) → fits n r ≡ x → pick x (Ok r.start) (first_fit n l) ≡ Ok a → (first_fit n l ≡ Ok a → used_size a l ≡ Err RegionNotFound)
          → used_size a (r ∷ l) ≡ Err RegionNotFound
      by true f g more =
          let k : r.start ≡ a = cc in
          skip a r l (fits_free n r f) ∙ used_none a (r.start + r.size) hi l (omega (arith, h.0.some)) h.1
      by false f g more =
          let d : eqb r.start a ≡ false = ne_eqb r.start a (λ k. omega (arith, fit_from n (r.start + r.size) hi a l h.1 g, h.0.some)) in
          rw d (more g)

  pub taken_others : (used : Bool) (a b : ℕ) (l : List VMRegion) → first_fit n l ≡ Ok a → (b ≡ a → ⊥) → used_size b (take_first used n room l) ≡ used_size b l
  unfolding first_fit take_first used_size
  taken_others used a b [] e d = refl
  taken_others used a b (r ∷ l) e d = by (fits n r) refl e (λ g. taken_others used a b l g d)
    where
      by : (x : Bool) → fits n r ≡ x → pick x (Ok r.start) (first_fit n l) ≡ Ok a → (first_fit n l ≡ Ok a → used_size b (take_first used n room l) ≡ used_size b l)
          → used_size b (pick x (vm_region r.start n used ∷ behind n room r l) (r ∷ take_first used n room l)) ≡ used_size b (r ∷ l)
      by true f g more =
          let k : r.start ≡ a = cc in
          let z : eqb r.start b ≡ false = ne_eqb r.start b (λ q. d (sym q ∙ k)) in
          rw z (behind_used b r l)
      by false f g more = ap (pick (both (eqb r.start b) r.used) (Ok r.size)) (more g)

-- where no region is used, all are free
abbrev pub AllFree : List VMRegion → Type 0
AllFree [] = Unit {0}
AllFree (r ∷ l) = (r.used ≡ false) × AllFree l

pub all_free : (l : List VMRegion) → ((b : ℕ) → used_size b l ≡ Err RegionNotFound) → AllFree l
unfolding used_size
all_free [] h = tt
all_free (r ∷ l) h = let u = free r.used refl in (u, all_free l (λ b. sym (skip b r l u) ∙ h b))
  where
    free : (x : Bool) → r.used ≡ x → r.used ≡ false
    free false e = e
    free true e =
        let z : pick (both (eqb r.start r.start) r.used) (Ok r.size) (used_size r.start l) ≡ Err RegionNotFound = h r.start in
        let y : Ok r.size ≡ Err RegionNotFound = rw (eq-eqb r.start r.start refl, e) at z in
        let w : ◌≡◌ {A = ℕ} 0 1 = cc in absurd (omega arith)
