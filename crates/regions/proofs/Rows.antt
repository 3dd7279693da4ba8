-- Regions in the order of their addresses: what cutting, freeing and merging keep of it.
use Rattle.std.specs.Prelude.{Ok}
use Rattle.std.proofs.Common.{◌≡◌, ℕ, suc, ◌+◌, ◌-◌, ◌%◌, ◌<◌, ◌≤◌, Bool, true, false, not, eqb, ltb, leb, List, [], ◌∷◌, length, sym, refl, ap, ap₂, le_trans, le_refl, arith, ltb-true, lt-ltb, eq-eqb, ne_eqb, eqb-true, le-leb, leb-true}
use Rattle.bits.specs.Bit.{pick, both, one}
use Rattle.bits.proofs.Choice.{both_true}
use Rattle.allocator.specs.Round.{last_page}
use Rattle.slots.specs.Slots.{every}
use Rattle.regions.specs.declared.VMRegion.{VMRegion}
use Rattle.regions.specs.Regions.{vm_region, well_placed_vm, fits, first_fit, behind, take_first, taken, free_first, joins, merge_from, merge}
use Rattle.regions.proofs.Merge.{join, joined, freed_all}

-- a region from lo on, aligned and not empty
pub record Row (lo : ℕ) (r : VMRegion) : Type 0 where
  pub from : lo ≤ r.start
  pub even : r.start % 4096 ≡ 0
  pub whole : r.size % 4096 ≡ 0
  pub some : 0 < r.size

-- regions in the order of their addresses from lo to hi; there may be gaps
abbrev pub Rows : ℕ → ℕ → List VMRegion → Type 0
Rows lo hi [] = lo ≤ hi
Rows lo hi (r ∷ l) = Row lo r × Rows (r.start + r.size) hi l

pub rows_le : (lo hi : ℕ) (l : List VMRegion) → Rows lo hi l → lo ≤ hi
rows_le lo hi [] h = h
rows_le lo hi (r ∷ l) h = omega (arith, h.0.from, rows_le (r.start + r.size) hi l h.1)

pub rows_earlier : (k lo hi : ℕ) (l : List VMRegion) → k ≤ lo → Rows lo hi l → Rows k hi l
rows_earlier k lo hi [] e h = le_trans e h
rows_earlier k lo hi (r ∷ l) e h =
    (record { from = le_trans e h.0.from; even = h.0.even; whole = h.0.whole; some = h.0.some }, h.1)

-- each is well placed
pub rows_placed : (lo hi : ℕ) (l : List VMRegion) → hi ≤ last_page → Rows lo hi l → every well_placed_vm l ≡ true
unfolding every
rows_placed lo hi [] e h = refl
rows_placed lo hi (r ∷ l) e h =
    let end : r.start + r.size ≤ last_page = le_trans (rows_le (r.start + r.size) hi l h.1) e in
    rw (eq-eqb _ _ h.0.even, eq-eqb _ _ h.0.whole, lt-ltb _ _ h.0.some, le-leb _ _ end, rows_placed (r.start + r.size) hi l e h.1)

-- the first region large enough starts where the rows do, or later
pub fit_from : (n lo hi a : ℕ) (l : List VMRegion) → Rows lo hi l → first_fit n l ≡ Ok a → lo ≤ a
unfolding first_fit
fit_from n lo hi a [] h e = let z : ◌≡◌ {A = ℕ} 0 1 = cc in absurd (omega arith)
fit_from n lo hi a (r ∷ l) h e = by (fits n r) e (fit_from n (r.start + r.size) hi a l h.1)
  where
    by : (b : Bool) → pick b (Ok r.start) (first_fit n l) ≡ Ok a → (first_fit n l ≡ Ok a → r.start + r.size ≤ a) → lo ≤ a
    by true g later = let k : r.start ≡ a = cc in omega (arith, h.0.from)
    by false g later = omega (arith, h.0.from, later g)

-- above a, nothing is freed by freeing a
freed_above : (a lo hi : ℕ) (l : List VMRegion) → a < lo → Rows lo hi l → freed_all a l ≡ l
unfolding freed_all
freed_above a lo hi [] k h = refl
freed_above a lo hi (r ∷ l) k h =
    let d : eqb r.start a ≡ false = ne_eqb r.start a (λ e. omega (arith, h.0.from)) in
    ap₂ (λ (x : VMRegion) (xs : List VMRegion). x ∷ xs) (rw d (kept r.used r refl)) (freed_above a (r.start + r.size) hi l (omega (arith, h.0.from)) h.1)
  where
    kept : (b : Bool) (s : VMRegion) → s.used ≡ b → vm_region s.start s.size (both b true) ≡ s
    kept true s e = rw e
    kept false s e = rw e

-- of regions in rows, freeing the first used one at a frees all used ones at a
pub freed_first : (a lo hi : ℕ) (l : List VMRegion) → Rows lo hi l → free_first a l ≡ freed_all a l
unfolding free_first freed_all
freed_first a lo hi [] h = refl
freed_first a lo hi (r ∷ l) h = by (eqb r.start a) refl r.used refl (freed_first a (r.start + r.size) hi l h.1)
  where
    by : (x : Bool) → eqb r.start a ≡ x → (y : Bool) → r.used ≡ y → free_first a l ≡ freed_all a l
        → pick (both x y) (vm_region r.start r.size false ∷ l) (r ∷ free_first a l) ≡ vm_region r.start r.size (both y (not x)) ∷ freed_all a l
    by true e true u more =
        let k : a < r.start + r.size = omega (arith, eqb-true r.start a e, h.0.some) in
        ap (λ (xs : List VMRegion). vm_region r.start r.size false ∷ xs) (sym (freed_above a (r.start + r.size) hi l k h.1))
    by true e false u more = ap₂ (λ (x : VMRegion) (xs : List VMRegion). x ∷ xs) (rw (← u)) more
    by false e true u more = ap₂ (λ (x : VMRegion) (xs : List VMRegion). x ∷ xs) (rw (← u)) more
    by false e false u more = ap₂ (λ (x : VMRegion) (xs : List VMRegion). x ∷ xs) (rw (← u)) more

pub rows_freed : (a lo hi : ℕ) (l : List VMRegion) → Rows lo hi l → Rows lo hi (freed_all a l)
unfolding freed_all
rows_freed a lo hi [] h = h
rows_freed a lo hi (r ∷ l) h =
    (record { from = h.0.from; even = h.0.even; whole = h.0.whole; some = h.0.some }, rows_freed a (r.start + r.size) hi l h.1)

pub length_freed : (a : ℕ) (l : List VMRegion) → length (freed_all a l) ≡ length l
unfolding freed_all
length_freed a [] = refl
length_freed a (r ∷ l) = ap suc (length_freed a l)

-- merging keeps the rows, and makes the list no longer
rows_from : (lo hi : ℕ) (r : VMRegion) (l : List VMRegion) → Rows lo hi (r ∷ l) → Rows lo hi (merge_from r l)
unfolding merge_from
rows_from lo hi r [] h = h
rows_from lo hi r (s ∷ l) h = by (joins r s) refl (rows_from lo hi (join r s) l) (rows_from (r.start + r.size) hi s l h.1)
  where
    by : (x : Bool) → joins r s ≡ x → (Rows lo hi (join r s ∷ l) → Rows lo hi (merge_from (join r s) l)) → Rows (r.start + r.size) hi (merge_from s l)
        → Rows lo hi (pick x (merge_from (join r s) l) (r ∷ merge_from s l))
    by true e one two =
        let m = (joined r s e).meet in
        one (
          record { from = h.0.from; even = h.0.even; whole = omega (arith, h.0.whole, h.1.0.whole); some = omega (arith, h.0.some) },
          rows_earlier (r.start + (r.size + s.size)) (s.start + s.size) hi l (omega arith) h.1.1,
        )
    by false e one two = (h.0, two)

pub rows_merge : (lo hi : ℕ) (l : List VMRegion) → Rows lo hi l → Rows lo hi (merge l)
unfolding merge
rows_merge lo hi [] h = h
rows_merge lo hi (r ∷ l) h = rows_from lo hi r l h

length_from : (r : VMRegion) (l : List VMRegion) → length (merge_from r l) ≤ suc (length l)
unfolding merge_from
length_from r [] = le_refl _
length_from r (s ∷ l) = by (joins r s) (length_from (join r s) l) (length_from s l)
  where
    by : (x : Bool) → length (merge_from (join r s) l) ≤ suc (length l) → length (merge_from s l) ≤ suc (length l)
        → length (pick x (merge_from (join r s) l) (r ∷ merge_from s l)) ≤ suc (suc (length l))
    by true one two = omega arith
    by false one two = omega arith

pub length_merge : (l : List VMRegion) → length (merge l) ≤ length l
unfolding merge
length_merge [] = le_refl _
length_merge (r ∷ l) = length_from r l

-- cutting keeps the rows, and makes the list longer by one at most, where there is room
module _ (used : Bool) (n : ℕ) (room : Bool) (full : n % 4096 ≡ 0) (pos : 0 < n) where
  pub rows_taken : (lo hi : ℕ) (l : List VMRegion) → Rows lo hi l → Rows lo hi (take_first used n room l)
  unfolding take_first
  rows_taken lo hi [] h = h
  rows_taken lo hi (r ∷ l) h = by (fits n r) refl (rows_taken (r.start + r.size) hi l h.1)
    where
      head : fits n r ≡ true → Row lo (vm_region r.start n used)
      head e = record { from = h.0.from; even = h.0.even; whole = full; some = pos }

      large : fits n r ≡ true → n ≤ r.size
      large e = leb-true _ _ (both_true (not r.used) (leb n r.size) e).1

      rest : fits n r ≡ true → (x : Bool) → both room (ltb n r.size) ≡ x → Rows (r.start + n) hi (pick x (vm_region (r.start + n) (r.size - n) false ∷ l) l)
      rest e true g =
          let k : n < r.size = ltb-true _ _ (both_true room (ltb n r.size) g).1 in (
            record { from = le_refl _; even = omega (arith, h.0.even, full); whole = omega (arith, h.0.whole, full); some = omega arith },
            rows_earlier (r.start + n + (r.size - n)) (r.start + r.size) hi l (omega arith) h.1,
          )
      rest e false g = rows_earlier (r.start + n) (r.start + r.size) hi l (omega (arith, large e)) h.1

      by : (x : Bool) → fits n r ≡ x → Rows (r.start + r.size) hi (take_first used n room l) → Rows lo hi (pick x (vm_region r.start n used ∷ behind n room r l) (r ∷ take_first used n room l))
      by true e more = (head e, rest e (both room (ltb n r.size)) refl)
      by false e more = (h.0, more)

pub length_taken : (used : Bool) (n : ℕ) (room : Bool) (l : List VMRegion) → length (take_first used n room l) ≤ length l + one room
unfolding take_first
length_taken used n room [] = omega arith
length_taken used n room (r ∷ l) = by (fits n r) (length_taken used n room l)
  where
    rest : (y : Bool) → length (pick (both y (ltb n r.size)) (vm_region (r.start + n) (r.size - n) false ∷ l) l) ≤ length l + one y
    rest true = tail (ltb n r.size)
      where
        tail : (x : Bool) → length (pick x (vm_region (r.start + n) (r.size - n) false ∷ l) l) ≤ length l + 1
        tail true = omega arith
        tail false = omega arith
    rest false = omega arith

    by : (x : Bool) → length (take_first used n room l) ≤ length l + one room
        → length (pick x (vm_region r.start n used ∷ behind n room r l) (r ∷ take_first used n room l)) ≤ suc (length l) + one room
    by true more = omega (arith, rest room)
    by false more = omega arith

pub taken_more : (used : Bool) (n : ℕ) (l : List VMRegion) → length (taken used n l) ≤ length l + 1
taken_more used n l = by (ltb (length l) 256)
  where
    by : (room : Bool) → length (take_first used n room l) ≤ length l + 1
    by true = length_taken used n true l
    by false = omega (arith, length_taken used n false l)

-- the list never passes 256: 'at 256 the tail is lost'
pub taken_few : (used : Bool) (n : ℕ) (l : List VMRegion) → length l ≤ 256 → length (taken used n l) ≤ 256
taken_few used n l h = by (ltb (length l) 256) refl
  where
    by : (room : Bool) → ltb (length l) 256 ≡ room → length (take_first used n room l) ≤ 256
    by true e = omega (arith, length_taken used n true l, ltb-true (length l) 256 e)
    by false e = omega (arith, length_taken used n false l)
