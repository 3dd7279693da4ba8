-- The list in rising order: what storing and removing a region keep and change of it. `holds a n l ≡ true` says that l has a region of n bytes at a.
use Prim.Native.Nat.{ℕ, suc, ◌<◌, ◌≤◌}
use mathlib.Core.Path.{◌≡◌, refl, sym, ◌∙◌, ap}
use mathlib.Core.Bool.{Bool, true, false, true≢false, false≢true}
use mathlib.Core.List.{List, [], ◌∷◌}
use native.Mathlib.Omega.{arith}
use native.Mathlib.Decide.{dec_lt}
use lib.Dec.{eqb, leb, ltb}
use lib.IntN.{ℤ}
use lib.ListN.{get_or, set}
use borrow.Author.Tests.{eq-eqb, ne_eqb, eqb-true, eqb-false, leb-true, lt-ltb, le-ltb}
use Rattle.bits.specs.Bit.{pick, both}
use Rattle.bits.proofs.Choice.{pick_cases, both_true}
use Rattle.slots.specs.Slots.{every}
use Rattle.slots.specs.Sorted.{rising_from as rising_by, has_key, insert as insert_by, remove as remove_by, place_of}
use Rattle.slots.proofs.Sorted.{none_below, rise_insert, rise_remove}
use Rattle.regions.proofs.Placed.{Placed, placed, placed_back}
use Rattle.mappings.specs.declared.MappedRegion.{MappedRegion}
use Rattle.mappings.specs.Regions.{mapped_region, no_mapped_region, start_key, rising_from, well_placed_mapping, starts, insert, holds, remove, with_prot}

-- well placed regions whose starts rise strictly, from lo on
abbrev pub Rising : ℕ → List MappedRegion → Type 0
Rising lo l = (rising_from lo l ≡ true) × (every well_placed_mapping l ≡ true)

pub rising_none : (lo : ℕ) → Rising lo []
unfolding rising_by every
rising_none lo = (refl, refl)

-- .. of the first and of the others
pub rising_first : (lo : ℕ) (r : MappedRegion) (l : List MappedRegion) → Rising lo (r ∷ l) → (lo ≤ r.start) × Placed r.start r.size × Rising (suc r.start) l
unfolding rising_by every
rising_first lo r l h =
    let p = both_true (leb lo r.start) (rising_from (suc r.start) l) h.0 in
    let q = both_true (well_placed_mapping r) (every well_placed_mapping l) h.1 in
    (leb-true lo r.start p.0, placed r.start r.size q.0, (p.1, q.1))

-- ---- what a list holds

pub holds_starts : (a n : ℕ) (l : List MappedRegion) → holds a n l ≡ true → starts a l ≡ true
unfolding holds has_key
holds_starts a n [] h = h
holds_starts a n (r ∷ l) h = by (eqb r.start a) h (holds_starts a n l)
  where
    by : (x : Bool) → pick x (eqb r.size n) (holds a n l) ≡ true → (holds a n l ≡ true → starts a l ≡ true) → pick x true (starts a l) ≡ true
    by true g more = refl
    by false g more = more g

pub holds_none : (a n : ℕ) (l : List MappedRegion) → starts a l ≡ false → holds a n l ≡ false
unfolding holds has_key
holds_none a n [] h = refl
holds_none a n (r ∷ l) h = by (eqb r.start a) h (holds_none a n l)
  where
    by : (x : Bool) → pick x true (starts a l) ≡ false → (starts a l ≡ false → holds a n l ≡ false) → pick x (eqb r.size n) (holds a n l) ≡ false
    by true g more = absurd (true≢false g)
    by false g more = more g

-- one behind the first starts above it
rising_later : (a lo : ℕ) (r : MappedRegion) (l : List MappedRegion) → Rising lo (r ∷ l) → starts a l ≡ true → r.start < a
rising_later a lo r l h e = go (dec_lt r.start a)
  where
    go : Dec (r.start < a) → r.start < a
    go (yes q) = q
    go (no q) = absurd (true≢false (sym e ∙ none_below start_key a (suc r.start) l (omega arith) (rising_first lo r l h).2.0))

-- the region at a stands at a's place
pub holds_at : (a n lo : ℕ) (l : List MappedRegion) → Rising lo l → starts a l ≡ true → holds a n l ≡ eqb (get_or l (place_of start_key a l) no_mapped_region).size n
unfolding holds has_key place_of
holds_at a n lo [] h e = absurd (false≢true e)
holds_at a n lo (r ∷ l) h e = by (eqb r.start a) refl e (holds_at a n (suc r.start) l (rising_first lo r l h).2)
  where
    by : (x : Bool) → eqb r.start a ≡ x → pick x true (starts a l) ≡ true → (starts a l ≡ true → holds a n l ≡ eqb (get_or l (place_of start_key a l) no_mapped_region).size n)
        → pick x (eqb r.size n) (holds a n l) ≡ eqb (get_or (r ∷ l) (place_of start_key a (r ∷ l)) no_mapped_region).size n
    by true f g more = rw (le-ltb r.start a (omega (arith, eqb-true r.start a f)))
    by false f g more = rw (lt-ltb r.start a (rising_later a lo r l h g)) (more g)

-- .. and has another prot there
pub prot_there : (a : ℕ) (prot : ℤ) (lo : ℕ) (l : List MappedRegion) → Rising lo l → starts a l ≡ true → let k = place_of start_key a l in
    with_prot a prot l ≡ set l k (mapped_region a (get_or l k no_mapped_region).size prot (get_or l k no_mapped_region).flags)
unfolding with_prot has_key place_of
prot_there a prot lo [] h e = refl
prot_there a prot lo (r ∷ l) h e = by (eqb r.start a) refl e (prot_there a prot (suc r.start) l (rising_first lo r l h).2)
  where
    stored : List MappedRegion → ℕ → List MappedRegion
    stored m k = set m k (mapped_region a (get_or m k no_mapped_region).size prot (get_or m k no_mapped_region).flags)

    by : (x : Bool) → eqb r.start a ≡ x → pick x true (starts a l) ≡ true → (starts a l ≡ true → with_prot a prot l ≡ stored l (place_of start_key a l))
        → pick x (mapped_region r.start r.size prot r.flags ∷ l) (r ∷ with_prot a prot l) ≡ stored (r ∷ l) (place_of start_key a (r ∷ l))
    by true f g more =
        let s : r.start ≡ a = eqb-true r.start a f in
        rw (le-ltb r.start a (omega arith)) (ap (λ (x : ℕ). mapped_region x r.size prot r.flags ∷ l) s)
    by false f g more = rw (lt-ltb r.start a (rising_later a lo r l h g)) (ap (λ (m : List MappedRegion). r ∷ m) (more g))

-- a region that is held is well placed, and has one size
pub holds_placed : (a n lo : ℕ) (l : List MappedRegion) → Rising lo l → holds a n l ≡ true → Placed a n
unfolding holds
holds_placed a n lo [] h e = absurd (false≢true e)
holds_placed a n lo (r ∷ l) h e = let k = rising_first lo r l h in by k.1 (eqb r.start a) refl e (holds_placed a n (suc r.start) l k.2)
  where
    by : Placed r.start r.size → (x : Bool) → eqb r.start a ≡ x → pick x (eqb r.size n) (holds a n l) ≡ true → (holds a n l ≡ true → Placed a n) → Placed a n
    by p true f g more =
        let s : r.start ≡ a = eqb-true _ _ f in
        let z : r.size ≡ n = eqb-true _ _ g in
        record { even = omega (arith, p.even); whole = omega (arith, p.whole); some = omega (arith, p.some); end = omega (arith, p.end) }
    by p false f g more = more g

pub holds_one : (a n m : ℕ) (l : List MappedRegion) → holds a n l ≡ true → holds a m l ≡ true → n ≡ m
unfolding holds
holds_one a n m [] h k = absurd (false≢true h)
holds_one a n m (r ∷ l) h k = by (eqb r.start a) h k (holds_one a n m l)
  where
    by : (x : Bool) → pick x (eqb r.size n) (holds a n l) ≡ true → pick x (eqb r.size m) (holds a m l) ≡ true → (holds a n l ≡ true → holds a m l ≡ true → n ≡ m) → n ≡ m
    by true g q more = sym (eqb-true r.size n g) ∙ eqb-true r.size m q
    by false g q more = more g q

-- a list that holds nothing is empty
pub holds_nothing : (l : List MappedRegion) → ((a n : ℕ) → holds a n l ≡ false) → l ≡ []
unfolding holds
holds_nothing [] h = refl
holds_nothing (r ∷ l) h =
    let z : pick (eqb r.start r.start) (eqb r.size r.size) (holds r.start r.size l) ≡ false = h r.start r.size in
    let y : true ≡ false = rw (eq-eqb r.start r.start refl, eq-eqb r.size r.size refl) at z in
    absurd (true≢false y)

-- ---- a region r stored

two : (a b : Bool) → a ≡ true → b ≡ true → both a b ≡ true
two a b h k = rw (h, k)

module _ (r : MappedRegion) where
  placed_insert : (l : List MappedRegion) → well_placed_mapping r ≡ true → every well_placed_mapping l ≡ true → every well_placed_mapping (insert r l) ≡ true
  unfolding insert_by every
  placed_insert [] p h = two (well_placed_mapping r) true p refl
  placed_insert (s ∷ l) p h =
      let q = both_true (well_placed_mapping s) (every well_placed_mapping l) h in
      let more = placed_insert l p q.1 in
      pick_cases (λ (x : List MappedRegion). every well_placed_mapping x ≡ true) (ltb r.start s.start) _ _
      (λ _. two (well_placed_mapping r) (both (well_placed_mapping s) (every well_placed_mapping l)) p h)
      (λ _. pick_cases (λ (x : List MappedRegion). every well_placed_mapping x ≡ true) (eqb r.start s.start) _ _
      (λ _. two (well_placed_mapping r) (every well_placed_mapping l) p q.1) (λ _. two (well_placed_mapping s) (every well_placed_mapping (insert r l)) q.0 more))

  pub rising_insert : (lo : ℕ) (l : List MappedRegion) → lo ≤ r.start → Placed r.start r.size → Rising lo l → Rising lo (insert r l)
  rising_insert lo l k p h = (rise_insert start_key lo r l k h.0, placed_insert l (placed_back r.start r.size p) h.1)

  pub holds_inserted : (l : List MappedRegion) → holds r.start r.size (insert r l) ≡ true
  unfolding insert_by holds
  holds_inserted [] = rw (eq-eqb r.start r.start refl, eq-eqb r.size r.size refl)
  holds_inserted (s ∷ l) = by (ltb r.start s.start) (eqb r.start s.start) refl (holds_inserted l)
    where
      by : (x y : Bool) → eqb r.start s.start ≡ y → holds r.start r.size (insert r l) ≡ true
          → holds r.start r.size (pick x (r ∷ s ∷ l) (pick y (r ∷ l) (s ∷ insert r l))) ≡ true
      by true y f more = rw (eq-eqb r.start r.start refl, eq-eqb r.size r.size refl)
      by false true f more = rw (eq-eqb r.start r.start refl, eq-eqb r.size r.size refl)
      by false false f more = rw (ne_eqb s.start r.start (λ g. eqb-false r.start s.start f (sym g))) more

  pub holds_others : (b m : ℕ) (l : List MappedRegion) → (b ≡ r.start → ⊥) → holds b m (insert r l) ≡ holds b m l
  unfolding insert_by holds
  holds_others b m [] d = rw (ne_eqb r.start b (λ e. d (sym e)))
  holds_others b m (s ∷ l) d = by (ltb r.start s.start) (eqb r.start s.start) refl (holds_others b m l d)
    where
      off : eqb r.start b ≡ false
      off = ne_eqb r.start b (λ e. d (sym e))

      by : (x y : Bool) → eqb r.start s.start ≡ y → holds b m (insert r l) ≡ holds b m l
          → holds b m (pick x (r ∷ s ∷ l) (pick y (r ∷ l) (s ∷ insert r l))) ≡ pick (eqb s.start b) (eqb s.size m) (holds b m l)
      by true y f more = rw off
      by false true f more = let e : eqb s.start b ≡ false = ne_eqb s.start b (λ g. d (sym g ∙ sym (eqb-true r.start s.start f))) in rw (off, e)
      by false false f more = ap (pick (eqb s.start b) (eqb s.size m)) more

-- ---- the region at a removed

module _ (a : ℕ) where
  pub holds_removed : (n lo : ℕ) (l : List MappedRegion) → Rising lo l → holds a n (remove a l) ≡ false
  unfolding remove_by holds
  holds_removed n lo [] h = refl
  holds_removed n lo (r ∷ l) h =
      let k = rising_first lo r l h in
      let more = holds_removed n (suc r.start) l k.2 in
      pick_cases (λ (x : List MappedRegion). holds a n x ≡ false) (eqb r.start a) _ _
      (λ e. holds_none a n l (none_below start_key a (suc r.start) l (omega (arith, eqb-true r.start a e)) k.2.0)) (λ e. rw e more)

  placed_remove : (l : List MappedRegion) → every well_placed_mapping l ≡ true → every well_placed_mapping (remove a l) ≡ true
  unfolding remove_by every
  placed_remove [] h = refl
  placed_remove (r ∷ l) h =
      let q = both_true (well_placed_mapping r) (every well_placed_mapping l) h in
      let more = placed_remove l q.1 in
      pick_cases (λ (x : List MappedRegion). every well_placed_mapping x ≡ true) (eqb r.start a) _ _ (λ _. q.1)
      (λ _. two (well_placed_mapping r) (every well_placed_mapping (remove a l)) q.0 more)

  pub rising_remove : (lo : ℕ) (l : List MappedRegion) → Rising lo l → Rising lo (remove a l)
  rising_remove lo l h = (rise_remove start_key lo a l h.0, placed_remove l h.1)

  pub holds_kept : (b m : ℕ) (l : List MappedRegion) → (b ≡ a → ⊥) → holds b m (remove a l) ≡ holds b m l
  unfolding remove_by holds
  holds_kept b m [] d = refl
  holds_kept b m (r ∷ l) d = by (eqb r.start a) refl (holds_kept b m l d)
    where
      by : (x : Bool) → eqb r.start a ≡ x → holds b m (remove a l) ≡ holds b m l → holds b m (pick x l (r ∷ remove a l)) ≡ pick (eqb r.start b) (eqb r.size m) (holds b m l)
      by true e more = let g : eqb r.start b ≡ false = ne_eqb r.start b (λ q. d (sym q ∙ eqb-true r.start a e)) in rw g
      by false e more = ap (pick (eqb r.start b) (eqb r.size m)) more
