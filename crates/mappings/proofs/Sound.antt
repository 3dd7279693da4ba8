-- The test for a broken list: what it comes to, test by test, and what a sound list says.
use Prim.Native.Nat.{ℕ, zero, suc, ◌+◌, ◌%◌, ◌<◌, ◌≤◌}
use mathlib.Core.Path.{◌≡◌, refl, sym}
use mathlib.Core.Bool.{Bool, true, false}
use mathlib.Core.List.{List, [], ◌∷◌}
use native.Mathlib.Omega.{arith}
use native.Mathlib.Numerals.{add-one}
use lib.Dec.{eqb, leb}
use lib.ListN.{length, drop, length-take}
use borrow.Author.Tests.{le-leb, lt-leb, eq-eqb, ne_eqb, leb-true, eqb-true}
use Rattle.bits.specs.Bit.{both}
use Rattle.bits.proofs.Choice.{both_true, both_false}
use Rattle.slots.specs.Slots.{listed, every}
use Rattle.slots.specs.Sorted.{rising_from as rising_by}
use Rattle.regions.proofs.Placed.{Placed}
use Rattle.mappings.specs.declared.MappedRegion.{MappedRegion}
use Rattle.mappings.specs.Regions.{rising_from, well_placed_mapping, sound_mappings}
use Rattle.mappings.specs.Packed.{mmap_size, mmap_in, next_in, mmap_fit, sound_list}
use Rattle.mappings.proofs.Stores.{slots_long}
use Rattle.mappings.proofs.Rising.{Rising, rising_first}

-- ---- the test

-- the part of it that goes region by region
abbrev pub sorted : ℕ → List MappedRegion → Bool
sorted from l = both (rising_from from l) (every well_placed_mapping l)

module _ (bs : List ℕ) where
  pub sound_other : (length bs ≡ mmap_size → ⊥) → sound_list bs ≡ false
  sound_other h = rw (ne_eqb (length bs) mmap_size h)

  pub sound_many : 256 < (mmap_in bs).count → sound_list bs ≡ false
  unfolding sound_mappings
  sound_many h = rw (lt-leb (mmap_in bs).count 256 h) (both_false (mmap_fit bs))

  pub sound_odd : (next_in bs % 4096 ≡ 0 → ⊥) → sound_list bs ≡ false
  unfolding sound_mappings
  sound_odd h = rw (ne_eqb (next_in bs % 4096) 0 h) (none (mmap_fit bs) (leb (mmap_in bs).count 256) (rising_from 0 (listed (mmap_in bs))) (every well_placed_mapping (listed (mmap_in bs))))
    where
      none : (a b c d : Bool) → both a (both b (both c (both d false))) ≡ false
      none true true true d = both_false d
      none true true false d = refl
      none true false c d = refl
      none false b c d = refl

  pub sound_sorted : length bs ≡ mmap_size → (mmap_in bs).count ≤ 256 → next_in bs % 4096 ≡ 0 → sound_list bs ≡ sorted 0 (listed (mmap_in bs))
  unfolding sound_mappings
  sound_sorted n h e =
      rw (eq-eqb (length bs) mmap_size n, le-leb (mmap_in bs).count 256 h, eq-eqb (next_in bs % 4096) 0 e)
      (all (rising_from 0 (listed (mmap_in bs))) (every well_placed_mapping (listed (mmap_in bs))))
    where
      all : (a b : Bool) → both a (both b true) ≡ both a b
      all true true = refl
      all true false = refl
      all false b = refl

module _ {l : List MappedRegion} (from : ℕ) where
  pub sorted_end : l ≡ [] → sorted from l ≡ true
  unfolding rising_by every
  sorted_end e = rw e

  module _ {r : MappedRegion} {q : List MappedRegion} (e : l ≡ r ∷ q) where
    pub sorted_low : r.start < from → sorted from l ≡ false
    unfolding rising_by every
    sorted_low h = rw (e, lt-leb _ _ h)

    pub sorted_bad : well_placed_mapping r ≡ false → sorted from l ≡ false
    unfolding rising_by every
    sorted_bad h = rw (e, h) (both_false (both (leb from r.start) (rising_from (suc r.start) q)))

    pub sorted_on : from ≤ r.start → well_placed_mapping r ≡ true → sorted from l ≡ sorted (r.start + 1) q
    unfolding rising_by every
    sorted_on h k = rw (e, le-leb _ _ h, k, add-one r.start)

-- ---- what a sound list says

module _ (bs : List ℕ) (h : sound_list bs ≡ true) where
  pub sound_fit : mmap_fit bs ≡ true
  sound_fit = (both_true (mmap_fit bs) _ h).0

  pub sound_few : (mmap_in bs).count ≤ 256
  unfolding sound_mappings
  sound_few = leb-true _ _ (both_true (leb (mmap_in bs).count 256) _ (both_true (mmap_fit bs) _ h).1).0

  rest : both (rising_from 0 (listed (mmap_in bs))) (both (every well_placed_mapping (listed (mmap_in bs))) (eqb (next_in bs % 4096) 0)) ≡ true
  unfolding sound_mappings
  rest = (both_true (leb (mmap_in bs).count 256) _ (both_true (mmap_fit bs) _ h).1).1

  pub sound_rising : Rising 0 (listed (mmap_in bs))
  sound_rising =
      let r = both_true (rising_from 0 (listed (mmap_in bs))) _ rest in
      (r.0, (both_true (every well_placed_mapping (listed (mmap_in bs))) _ r.1).0)

  pub sound_even : next_in bs % 4096 ≡ 0
  sound_even = eqb-true _ _ (both_true (every well_placed_mapping (listed (mmap_in bs))) _ (both_true (rising_from 0 (listed (mmap_in bs))) _ rest).1).1

  pub listed_long : length (listed (mmap_in bs)) ≡ (mmap_in bs).count
  listed_long = omega (arith, slots_long bs, sound_few, length-take (mmap_in bs).count (mmap_in bs).slots)

-- each region of a rising list is well placed
pub placed_at : (i lo : ℕ) (l : List MappedRegion) → Rising lo l → {r : MappedRegion} {q : List MappedRegion} → drop i l ≡ r ∷ q → Placed r.start r.size
placed_at zero lo (s ∷ l) h {r} e = let z : s ≡ r = cc in rw (sym z) (rising_first lo s l h).1
placed_at (suc i) lo (s ∷ l) h e = placed_at i (suc s.start) l (rising_first lo s l h).2 e
placed_at zero lo [] h e = let z : ◌≡◌ {A = ℕ} 0 1 = cc in absurd (omega arith)
placed_at (suc i) lo [] h e = let z : ◌≡◌ {A = ℕ} 0 1 = cc in absurd (omega arith)

-- those behind a region start above it
pub rising_after : (i lo : ℕ) (l : List MappedRegion) → Rising lo l → {r : MappedRegion} {q : List MappedRegion} → drop i l ≡ r ∷ q → Rising (suc r.start) q
rising_after zero lo (s ∷ l) h {r} {q} e =
    let z : s ≡ r = cc in
    let y : l ≡ q = cc in
    rw (sym z, sym y) (rising_first lo s l h).2
rising_after (suc i) lo (s ∷ l) h e = rising_after i (suc s.start) l (rising_first lo s l h).2 e
rising_after zero lo [] h e = let z : ◌≡◌ {A = ℕ} 0 1 = cc in absurd (omega arith)
rising_after (suc i) lo [] h e = let z : ◌≡◌ {A = ℕ} 0 1 = cc in absurd (omega arith)
