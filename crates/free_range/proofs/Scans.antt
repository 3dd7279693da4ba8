-- One scan for n bytes at a, turn by turn: by the regions that are left, `r ∷ q` or none.
use Prim.Native.Nat.{ℕ, suc, ◌+◌, ◌<◌, ◌≤◌}
use mathlib.Core.Path.{◌≡◌, refl, sym, ◌∙◌, ap}
use mathlib.Core.Bool.{Bool, true, false}
use mathlib.Core.List.{List, [], ◌∷◌}
use native.Mathlib.Omega.{arith}
use lib.Dec.{ltb}
use lib.ListN.{length}
use borrow.Author.Tests.{lt-ltb, le-ltb}
use Rattle.std.specs.Prelude.{Option, None, Some}
use Rattle.bits.specs.Bit.{pick}
use Rattle.bits.proofs.Choice.{both_false}
use Rattle.mappings.specs.declared.MappedRegion.{MappedRegion}
use Rattle.free_range.specs.Search.{overlaps, in_the_way}
use Rattle.free_range.specs.Compared.{compared_in, scanned}
use Rattle.mappings.proofs.Rising.{Rising, rising_first}

-- ---- what is in the way

module _ (a n : ℕ) where
  -- regions that start past them are not
  not_past : (r : MappedRegion) → a + n ≤ r.start → overlaps a n r ≡ false
  not_past r h = rw (le-ltb r.start (a + n) h) (both_false (ltb a (r.start + r.size)))

  none_past : (lo : ℕ) (l : List MappedRegion) → Rising lo l → a + n ≤ lo → in_the_way a n l ≡ None
  unfolding in_the_way
  none_past lo [] h k = refl
  none_past lo (r ∷ l) h k =
      let f = rising_first lo r l h in
      rw (not_past r (omega (arith, f.0))) (none_past (suc r.start) l f.2 (omega (arith, f.0)))

module _ (a n : ℕ) {l : List MappedRegion} where
  pub way_end : l ≡ [] → in_the_way a n l ≡ None
  unfolding in_the_way
  way_end e = rw e

  module _ {r : MappedRegion} {q : List MappedRegion} (e : l ≡ r ∷ q) where
    -- from a region that starts past them on, nothing is
    pub way_beyond : Rising (suc r.start) q → a + n ≤ r.start → in_the_way a n l ≡ None
    unfolding in_the_way
    way_beyond f h = rw (e, not_past a n r h) (none_past a n (suc r.start) q f (omega arith))

    pub way_here : r.start < a + n → a < r.start + r.size → in_the_way a n l ≡ Some (r.start + r.size)
    unfolding in_the_way
    way_here h k = rw (e, lt-ltb _ _ k, lt-ltb _ _ h)

    pub way_on : r.start + r.size ≤ a → in_the_way a n l ≡ in_the_way a n q
    unfolding in_the_way
    way_on h = rw (e, le-ltb _ _ h)

-- ---- how many regions the scan compares

-- all, where nothing is in the way
pub compared_all : (a n : ℕ) (l : List MappedRegion) → in_the_way a n l ≡ None → compared_in a n l ≡ length l
unfolding in_the_way compared_in
compared_all a n [] h = refl
compared_all a n (r ∷ l) h = by (overlaps a n r) h (compared_all a n l)
  where
    by : (x : Bool) → pick x (Some (r.start + r.size)) (in_the_way a n l) ≡ None → (in_the_way a n l ≡ None → compared_in a n l ≡ length l)
        → suc (pick x 0 (compared_in a n l)) ≡ suc (length l)
    by true g more = let z : ◌≡◌ {A = ℕ} 0 1 = cc in absurd (omega arith)
    by false g more = ap suc (more g)

module _ (a n : ℕ) {l : List MappedRegion} {r : MappedRegion} {q : List MappedRegion} (e : l ≡ r ∷ q) where
  pub compared_last : r.start < a + n → a < r.start + r.size → compared_in a n l ≡ 1
  unfolding compared_in
  compared_last h k = rw (e, lt-ltb _ _ k, lt-ltb _ _ h)

  pub compared_on : r.start + r.size ≤ a → compared_in a n l ≡ suc (compared_in a n q)
  unfolding compared_in
  compared_on h = rw (e, le-ltb _ _ h)

-- ---- what a scan reports

module _ (a n : ℕ) (l : List MappedRegion) where
  pub scan_reports : {w : Option ℕ} {k : ℕ} → w ≡ in_the_way a n l → k ≡ compared_in a n l → record { way = w; compared = k } ≡ scanned a n l
  scan_reports p q = λ j. record { way = p j; compared = q j }

  pub scan_free : {k : ℕ} → in_the_way a n l ≡ None → k ≡ length l → record { way = None; compared = k } ≡ scanned a n l
  scan_free e q = scan_reports (sym e) (q ∙ sym (compared_all a n l e))
