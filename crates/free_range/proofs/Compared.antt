-- How many regions a search compares: one scan after the other, and the bounds.
use Prim.Native.Nat.{ℕ, zero, suc, ◌+◌, ◌*◌, ◌<◌, ◌≤◌}
use mathlib.Core.Path.{◌≡◌, refl, ap}
use mathlib.Core.Bool.{Bool, true, false}
use mathlib.Core.List.{List, [], ◌∷◌}
use native.Mathlib.Omega.{arith}
use native.Mathlib.Nat.{mul-le-mul_right}
use lib.Dec.{ltb}
use lib.ListN.{length}
use borrow.Author.Tests.{lt-ltb, le-ltb}
use Rattle.std.specs.Prelude.{Result, Option, None, Some}
use Rattle.answer.specs.declared.Refusal.{Refusal}
use Rattle.bits.specs.Bit.{pick}
use Rattle.mappings.specs.declared.MappedRegion.{MappedRegion}
use Rattle.free_range.specs.Search.{user_end, overlaps, in_the_way, or_past, find_free}
use Rattle.free_range.specs.Compared.{compared_in, compared_from, compared, searched, Bound, LeastBound}
use Rattle.free_range.proofs.Ahead.{way_compared, weighed, weighed_less, ahead, ahead_few, ahead_less, scans}

-- ---- one scan at a time

module _ (l : List MappedRegion) (n : ℕ) where
  goes : (k a : ℕ) → compared_from (suc k) l n a ≡ pick (ltb (a + n) user_end) (compared_in a n l + or_past (in_the_way a n l) 0 (compared_from k l n)) 0
  unfolding compared_from
  goes k a = refl

  compared_scans : (k j a : ℕ) → ahead a l < k → ahead a l < j → compared_from k l n a ≡ compared_from j l n a
  compared_scans = scans l n (λ k. compared_from k l n) (λ _. 0) (λ a w. pick (ltb (a + n) user_end) (compared_in a n l + w) 0) goes

-- more scans than are needed compare nothing more
pub compared_enough : (k : ℕ) (l : List MappedRegion) (next n : ℕ) → length l < k → compared_from k l n next ≡ compared l next n
compared_enough k l next n h = compared_scans l n k (suc (length l)) next (omega (arith, ahead_few next l)) (omega (arith, ahead_few next l))

module _ (l : List MappedRegion) (n a : ℕ) where
  pub compared_none : user_end ≤ a + n → compared l a n ≡ 0
  unfolding compared_from
  compared_none h = rw (le-ltb _ _ h)

  module _ (h : a + n < user_end) where
    pub compared_least : compared_in a n l ≤ compared l a n
    unfolding compared_from
    compared_least = rw (lt-ltb _ _ h) (omega arith)

    pub compared_here : in_the_way a n l ≡ None → compared l a n ≡ compared_in a n l
    unfolding compared_from
    compared_here e = let z : compared_in a n l + 0 ≡ compared_in a n l = omega arith in rw (lt-ltb _ _ h, e) z

    pub compared_past : (e : ℕ) → in_the_way a n l ≡ Some e → compared l a n ≡ compared_in a n l + compared l e n
    unfolding compared_from
    compared_past e w =
        let fewer = ahead_less a n e l w in
        let few = ahead_few a l in
        rw (lt-ltb _ _ h, w) (ap (λ (x : ℕ). compared_in a n l + x) (compared_scans l n (length l) (suc (length l)) e (omega arith) (omega arith)))

-- what a search reports
pub search_reports : (l : List MappedRegion) (next n : ℕ) {o : Result ℕ Refusal} {k : ℕ} → o ≡ find_free l next n → k ≡ compared l next n → record { outcome = o; compared = k } ≡ searched l next n
search_reports l next n p q = λ j. record { outcome = p j; compared = q j }

-- ---- the bounds

-- a scan compares each region once at most
in_few : (a n : ℕ) (l : List MappedRegion) → compared_in a n l ≤ length l
unfolding compared_in
in_few a n [] = omega arith
in_few a n (r ∷ l) = by (overlaps a n r) (in_few a n l)
  where
    by : (x : Bool) → compared_in a n l ≤ length l → suc (pick x 0 (compared_in a n l)) ≤ suc (length l)
    by true m = omega arith
    by false m = omega arith

-- the places of the regions ahead, the first one's being j + 1, added up: what the scans that are started again may still cost, each the place of the region that it ends at
abbrev places : ℕ → ℕ → List MappedRegion → ℕ
places j a l = weighed suc j a l

-- the scan that is not started again compares each region once at most
from_few : (k : ℕ) (l : List MappedRegion) (n a : ℕ) → compared_from k l n a ≤ places 0 a l + length l
unfolding compared_from
from_few zero l n a = omega arith
from_few (suc k) l n a = one (ltb (a + n) user_end) (two (in_the_way a n l) refl (from_few k l n))
  where
    two : (w : Option ℕ) → in_the_way a n l ≡ w → ((c : ℕ) → compared_from k l n c ≤ places 0 c l + length l)
        → compared_in a n l + or_past w 0 (compared_from k l n) ≤ places 0 a l + length l
    two None e more = omega (arith, in_few a n l)
    two (Some c) e more = omega (arith, weighed_less suc 0 a n c l e, way_compared a n c l e, more c)

    one : {m : ℕ} (x : Bool) → m ≤ places 0 a l + length l → pick x m 0 ≤ places 0 a l + length l
    one true h = h
    one false h = omega arith

places_few : (j a : ℕ) (l : List MappedRegion) → 2 * places j a l ≤ length l * (length l + 1 + 2 * j)
places_few j a [] = omega arith
places_few j a (r ∷ l) = by (ltb a (r.start + r.size)) (places_few (suc j) a l)
  where
    by : (x : Bool) → 2 * places (suc j) a l ≤ length l * (length l + 1 + 2 * suc j) → 2 * (pick x (suc j) 0 + places (suc j) a l) ≤ suc (length l) * (suc (length l) + 1 + 2 * j)
    by true h = omega arith
    by false h = omega arith

pub least_bound : LeastBound
least_bound l next n = omega (arith, from_few (suc (length l)) l n next, places_few 0 next l)

square : (k : ℕ) → k ≤ k * k
square zero = omega arith
square (suc k) = omega arith

pub bound : Bound
bound l next n = omega (arith, least_bound l next n, square (length l))

-- with 256 regions it is below 2^17
pub compared_small : (l : List MappedRegion) (next n : ℕ) → length l ≤ 256 → compared l next n < 131072
compared_small l next n h = omega (arith, bound l next n, mul-le-mul_right (length l + 1) h)
