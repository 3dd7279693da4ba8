-- Regions of a page each, one behind the other: a search for a page from the first of them on takes as many comparisons as any list of that length can.
use Prim.Native.Nat.{ℕ, zero, suc, ◌+◌, ◌*◌, ◌%◌, ◌<◌, ◌≤◌}
use mathlib.Core.Path.{◌≡◌, refl, ◌∙◌, ap}
use mathlib.Core.Bool.{true}
use lib.IntN.{pos}
use native.Mathlib.Omega.{arith}
use lib.ListN.{length}
use borrow.Author.Tests.{le-leb}
use Rattle.std.specs.Prelude.{None, Some}
use Rattle.allocator.specs.Round.{last_page}
use Rattle.slots.specs.Slots.{every}
use Rattle.slots.specs.Sorted.{rising_from as rising_by}
use Rattle.regions.proofs.Placed.{placed_back}
use Rattle.mappings.specs.declared.MappedRegion.{MappedRegion}
use Rattle.mappings.specs.Regions.{user_start, mapped_region, well_placed_mapping}
use Rattle.free_range.specs.Search.{in_the_way}
use Rattle.free_range.specs.Compared.{compared_in, compared, adjoining, Reached}
use Rattle.mappings.proofs.Rising.{Rising, rising_none}
use Rattle.free_range.proofs.Scans.{way_end, way_here, way_on, compared_all, compared_last, compared_on}
use Rattle.free_range.proofs.Compared.{compared_here, compared_past}

-- the first of them
abbrev page : ℕ → MappedRegion
page a = mapped_region a 4096 (pos 0) (pos 0)

row_long : (k a : ℕ) → length (adjoining k a) ≡ k
row_long zero a = refl
row_long (suc k) a = ap suc (row_long k (a + 4096))

row_rising : (k a lo : ℕ) → lo ≤ a → a % 4096 ≡ 0 → a + k * 4096 ≤ last_page → Rising lo (adjoining k a)
unfolding rising_by every
row_rising zero a lo h e g = rising_none lo
row_rising (suc k) a lo h e g =
    let more = row_rising k (a + 4096) (suc a) (omega arith) (omega arith) (omega arith) in
    let here : well_placed_mapping (page a) ≡ true =
    placed_back a 4096 (record { even = e; whole = refl; some = omega arith; end = omega arith }) in
    (rw (le-leb lo a h) more.0, rw here more.1)

-- page i of them from a on, b: region i is in its way, and the scan compares those up to it
row_way : (k a i b : ℕ) → i < k → b ≡ a + i * 4096 → (in_the_way b 4096 (adjoining k a) ≡ Some (b + 4096)) × (compared_in b 4096 (adjoining k a) ≡ suc i)
row_way zero a i b h e = absurd (omega arith)
row_way (suc k) a zero b h e =
    let end : Some (a + 4096) ≡ Some (b + 4096) = ap Some (omega arith) in
    (way_here b 4096 refl (omega arith) (omega arith) ∙ end, compared_last b 4096 refl (omega arith) (omega arith))
row_way (suc k) a (suc i) b h e =
    let more = row_way k (a + 4096) i b (omega arith) (omega arith) in
    (way_on b 4096 refl (omega arith) ∙ more.0, compared_on b 4096 refl (omega arith) ∙ ap suc more.1)

-- the page behind the last
row_free : (k a b : ℕ) → b ≡ a + k * 4096 → in_the_way b 4096 (adjoining k a) ≡ None
row_free zero a b e = way_end b 4096 refl
row_free (suc k) a b e = way_on b 4096 refl (omega arith) ∙ row_free k (a + 4096) b (omega arith)

-- from page i on, d pages before the last one's end: region i takes i + 1 comparisons
row_sum : (k d i b : ℕ) → k ≤ 256 → i + d ≡ k → b ≡ user_start + i * 4096 → 2 * compared (adjoining k user_start) b 4096 + i * (i + 1) ≡ k * (k + 3)
row_sum k zero i b few e z =
    let free = row_free k user_start b (omega arith) in
    let here = compared_here (adjoining k user_start) 4096 b (omega arith) free in
    let same : i ≡ k = omega arith in
    rw same (omega (arith, here, compared_all b 4096 (adjoining k user_start) free, row_long k user_start))
row_sum k (suc d) i b few e z =
    let way = row_way k user_start i b (omega arith) z in
    let past = compared_past (adjoining k user_start) 4096 b (omega arith) (b + 4096) way.0 in
    let more = row_sum k d (suc i) (b + 4096) few (omega arith) (omega arith) in
    omega (arith, past, way.1, more)

pub reached : Reached
reached k few =
    let rising = row_rising k user_start 0 (omega arith) refl (omega arith) in
    (row_long k user_start, rising.0, rising.1, omega (arith, row_sum k k 0 user_start few (omega arith) (omega arith)))
