-- How long the search for a free range looks (document 02, slip 9). A comparison is one region tested for overlap, along the scans of `search_from`.
use Rattle.std.specs.Prelude.{ℕ, zero, suc, ◌+◌, ◌*◌, ◌≤◌, ◌≡◌, true, List, [], ◌∷◌, pos, ltb, length}
use Rattle.bits.specs.Bit.{pick}
use Rattle.slots.specs.Slots.{every}
use Rattle.mappings.specs.declared.MappedRegion.{MappedRegion}
use Rattle.free_range.specs.declared.Searched.{Searched}
use Rattle.free_range.specs.declared.Scanned.{Scanned}
use Rattle.mappings.specs.Regions.{user_start, mapped_region, rising_from, well_placed_mapping}
use Rattle.free_range.specs.Search.{user_end, overlaps, in_the_way, or_past, find_free}

-- in one scan for n bytes at a: each region up to the first that they overlap, that one included
unfoldable pub compared_in : ℕ → ℕ → List MappedRegion → ℕ
compared_in a n [] = 0
compared_in a n (r ∷ l) = suc (pick (overlaps a n r) 0 (compared_in a n l))

-- in the scans of `search_from`: 'restarts included'. More scans compare nothing more (law `compared-enough` of proofs/Compared)
unfoldable pub compared_from : ℕ → List MappedRegion → ℕ → ℕ → ℕ
compared_from zero l n a = 0
compared_from (suc k) l n a = pick (ltb (a + n) user_end) (compared_in a n l + or_past (in_the_way a n l) 0 (compared_from k l n)) 0

-- 'the number of regions it compared'
abbrev pub compared : List MappedRegion → ℕ → ℕ → ℕ
compared l next n = compared_from (suc (length l)) l n next

-- what a scan and a search report
abbrev pub scanned : ℕ → ℕ → List MappedRegion → Scanned
scanned a n l = record { way = in_the_way a n l; compared = compared_in a n l }

abbrev pub searched : List MappedRegion → ℕ → ℕ → Searched
searched l next n = record { outcome = find_free l next n; compared = compared l next n }

-- ---- the statements

-- 'With n regions it is at most n × (n + 1)': in every list, one whose regions overlap or stand in any order too
abbrev pub Bound : Type 0
Bound = (l : List MappedRegion) (next n : ℕ) → compared l next n ≤ length l * (length l + 1)

-- .. and at most half of n × (n + 3), which is never more
abbrev pub LeastBound : Type 0
LeastBound = (l : List MappedRegion) (next n : ℕ) → 2 * compared l next n ≤ length l * (length l + 3)

-- k regions of a page each, one behind the other from a on
abbrev pub adjoining : ℕ → ℕ → List MappedRegion
adjoining zero a = []
adjoining (suc k) a = mapped_region a 4096 (pos 0) (pos 0) ∷ adjoining k (a + 4096)

-- no smaller bound holds: these lists of k regions, which are not broken, take as many
abbrev pub Reached : Type 0
Reached = (k : ℕ) → k ≤ 256 → let l = adjoining k user_start in
    (length l ≡ k) × (rising_from 0 l ≡ true) × (every well_placed_mapping l ≡ true) × (2 * compared l user_start 4096 ≡ k * (k + 3))
