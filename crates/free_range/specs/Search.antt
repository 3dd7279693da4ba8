-- The search for a free range, document 01's 'mmap'.
use Rattle.std.specs.Prelude.{Ok, Err, Result, Option, None, Some}
use Rattle.answer.specs.declared.Refusal.{Refusal}
use Rattle.answer.specs.declared.Refusal.TheVariants.{NoRegion}
use Rattle.std.specs.Prelude.{ℕ, zero, suc, ◌+◌, Bool, List, [], ◌∷◌, ltb, length}
use Rattle.bits.specs.Bit.{pick, both}
use Rattle.mappings.specs.declared.MappedRegion.{MappedRegion}

-- the end that a searched range stays below
abbrev pub user_end : ℕ
user_end = 0x0000_7FFF_FFFF_F000

abbrev pub overlaps : ℕ → ℕ → MappedRegion → Bool
overlaps a n r = both (ltb a (r.start + r.size)) (ltb r.start (a + n))

-- the first region that n bytes at a overlap
unfoldable pub in_the_way : ℕ → ℕ → List MappedRegion → Option ℕ
in_the_way a n [] = None
in_the_way a n (r ∷ l) = pick (overlaps a n r) (Some (r.start + r.size)) (in_the_way a n l)

-- here where nothing is in the way, else on from the end of what is
abbrev pub or_past : {A : Type 0} → Option ℕ → A → (ℕ → A) → A
or_past None here on = here
or_past (Some end) here on = on end

-- 'At the first overlapping region it moves to that region's end and scans again. The exact sum is used.' Each region is moved past once at most, so that one scan more
-- than there are regions is enough (law `enough` of proofs/Search)
unfoldable pub search_from : ℕ → List MappedRegion → ℕ → ℕ → Result ℕ Refusal
search_from zero l n a = Err NoRegion
search_from (suc k) l n a = pick (ltb (a + n) user_end) (or_past (in_the_way a n l) (Ok a) (search_from k l n)) (Err NoRegion)

-- `find_free_region`: 'starts at next_addr and needs addr + size < 0x00007FFFFFFFF000'; 15 where there is none
abbrev pub find_free : List MappedRegion → ℕ → ℕ → Result ℕ Refusal
find_free l next n = search_from (suc (length l)) l n next
