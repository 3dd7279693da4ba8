-- mmap, in document 01's order of checks.
use Rattle.std.specs.Prelude.{Ok, Err, Result, Option, None, Some}
use Rattle.answer.specs.Numbers.{same_refusal}
use Rattle.answer.specs.declared.Refusal.{Refusal}
use Rattle.answer.specs.declared.Refusal.TheVariants.{SizeZero, Unaligned, TooLarge, BrokenRecord, MapPageFailed, ListFull}
use Rattle.std.specs.Prelude.{ℕ, ◌+◌, ◌/◌, Bool, true, not, List, ℤ, eqb, leb, length}
use Rattle.bits.specs.Bit.{pick, unless, both}
use Rattle.slots.specs.Slots.{listed, store}
use Rattle.allocator.specs.Round.{rounded, last_page}
use Rattle.paging.specs.Levels.{above_last}
use Rattle.paging.specs.Map.{Memory}
use Rattle.paging.specs.Pages.{Ran, map_pages, clear_pages}
use Rattle.mappings.specs.declared.MappedRegion.{MappedRegion}
use Rattle.mappings.specs.Regions.{mapped_region, no_mapped_region, starts, insert}
use Rattle.free_range.specs.Search.{in_the_way, or_past, find_free}
use Rattle.user_space.specs.User.{User, user, UserDid, user_did, sound_user, on_page}
use Rattle.user_space.specs.Flags.{writable, fixed}

-- a range that must end at most at 2^64 − 4096, else 3
abbrev pub in_range : ℕ → ℕ → Result ℕ Refusal → Result ℕ Refusal
in_range a n then = unless (leb (a + n) last_page) (Err TooLarge) then

-- MAP_FIXED: the address itself
abbrev pub fixed_at : ℕ → ℕ → Result ℕ Refusal
fixed_at a n = unless (on_page a) (Err Unaligned) (in_range a n (Ok a))

-- 'An aligned hint is taken if it overlaps no region, at any height; otherwise the search runs'
abbrev pub hinted_at : List MappedRegion → ℕ → ℕ → ℕ → Result ℕ Refusal
hinted_at l next a n = pick (on_page a) (in_range a n (or_past (in_the_way a n l) (Ok a) (λ _. find_free l next n))) (find_free l next n)

-- where n bytes go: '2, 3 for the range, 15'
unfoldable pub chosen : User → Option ℕ → ℕ → ℤ → Result ℕ Refusal
chosen s None n flags = find_free (listed s.regions) s.next n
chosen s (Some a) n flags = pick (fixed flags) (fixed_at a n) (hinted_at (listed s.regions) s.next a n)

-- '20: the 256 mmap regions are full and the key is not among them'
abbrev pub full : User → ℕ → Bool
full s a = both (leb 256 (length (listed s.regions))) (not (starts a (listed s.regions)))

-- 'pages are always user', and writable by PROT_WRITE
abbrev pub user_pages : ℕ → Memory → ℕ → ℕ → ℕ → ℤ → Ran
user_pages up m root a n prot = map_pages up (writable prot) true m root a 0 (n / 4096)

-- 11: 'pages before i stay mapped, no region'; 13: 'those entries are cleared'
abbrev pub leftover : ℕ → ℕ → ℕ → Refusal → ℕ → Memory → Memory
leftover up root a e done m = pick (same_refusal e MapPageFailed) (clear_pages up m root a done) m

-- the region at a once its pages are mapped, `done` of them before a refusal
abbrev pub user_mapped : ℕ → User → ℕ → ℕ → ℕ → ℤ → ℤ → Result ℕ Refusal → ℕ → Memory → UserDid
user_mapped up s root a n prot flags (Ok x) done m =
    user_did (Ok a) (user m (store no_mapped_region (insert (mapped_region a n prot flags) (listed s.regions)) s.regions) (a + n))
user_mapped up s root a n prot flags (Err e) done m = user_did (Err e) (user (leftover up root a e done m) s.regions s.next)

abbrev pub map_region : ℕ → User → ℕ → ℕ → ℕ → ℤ → ℤ → UserDid
map_region up s root a n prot flags =
    user_mapped up s root a n prot flags (user_pages up s.mem root a n prot).walked (user_pages up s.mem root a n prot).done (user_pages up s.mem root a n prot).mem

abbrev pub user_placed : ℕ → User → ℕ → ℕ → ℤ → ℤ → Result ℕ Refusal → UserDid
user_placed up s root n prot flags (Ok a) = pick (full s a) (user_did (Err ListFull) s) (map_region up s root a n prot flags)
user_placed up s root n prot flags (Err e) = user_did (Err e) s

abbrev pub chosen_region : ℕ → User → ℕ → Option ℕ → ℕ → ℤ → ℤ → UserDid
chosen_region up s root hint n prot flags = user_placed up s root n prot flags (chosen s hint n flags)

abbrev pub user_sized : ℕ → User → ℕ → Option ℕ → ℤ → ℤ → Result ℕ Refusal → UserDid
user_sized up s root hint prot flags (Ok n) = chosen_region up s root hint n prot flags
user_sized up s root hint prot flags (Err e) = user_did (Err e) s

-- 'mmap: 1, 3 for the size, 2, 3 for the range, 15, 20', after 10
unfoldable pub mmap : ℕ → User → ℕ → Option ℕ → ℕ → ℤ → ℤ → UserDid
mmap up s root hint size prot flags =
    unless (sound_user s root) (user_did (Err BrokenRecord) s)
    (pick (eqb size 0) (user_did (Err SizeZero) s)
    (user_sized up s root hint prot flags (rounded size)))

-- on a board, by its own levels
abbrev pub mmap_of : User → ℕ → Option ℕ → ℕ → ℤ → ℤ → UserDid
mmap_of s root hint size prot flags = mmap (above_last s.mem) s root hint size prot flags
