-- Demand 3, the release paper, as one statement about lists of calls (Calls.antt) from a board's start (crate board). What 'live', 'the window book' and 'cut' mean is
-- defined here from calls and answers, and 'page tables' from the words, as document 01 does under 'The release paper'.
use Rattle.std.specs.Prelude.{Ok, Err, Result, None, Some}
use Rattle.answer.specs.declared.Refusal.{Refusal}
use Rattle.answer.specs.declared.Refusal.TheVariants.{NotMapped}
use Rattle.std.specs.Prelude.{ℕ, zero, suc, ◌+◌, ◌-◌, ◌*◌, ◌/◌, ◌^◌, ◌≤◌, ◌<◌, ◌≡◌, Bool, true, false, not, ◌⊎◌, List, [], ◌∷◌, ◌++◌, eqb, leb, ltb, length, take, replicate}
use Rattle.bits.specs.Bit.{pick, both}
use Rattle.allocator.specs.Round.{rounded, round_up}
use Rattle.entry.specs.Entry.{indices}
use Rattle.bitmap.specs.Bitmap.{marked as mark_of}
use Rattle.frame.specs.Frames.{is_levels}
use Rattle.paging.specs.Levels.{levels_of}
use Rattle.paging.specs.Walk.{reach}
use Rattle.paging.specs.Map.{start_frame, total_of}
use Rattle.paging.specs.Calls.{translate}
use Rattle.slots.specs.Slots.{listed, every}
use Rattle.regions.specs.declared.VMRegion.{VMRegion}
use Rattle.regions.specs.Regions.{window, no_vm_region, vm_region, joins}
use Rattle.user_space.specs.Flags.{fixed}
use Rattle.user_space.specs.User.{on_page}
use Rattle.board.specs.Board.{Board, board_did, start}
use Rattle.release.specs.Calls.{Call, vmalloc_call, vfree_call, mmap_call, munmap_call, after, Event, events, is_met, turned_away}

-- ---- the two conditions

-- 'no call was turned away with 11 or 13'
abbrev pub none_turned_away : List Event → Bool
none_turned_away es = every (λ e. not (turned_away e.answer)) es

-- 'every fixed or page-aligned hinted range ends at or below 2^47', and 'on a 5-level board the fixed and hinted ranges .. may reach 2^56'
abbrev pub top_of : ℕ → ℕ
top_of levels = pick (eqb levels 5) (2 ^ 56) (2 ^ 47)

-- the ranges below it are those of the lower half of the top table: of their addresses the top index, bits 9 × levels + 3 to 9 × levels + 11, is below 256, and no bit
-- above it is set
abbrev pub LowHalf : Type 0
LowHalf =
    (levels v : ℕ) → is_levels levels ≡ true
    → (v < top_of levels → v / 2 ^ (9 * levels + 3) < 256) × (v / 2 ^ (9 * levels + 3) < 256 → v < top_of levels)

-- whether a call's range ends at or below `top`: it 'runs from the given address over the rounded size; it counts where its mmap is met or turned away
-- with 11 or 13'
abbrev pub low_range : ℕ → Call → Bool
low_range top (vmalloc_call size) = true
low_range top (vfree_call a) = true
low_range top (mmap_call None size prot flags) = true
low_range top (mmap_call (Some a) size prot flags) = pick (pick (fixed flags) true (on_page a)) (leb (a + round_up 12 size) top) true
low_range top (munmap_call a size) = true

abbrev pub counts : Result ℕ Refusal → Bool
counts w = pick (is_met w) true (turned_away w)

abbrev pub low_ranges : ℕ → List Event → Bool
low_ranges top es = every (λ e. pick (counts e.answer) (low_range top e.call) true) es

-- ---- live regions

-- a region of the kernel's (vmalloc) or the user's (mmap): its start and its rounded size
pub data Region : Type 0 where
  kernel_region : ℕ → ℕ → Region
  user_region : ℕ → ℕ → Region

abbrev pub start_is : Region → ℕ
start_is (kernel_region a n) = a
start_is (user_region a n) = a

abbrev pub size_is : Region → ℕ
size_is (kernel_region a n) = n
size_is (user_region a n) = n

-- the live regions without the kernel's, or the user's, at a
unfoldable pub drop_kernel : ℕ → List Region → List Region
drop_kernel a [] = []
drop_kernel a (kernel_region s n ∷ l) = pick (eqb s a) l (kernel_region s n ∷ drop_kernel a l)
drop_kernel a (user_region s n ∷ l) = user_region s n ∷ drop_kernel a l

unfoldable pub drop_user : ℕ → List Region → List Region
drop_user a [] = []
drop_user a (user_region s n ∷ l) = pick (eqb s a) l (user_region s n ∷ drop_user a l)
drop_user a (kernel_region s n ∷ l) = kernel_region s n ∷ drop_user a l

-- 'A region is live from the met vmalloc or mmap that answers its start to the met vfree or munmap of that start'
abbrev pub live_step : List Region → Call → Result ℕ Refusal → List Region
live_step l (vmalloc_call size) (Ok a) = kernel_region a (round_up 12 size) ∷ l
live_step l (vmalloc_call size) (Err n) = l
live_step l (vfree_call a) (Ok x) = drop_kernel a l
live_step l (vfree_call a) (Err n) = l
live_step l (mmap_call hint size prot flags) (Ok a) = user_region a (round_up 12 size) ∷ l
live_step l (mmap_call hint size prot flags) (Err n) = l
live_step l (munmap_call a size) (Ok x) = drop_user a l
live_step l (munmap_call a size) (Err n) = l

unfoldable pub live_from : List Region → List Event → List Region
live_from l [] = l
live_from l (e ∷ es) = live_from (live_step l e.call e.answer) es

abbrev pub live : List Event → List Region
live es = live_from [] es

-- all regions ever live
abbrev pub born_by : Call → Result ℕ Refusal → List Region
born_by (vmalloc_call size) (Ok a) = kernel_region a (round_up 12 size) ∷ []
born_by (vmalloc_call size) (Err n) = []
born_by (vfree_call a) w = []
born_by (mmap_call hint size prot flags) (Ok a) = user_region a (round_up 12 size) ∷ []
born_by (mmap_call hint size prot flags) (Err n) = []
born_by (munmap_call a size) w = []

unfoldable pub ever_live : List Event → List Region
ever_live [] = []
ever_live (e ∷ es) = born_by e.call e.answer ++ ever_live es

-- ---- orders of releasing

-- one call that releases a region: 'munmap with any size that rounds to the region's'
pub data Releases : Region → Call → Type 0 where
  by_vfree : {a n : ℕ} → Releases (kernel_region a n) (vfree_call a)
  by_munmap : {a n size : ℕ} → rounded size ≡ Ok n → Releases (user_region a n) (munmap_call a size)

-- the same regions in another order
pub data Reordered : List Region → List Region → Type 0 where
  none : Reordered [] []
  keep : {r : Region} {l m : List Region} → Reordered l m → Reordered (r ∷ l) (r ∷ m)
  swap : {r s : Region} {l : List Region} → Reordered (r ∷ s ∷ l) (s ∷ r ∷ l)
  then : {l m k : List Region} → Reordered l m → Reordered m k → Reordered l k

-- a release for each region of a list
pub data EachReleased : List Region → List Call → Type 0 where
  done : EachReleased [] []
  next : {r : Region} {c : Call} {l : List Region} {cs : List Call} → Releases r c → EachReleased l cs → EachReleased (r ∷ l) (c ∷ cs)

-- 'orders of releasing all live regions, one call each'
abbrev pub Order : List Region → List Call → Type 0
Order l cs = (m : List Region) × Reordered l m × EachReleased m cs

-- ---- page tables

-- 'Page tables are the frames that present entries above the last level reach from the root', on a board of so many levels
pub record PageTable (levels : ℕ) (b : Board) (f : ℕ) : Type 0 where
  pub path : List ℕ
  pub proper : 1 ≤ length path
  pub above : length path < levels
  pub reached : reach b.mem.words (start_frame b.mem) (total_of b.mem) b.root path ≡ Ok f

-- the pages of a region: n of them from v on
unfoldable pub pages_from : ℕ → ℕ → List ℕ
pages_from v zero = []
pages_from v (suc n) = v ∷ pages_from (v + 4096) n

abbrev pub pages_of : Region → List ℕ
pages_of r = pages_from (start_is r) (size_is r / 4096)

-- the runs of 1 .. n leading indices of a path
unfoldable pub runs_to : ℕ → List ℕ → List (List ℕ)
runs_to zero p = []
runs_to (suc n) p = runs_to n p ++ (take (suc n) p ∷ [])

-- 'run of leading indices, neither empty nor whole', of a page
abbrev pub runs_of : ℕ → ℕ → List (List ℕ)
runs_of levels v = runs_to (levels - 1) (indices levels v)

unfoldable pub concat : {A B : Type 0} → (A → List B) → List A → List B
concat f [] = []
concat f (a ∷ l) = f a ++ concat f l

-- the runs of 'pages of all regions ever live'
abbrev pub leading_runs : ℕ → List Event → List (List ℕ)
leading_runs levels es = concat (runs_of levels) (concat pages_of (ever_live es))

-- whether two runs are one
unfoldable pub same_run : List ℕ → List ℕ → Bool
same_run [] [] = true
same_run [] (j ∷ q) = false
same_run (i ∷ p) [] = false
same_run (i ∷ p) (j ∷ q) = both (eqb i j) (same_run p q)

unfoldable pub among : List ℕ → List (List ℕ) → Bool
among p [] = false
among p (q ∷ l) = pick (same_run p q) true (among p l)

-- the different ones of some runs, each once
unfoldable pub different : List (List ℕ) → List (List ℕ)
different [] = []
different (p ∷ l) = pick (among p l) (different l) (p ∷ different l)

-- ---- the window book: its parts stand in the order of their addresses (`BookRises`), so that adjoining ones are neighbours

-- 'A met vmalloc takes the free part at its answer. If it exceeds the rounded size, the tail becomes a free part while the book has fewer than 256; at 256 the part is
-- cut, the tail struck out'
abbrev pub tail_part : ℕ → Bool → VMRegion → List VMRegion → List VMRegion
tail_part n room r l = pick (ltb n r.size) (pick room (vm_region (r.start + n) (r.size - n) false ∷ l) l) l

unfoldable pub take_part : ℕ → ℕ → Bool → List VMRegion → List VMRegion
take_part a n room [] = []
take_part a n room (r ∷ l) =
    pick (both (not r.used) (eqb r.start a)) (vm_region a n true ∷ tail_part n room r l) (r ∷ take_part a n room l)

-- 'A met vfree frees its part and joins all adjoining free parts'
unfoldable pub free_part : ℕ → List VMRegion → List VMRegion
free_part a [] = []
free_part a (r ∷ l) = pick (both r.used (eqb r.start a)) (vm_region a r.size false ∷ l) (r ∷ free_part a l)

abbrev pub join_onto : VMRegion → List VMRegion → List VMRegion
join_onto r [] = r ∷ []
join_onto r (s ∷ l) = pick (joins r s) (vm_region r.start (r.size + s.size) false ∷ l) (r ∷ s ∷ l)

unfoldable pub join_parts : List VMRegion → List VMRegion
join_parts [] = []
join_parts (r ∷ l) = join_onto r (join_parts l)

-- 'Nothing else changes it'
abbrev pub book_step : List VMRegion → Call → Result ℕ Refusal → List VMRegion
book_step k (vmalloc_call size) (Ok a) = take_part a (round_up 12 size) (ltb (length k) 256) k
book_step k (vmalloc_call size) (Err n) = k
book_step k (vfree_call a) (Ok x) = join_parts (free_part a k)
book_step k (vfree_call a) (Err n) = k
book_step k (mmap_call hint size prot flags) w = k
book_step k (munmap_call a size) w = k

unfoldable pub book_from : List VMRegion → List Event → List VMRegion
book_from k [] = k
book_from k (e ∷ es) = book_from (book_step k e.call e.answer) es

-- 'It starts as one free part, the kernel (vmalloc) window'
abbrev pub book : List Event → List VMRegion
book es = book_from (window ∷ []) es

-- whether the free part at a exceeds n bytes
unfoldable pub exceeds : ℕ → ℕ → List VMRegion → Bool
exceeds a n [] = false
exceeds a n (r ∷ l) = pick (both (not r.used) (eqb r.start a)) (ltb n r.size) (exceeds a n l)

-- a vmalloc that 'cut a larger region while the vmalloc list held 256'
abbrev pub cuts : List VMRegion → Call → Result ℕ Refusal → Bool
cuts k (vmalloc_call size) (Ok a) = both (leb 256 (length k)) (exceeds a (round_up 12 size) k)
cuts k (vmalloc_call size) (Err n) = false
cuts k (vfree_call a) w = false
cuts k (mmap_call hint size prot flags) w = false
cuts k (munmap_call a size) w = false

unfoldable pub uncut_from : List VMRegion → List Event → Bool
uncut_from k [] = true
uncut_from k (e ∷ es) = both (not (cuts k e.call e.answer)) (uncut_from (book_step k e.call e.answer) es)

abbrev pub never_cut : List Event → Bool
never_cut es = uncut_from (window ∷ []) es

-- ---- the statement

-- what holds of the board e, started with so many levels, that is left when all regions are released which the events es left live
pub record Ended (levels : ℕ) (es : List Event) (e : Board) : Type 0 where
  -- it has them still
  pub as_started : levels_of e.mem ≡ levels
  -- 'There no address translates'
  pub no_address : (v : ℕ) → translate levels e.mem.words (start_frame e.mem) (total_of e.mem) e.root v ≡ Err NotMapped
  -- 'exactly the root and the page tables are still marked': the root is the first of the lent frames
  pub root_first : e.root ≡ start_frame e.mem
  pub root_marked : mark_of e.mem.frames.bits 0 ≡ 1
  pub tables_marked : (f : ℕ) → PageTable levels e f
      → (start_frame e.mem ≤ f) × (f < start_frame e.mem + total_of e.mem) × (mark_of e.mem.frames.bits (f - start_frame e.mem) ≡ 1)
  pub no_other_marked : (f : ℕ) → f < total_of e.mem → mark_of e.mem.frames.bits f ≡ 1 → (f ≡ 0) ⊎ PageTable levels e (start_frame e.mem + f)
  -- 'counter = 1 + page tables', where there is 'one for each different run of leading indices .. of pages of all regions ever live': each of these runs comes to a page
  -- table, each page table lies at such a run, and at one alone, so that there are as many page tables as different runs; and the root is none of them
  pub counter : e.mem.frames.fa.allocated ≡ 1 + length (different (leading_runs levels es))
  pub run_has_table : (p : List ℕ) → among p (leading_runs levels es) ≡ true → (f : ℕ) × (reach e.mem.words (start_frame e.mem) (total_of e.mem) e.root p ≡ Ok f)
  pub table_has_run : (f : ℕ) (t : PageTable levels e f) → among t.path (leading_runs levels es) ≡ true
  pub one_run_each : (f : ℕ) (t t' : PageTable levels e f) → t.path ≡ t'.path
  pub root_no_table : PageTable levels e e.root → ⊥
  -- 'if no vmalloc cut a larger region while the vmalloc list held 256, the kernel window is one free region again'
  pub one_window : never_cut es ≡ true → e.kernel ≡ record { slots = window ∷ replicate 255 no_vm_region; count = 1 }

-- what holds of the board b that the events es led to, for two orders rs and rs' of releasing; each may stand in the other's place
pub record Released (levels : ℕ) (b : Board) (es : List Event) (rs rs' : List Call) : Type 0 where
  -- 'each release is met'
  pub met : every (λ e. is_met e.answer) (events b rs) ≡ true
  -- 'both end in one and the same state, every lent word and record equal' (the order of the vmalloc slots too, after a cut as well)
  pub same : after b rs ≡ after b rs'
  pub ended : Ended levels es (after b rs)

-- 'For every list of vmalloc, vfree, mmap and munmap calls, refused ones included, from a fresh board': 'what any met start leaves', whatever the lent parts held before; on
-- boards of so many levels
abbrev pub Demand3At : ℕ → Type 0
Demand3At levels =
    (old fresh : Board) (from to : ℕ) → start old from to levels ≡ board_did (Ok 0) fresh
    → (cs : List Call) → none_turned_away (events fresh cs) ≡ true → low_ranges (top_of levels) (events fresh cs) ≡ true
    → (rs rs' : List Call) → Order (live (events fresh cs)) rs → Order (live (events fresh cs)) rs'
    → Released levels (after fresh cs) (events fresh cs) rs rs'

-- of four levels or of five: no start is met with another number
abbrev pub Demand3 : Type 0
Demand3 = (levels : ℕ) → Demand3At levels

-- 'While no call was turned away with 11 or 13, the vmalloc list holds exactly the book's parts, free and used alike' (in the order of their addresses)
abbrev pub BookHolds : Type 0
BookHolds =
    (old fresh : Board) (from to levels : ℕ) → start old from to levels ≡ board_did (Ok 0) fresh
    → (cs : List Call) → none_turned_away (events fresh cs) ≡ true
    → listed (after fresh cs).kernel ≡ book (events fresh cs)

-- whether parts stand in the order of their addresses, each at or behind the end of the one before it, the first at `from` or above
unfoldable pub parts_rise : ℕ → List VMRegion → Bool
parts_rise from [] = true
parts_rise from (r ∷ l) = both (leb from r.start) (parts_rise (r.start + r.size) l)

-- the order in which the book's parts are written is that of their addresses
abbrev pub BookRises : Type 0
BookRises =
    (old fresh : Board) (from to levels : ℕ) → start old from to levels ≡ board_did (Ok 0) fresh
    → (cs : List Call) → none_turned_away (events fresh cs) ≡ true
    → parts_rise 0 (book (events fresh cs)) ≡ true
