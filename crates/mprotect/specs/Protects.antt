-- What mprotect does and does not (document 02, slip 1), on every board, whatever its words hold: tables that are shared or lead back to themselves too.
use Rattle.std.specs.Prelude.{Ok, Err, Result}
use Rattle.answer.specs.declared.Refusal.{Refusal}
use Rattle.answer.specs.declared.Refusal.TheVariants.{SizeZero, Unaligned, TooLarge, BrokenRecord, RegionNotFound}
use Rattle.std.specs.Prelude.{ℕ, ◌+◌, ◌*◌, ◌/◌, ◌%◌, ◌<◌, ◌≡◌, List, map, ◌⊎◌, ℤ, eqb, length, get_or, set}
use Rattle.bits.specs.Bit.{pick, flag}
use Rattle.allocator.specs.Round.{round_up}
use Rattle.answer.specs.Outcomes.{and_then}
use Rattle.entry.specs.Entry.{frame_of, with_writable}
use Rattle.bitmap.specs.Bitmap.{count}
use Rattle.frame.specs.Frames.{frames, with_counter}
use Rattle.paging.specs.Levels.{above_last}
use Rattle.paging.specs.Map.{Memory, memory, start_frame, total_of, left}
use Rattle.paging.specs.Calls.{translate, unmap_at}
use Rattle.paging.specs.Protect.{page_place}
use Rattle.slots.specs.Slots.{listed, store}
use Rattle.mappings.specs.declared.MappedRegion.{MappedRegion}
use Rattle.mappings.specs.Regions.{mapped_region, no_mapped_region}
use Rattle.user_space.specs.Flags.{writable}
use Rattle.user_space.specs.User.{User, user, UserDid}
use Rattle.munmap.specs.Calls.{munmap_of}
use Rattle.mprotect.specs.Calls.{mprotect_of}

-- word x of a memory
abbrev word_in : Memory → ℕ → ℕ
word_in m x = get_or m.words x 0

-- the word number of page v's last entry on a board, where `unmap_page` finds the page
abbrev pub place_in : Memory → ℕ → ℕ → Result ℕ Refusal
place_in m root v = page_place (above_last m) m.words (start_frame m) (total_of m) root v

-- a translation on the frames that a board lends, on any number of levels and from any root
abbrev pub translate_from : Memory → ℕ → ℕ → ℕ → Result ℕ Refusal
translate_from m levels root v = translate levels m.words (start_frame m) (total_of m) root v

-- 'each page of the region'
abbrev pub page_count : ℕ → ℕ
page_count size = round_up 12 size / 4096

-- 'each page .. that `unmap_page` finds': its place is that of the leaf which `unmap_page` clears
abbrev pub PlaceIsFound : Type 0
PlaceIsFound = (up : ℕ) (ws : List ℕ) (start total root v : ℕ) →
    unmap_at up ws start total root v
    ≡ and_then (page_place up ws start total root v) (λ n. left (Err n) ws) (λ x. left (Ok (frame_of (get_or ws x 0))) (set ws x 0))

-- a region as the call leaves it: 'stores the new prot'
abbrev pub with_new_prot : ℕ → ℤ → MappedRegion → MappedRegion
with_new_prot a prot r = mapped_region r.start r.size (pick (eqb r.start a) prot r.prot) r.flags

-- the same with a counter equal to the set bits: munmap is lent one, mprotect none
abbrev pub counter_right : User → User
counter_right u =
    user (memory u.mem.words (frames u.mem.frames.bits (with_counter u.mem.frames.fa (count u.mem.frames.bits (total_of u.mem))))) u.regions u.next

-- 'Answer 9 no longer occurs': met, or munmap's numbers
pub data ProtectAnswer : Result ℕ Refusal → Type 0 where
  is0 : ProtectAnswer (Ok 0)
  is10 : ProtectAnswer (Err BrokenRecord)
  is1 : ProtectAnswer (Err SizeZero)
  is2 : ProtectAnswer (Err Unaligned)
  is3 : ProtectAnswer (Err TooLarge)
  is16 : ProtectAnswer (Err RegionNotFound)

-- what a call is lent, and what it leaves
pub record ProtectsOnly (u : User) (root a size : ℕ) (prot : ℤ) (d : UserDid) : Type 0 where
  pub answers : ProtectAnswer d.answer
  -- 'takes a region's start and size as munmap does, in munmap's order of checks'
  pub ordered : d.answer ≡ (munmap_of (counter_right u) root a size).answer
  -- 'Frames .. do not move'
  pub frames : d.user.mem.frames ≡ u.mem.frames
  -- '.. and translated addresses do not move'
  pub translated : (levels from v : ℕ) → translate_from d.user.mem levels from v ≡ translate_from u.mem levels from v
  -- no word comes or goes. Each is as it was, or it is the last entry of a page of the region that `unmap_page` finds, and its WRITABLE follows prot
  pub number : length d.user.mem.words ≡ length u.mem.words
  pub words : (x : ℕ) → (word_in d.user.mem x ≡ word_in u.mem x)
      ⊎ ((word_in d.user.mem x ≡ with_writable (writable prot) (word_in u.mem x)) × ((j : ℕ) × ((j < page_count size) × (place_in u.mem root (a + j * 4096) ≡ Ok x))))
  -- no bit of a word but WRITABLE, bit 1, changes, and so the same pages are found
  pub others : (x : ℕ) → (word_in d.user.mem x % 2 ≡ word_in u.mem x % 2) × (word_in d.user.mem x / 4 ≡ word_in u.mem x / 4)
  pub found : (v : ℕ) → place_in d.user.mem root v ≡ place_in u.mem root v
  -- 'makes WRITABLE follow PROT_WRITE on each page of the region that `unmap_page` finds'
  pub follows : d.answer ≡ Ok 0 → (j x : ℕ) → j < page_count size → place_in d.user.mem root (a + j * 4096) ≡ Ok x → flag 1 (word_in d.user.mem x) ≡ writable prot
  -- '.. and stores the new prot': that of the region at a, and nothing else of the list
  pub stored : d.answer ≡ Ok 0 → listed d.user.regions ≡ map (with_new_prot a prot) (listed u.regions)
  -- nor of the slots behind it
  pub slots : d.answer ≡ Ok 0 → d.user.regions ≡ store no_mapped_region (map (with_new_prot a prot) (listed u.regions)) u.regions
  -- next_addr stays, and a refused call changes nothing
  pub next : d.user.next ≡ u.next
  pub refused : (n : Refusal) → d.answer ≡ Err n → d.user ≡ u

abbrev pub MprotectProtects : Type 0
MprotectProtects = (u : User) (root a size : ℕ) (prot : ℤ) → ProtectsOnly u root a size prot (mprotect_of u root a size prot)
