-- Document 02, slip 5, 'Freeing says what it found', on every board, whatever its words hold: tables that are shared or lead back to themselves too.
use Rattle.std.specs.Prelude.{Ok, Err, Result}
use Rattle.answer.specs.declared.Refusal.{Refusal}
use Rattle.std.specs.Prelude.{ℕ, ◌-◌, ◌/◌, ◌≤◌, ◌≡◌, Bool, true, false, ◌↔◌}
use Rattle.answer.specs.declared.Line.{Line}
use Rattle.frame.specs.declared.Tally.{Tally}
use Rattle.frame.specs.Frames.{inside, sound, without_mark, frame_marked}
use Rattle.frame.specs.Found.{none_found, all_found}
use Rattle.paging.specs.Map.{Memory, start_frame, total_of, out}
use Rattle.paging.specs.Levels.{above_last}
use Rattle.paging.specs.Pages.{free_page}
use Rattle.paging.specs.Found.{page_found, unmapped_of, Tells}
use Rattle.slots.specs.Slots.{listed}
use Rattle.regions.specs.Regions.{used_size}
use Rattle.vmalloc.specs.Calls.{vfree_found_of}
use Rattle.munmap.specs.Calls.{munmap_found_of}
use Rattle.mprotect.specs.Protects.{page_count}
use Rattle.cow.specs.Marked.{page_of}
use Rattle.error_code.specs.ErrorCode.{is_present, is_user}
use Rattle.copying.specs.Copying.{raw_frame, copy_page, map_frame}
use Rattle.fault.specs.Faults.{faulting, handle_fault_of, fault_found_of}
use Rattle.board.specs.Board.{Board}
use Rattle.release.specs.Calls.{vfree_call, munmap_call, kernel_of, user_of}
use Rattle.release.specs.Calls.{play as play_regions}
use Rattle.trace.specs.Trace.{region_call, fault_call, deallocate_call, Played, played, with_frames, play}
use Rattle.trace.specs.Levels.{ten_line}

-- ---- '`deallocate_frame` answers one of three: freed, already free, not on this board'

-- the line of a met call with value x
abbrev pub met_line : ℕ → Line
met_line x = record { number = 0; value = x }

-- whether frame n is one of the board's, and whether it is marked
abbrev pub on_board : Board → ℕ → Bool
on_board b n = inside (start_frame b.mem) (total_of b.mem) n

abbrev pub marked_on : Board → ℕ → Bool
marked_on b n = frame_marked b.mem.frames n

-- frame n given back on a board whose record is not broken, and what that comes to
pub record OneOfThree (b : Board) (n : ℕ) (d : Played) : Type 0 where
  -- 'freed', value 0: a marked frame of the board
  pub freed : (d.line ≡ met_line 0) ↔ ((on_board b n ≡ true) × (marked_on b n ≡ true))
  -- 'already free', value 1
  pub already : (d.line ≡ met_line 1) ↔ ((on_board b n ≡ true) × (marked_on b n ≡ false))
  -- 'not on this board', value 2
  pub off : (d.line ≡ met_line 2) ↔ (on_board b n ≡ false)
  -- 'The words and lists left behind are as before': a frame that is freed loses its mark, and nothing else changes
  pub mark : d.line ≡ met_line 0 → d.board ≡ with_frames b (without_mark b.mem.frames (n - start_frame b.mem))
  pub same : (d.line ≡ met_line 0 → ⊥) → d.board ≡ b

-- ---- 'munmap and vfree return how many frames fell in each. The copy-on-write path returns its one'

abbrev pub vfree_finds : Board → ℕ → Tally
vfree_finds b a = vfree_found_of (kernel_of b) b.root a

abbrev pub munmap_finds : Board → ℕ → ℕ → Tally
munmap_finds b a size = munmap_found_of (user_of b) b.root a size

abbrev pub fault_finds : Board → ℕ → ℕ → Tally
fault_finds b a code = fault_found_of (faulting b.mem b.marked) b.root a code

-- what the three calls answer: a value where they are met
abbrev pub vfree_answer : Board → ℕ → Result ℕ Refusal
vfree_answer b a = (play_regions b (vfree_call a)).answer

abbrev pub munmap_answer : Board → ℕ → ℕ → Result ℕ Refusal
munmap_answer b a size = (play_regions b (munmap_call a size)).answer

abbrev pub fault_answer : Board → ℕ → ℕ → Result ℕ Refusal
fault_answer b a code = (handle_fault_of (faulting b.mem b.marked) b.root a code).answer

-- n pages from a on, released by a met vfree or munmap with tally t: a board, and the one that is left
pub record PagesTold (b left : Board) (a n : ℕ) (t : Tally) : Type 0 where
  -- 'the three numbers add up to the pages that were unmapped'
  pub sum : all_found t ≡ unmapped_of (above_last b.mem) b.mem.words (start_frame b.mem) (total_of b.mem) b.root a n
  -- freed are the marks that are gone, not on this board the entries gone that named no frame of it, and already free the other entries gone
  pub tells : Tells b.mem left.mem t

-- a met copy of page v with tally t, from memory m to the one that is left
pub record CopyTold (up root v : ℕ) (user : Bool) (m left : Memory) (t : Tally) : Type 0 where
  -- the new frame, and then the copy through the temporary page, whose unmappings stand here: 'the temporary page aside'
  pub frame : ℕ
  pub taken : Memory
  pub takes : raw_frame m ≡ out (Ok frame) taken
  pub copied : Memory
  pub copies : (x : ℕ) × (copy_page up taken root v frame ≡ out (Ok x) copied)
  -- 'its one, or none where the remapping unmapped no page'
  pub one : t ≡ page_found up copied root v
  pub most : all_found t ≤ 1
  pub sum : all_found t ≡ unmapped_of up copied.words (start_frame copied) (total_of copied) root v 1
  pub tells : Tells copied (free_page up copied root v) t
  -- .. and the page is mapped to the new frame
  pub remaps : left ≡ (map_frame up (free_page up copied root v) root v frame true user).mem

-- ---- the request

pub record FoundTells : Type 0 where
  pub deallocated : (b : Board) (n : ℕ) → sound b.mem.frames ≡ true → OneOfThree b n (play b (deallocate_call n))
  pub broken : (b : Board) (n : ℕ) → sound b.mem.frames ≡ false → play b (deallocate_call n) ≡ played ten_line b
  -- 'In a met call the three numbers add up to the pages that were unmapped': of a vfree, among the pages of its used region of n bytes
  pub vfree : (b : Board) (a x : ℕ) → vfree_answer b a ≡ Ok x
      → (n : ℕ) × ((used_size a (listed b.kernel) ≡ Ok n) × PagesTold b (play b (region_call (vfree_call a))).board a (n / 4096) (vfree_finds b a))
  -- .. of a munmap, among those of the rounded size
  pub munmap : (b : Board) (a size x : ℕ) → munmap_answer b a size ≡ Ok x
      → PagesTold b (play b (region_call (munmap_call a size))).board a (page_count size) (munmap_finds b a size)
  -- .. and of a met fault at a page that is present, which is a copy
  pub copy : (b : Board) (a code x : ℕ) → is_present code ≡ true → fault_answer b a code ≡ Ok x
      → CopyTold (above_last b.mem) b.root (page_of a) (is_user code) b.mem (play b (fault_call a code)).board.mem (fault_finds b a code)
  -- a page on demand frees nothing
  pub demand : (b : Board) (a code : ℕ) → is_present code ≡ false → fault_finds b a code ≡ none_found
  -- a refused call returns none, a copy too whose remapping is refused with 18 after the old frame was freed
  pub vfree_refused : (b : Board) (a : ℕ) (e : Refusal) → vfree_answer b a ≡ Err e → vfree_finds b a ≡ none_found
  pub munmap_refused : (b : Board) (a size : ℕ) (e : Refusal) → munmap_answer b a size ≡ Err e → munmap_finds b a size ≡ none_found
  pub fault_refused : (b : Board) (a code : ℕ) (e : Refusal) → fault_answer b a code ≡ Err e → fault_finds b a code ≡ none_found
  -- two memories decide a tally
  pub decided : (m left : Memory) (s t : Tally) → Tells m left s → Tells m left t → s ≡ t
  -- 'The key program still prints value 0', of met calls and of refused ones
  pub vfree_prints : (b : Board) (a : ℕ) → (play b (region_call (vfree_call a))).line.value ≡ 0
  pub munmap_prints : (b : Board) (a size : ℕ) → (play b (region_call (munmap_call a size))).line.value ≡ 0
  pub fault_prints : (b : Board) (a code : ℕ) → (play b (fault_call a code)).line.value ≡ 0
