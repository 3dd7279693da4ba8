-- 'A board is started with 4 or 5 levels, 4 if none is named, as after a lone `init` .. Another number, at the start or in a lent record, is refused with 10': by every
-- call that is lent it, on every board, whatever it holds.
use Rattle.answer.specs.Numbers.{number_of}
use Rattle.answer.specs.declared.Refusal.TheVariants.{BrokenRecord}
use Rattle.std.specs.Prelude.{ℕ, ◌*◌, ◌^◌, ◌≤◌, ◌<◌, ◌≡◌, true, false, length}
use Rattle.answer.specs.declared.Line.{Line}
use Rattle.frame.specs.Frames.{is_levels}
use Rattle.paging.specs.Levels.{levels_of}
use Rattle.board.specs.Board.{Board, frame_count}
use Rattle.trace.specs.Trace.{AnyCall, region_call, mprotect_call, fault_call, second_fault_call, mark_cow_call, unmark_cow_call, is_cow_call, map_page_call}
use Rattle.trace.specs.Trace.{map_huge_call, unmap_page_call, translate_call, show_translate_call, user_may_call, allocate_call, deallocate_call, mark_allocated_call}
use Rattle.trace.specs.Trace.{is_allocated_call, free_frames_call, allocated_frames_call, total_frames_call, init_call, start_call, played, play}

-- what a call does with the number of levels: it goes by it, names it anew, or is not lent it
pub data Use : Type 0 where
  reads names none : Use

abbrev pub use_of : AnyCall → Use
use_of (region_call c) = reads
use_of (mprotect_call a size prot) = reads
use_of (fault_call a code) = reads
use_of (second_fault_call a code) = reads
use_of (mark_cow_call a) = none
use_of (unmark_cow_call a) = none
use_of (is_cow_call a) = none
use_of (map_page_call v p w u) = reads
use_of (map_huge_call v p size w u) = reads
use_of (unmap_page_call v) = reads
use_of (translate_call v) = reads
use_of (show_translate_call v) = reads
use_of (user_may_call v write) = reads
use_of allocate_call = reads
use_of (deallocate_call n) = reads
use_of (mark_allocated_call n) = reads
use_of (is_allocated_call n) = reads
use_of free_frames_call = reads
use_of allocated_frames_call = reads
use_of total_frames_call = reads
use_of (init_call from to) = names
use_of (start_call from to levels) = names

-- refused with 10
abbrev pub ten_line : Line
ten_line = record { number = number_of BrokenRecord; value = 0 }

-- on a board whose record names another number every call that goes by it is refused with 10, and changes nothing
abbrev pub OtherLevels : Type 0
OtherLevels = (b : Board) (c : AnyCall) → use_of c ≡ reads → is_levels (levels_of b.mem) ≡ false → play b c ≡ played ten_line b

-- no call but `init` and the start changes the number, nor do they where they are refused
abbrev pub LevelsKept : Type 0
LevelsKept = (b : Board) (c : AnyCall) → (use_of c ≡ names → (play b c).line.number ≡ 0 → ⊥) → levels_of (play b c).board.mem ≡ levels_of b.mem

-- a met `init` leaves 4, a met start the number that it was given; a start that is given another than 4 or 5 is refused with 10, and with 4 or 5 it is met where the
-- addresses are in order, the words suffice and there is a frame
pub record LevelsNamed : Type 0 where
  pub by_init : (b : Board) (from to : ℕ) → (play b (init_call from to)).line.number ≡ 0 → levels_of (play b (init_call from to)).board.mem ≡ 4
  pub by_start : (b : Board) (from to levels : ℕ) → (play b (start_call from to levels)).line.number ≡ 0
      → (is_levels levels ≡ true) × (levels_of (play b (start_call from to levels)).board.mem ≡ levels)
  pub other_start : (b : Board) (from to levels : ℕ) → is_levels levels ≡ false → play b (start_call from to levels) ≡ played ten_line b
  pub some_start : (b : Board) (from to levels : ℕ) → is_levels levels ≡ true → from ≤ to → to ≤ 2 ^ 52 → frame_count from to * 512 ≤ length b.mem.words
      → 0 < frame_count from to → (play b (start_call from to levels)).line.number ≡ 0
