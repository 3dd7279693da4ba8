-- Every public call on a board: document 01's number and value of its answer, and the board that it leaves. For vmalloc, vfree, mmap and munmap this is the play of
-- the release paper (crate release).
use Rattle.std.specs.Prelude.{Result, ⊤}
use Rattle.answer.specs.declared.Refusal.{Refusal}
use Rattle.std.specs.Prelude.{ℕ, Bool, ℤ}
use Rattle.answer.specs.declared.Line.{Line}
use Rattle.answer.specs.Numbers.{answer_line, count_line, flag_line}
use Rattle.answer.specs.Outcomes.{as_answer}
use Rattle.address.specs.Address.{virt_line, phys_line, frame_line, as_frame, as_phys, as_virt}
use Rattle.frame.specs.Frames.{Frames, init, allocate, deallocate, mark_allocated, is_allocated, free_frames, allocated_frames, total_frames}
use Rattle.frame.specs.Frames.{FramesDid}
use Rattle.frame.specs.Found.{found_line}
use Rattle.paging.specs.declared.HugePageSize.{HugePageSize}
use Rattle.paging.specs.Map.{Memory, memory, start_frame, total_of, Out, Left}
use Rattle.paging.specs.Calls.{translate, map_page_of, map_huge_of, unmap_page}
use Rattle.paging.specs.Levels.{levels_of}
use Rattle.paging.specs.Working.{show_translate}
use Rattle.paging.specs.User.{user_may}
use Rattle.slots.specs.Slots.{Slots}
use Rattle.mprotect.specs.Calls.{mprotect_of}
use Rattle.cow.specs.Marked.{MarkedDid, mark_cow, unmark_cow, is_cow}
use Rattle.fault.specs.Faults.{Faulting, faulting, handle_fault_of}
use Rattle.fault.specs.Faults.{FaultDid}
use Rattle.handler.specs.Handler.{handle_fault_second_of}
use Rattle.board.specs.Board.{Board, BoardDid, start}
use Rattle.release.specs.Calls.{Call, vmalloc_call, vfree_call, mmap_call, munmap_call, user_of, by_user}
use Rattle.release.specs.Calls.{play as play_regions}

pub data AnyCall : Type 0 where
  -- vmalloc, vfree, mmap and munmap
  region_call : Call → AnyCall
  -- mprotect: address, size, prot
  mprotect_call : ℕ → ℕ → ℤ → AnyCall
  -- both fault paths: address, error code
  fault_call second_fault_call : ℕ → ℕ → AnyCall
  -- mark, unmark, is copy-on-write: address
  mark_cow_call unmark_cow_call is_cow_call : ℕ → AnyCall
  -- map_page and map_huge_page: virtual and physical address, (size,) writable, user
  map_page_call : ℕ → ℕ → Bool → Bool → AnyCall
  map_huge_call : ℕ → ℕ → HugePageSize → Bool → Bool → AnyCall
  -- unmap_page and translate: address
  unmap_page_call translate_call : ℕ → AnyCall
  -- translate with its working: address
  show_translate_call : ℕ → AnyCall
  -- may user code read an address, or write it?
  user_may_call : ℕ → Bool → AnyCall
  -- the frame allocator's: a frame's number, or none
  allocate_call : AnyCall
  deallocate_call mark_allocated_call is_allocated_call : ℕ → AnyCall
  free_frames_call allocated_frames_call total_frames_call : AnyCall
  -- `FrameAllocator::init`: first and last address, and the board's start: these two and the number of levels
  init_call : ℕ → ℕ → AnyCall
  start_call : ℕ → ℕ → ℕ → AnyCall

-- what a call prints, and the board that it leaves
pub record Played : Type 0 where
  pub line : Line
  pub board : Board

abbrev pub played : Line → Board → Played
played l b = record { line = l; board = b }

-- the board with what a call was lent of it
abbrev pub with_memory : Board → Memory → Board
with_memory b m = record { mem = m; root = b.root; kernel = b.kernel; user = b.user; next = b.next; marked = b.marked }

abbrev pub with_frames : Board → Frames → Board
with_frames b fr = with_memory b (memory b.mem.words fr)

abbrev pub with_marked : Board → Slots ℕ → Board
with_marked b s = record { mem = b.mem; root = b.root; kernel = b.kernel; user = b.user; next = b.next; marked = s }

abbrev pub with_faulting : Board → Faulting → Board
with_faulting b f = record { mem = f.mem; root = b.root; kernel = b.kernel; user = b.user; next = b.next; marked = f.marked }

-- vmalloc and mmap answer an address, vfree and munmap none
abbrev pub regions_line : Call → Result ℕ Refusal → Line
regions_line (vmalloc_call size) w = virt_line (as_virt w)
regions_line (vfree_call a) w = answer_line (as_answer w)
regions_line (mmap_call hint size prot flags) w = virt_line (as_virt w)
regions_line (munmap_call a size) w = answer_line (as_answer w)

-- what the result of each kind of call comes to
abbrev pub by_regions : Call → BoardDid → Played
by_regions c d = played (regions_line c d.answer) d.board

abbrev pub by_fault : Board → FaultDid → Played
by_fault b d = played (answer_line (as_answer d.answer)) (with_faulting b d.state)

abbrev pub by_step : Board → Out → Played
by_step b o = played (answer_line (as_answer o.walked)) (with_memory b o.mem)

abbrev pub by_unmap : Board → Left → Played
by_unmap b l = played (frame_line (as_frame l.walked)) (with_memory b (memory l.words b.mem.frames))

abbrev pub by_mark : Board → MarkedDid → Played
by_mark b d = played (answer_line d.answer) (with_marked b d.marked)

abbrev pub by_frames : Board → FramesDid (Result ⊤ Refusal) → Played
by_frames b d = played (answer_line d.answer) (with_frames b d.frames)

-- mprotect and the start, which answer no value
abbrev pub by_board : BoardDid → Played
by_board d = played (answer_line (as_answer d.answer)) d.board

-- a call on a board
abbrev pub play : Board → AnyCall → Played
play b (region_call c) = by_regions c (play_regions b c)
play b (mprotect_call a size prot) = by_board (by_user b (mprotect_of (user_of b) b.root a size prot))
play b (fault_call a code) = by_fault b (handle_fault_of (faulting b.mem b.marked) b.root a code)
play b (second_fault_call a code) = by_step b (handle_fault_second_of b.mem b.root a code)
play b (mark_cow_call a) = by_mark b (mark_cow b.marked a)
play b (unmark_cow_call a) = by_mark b (unmark_cow b.marked a)
play b (is_cow_call a) = played (flag_line (is_cow b.marked a)) b
play b (map_page_call v p w u) = by_step b (map_page_of b.mem b.root v p w u)
play b (map_huge_call v p size w u) = by_step b (map_huge_of b.mem b.root v p size w u)
play b (unmap_page_call v) = by_unmap b (unmap_page (levels_of b.mem) b.mem.words (start_frame b.mem) (total_of b.mem) b.root v)
play b (translate_call v) = played (phys_line (as_phys (translate (levels_of b.mem) b.mem.words (start_frame b.mem) (total_of b.mem) b.root v))) b
play b (show_translate_call v) = played (phys_line (as_phys (show_translate (levels_of b.mem) b.mem.words (start_frame b.mem) (total_of b.mem) b.root v).answer)) b
play b (user_may_call v write) = played (flag_line (user_may (levels_of b.mem) b.mem.words (start_frame b.mem) (total_of b.mem) b.root v write)) b
play b allocate_call = let d = allocate b.mem.frames in played (frame_line d.answer) (with_frames b d.frames)
play b (deallocate_call n) = let d = deallocate b.mem.frames n in played (found_line d.answer) (with_frames b d.frames)
play b (mark_allocated_call n) = by_frames b (mark_allocated b.mem.frames n)
play b (is_allocated_call n) = played (flag_line (is_allocated b.mem.frames n)) b
play b free_frames_call = played (count_line (free_frames b.mem.frames)) b
play b allocated_frames_call = played (count_line (allocated_frames b.mem.frames)) b
play b total_frames_call = played (count_line (total_frames b.mem.frames)) b
play b (init_call from to) = by_frames b (init b.mem.frames from to)
play b (start_call from to levels) = by_board (start b from to levels)
