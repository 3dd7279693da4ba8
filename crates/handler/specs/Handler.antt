-- The second path's `handle_page_fault`, in document 01's order of checks. A board has `up` levels above the last.
use Rattle.answer.specs.declared.Refusal.{Refusal}
use Rattle.std.specs.Prelude.{Ok, Err}
use Rattle.answer.specs.declared.Refusal.TheVariants.{ReservedBit, BrokenRecord, WriteToReadOnly, TableOutside}
use Rattle.std.specs.Prelude.{ℕ, suc, ◌*◌, ◌^◌, Bool, List, get_or, set, take}
use Rattle.bits.specs.Bit.{pick, unless}
use Rattle.entry.specs.Entry.{entry_of, indices}
use Rattle.frame.specs.Frames.{inside}
use Rattle.paging.specs.Walk.{place}
use Rattle.paging.specs.Levels.{above_last}
use Rattle.paging.specs.Map.{Memory, memory, start_frame, total_of, Out, out, go_on, zero_frame, make, Left, left, with_words}
use Rattle.paging.specs.Calls.{whole}
use Rattle.cow.specs.Marked.{page_of}
use Rattle.error_code.specs.ErrorCode.{is_present, is_write, is_user, is_reserved, denied}
use Rattle.copying.specs.Copying.{raw_frame}

-- the word e at entry i of table t, 'overwriting a present leaf'
unfoldable pub overwrite : List ℕ → ℕ → ℕ → ℕ → ℕ → ℕ → Left
overwrite ws start total t i e =
    unless (inside start total t) (left (Err TableOutside) ws)
    (left (Ok 0) (set ws (place start t i) e))

-- the same, and frame f zeroed
abbrev pub put_over : Memory → ℕ → ℕ → ℕ → ℕ → Out
put_over m t i e f =
    go_on (with_words m (overwrite m.words (start_frame m) (total_of m) t i e)) (λ _ m'.
    out (Ok 0) (memory (zero_frame m'.words (start_frame m') f) m'.frames))

-- page v mapped to frame f over whatever stands there, and the frame zeroed
unfoldable pub map_over : ℕ → Memory → ℕ → ℕ → ℕ → Bool → Bool → Out
map_over up m root v f w u =
    go_on (make u m root (take up (indices (suc up) v))) (λ t m'. put_over m' t (get_or (indices (suc up) v) up 0) (entry_of (f * 2 ^ 12) w u) f)

-- page v mapped so to a new frame
abbrev pub map_new : ℕ → Memory → ℕ → ℕ → Bool → Bool → Out
map_new up m root v w u = go_on (raw_frame m) (λ f m'. map_over up m' root v f w u)

-- 'present, then 17, 7 or 8'
abbrev pub refused : ℕ → Refusal
refused code = pick (is_write code) WriteToReadOnly (denied code)

-- page_handler.rs: '5; present, then 17, 7 or 8; else it maps, overwriting a present leaf, and zeroes the frame', at page v
abbrev pub handled_second : ℕ → Memory → ℕ → ℕ → ℕ → Out
handled_second up m root v code =
    pick (is_reserved code) (out (Err ReservedBit) m)
    (pick (is_present code) (out (Err (refused code)) m) (map_new up m root v (is_write code) (is_user code)))

unfoldable pub handle_fault_second : ℕ → Memory → ℕ → ℕ → ℕ → Out
handle_fault_second up m root a code = unless (whole m root) (out (Err BrokenRecord) m) (handled_second up m root (page_of a) code)

-- on a board, by its own levels
abbrev pub handle_fault_second_of : Memory → ℕ → ℕ → ℕ → Out
handle_fault_second_of m root a code = handle_fault_second (above_last m) m root a code
