-- 'The lent frames are the `total` from start_frame on; words past them are not touched': by no call, on no board, whatever it holds.
use Rattle.std.specs.Prelude.{ℕ, ◌*◌, ◌≤◌, ◌≡◌, length, get_or}
use Rattle.paging.specs.Map.{total_of}
use Rattle.board.specs.Board.{Board}
use Rattle.trace.specs.Trace.{AnyCall, play}

-- from a board to the one that a call leaves: there are as many words, and those past its lent frames are as they were
pub record Untouched (b left : Board) : Type 0 where
  pub number : length left.mem.words ≡ length b.mem.words
  pub past : (i : ℕ) → total_of left.mem * 512 ≤ i → get_or left.mem.words i 0 ≡ get_or b.mem.words i 0

abbrev pub NoneTouched : Type 0
NoneTouched = (b : Board) (c : AnyCall) → Untouched b (play b c).board
