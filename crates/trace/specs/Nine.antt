-- Document 02, slip 1: 'Answer 9 no longer occurs': no call answers it, on no board, whatever it holds.
use Rattle.std.specs.Prelude.{◌≡◌}
use Rattle.board.specs.Board.{Board}
use Rattle.trace.specs.Trace.{AnyCall, play}

abbrev pub NoNine : Type 0
NoNine = (b : Board) (c : AnyCall) → (play b c).line.number ≡ 9 → ⊥
