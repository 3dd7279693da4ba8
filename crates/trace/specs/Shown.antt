-- Document 02, slip 4: 'The address and number equal translate's for every address and board'.
use Rattle.std.specs.Prelude.{ℕ, ◌≡◌}
use Rattle.board.specs.Board.{Board}
use Rattle.trace.specs.Trace.{translate_call, show_translate_call, play}

abbrev pub ShownAsTranslated : Type 0
ShownAsTranslated = (b : Board) (v : ℕ) → play b (show_translate_call v) ≡ play b (translate_call v)
