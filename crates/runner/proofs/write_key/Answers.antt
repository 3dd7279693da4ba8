-- `write_key`: a board that was started has lists, and so the tape is played on it.
use Rattle.std.proofs.Common.{subst}
use Rattle.std.specs.Prelude.{OnOk}
use Rattle.board.specs.Board.{Board}
use Rattle.board.specs.Packed.{board_of}
use Rattle.runner.specs.Key.{WritesKey}
use Rattle.runner.proofs.Keys.{first}
use Rattle.runner.proofs.write_key.Goals as goal

pub returns-in-Ok : goal.returns-in-Ok
returns-in-Ok g c =
    let s = c.start-started in
    let board = board_of s.new.words s.new.bitmap s.new.kernel s.new.user s.new.marked s.result.records in
    let started = first board c.new.result (s.ensures.board_stands c.in-Ok.is).1 c.new.ensures in
    subst (λ (b : Board). OnOk c.play_tape.result (WritesKey b (g.R.Read.remaining c.args.reader.now) (g.W.Write.contents c.args.writer.now) (g.W.Write.contents c.play_tape.new.writer))) started
    c.play_tape.ensures
