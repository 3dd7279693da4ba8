-- `play_tape`: a run that ended, and its last line, are the whole key.
use Rattle.std.proofs.Common.{ap}
use Rattle.board.specs.Packed.{board_of}
use Rattle.turn.specs.Run.{run_of}
use Rattle.runner.specs.Ends.{stage_of_run}
use Rattle.runner.proofs.Keys.{on_both, key_written}
use Rattle.runner.proofs.play_tape.Goals as goal

pub returns : goal.returns
returns g c =
    let a = c.args in
    let e = c.run_on-end in
    let b = board_of a.words.now a.bitmap.now a.kernel.now a.user.now a.marked.now a.fresh in
    let after = run_of e.new.words e.new.bitmap e.new.kernel e.new.user e.new.marked e.new.records e.new.input e.new.out (stage_of_run e.result) in
    on_both c.finish.result c.finish.ensures.ended c.finish.ensures.whole (λ p q. key_written b _ _ _ _ _ after e.ensures.loop_end_by (ap stage_of_run p) q)
