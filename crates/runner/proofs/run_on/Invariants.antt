-- `run_on`: the invariant: what the loop holds is the run of all that it read; the offset rises with each call, and no turn is played far behind 2^63.
use Rattle.std.proofs.Common.{◌≡◌, ◌-◌, ◌≤◌, true}
use Rattle.board.specs.Packed.{board_of, lists_fit}
use Rattle.turn.specs.Run.{Going, run_of}
use Rattle.runner.proofs.Whole.{Held, HeldBy}
use Rattle.runner.proofs.run_on.Given as goal

-- What the loop holds is the run of all that it read; the offset rises with each call, and no turn is played far behind 2^63.
abbrev pub invariant-loop-flow : goal.invariant-loop-flow
invariant-loop-flow g l =
    let i = l.initial in
    let b = board_of i.words i.bitmap i.kernel i.user i.marked i.records in
    let now = run_of l.words l.bitmap l.kernel l.user l.marked l.records l.input l.out Going in
    record {
      offset : l.input.offset ≤ 9223372036854775834;
      lists : lists_fit l.kernel l.user l.marked ≡ true;
      held : Held b l.input.source now;
      held_by : HeldBy b l.input.source now (g.R.Read.remaining i.reader) (g.R.Read.remaining l.reader) (g.W.Write.contents i.writer) (g.W.Write.contents l.writer);
    }

abbrev pub decreases-loop-flow : goal.decreases-loop-flow
decreases-loop-flow g l = 9223372036854775834 - l.input.offset
