-- `is_done`: a frame that is not lent, or the bit of its byte.
use Rattle.std.proofs.Common.{◌≡◌, true}
use Rattle.frame.specs.Frames.{inside}
use native.Mathlib.Omega.{arith}
use Rattle.frame.proofs.Laws.{passed}
use Rattle.protecting.proofs.Remembered.{done_test}
use Rattle.protecting.proofs.table.is_done.Goals as goal

pub returns : goal.returns
returns c =
    let lent : inside c.args.start c.args.total c.args.t ≡ true = passed c.is_inside.ensures c.if-not-is_inside.false in
    done_test c.args.gone.now c.args.start c.args.total c.args.d c.args.t c.wide.result (omega (arith, c.requires.d_le_most_above)) (lent) c.wide.ensures.value
