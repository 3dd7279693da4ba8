-- `frame_marked`: a frame outside reads as marked, any other by its bit.
use Rattle.std.proofs.Common.{◌≡◌, true, sym, ◌∙◌}
use Rattle.frame.specs.Frames.{inside}
use Rattle.frame.proofs.Laws.{passed, failed, reads_outside, reads_inside}
use Rattle.frame.proofs.inner.frame_marked.Goals as goal

pub returns-then-not-is_inside : goal.returns-then-not-is_inside
returns-then-not-is_inside c =
    sym (reads_outside _ _ (failed c.is_inside.ensures c.if-not-is_inside.true))

pub returns : goal.returns
returns c =
    let within : inside c.args.frames.start c.args.frames.total c.args.number ≡ true = passed c.is_inside.ensures c.if-not-is_inside.false in
    c.is_marked.ensures ∙ sym (reads_inside _ _ (within))
