-- `start`: refused before anything is written, or begun.
use Rattle.std.specs.Prelude.{Ok}
use Rattle.std.proofs.Common.{◌≡◌, true}
use Rattle.board.specs.Packed.{board_bytes, lists_long, BoardBytes}
use mathlib.Core.Path.{sym, ◌∙◌, ap}
use Rattle.frame.proofs.Laws.{passed, failed}
use Rattle.board.proofs.Steps.{in_short, in_refused, in_met}
use Rattle.board.proofs.start.Goals as goal

pub returns-then-not-are_long-clause-marked_after : goal.returns-then-not-are_long-clause-marked_after
returns-then-not-are_long-clause-marked_after c =
    let lent : BoardBytes = board_bytes c.args.words.now c.args.bitmap.now c.args.kernel.now c.args.user.now c.args.marked.now c.args.records in sym (in_short (lent) c.args.from c.args.to c.args.levels (failed c.are_long.ensures c.if-not-are_long.true))

pub returns-in-Err-clause-marked_after : goal.returns-in-Err-clause-marked_after
returns-in-Err-clause-marked_after c =
    let lent : BoardBytes = board_bytes c.args.words.now c.args.bitmap.now c.args.kernel.now c.args.user.now c.args.marked.now c.args.records in let long : lists_long (lent) ≡ true = passed c.are_long.ensures c.if-not-are_long.false in let h = sym c.may_start.ensures ∙ c.in-Err.is in sym (in_refused (lent) c.args.from c.args.to c.args.levels (long) _ h)

pub returns-in-Ok-clause-marked_after : goal.returns-in-Ok-clause-marked_after
returns-in-Ok-clause-marked_after c =
    let lent : BoardBytes = board_bytes c.args.words.now c.args.bitmap.now c.args.kernel.now c.args.user.now c.args.marked.now c.args.records in let long : lists_long (lent) ≡ true = passed c.are_long.ensures c.if-not-are_long.false in let h = sym c.may_start.ensures ∙ c.in-Ok.is in ap (λ (p : BoardBytes). record { answer = Ok tt; board = p }) c.begin.ensures.result_after ∙ sym (in_met (lent) c.args.from c.args.to c.args.levels (long) h)
