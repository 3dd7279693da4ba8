-- `may_start`: 10 by the levels, the addresses or the words, 11 without a frame.
use Rattle.std.proofs.Common.{◌≡◌, true, ◌≤◌, ◌*◌}
use Rattle.board.specs.Board.{frame_count}
use mathlib.Core.Path.{sym, ◌∙◌}
use Rattle.frame.specs.Frames.{is_levels}
use Rattle.frame.proofs.Laws.{passed, failed}
use Rattle.board.proofs.Outcomes.{may_other, may_crossed, may_high, may_short, may_none, may_met}
use Rattle.board.proofs.may_start.Goals as goal

pub returns-then-not-is_levels : goal.returns-then-not-is_levels
returns-then-not-is_levels c =
    sym (may_other _ _ _ _ (failed c.is_levels.ensures c.if-not-is_levels.true))

pub returns-then-from-to : goal.returns-then-from-to
returns-then-from-to c =
    let leveled : is_levels c.args.levels ≡ true = passed c.is_levels.ensures c.if-not-is_levels.false in
    sym (may_crossed _ _ _ _ (leveled) c.if-from-to.true)

pub returns-then-to-gt-ADDRESS_END : goal.returns-then-to-gt-ADDRESS_END
returns-then-to-gt-ADDRESS_END c =
    let leveled : is_levels c.args.levels ≡ true = passed c.is_levels.ensures c.if-not-is_levels.false in
    sym (may_high _ _ _ _ (leveled) c.if-from-to.false c.if-to-gt-ADDRESS_END.true)

pub returns-then-total-len : goal.returns-then-total-len
returns-then-total-len c =
    let leveled : is_levels c.args.levels ≡ true = passed c.is_levels.ensures c.if-not-is_levels.false in
    sym (may_short _ _ _ _ (leveled) c.if-from-to.false c.if-to-gt-ADDRESS_END.false (rw (← c.frame_count-total.ensures) c.if-total-len.true))

pub returns-then-total-eq0 : goal.returns-then-total-eq0
returns-then-total-eq0 c =
    let leveled : is_levels c.args.levels ≡ true = passed c.is_levels.ensures c.if-not-is_levels.false in let room : frame_count c.args.from c.args.to * 512 ≤ c.args.len = rw (← c.frame_count-total.ensures) c.if-total-len.false in
    sym (may_none _ _ _ _ (leveled) c.if-from-to.false c.if-to-gt-ADDRESS_END.false (room) (sym c.frame_count-total.ensures ∙ c.if-total-eq0.true))

pub returns : goal.returns
returns c =
    let leveled : is_levels c.args.levels ≡ true = passed c.is_levels.ensures c.if-not-is_levels.false in let room : frame_count c.args.from c.args.to * 512 ≤ c.args.len = rw (← c.frame_count-total.ensures) c.if-total-len.false in
    sym (may_met _ _ _ _ (leveled) c.if-from-to.false c.if-to-gt-ADDRESS_END.false (room) (λ e. c.if-total-eq0.false (c.frame_count-total.ensures ∙ e)))
