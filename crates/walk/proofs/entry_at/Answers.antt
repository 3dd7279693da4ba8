-- `entry_at` gives the present word, or says why there is none.
use Rattle.std.proofs.Common.{◌≡◌, true}
use Rattle.paging.specs.Walk.{entry_at, present}
use Rattle.frame.specs.Frames.{inside}
use mathlib.Core.Path.{sym, ◌∙◌}
use lib.ListN.{get_or}
use Rattle.paging.proofs.Walk.{entry_out, entry_in, present_yes, present_no}
use Rattle.frame.proofs.Laws.{passed, failed}
use Rattle.walk.proofs.entry_at.Goals as goal

pub returns-then-not-is_inside : goal.returns-then-not-is_inside
returns-then-not-is_inside c =
    sym (entry_out _ _ _ _ _ (failed c.is_inside.ensures c.if-not-is_inside.true))

pub returns-then-is_present : goal.returns-then-is_present
returns-then-is_present c =
    let table-lent : inside c.args.start c.args.total c.args.t ≡ true = passed c.is_inside.ensures c.if-not-is_inside.false in let read : entry_at c.args.words.now c.args.start c.args.total c.args.t c.args.i ≡ present (get_or c.args.words.now c.entry_place.result 0) = rw c.entry_place.ensures (entry_in _ _ _ _ _ (table-lent) c.requires.i_bound) in
    sym (read ∙ present_yes _ (sym c.is_present.ensures ∙ c.if-is_present.true))

pub returns : goal.returns
returns c =
    let table-lent : inside c.args.start c.args.total c.args.t ≡ true = passed c.is_inside.ensures c.if-not-is_inside.false in let read : entry_at c.args.words.now c.args.start c.args.total c.args.t c.args.i ≡ present (get_or c.args.words.now c.entry_place.result 0) = rw c.entry_place.ensures (entry_in _ _ _ _ _ (table-lent) c.requires.i_bound) in
    sym (read ∙ present_no _ (sym c.is_present.ensures ∙ c.if-is_present.false))
