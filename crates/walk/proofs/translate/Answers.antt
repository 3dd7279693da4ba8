-- `translate`: 10, or the walk from the table of level 4 on.
use Rattle.std.specs.Prelude.{Result}
use Rattle.answer.specs.declared.Refusal.{Refusal}
use Rattle.std.proofs.Common.{◌≡◌, true, length}
use Rattle.paging.specs.Walk.{address}
use Rattle.paging.specs.Calls.{lent_walk}
use Rattle.address.specs.Address.{as_phys}
use mathlib.Core.Path.{sym, ◌∙◌, ap}
use Rattle.paging.specs.declared.Leaf.{Leaf}
use Rattle.paging.proofs.Walk.{lent_words}
use Rattle.paging.proofs.Calls.{walk_levels, walk_lent, translate_broken, translate_is}
use Rattle.frame.proofs.Laws.{passed, failed, levels_most}
use Rattle.walk.proofs.Laws.{fourth_on, fourth_none}
use Rattle.std.proofs.lemmas.Result.{err_from_is_err_and}
use Rattle.walk.proofs.translate.Goals as goal

pub returns-then-not-may_walk : goal.returns-then-not-may_walk
returns-then-not-may_walk c =
    ap as_phys (sym (translate_broken _ _ _ _ _ _ (failed c.may_walk.ensures c.if-not-may_walk.true)))

pub fourth_table-requires-clause-words_lent : goal.fourth_table-requires-clause-words_lent
fourth_table-requires-clause-words_lent c =
    let good : lent_walk c.args.levels (length c.args.words.now) c.args.start c.args.total c.args.root.0 ≡ true = passed c.may_walk.ensures c.if-not-may_walk.false in lent_words _ _ _ _ (walk_lent _ _ _ _ _ (good))

pub fourth_table-requires-clause-levels_le_most_levels : goal.fourth_table-requires-clause-levels_le_most_levels
fourth_table-requires-clause-levels_le_most_levels c =
    let good : lent_walk c.args.levels (length c.args.words.now) c.args.start c.args.total c.args.root.0 ≡ true = passed c.may_walk.ensures c.if-not-may_walk.false in levels_most c.args.levels (walk_levels _ _ _ _ _ (good))

pub leaf_below-requires-clause-words_lent : goal.leaf_below-requires-clause-words_lent
leaf_below-requires-clause-words_lent c =
    let good : lent_walk c.args.levels (length c.args.words.now) c.args.start c.args.total c.args.root.0 ≡ true = passed c.may_walk.ensures c.if-not-may_walk.false in lent_words _ _ _ _ (walk_lent _ _ _ _ _ (good))

pub returns-in_err-t : goal.returns-in_err-t
returns-in_err-t c =
    let left = err_from_is_err_and c.from_residual.result c.from_residual.ensures.1 in
    let good : lent_walk c.args.levels (length c.args.words.now) c.args.start c.args.total c.args.root.0 ≡ true = passed c.may_walk.ensures c.if-not-may_walk.false in
    rw (left.1, left.2)
    (ap as_phys
    (sym (translate_is _ _ _ _ _ _ (good) ∙ ap (address c.args.virt.0)
    (fourth_none c.args.words.now c.args.start c.args.total c.args.root.0 c.args.virt.0 c.args.levels (walk_levels _ _ _ _ _ (good)) _ (sym c.fourth_table.ensures ∙ c.in_err-t.was)))))

pub returns : goal.returns
returns c =
    let good : lent_walk c.args.levels (length c.args.words.now) c.args.start c.args.total c.args.root.0 ≡ true = passed c.may_walk.ensures c.if-not-may_walk.false in
    c.phys_at.ensures
    ∙ ap (λ (l : Result Leaf Refusal). as_phys (address c.args.virt.0 l)) (c.leaf_below.ensures
    ∙ sym (fourth_on c.args.words.now c.args.start c.args.total c.args.root.0 c.args.virt.0 c.args.levels (walk_levels _ _ _ _ _ (good)) _ (sym c.fourth_table.ensures ∙ c.in_ok-t.was)))
    ∙ ap as_phys (sym (translate_is _ _ _ _ _ _ (good)))
