-- `unmap_page`: 10, or the leaf cleared.
use Rattle.std.specs.Prelude.{Result, ℕ}
use Rattle.answer.specs.declared.Refusal.{Refusal}
use Rattle.std.proofs.Common.{◌≡◌}
use Rattle.paging.specs.Calls.{unmap_page}
use Rattle.address.specs.Address.{as_frame}
use mathlib.Core.Path.{sym, ◌∙◌, ap}
use native.Mathlib.Omega.{arith}
use Rattle.paging.proofs.Walk.{lent_words}
use Rattle.paging.proofs.Calls.{told_left, walk_levels, walk_lent, unmap_broken, unmap_is}
use Rattle.frame.proofs.Laws.{passed, failed, levels_least, levels_most}
use Rattle.std.proofs.lemmas.Result.{err_from_is_err_and}
use Rattle.mapper.proofs.unmap_page.Goals as goal

pub returns-then-not-may_walk-clause-value : goal.returns-then-not-may_walk-clause-value
returns-then-not-may_walk-clause-value c =
    let e = told_left (unmap_broken _ _ _ _ _ _ (failed c.may_walk.ensures c.if-not-may_walk.true)) in ap as_frame e.0

pub returns-then-not-may_walk-clause-words_after : goal.returns-then-not-may_walk-clause-words_after
returns-then-not-may_walk-clause-words_after c =
    let e = told_left (unmap_broken _ _ _ _ _ _ (failed c.may_walk.ensures c.if-not-may_walk.true)) in e.1

pub overflow_sub-levels : goal.overflow_sub-levels
overflow_sub-levels c =
    let h = passed c.may_walk.ensures c.if-not-may_walk.false in
    omega (arith, levels_least c.args.levels (walk_levels _ _ _ _ _ h))

pub unmap_leaf-requires-clause-words_lent : goal.unmap_leaf-requires-clause-words_lent
unmap_leaf-requires-clause-words_lent c =
    let h = passed c.may_walk.ensures c.if-not-may_walk.false in lent_words _ _ _ _ (walk_lent _ _ _ _ _ h)

pub unmap_leaf-requires-clause-up_le_most_above : goal.unmap_leaf-requires-clause-up_le_most_above
unmap_leaf-requires-clause-up_le_most_above c =
    let h = passed c.may_walk.ensures c.if-not-may_walk.false in omega (arith, levels_most c.args.levels (walk_levels _ _ _ _ _ h))

pub returns-clause-value : goal.returns-clause-value
returns-clause-value c =
    (let from : (w : Result ℕ Refusal) → c.unmap_leaf.result ≡ w → let d = unmap_page c.args.levels c.args.words.now c.args.start c.args.total c.args.root.0 c.args.virt.0 in (as_frame w ≡ as_frame d.walked) × (c.unmap_leaf.new.words ≡ d.words) = λ w h. let e = told_left (unmap_is _ _ _ _ _ _ (passed c.may_walk.ensures c.if-not-may_walk.false)) in
    (ap as_frame (sym h ∙ c.unmap_leaf.ensures.value ∙ e.0), c.unmap_leaf.ensures.words_after ∙ e.1) in
    from _ c.in_ok-unmap_leaf.was).0

pub returns-clause-words_after : goal.returns-clause-words_after
returns-clause-words_after c =
    (let from : (w : Result ℕ Refusal) → c.unmap_leaf.result ≡ w → let d = unmap_page c.args.levels c.args.words.now c.args.start c.args.total c.args.root.0 c.args.virt.0 in (as_frame w ≡ as_frame d.walked) × (c.unmap_leaf.new.words ≡ d.words) = λ w h. let e = told_left (unmap_is _ _ _ _ _ _ (passed c.may_walk.ensures c.if-not-may_walk.false)) in
    (ap as_frame (sym h ∙ c.unmap_leaf.ensures.value ∙ e.0), c.unmap_leaf.ensures.words_after ∙ e.1) in
    from _ c.in_ok-unmap_leaf.was).1

pub returns-in_err-unmap_leaf-clause-value : goal.returns-in_err-unmap_leaf-clause-value
returns-in_err-unmap_leaf-clause-value c =
    let left = err_from_is_err_and c.from_residual.result c.from_residual.ensures.1 in
    rw (left.1, left.2)
    ((let from : (w : Result ℕ Refusal) → c.unmap_leaf.result ≡ w → let d = unmap_page c.args.levels c.args.words.now c.args.start c.args.total c.args.root.0 c.args.virt.0 in (as_frame w ≡ as_frame d.walked) × (c.unmap_leaf.new.words ≡ d.words) = λ w h. let e = told_left (unmap_is _ _ _ _ _ _ (passed c.may_walk.ensures c.if-not-may_walk.false)) in
    (ap as_frame (sym h ∙ c.unmap_leaf.ensures.value ∙ e.0), c.unmap_leaf.ensures.words_after ∙ e.1) in
    from _ c.in_err-unmap_leaf.was).0)

pub returns-in_err-unmap_leaf-clause-words_after : goal.returns-in_err-unmap_leaf-clause-words_after
returns-in_err-unmap_leaf-clause-words_after c =
    (let from : (w : Result ℕ Refusal) → c.unmap_leaf.result ≡ w → let d = unmap_page c.args.levels c.args.words.now c.args.start c.args.total c.args.root.0 c.args.virt.0 in (as_frame w ≡ as_frame d.walked) × (c.unmap_leaf.new.words ≡ d.words) = λ w h. let e = told_left (unmap_is _ _ _ _ _ _ (passed c.may_walk.ensures c.if-not-may_walk.false)) in
    (ap as_frame (sym h ∙ c.unmap_leaf.ensures.value ∙ e.0), c.unmap_leaf.ensures.words_after ∙ e.1) in
    from _ c.in_err-unmap_leaf.was).1
