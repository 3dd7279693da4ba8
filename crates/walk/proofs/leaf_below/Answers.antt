use Rattle.std.specs.Prelude.{Ok}
use Rattle.std.proofs.Common.{ℕ, ◌<◌, ◌+◌, ◌≡◌, ◌-◌, length, ◌∷◌}
use Rattle.entry.specs.Entry.{indices as indices_of, index}
use Rattle.paging.specs.Walk.{entry_at}
use mathlib.Core.Path.{sym, ◌∙◌, ap}
use native.Mathlib.Omega.{arith}
use Rattle.entry.proofs.Entry.{indices_next, length_indices}
use Rattle.paging.proofs.Walk.{leaf_end, leaf_stop, leaf_page, leaf_large, leaf_small, leaf_above}
use Rattle.walk.proofs.Laws.{leaf_shifted}
use Rattle.std.proofs.lemmas.Result.{err_from_is_err_and}
use Rattle.walk.proofs.leaf_below.Goals as goal
use Rattle.walk.proofs.leaf_below.Goals.{else-level-eq2-via-then-level-eq2+else-is_huge, else-level-eq2-via-else-level-eq2}

-- the indices left after `done` of them
next : (levels done v : ℕ) {i : ℕ} → done < levels → i ≡ index (levels - done - 1) v → indices_of (levels - done) v ≡ i ∷ indices_of (levels - done - 1) v
next levels done v h e = indices_next (levels - done) v (omega arith) ∙ ap (λ i. i ∷ indices_of (levels - done - 1) v) (sym e)

pub returns-in_err-e : goal.returns-in_err-e
returns-in_err-e c =
    let left = err_from_is_err_and c.from_residual.result c.from_residual.ensures.1 in
    let more = next c.args.levels c.loop-done.done c.args.virt.0 c.loop-done-test.true c.page_index.ensures.value in
    rw (left.1, left.2)
    (sym (c.loop-done.invariant.1 ∙ leaf_stop c.args.words.now c.args.start c.args.total c.loop-done.t (more) _ (sym c.entry_at.ensures ∙ c.in_err-e.was)))

pub returns-then-level-eq1 : goal.returns-then-level-eq1
returns-then-level-eq1 c =
    let below : length (indices_of (c.args.levels - c.loop-done.done - 1) c.args.virt.0) ≡ (c.args.levels - c.loop-done.done) - 1 = length_indices (c.args.levels - c.loop-done.done - 1) c.args.virt.0 in let more = next c.args.levels c.loop-done.done c.args.virt.0 c.loop-done-test.true c.page_index.ensures.value in let seen : entry_at c.args.words.now c.args.start c.args.total c.loop-done.t c.page_index.result ≡ Ok c.in_ok-e.e = sym c.entry_at.ensures ∙ c.in_ok-e.was in
    sym (c.loop-done.invariant.1 ∙ leaf_page c.args.words.now c.args.start c.args.total c.loop-done.t (more) _ (seen) (below ∙ omega (arith, c.if-level-eq1.true)))

pub returns-then-is_huge : goal.returns-then-is_huge
returns-then-is_huge c =
    let below : length (indices_of (c.args.levels - c.loop-done.done - 1) c.args.virt.0) ≡ (c.args.levels - c.loop-done.done) - 1 = length_indices (c.args.levels - c.loop-done.done - 1) c.args.virt.0 in let more = next c.args.levels c.loop-done.done c.args.virt.0 c.loop-done-test.true c.page_index.ensures.value in let seen : entry_at c.args.words.now c.args.start c.args.total c.loop-done.t c.page_index.result ≡ Ok c.in_ok-e.e = sym c.entry_at.ensures ∙ c.in_ok-e.was in
    sym (c.loop-done.invariant.1
    ∙ leaf_large c.args.words.now c.args.start c.args.total c.loop-done.t (more) _ (seen) (below ∙ omega (arith, c.if-level-eq2.true))
    (sym c.is_huge.ensures ∙ c.if-is_huge.true))

pub loop-done-preserved : goal.loop-done-preserved
loop-done-preserved c =
    let less : c.args.levels - c.loop-done.done - 1 ≡ c.args.levels - (c.loop-done.done + 1) = omega arith in
    let below : length (indices_of (c.args.levels - c.loop-done.done - 1) c.args.virt.0) ≡ (c.args.levels - c.loop-done.done) - 1 = length_indices (c.args.levels - c.loop-done.done - 1) c.args.virt.0 in let more = next c.args.levels c.loop-done.done c.args.virt.0 c.loop-done-test.true c.page_index.ensures.value in let seen : entry_at c.args.words.now c.args.start c.args.total c.loop-done.t c.page_index.result ≡ Ok c.in_ok-e.e = sym c.entry_at.ensures ∙ c.in_ok-e.was in (
      omega (arith, c.loop-done.invariant.0, c.loop-done-test.true),
      rw (← less) (c.loop-done.invariant.1
          ∙ elim c.else-level-eq2.branch [
            | else-level-eq2-via-then-level-eq2+else-is_huge w ↦
                leaf_small c.args.words.now c.args.start c.args.total c.loop-done.t more _ seen (below ∙ omega (arith, w.if-level-eq2.true)) (sym w.is_huge.ensures ∙ w.if-is_huge.false)
            | else-level-eq2-via-else-level-eq2 w ↦
                leaf_above c.args.words.now c.args.start c.args.total c.loop-done.t more _ seen (omega (arith, below, w.if-level-eq2.false, c.if-level-eq1.false, c.loop-done-test.true))
          ]
          ∙ leaf_shifted c.args.words.now c.args.start c.args.total _ c.addr-t.ensures _),
    )

pub returns : goal.returns
returns c =
    let none : (c.args.levels - c.loop-done.done) ≡ 0 → indices_of (c.args.levels - c.loop-done.done) c.args.virt.0 ≡ indices_of 0 c.args.virt.0 = λ h. ap (λ n. indices_of n c.args.virt.0) h in
    sym (c.loop-done.invariant.1 ∙ leaf_end _ _ _ _ (none (omega (arith, c.loop-done-test.false))))
