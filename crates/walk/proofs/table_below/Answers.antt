use Rattle.std.proofs.Common.{◌≡◌, suc, ◌+◌, ◌-◌, take, [], ◌∷◌, List, ℕ, ◌<◌, ◌≤◌}
use Rattle.entry.specs.Entry.{indices as indices_of, index}
use mathlib.Core.Path.{sym, ◌∙◌, ap}
use native.Mathlib.Omega.{arith}
use Rattle.std.proofs.lemmas.Result.{err_from_is_err_and}
use Rattle.entry.proofs.Entry.{path_next}
use Rattle.paging.proofs.Walk.{reach_end, reach_stop, reach_on}
use Rattle.walk.proofs.Laws.{reach_shifted}
use Rattle.walk.proofs.table_below.Goals as goal

-- the indices left after `done` of them
more : (up done v : ℕ) {i : ℕ} → done < up → i ≡ index (up - done) v
    → take (up - done) (indices_of (suc (up - done)) v) ≡ i ∷ take (up - (done + 1)) (indices_of (suc (up - (done + 1))) v)
more up done v h e =
    let less : up - done - 1 ≡ up - (done + 1) = omega arith in
    rw (← less) (path_next (up - done) (up - done) v (omega arith) (omega arith) ∙ ap (λ i. i ∷ take (up - done - 1) (indices_of (suc (up - done - 1)) v)) (sym e))

pub returns-in_err-e : goal.returns-in_err-e
returns-in_err-e c =
    let left = err_from_is_err_and c.from_residual.result c.from_residual.ensures.1 in
    rw (left.1, left.2)
    (sym (c.loop-done.invariant.1 ∙ reach_stop c.args.words.now c.args.start c.args.total c.loop-done.t
    (more c.args.up c.loop-done.done c.args.virt.0 c.loop-done-test.true c.page_index.ensures.value) _ (sym c.entry_at.ensures ∙ c.in_err-e.was)))

pub loop-done-preserved : goal.loop-done-preserved
loop-done-preserved c =
    let a = c.args in (
      omega (arith, c.loop-done.invariant.0, c.loop-done-test.true),
      c.loop-done.invariant.1
          ∙ reach_on a.words.now a.start a.total c.loop-done.t (more a.up c.loop-done.done a.virt.0 c.loop-done-test.true c.page_index.ensures.value) _
          (sym c.entry_at.ensures ∙ c.in_ok-e.was)
          ∙ reach_shifted a.words.now a.start a.total _ c.addr-t.ensures _,
    )

pub returns : goal.returns
returns c =
    let none : c.args.up - c.loop-done.done ≡ 0 → take (c.args.up - c.loop-done.done) (indices_of (suc (c.args.up - c.loop-done.done)) c.args.virt.0) ≡ [] = λ h. rw h in
    sym (c.loop-done.invariant.1 ∙ reach_end _ _ _ _ (none (omega (arith, c.loop-done-test.false))))
