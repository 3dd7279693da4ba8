use Rattle.std.proofs.Common.{◌≡◌, suc, ◌+◌, ◌≤◌, take, ℕ, ◌-◌, [], ◌∷◌}
use Rattle.entry.specs.Entry.{indices as indices_of, index}
use Rattle.paging.specs.Kept.{lent_memory}
use mathlib.Core.Path.{sym, ◌∙◌, ap, ap₂}
use native.Mathlib.Nat.{le_trans}
use native.Mathlib.Omega.{arith}
use Rattle.entry.proofs.Entry.{path_next}
use Rattle.paging.proofs.Map.{make_end}
use Rattle.bits.proofs.Counter.{onward}
use Rattle.std.proofs.lemmas.Result.{err_from_is_err_and}
use Rattle.tables.proofs.Laws.{entered_left, made_stop, made_on}
use Rattle.tables.proofs.tables_below.Goals as goal

none_left : (k d up v : ℕ) → k ≤ d → take (k - d) (indices_of (suc (up - d)) v) ≡ []
none_left k d up v h = let z : k - d ≡ 0 = omega arith in rw z

pub returns-in_err-t : goal.returns-in_err-t
returns-in_err-t c =
    let more : take (c.args.k - c.loop-done.done) (indices_of (suc (c.args.up - c.loop-done.done)) c.args.virt.0) ≡ c.page_index-i.result ∷ take (c.args.k - (c.loop-done.done + 1)) (indices_of (suc (c.args.up - (c.loop-done.done + 1))) c.args.virt.0) = let fewer-k : c.args.k - c.loop-done.done - 1 ≡ c.args.k - (c.loop-done.done + 1) = omega arith in
    let fewer-up : c.args.up - c.loop-done.done - 1 ≡ c.args.up - (c.loop-done.done + 1) = omega arith in
    path_next (c.args.k - c.loop-done.done) (c.args.up - c.loop-done.done) c.args.virt.0 (omega arith) (omega (arith, c.requires.k_le_up))
    ∙ ap₂ (λ (x y : ℕ). index (c.args.up - c.loop-done.done) c.args.virt.0 ∷ take x (indices_of (suc y) c.args.virt.0)) fewer-k fewer-up
    ∙ ap (λ i. i ∷ take (c.args.k - (c.loop-done.done + 1)) (indices_of (suc (c.args.up - (c.loop-done.done + 1))) c.args.virt.0)) (sym c.page_index-i.ensures.value) in
    let left = err_from_is_err_and c.from_residual.result c.from_residual.ensures.1 in rw (left.1, left.2) (made_stop c.args.user (lent_memory c.loop-done.words c.loop-done.bitmap c.loop-done.frames) c.loop-done.t c.page_index-i.result c.enter.result
    (lent_memory c.enter.new.words c.enter.new.bitmap c.enter.new.frames) c.enter.ensures
    (take (c.args.k - c.loop-done.done) (indices_of (suc (c.args.up - c.loop-done.done)) c.args.virt.0)) (take (c.args.k - (c.loop-done.done + 1)) (indices_of (suc (c.args.up - (c.loop-done.done + 1))) c.args.virt.0))
    c.loop-done.invariant.3 (more) _ c.in_err-t.was)

pub loop-done-preserved : goal.loop-done-preserved
loop-done-preserved c =
    let few : c.args.k ≤ 4 = le_trans c.requires.k_le_up c.requires.up_le_most_above in let more : take (c.args.k - c.loop-done.done) (indices_of (suc (c.args.up - c.loop-done.done)) c.args.virt.0) ≡ c.page_index-i.result ∷ take (c.args.k - (c.loop-done.done + 1)) (indices_of (suc (c.args.up - (c.loop-done.done + 1))) c.args.virt.0) = let fewer-k : c.args.k - c.loop-done.done - 1 ≡ c.args.k - (c.loop-done.done + 1) = omega arith in
    let fewer-up : c.args.up - c.loop-done.done - 1 ≡ c.args.up - (c.loop-done.done + 1) = omega arith in
    path_next (c.args.k - c.loop-done.done) (c.args.up - c.loop-done.done) c.args.virt.0 (omega arith) (omega (arith, c.requires.k_le_up))
    ∙ ap₂ (λ (x y : ℕ). index (c.args.up - c.loop-done.done) c.args.virt.0 ∷ take x (indices_of (suc y) c.args.virt.0)) fewer-k fewer-up
    ∙ ap (λ i. i ∷ take (c.args.k - (c.loop-done.done + 1)) (indices_of (suc (c.args.up - (c.loop-done.done + 1))) c.args.virt.0)) (sym c.page_index-i.ensures.value) in (
      onward c.loop-done.done c.args.k c.loop-done-test.true,
      c.enter.auto.words ∙ c.loop-done.invariant.1,
      entered_left c.args.user (lent_memory c.loop-done.words c.loop-done.bitmap c.loop-done.frames) c.loop-done.t c.page_index-i.result c.enter.result
          (lent_memory c.enter.new.words c.enter.new.bitmap c.enter.new.frames) c.enter.ensures
          c.loop-done.done c.args.k c.loop-done-test.true (few) c.loop-done.invariant.2,
      made_on c.args.user (lent_memory c.loop-done.words c.loop-done.bitmap c.loop-done.frames) c.loop-done.t c.page_index-i.result c.enter.result
          (lent_memory c.enter.new.words c.enter.new.bitmap c.enter.new.frames) c.enter.ensures
          (take (c.args.k - c.loop-done.done) (indices_of (suc (c.args.up - c.loop-done.done)) c.args.virt.0)) (take (c.args.k - (c.loop-done.done + 1)) (indices_of (suc (c.args.up - (c.loop-done.done + 1))) c.args.virt.0))
          c.loop-done.invariant.3 (more) _ c.in_ok-t.was,
    )

pub returns : goal.returns
returns c =
    sym (c.loop-done.invariant.3 ∙ make_end _ _ _ (none_left c.args.k c.loop-done.done c.args.up c.args.virt.0 c.loop-done-test.false))
