use Rattle.std.proofs.Common.{ℕ, ◌<◌, ◌+◌, ◌≡◌, true, ◌-◌, length, ◌∷◌}
use Rattle.entry.specs.Entry.{indices as indices_of, index}
use Rattle.paging.specs.Working.{rows_below}
use Rattle.paging.specs.User.{user_rows}
use Rattle.frame.specs.Frames.{inside}
use mathlib.Core.Path.{sym, ◌∙◌, ap}
use native.Mathlib.Omega.{arith}
use lib.Dec.{eqb}
use lib.ListN.{get_or}
use borrow.Author.Tests.{ne_eqb}
use Rattle.bits.specs.Bit.{flag}
use Rattle.bits.proofs.Choice.{both_false}
use Rattle.entry.proofs.Entry.{indices_next, length_indices}
use Rattle.frame.proofs.Laws.{passed, failed}
use Rattle.paging.proofs.Working.{NamesTable}
use Rattle.paging.proofs.User.{user_end_none, user_absent, user_large, user_outside, user_none, user_last, user_on}
use Rattle.walk.proofs.Laws.{shifted}
use Rattle.walk.proofs.user_below.Goals as goal
use Rattle.walk.proofs.user_below.Goals.{else-level-eq2-via-then-level-eq2+else-is_huge, else-level-eq2-via-else-level-eq2}

-- the indices left after `done` of them
next : (levels done v : ℕ) {i : ℕ} → done < levels → i ≡ index (levels - done - 1) v → indices_of (levels - done) v ≡ i ∷ indices_of (levels - done - 1) v
next levels done v h e = indices_next (levels - done) v (omega arith) ∙ ap (λ i. i ∷ indices_of (levels - done - 1) v) (sym e)

pub returns-then-not-is_present : goal.returns-then-not-is_present
returns-then-not-is_present c =
    let more = next c.args.levels c.loop-done.done c.args.virt.0 c.loop-done-test.true c.page_index.ensures.value in
    sym (c.loop-done.invariant.2
    ∙ user_absent c.args.write c.args.words.now c.args.start c.args.total c.loop-done.t (more) c.entry_place.ensures (failed c.is_present.ensures c.if-not-is_present.true))

pub returns-then-not-user_entry : goal.returns-then-not-user_entry
returns-then-not-user_entry c =
    let more = next c.args.levels c.loop-done.done c.args.virt.0 c.loop-done-test.true c.page_index.ensures.value in
    sym (c.loop-done.invariant.2
    ∙ user_none c.args.write c.args.words.now c.args.start c.args.total c.loop-done.t (more) c.entry_place.ensures (failed c.user_entry.ensures c.if-not-user_entry.true))

pub returns-then-level-eq1 : goal.returns-then-level-eq1
returns-then-level-eq1 c =
    let below : length (indices_of (c.args.levels - c.loop-done.done - 1) c.args.virt.0) ≡ (c.args.levels - c.loop-done.done) - 1 = length_indices (c.args.levels - c.loop-done.done - 1) c.args.virt.0 in let more = next c.args.levels c.loop-done.done c.args.virt.0 c.loop-done-test.true c.page_index.ensures.value in let there : flag 0 (get_or c.args.words.now c.entry_place.result 0) ≡ true = passed c.is_present.ensures c.if-not-is_present.false in
    sym (c.loop-done.invariant.2
    ∙ user_last c.args.write c.args.words.now c.args.start c.args.total c.loop-done.t (more) c.entry_place.ensures (there) (below ∙ omega (arith, c.if-level-eq1.true))
    (passed c.user_entry.ensures c.if-not-user_entry.false))

pub returns-then-is_huge : goal.returns-then-is_huge
returns-then-is_huge c =
    let below : length (indices_of (c.args.levels - c.loop-done.done - 1) c.args.virt.0) ≡ (c.args.levels - c.loop-done.done) - 1 = length_indices (c.args.levels - c.loop-done.done - 1) c.args.virt.0 in let more = next c.args.levels c.loop-done.done c.args.virt.0 c.loop-done-test.true c.page_index.ensures.value in let there : flag 0 (get_or c.args.words.now c.entry_place.result 0) ≡ true = passed c.is_present.ensures c.if-not-is_present.false in
    sym (c.loop-done.invariant.2
    ∙ user_large c.args.write c.args.words.now c.args.start c.args.total c.loop-done.t (more) c.entry_place.ensures (there) (below ∙ omega (arith, c.if-level-eq2.true))
    (sym c.is_huge.ensures ∙ c.if-is_huge.true))

pub returns-then-not-is_inside : goal.returns-then-not-is_inside
returns-then-not-is_inside c =
    let more = next c.args.levels c.loop-done.done c.args.virt.0 c.loop-done-test.true c.page_index.ensures.value in let below : length (indices_of (c.args.levels - c.loop-done.done - 1) c.args.virt.0) ≡ (c.args.levels - c.loop-done.done) - 1 = length_indices (c.args.levels - c.loop-done.done - 1) c.args.virt.0 in let there : flag 0 (get_or c.args.words.now c.entry_place.result 0) ≡ true = passed c.is_present.ensures c.if-not-is_present.false in let names : NamesTable (length (indices_of (c.args.levels - c.loop-done.done - 1) c.args.virt.0)) (get_or c.args.words.now c.entry_place.result 0) = (
      there,
      omega (arith, below, c.if-level-eq1.false, c.loop-done-test.true),
      elim c.else-level-eq2.branch [
        | else-level-eq2-via-then-level-eq2+else-is_huge w ↦
            rw (sym w.is_huge.ensures ∙ w.if-is_huge.false) (both_false (eqb (length (indices_of (c.args.levels - c.loop-done.done - 1) c.args.virt.0)) 1))
        | else-level-eq2-via-else-level-eq2 w ↦
            rw (ne_eqb (length (indices_of (c.args.levels - c.loop-done.done - 1) c.args.virt.0)) 1 (λ e. omega (arith, below, w.if-level-eq2.false, e, c.loop-done-test.true)))
      ],
    ) in
    sym (c.loop-done.invariant.2
    ∙ user_outside c.args.write c.args.words.now c.args.start c.args.total c.loop-done.t (more) c.entry_place.ensures (names)
    (ap (inside c.args.start c.args.total) (sym (shifted _ c.addr-t.ensures)) ∙ failed c.is_inside.ensures c.if-not-is_inside.true))

pub loop-done-preserved : goal.loop-done-preserved
loop-done-preserved c =
    let less : c.args.levels - c.loop-done.done - 1 ≡ c.args.levels - (c.loop-done.done + 1) = omega arith in
    let more = next c.args.levels c.loop-done.done c.args.virt.0 c.loop-done-test.true c.page_index.ensures.value in let below : length (indices_of (c.args.levels - c.loop-done.done - 1) c.args.virt.0) ≡ (c.args.levels - c.loop-done.done) - 1 = length_indices (c.args.levels - c.loop-done.done - 1) c.args.virt.0 in let there : flag 0 (get_or c.args.words.now c.entry_place.result 0) ≡ true = passed c.is_present.ensures c.if-not-is_present.false in let names : NamesTable (length (indices_of (c.args.levels - c.loop-done.done - 1) c.args.virt.0)) (get_or c.args.words.now c.entry_place.result 0) = (
      there,
      omega (arith, below, c.if-level-eq1.false, c.loop-done-test.true),
      elim c.else-level-eq2.branch [
        | else-level-eq2-via-then-level-eq2+else-is_huge w ↦
            rw (sym w.is_huge.ensures ∙ w.if-is_huge.false) (both_false (eqb (length (indices_of (c.args.levels - c.loop-done.done - 1) c.args.virt.0)) 1))
        | else-level-eq2-via-else-level-eq2 w ↦
            rw (ne_eqb (length (indices_of (c.args.levels - c.loop-done.done - 1) c.args.virt.0)) 1 (λ e. omega (arith, below, w.if-level-eq2.false, e, c.loop-done-test.true)))
      ],
    ) in
    let to = shifted _ c.addr-t.ensures in
    let lent = passed c.is_inside.ensures c.if-not-is_inside.false in (
      omega (arith, c.loop-done.invariant.0, c.loop-done-test.true),
      lent,
      rw (← less) (c.loop-done.invariant.2
          ∙ user_on c.args.write c.args.words.now c.args.start c.args.total c.loop-done.t (more) c.entry_place.ensures (names)
          (ap (inside c.args.start c.args.total) (sym to) ∙ lent) (passed c.user_entry.ensures c.if-not-user_entry.false)
          ∙ ap (λ x. user_rows c.args.write (rows_below c.args.words.now c.args.start c.args.total x (indices_of (c.args.levels - c.loop-done.done - 1) c.args.virt.0))) (sym to)),
    )

pub returns : goal.returns
returns c =
    let none : (c.args.levels - c.loop-done.done) ≡ 0 = omega (arith, c.loop-done-test.false) in
    sym (c.loop-done.invariant.2 ∙ user_end_none _ _ _ _ _ (ap (λ n. indices_of n c.args.virt.0) none))
