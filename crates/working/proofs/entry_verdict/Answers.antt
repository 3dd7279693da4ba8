-- `entry_verdict`: test by test, in the definition's order.
use Rattle.std.proofs.Common.{◌≡◌, true}
use Rattle.frame.specs.Frames.{inside}
use mathlib.Core.Path.{sym, ◌∙◌, ap}
use native.Mathlib.Omega.{arith}
use lib.Dec.{eqb}
use borrow.Author.Tests.{ne_eqb}
use Rattle.bits.specs.Bit.{both, flag}
use Rattle.bits.proofs.Choice.{both_false}
use Rattle.frame.proofs.Laws.{passed, failed}
use Rattle.walk.proofs.Laws.{shifted}
use Rattle.paging.proofs.Working.{NamesTable, verdict_absent, verdict_last, verdict_large, verdict_followed, verdict_outside}
use Rattle.working.proofs.entry_verdict.Goals as goal
use Rattle.working.proofs.entry_verdict.Goals.{else-below-eq1-via-then-below-eq1+else-is_huge, else-below-eq1-via-else-below-eq1}

pub returns-then-not-is_present : goal.returns-then-not-is_present
returns-then-not-is_present c =
    sym (verdict_absent _ _ _ _ (failed c.is_present.ensures c.if-not-is_present.true))

pub returns-then-below-eq0 : goal.returns-then-below-eq0
returns-then-below-eq0 c =
    let there : flag 0 c.args.e.0 ≡ true = passed c.is_present.ensures c.if-not-is_present.false in
    sym (verdict_last _ _ _ _ (there) c.if-below-eq0.true)

pub returns-then-is_huge : goal.returns-then-is_huge
returns-then-is_huge c =
    let there : flag 0 c.args.e.0 ≡ true = passed c.is_present.ensures c.if-not-is_present.false in
    sym (verdict_large _ _ _ _ (there) c.if-below-eq1.true (sym c.is_huge.ensures ∙ c.if-is_huge.true))

pub returns-then-is_inside : goal.returns-then-is_inside
returns-then-is_inside c =
    let there : flag 0 c.args.e.0 ≡ true = passed c.is_present.ensures c.if-not-is_present.false in let named : NamesTable c.args.below c.args.e.0 = (
      there,
      omega (arith, c.if-below-eq0.false),
      elim c.else-below-eq1.branch [
        | else-below-eq1-via-then-below-eq1+else-is_huge w ↦ ap (both (eqb c.args.below 1)) (sym w.is_huge.ensures ∙ w.if-is_huge.false) ∙ both_false (eqb c.args.below 1)
        | else-below-eq1-via-else-below-eq1 w ↦ ap (λ b. both b (flag 7 c.args.e.0)) (ne_eqb c.args.below 1 (λ e. omega (arith, e, w.if-below-eq1.false)))
      ],
    ) in
    sym (verdict_followed _ _ _ _ (named)
    (ap (inside c.args.start c.args.total) (sym (shifted c.args.e.0 c.addr.ensures)) ∙ sym c.is_inside.ensures ∙ c.if-is_inside.true))

pub returns : goal.returns
returns c =
    let there : flag 0 c.args.e.0 ≡ true = passed c.is_present.ensures c.if-not-is_present.false in let named : NamesTable c.args.below c.args.e.0 = (
      there,
      omega (arith, c.if-below-eq0.false),
      elim c.else-below-eq1.branch [
        | else-below-eq1-via-then-below-eq1+else-is_huge w ↦ ap (both (eqb c.args.below 1)) (sym w.is_huge.ensures ∙ w.if-is_huge.false) ∙ both_false (eqb c.args.below 1)
        | else-below-eq1-via-else-below-eq1 w ↦ ap (λ b. both b (flag 7 c.args.e.0)) (ne_eqb c.args.below 1 (λ e. omega (arith, e, w.if-below-eq1.false)))
      ],
    ) in
    sym (verdict_outside _ _ _ _ (named)
    (ap (inside c.args.start c.args.total) (sym (shifted c.args.e.0 c.addr.ensures)) ∙ sym c.is_inside.ensures ∙ c.if-is_inside.false))
