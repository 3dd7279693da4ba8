use Rattle.std.specs.Prelude.{Result}
use Rattle.answer.specs.declared.Refusal.{Refusal}
use Rattle.std.proofs.Common.{◌≡◌, ◌≤◌, ◌+◌, ◌-◌, arith}
use Rattle.address.specs.Address.{as_phys}
use Rattle.paging.specs.Walk.{address}
use mathlib.Core.Path.{◌∙◌, ap}
use Rattle.frame.proofs.Laws.{passed, failed}
use Rattle.paging.specs.declared.Leaf.{Leaf}
use Rattle.walk.proofs.Laws.{shifted}
use Rattle.working.proofs.Rows.{end_answer, end_numbers, written_more}
use Rattle.working.proofs.show_rows.Goals as goal

pub returns-then-not-goes_on-clause-value : goal.returns-then-not-goes_on-clause-value
returns-then-not-goes_on-clause-value c =
    let few : c.args.levels ≤ 5 = c.requires.levels_le_most_levels in let end = failed c.goes_on.ensures c.if-not-goes_on.true in c.phys_at.ensures
    ∙ ap (λ (e : Result Leaf Refusal). as_phys (address c.args.virt.0 e)) (c.leaf_by.ensures
    ∙ end_answer c.loop-at.invariant (few) c.page_index-i.ensures.value c.entry_place.ensures c.entry_verdict-verdict.ensures c.put_row.ensures end)

pub returns-then-not-goes_on-clause-out_after : goal.returns-then-not-goes_on-clause-out_after
returns-then-not-goes_on-clause-out_after c =
    let few : c.args.levels ≤ 5 = c.requires.levels_le_most_levels in let end = failed c.goes_on.ensures c.if-not-goes_on.true in end_numbers c.loop-at.invariant (few) c.page_index-i.ensures.value c.entry_place.ensures c.entry_verdict-verdict.ensures c.put_row.ensures end

pub loop-at-preserved : goal.loop-at-preserved
loop-at-preserved c =
    let few : c.args.levels ≤ 5 = c.requires.levels_le_most_levels in
    let level : c.args.levels - c.loop-at.at - 1 ≡ c.args.levels - (c.loop-at.at + 1) = omega arith in
    rw (← level) (written_more c.loop-at.invariant (few) c.page_index-i.ensures.value c.entry_place.ensures c.entry_verdict-verdict.ensures c.put_row.ensures
    (passed c.goes_on.ensures c.if-not-goes_on.false) (shifted _ c.addr-t.ensures))
