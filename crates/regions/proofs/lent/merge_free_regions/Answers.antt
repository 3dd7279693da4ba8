-- `lent::merge_free_regions`: a pair stays apart or becomes one, and a list of one region is merged.
use Rattle.std.proofs.Common.{◌-◌, List, arith, sym, ap, ◌∙◌, subst}
use Rattle.slots.specs.Slots.{slotted}
use Rattle.regions.specs.declared.VMRegion.{VMRegion}
use Rattle.regions.specs.List.{marked_at}
use Rattle.regions.proofs.Merging.{Merging, lies, marked_join, merge_on, merge_joined, joined_lies, merge_end}
use Rattle.regions.proofs.lent.merge_free_regions.Goals as goal

pub joins-requires : goal.joins-requires
joins-requires c =
    let p = lies (slotted c.args.regions.now c.args.count) c.loop-i.regions c.loop-i.n c.loop-i.i c.loop-i.invariant c.loop-i.i (omega arith) in
    omega (arith, p.end)

pub overflow_add-r : goal.overflow_add-r
overflow_add-r c =
    let p = joined_lies (slotted c.args.regions.now c.args.count) c.loop-i.regions c.loop-i.n c.loop-i.i c.loop-i.invariant c.loop-i-test.true (sym c.joins.ensures ∙ c.if-joins.true) in
    record { fits = omega (arith, p.end) }

pub loop-i-preserved-then-joins : goal.loop-i-preserved-then-joins
loop-i-preserved-then-joins c =
    let s = slotted c.args.regions.now c.args.count in
    subst (λ (us : List VMRegion). Merging s us (c.loop-i.n - 1) c.loop-i.i)
    (sym (c.mark.ensures ∙ ap (marked_at c.loop-i.i _ _) c.shift_down.ensures ∙ marked_join s c.loop-i.regions c.loop-i.n c.loop-i.i c.loop-i.invariant c.loop-i-test.true))
    (merge_joined s c.loop-i.regions c.loop-i.n c.loop-i.i c.loop-i.invariant c.loop-i-test.true (sym c.joins.ensures ∙ c.if-joins.true))

pub loop-i-preserved : goal.loop-i-preserved
loop-i-preserved c =
    merge_on (slotted c.args.regions.now c.args.count) c.loop-i.regions c.loop-i.n c.loop-i.i c.loop-i.invariant c.loop-i-test.true (sym c.joins.ensures ∙ c.if-joins.false)

pub returns : goal.returns
returns c = merge_end (slotted c.args.regions.now c.args.count) c.loop-i.regions c.loop-i.n c.loop-i.i c.loop-i.invariant c.loop-i-test.false
