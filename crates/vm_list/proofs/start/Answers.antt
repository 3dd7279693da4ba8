-- `start`: all zero, then one region and the count.
use Rattle.std.proofs.Common.{rules, set, length}
use Rattle.slots.specs.Slots.{slotted}
use Rattle.regions.specs.Regions.{window}
use Rattle.vm_list.specs.Packed.{vm_in, vm_fit}
use mathlib.Core.Path.{◌∙◌, ap}
use Rattle.vm_list.proofs.RoundTrip.{filled_zero, no_regions_in, no_regions_fit_out, packed_back}
use Rattle.vm_list.proofs.start.Goals as goal

pub put-requires-clause-list_value : goal.put-requires-clause-list_value
put-requires-clause-list_value c =
    ap vm_fit (c.fill.ensures.after (λ y e. e) ∙ filled_zero (length c.args.list.now) c.requires) ∙ no_regions_fit_out

pub returns-clause-list_after : goal.returns-clause-list_after
returns-clause-list_after c =
    let empty = ap vm_in (c.fill.ensures.after (λ y e. e) ∙ filled_zero (length c.args.list.now) c.requires) ∙ no_regions_in in
    let e = c.put_count.ensures.list_after ∙ (λ j. slotted (c.put.ensures.list_after j).slots 1) ∙ (λ j. slotted (set (empty j).slots 0 window) 1) in
    packed_back c.put_count.new.list c.put_count.ensures.list_after_2 (search rules) e

pub returns-clause-list_after_2 : goal.returns-clause-list_after_2
returns-clause-list_after_2 c =
    let empty = ap vm_in (c.fill.ensures.after (λ y e. e) ∙ filled_zero (length c.args.list.now) c.requires) ∙ no_regions_in in
    let e = c.put_count.ensures.list_after ∙ (λ j. slotted (c.put.ensures.list_after j).slots 1) ∙ (λ j. slotted (set (empty j).slots 0 window) 1) in
    e
