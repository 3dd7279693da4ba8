-- `lent::shift_down`: the slots are copied down by one, and a zero slot stored at the end.
use Rattle.std.proofs.Common.{ap, ◌∙◌, slice_set, ◌-◌}
use Rattle.slots.proofs.Copied.{copied_down}
use Rattle.regions.specs.Regions.{no_vm_region}
use Rattle.regions.proofs.Placed.{default_blank}
use Rattle.regions.proofs.lent.shift_down.Goals as goal

pub returns : goal.returns
returns c =
    ap (slice_set c.copy_within.new.self (c.args.end - 1)) (default_blank c.default.result c.default.ensures)
    ∙ copied_down no_vm_region c.args.regions.now c.args.at c.args.end c.requires.0 c.requires.1 c.copy_within.ensures.after
