-- `lent::shift_up`: the slots are copied up by one.
use Rattle.std.proofs.Common.{List, ap, ◌∙◌, slice_set}
use Rattle.slots.proofs.Copied.{copied_up}
use Rattle.regions.specs.declared.VMRegion.{VMRegion}
use Rattle.regions.specs.Regions.{no_vm_region}
use Rattle.regions.proofs.lent.shift_up.Goals as goal

pub returns : goal.returns
returns c =
    ap (λ (l : List VMRegion). slice_set l c.args.at c.args.r) (c.copy_within.ensures.after ∙ copied_up no_vm_region c.args.regions.now c.args.at c.args.end c.requires.0)
