-- `read_slots`: one slot more is read.
use Rattle.std.proofs.Common.{set}
use Rattle.regions.specs.Regions.{no_vm_region}
use Rattle.vm_list.specs.Packed.{vm_in}
use mathlib.Core.Path.{◌∙◌, ap}
use native.Mathlib.Omega.{arith}
use Rattle.vm_list.proofs.RoundTrip.{slots_long}
use Rattle.vm_list.proofs.Live.{copied}
use Rattle.vm_list.proofs.read_slots.Goals as goal

pub loop-i-preserved : goal.loop-i-preserved
loop-i-preserved c =
    ap (set c.loop-i.regions c.loop-i.i) c.slot.ensures
    ∙ copied no_vm_region c.loop-i.i (vm_in c.args.list.now).slots c.args.regions.now c.loop-i.regions (omega (arith, slots_long c.args.list.now)) (omega arith) c.loop-i.invariant
