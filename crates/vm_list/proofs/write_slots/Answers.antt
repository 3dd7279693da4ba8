-- `write_slots`: one slot more is written.
use Rattle.std.proofs.Common.{get_or, take, drop, set, List, ◌++◌}
use Rattle.slots.specs.Slots.{slotted}
use Rattle.regions.specs.Regions.{no_vm_region}
use Rattle.vm_list.specs.Packed.{vm_in}
use mathlib.Core.Path.{refl, ◌∙◌, ap}
use native.Mathlib.Omega.{arith}
use Rattle.regions.specs.declared.VMRegion.{VMRegion}
use Rattle.vm_list.proofs.RoundTrip.{slots_long}
use Rattle.vm_list.proofs.Live.{copied}
use Rattle.vm_list.proofs.write_slots.Goals as goal

pub loop-i-preserved : goal.loop-i-preserved
loop-i-preserved c =
    let old = vm_in c.args.list.now in (
      c.put.ensures.list_after_2,
      c.put.ensures.list_after ∙ (λ j. slotted (set (c.loop-i.invariant.1 j).slots c.loop-i.i (get_or c.args.regions.now c.loop-i.i no_vm_region)) (c.loop-i.invariant.1 j).count)
          ∙ ap (λ (x : List VMRegion). slotted x old.count)
          (copied no_vm_region c.loop-i.i c.args.regions.now old.slots (take c.loop-i.i c.args.regions.now ++ drop c.loop-i.i old.slots) (omega arith) (omega (arith, slots_long c.args.list.now)) refl),
    )
