-- `write_slots`: the first i slots are written.
use Rattle.std.proofs.Common.{◌≡◌, true, ◌++◌, take, drop}
use Rattle.slots.specs.Slots.{slotted}
use Rattle.vm_list.specs.Packed.{vm_in, vm_fit}
use Rattle.vm_list.proofs.write_slots.Given as goal

abbrev pub invariant-loop-i : goal.invariant-loop-i
invariant-loop-i l = (vm_fit l.list ≡ true) × (vm_in l.list ≡ slotted (take l.i l.regions ++ drop l.i (vm_in l.initial.list).slots) (vm_in l.initial.list).count)
