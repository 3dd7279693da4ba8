-- `read_slots`: the first i slots are read.
use Rattle.std.proofs.Common.{◌≡◌, ◌++◌, take, drop}
use Rattle.vm_list.specs.Packed.{vm_in}
use Rattle.vm_list.proofs.read_slots.Given as goal

abbrev pub invariant-loop-i : goal.invariant-loop-i
invariant-loop-i l = l.regions ≡ take l.i (vm_in l.list).slots ++ drop l.i l.initial.regions
