-- `find_used`: one region after the other.
use Rattle.slots.proofs.Slices.{Seeking}
use Rattle.regions.specs.List.{used_at}
use Rattle.vm_list.specs.Packed.{vm_in}
use Rattle.vm_list.proofs.find_used.Given as goal

abbrev pub invariant-loop-i : goal.invariant-loop-i
invariant-loop-i l = Seeking (used_at l.addr) (vm_in l.list).slots l.n l.i
