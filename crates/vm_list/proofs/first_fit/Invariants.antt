-- `first_fit`: one region after the other.
use Rattle.slots.proofs.Slices.{Seeking}
use Rattle.regions.specs.Regions.{fits}
use Rattle.vm_list.specs.Packed.{vm_in}
use Rattle.vm_list.proofs.first_fit.Given as goal

abbrev pub invariant-loop-i : goal.invariant-loop-i
invariant-loop-i l = Seeking (fits l.size) (vm_in l.list).slots l.n l.i
