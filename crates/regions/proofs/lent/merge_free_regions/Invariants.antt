-- `lent::merge_free_regions`: of n regions the first i are done (`Merging.antt`).
use Rattle.std.proofs.Common.{◌-◌}
use Rattle.slots.specs.Slots.{slotted}
use Rattle.regions.proofs.Merging.{Merging}
use Rattle.regions.proofs.lent.merge_free_regions.Given as goal

abbrev pub invariant-loop-i : goal.invariant-loop-i
invariant-loop-i l = Merging (slotted l.fn.regions l.fn.count) l.regions l.n l.i

abbrev pub decreases-loop-i : goal.decreases-loop-i
decreases-loop-i l = l.n - l.i
