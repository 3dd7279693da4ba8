-- The invariant: the regions left say what all say.
use Rattle.std.proofs.Common.{◌≡◌, ◌-◌, ◌≤◌}
use Rattle.mappings.specs.Packed.{sound_list}
use Rattle.mappings.proofs.Loops.{left}
use Rattle.mappings.proofs.Sound.{sorted}
use Rattle.mappings.proofs.list.is_sound.Given as goal

abbrev pub invariant-loop-i : goal.invariant-loop-i
invariant-loop-i l = (l.i ≤ l.count) × (sorted l.from (left l.list l.i) ≡ sound_list l.list)

abbrev pub decreases-loop-i : goal.decreases-loop-i
decreases-loop-i l = l.count - l.i
