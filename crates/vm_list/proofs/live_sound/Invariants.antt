-- `live_sound`: one region after the other.
use Rattle.std.proofs.Common.{◌≡◌, ◌+◌, ◌*◌, ◌-◌, drop}
use Rattle.slots.proofs.Slices.{Passing}
use Rattle.regions.specs.Regions.{well_placed_vm}
use Rattle.vm_list.specs.Packed.{vm_in, used_is_flag}
use Rattle.vm_list.proofs.live_sound.Given as goal

abbrev pub invariant-loop-i : goal.invariant-loop-i
invariant-loop-i l = Passing well_placed_vm (vm_in l.list).slots l.n l.i × (used_is_flag l.n (drop 8 l.list) ≡ used_is_flag (l.n - l.i) (drop (l.i * 24 + 8) l.list))
