-- `rest_zero`: the flag so far and the words left say what all say.
use Rattle.std.proofs.Common.{◌≡◌, ◌≤◌, drop}
use lib.Dec.{eqb}
use Rattle.bits.specs.Bit.{both}
use Rattle.packed.specs.Words.{unpack}
use Rattle.slots.specs.Slots.{every}
use Rattle.vm_list.specs.Packed.{vm_words}
use Rattle.vm_list.proofs.Places.{is_zero}
use Rattle.vm_list.proofs.rest_zero.Given as goal

abbrev pub invariant-loop-j : goal.invariant-loop-j
invariant-loop-j l = (l.k ≤ l.j) × (l.j ≤ vm_words) × (both (eqb l.any 0) (every is_zero (drop l.j (unpack vm_words l.list))) ≡ every is_zero (drop l.k (unpack vm_words l.list)))
