-- The invariant: those up to i have moved.
use Rattle.std.proofs.Common.{◌≡◌, ◌≤◌, true}
use Rattle.slots.specs.Slots.{slotted}
use Rattle.slots.proofs.Slices.{down_to}
use Rattle.slots.proofs.take_out.Given as goal

abbrev pub invariant-loop-i : goal.invariant-loop-i
invariant-loop-i g l =
    let s = g.L.SlotList.slots_in l.initial.list in
    (l.at ≤ l.i) × (l.i ≤ l.last) × (g.L.SlotList.fit l.list ≡ true)
    × (g.L.SlotList.slots_in l.list ≡ slotted (down_to g.L.SlotList.blank s.slots l.at l.i) s.count)
    × (g.L.SlotList.beside l.list ≡ g.L.SlotList.beside l.initial.list)
