-- The invariant: those from i on have moved.
use Rattle.std.proofs.Common.{◌≡◌, ◌≤◌, true}
use Rattle.slots.specs.Slots.{slotted}
use Rattle.slots.specs.Shifts.{shifted_up}
use Rattle.slots.proofs.put_in.Given as goal

abbrev pub invariant-loop-i : goal.invariant-loop-i
invariant-loop-i g l =
    let s = g.L.SlotList.slots_in l.initial.list in
    (l.at ≤ l.i) × (l.i ≤ l.count) × (g.L.SlotList.fit l.list ≡ true)
    × (g.L.SlotList.slots_in l.list ≡ slotted (shifted_up s.slots l.i l.count) s.count)
    × (g.L.SlotList.beside l.list ≡ g.L.SlotList.beside l.initial.list)
