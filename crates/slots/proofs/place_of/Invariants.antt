-- The invariant: the place is within the half that is left.
use Rattle.std.proofs.Common.{ℕ, ◌-◌, ◌≤◌}
use Rattle.slots.specs.Slots.{listed}
use Rattle.slots.specs.Sorted.{place_of}
use Rattle.slots.proofs.place_of.Given as goal

abbrev pub invariant-loop-low : goal.invariant-loop-low
invariant-loop-low g l =
    let s = g.L.SlotList.slots_in l.list in
    let place : ℕ = place_of g.L.SlotList.key l.key (listed s) in
    (l.low ≤ place) × (place ≤ l.high) × (l.high ≤ s.count)

abbrev pub decreases-loop-low : goal.decreases-loop-low
decreases-loop-low g l = l.high - l.low
