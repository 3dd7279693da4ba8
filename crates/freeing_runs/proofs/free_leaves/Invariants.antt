-- `free_leaves`: one leaf a turn. The invariant: what is left to free from leaf j on comes out as the whole, and the tally tells what is gone.
use Rattle.std.proofs.Common.{◌≡◌, ◌+◌, ◌-◌, ◌≤◌, length}
use Rattle.paging.specs.Kept.{lent_memory}
use Rattle.paging.specs.Map.{RoomToTake}
use Rattle.paging.specs.Found.{Tells}
use Rattle.freeing_runs.specs.Freeing.{free_leaves}
use Rattle.freeing_runs.proofs.free_leaves.Given as goal

abbrev pub invariant-loop-j : goal.invariant-loop-j
invariant-loop-j l = (l.j ≤ l.n) × (length l.words ≡ length l.initial.words) × RoomToTake (lent_memory l.words l.bitmap l.left) 0
    × (free_leaves (lent_memory l.initial.words l.initial.bitmap l.initial.left) l.t l.i l.n ≡ free_leaves (lent_memory l.words l.bitmap l.left) l.t (l.i + l.j) (l.n - l.j))
    × Tells (lent_memory l.initial.words l.initial.bitmap l.initial.left) (lent_memory l.words l.bitmap l.left) l.found

abbrev pub decreases-loop-j : goal.decreases-loop-j
decreases-loop-j l = l.n - l.j
