-- `tables_below`: the tables on the way. The invariant: what is left to make from `t`, along the indices left, comes out as the whole, and there is room for the frames it may take.
use Rattle.std.proofs.Common.{◌≡◌, ◌-◌, ◌≤◌, length, take}
use Prim.Native.Nat.{suc}
use Rattle.entry.specs.Entry.{indices as indices_of}
use Rattle.paging.specs.Kept.{lent_memory}
use Rattle.paging.specs.Map.{make, RoomToTake}
use Rattle.tables.proofs.tables_below.Given as goal

abbrev pub invariant-loop-done : goal.invariant-loop-done
invariant-loop-done l = (l.done ≤ l.k) × (length l.words ≡ length l.initial.words) × RoomToTake (lent_memory l.words l.bitmap l.frames) (4 - l.done)
    × (make l.user (lent_memory l.initial.words l.initial.bitmap l.initial.frames) l.initial.t (take l.k (indices_of (suc l.up) l.virt.0))
    ≡ make l.user (lent_memory l.words l.bitmap l.frames) l.t (take (l.k - l.done) (indices_of (suc (l.up - l.done)) l.virt.0)))

abbrev pub decreases-loop-done : goal.decreases-loop-done
decreases-loop-done l = l.k - l.done
