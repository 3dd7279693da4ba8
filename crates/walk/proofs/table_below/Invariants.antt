-- `table_below`: the way to the last table. The invariant: what is left to walk from `t`, along the indices of the levels left, comes where the whole walk comes.
use Rattle.std.proofs.Common.{◌≡◌, ◌≤◌, ◌-◌, take}
use Prim.Native.Nat.{suc}
use Rattle.entry.specs.Entry.{indices as indices_of}
use Rattle.paging.specs.Walk.{reach}
use Rattle.walk.proofs.table_below.Given as goal

abbrev pub invariant-loop-done : goal.invariant-loop-done
invariant-loop-done l = (l.done ≤ l.up)
    × (reach l.words l.start l.total l.initial.t (take l.up (indices_of (suc l.up) l.virt.0))
    ≡ reach l.words l.start l.total l.t (take (l.up - l.done) (indices_of (suc (l.up - l.done)) l.virt.0)))
