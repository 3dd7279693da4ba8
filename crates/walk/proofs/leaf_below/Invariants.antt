-- `leaf_below`: the entry that a translation ends at. The invariant: what is left to look up below `t`, along the indices of the levels left, is the whole answer.
use Rattle.std.proofs.Common.{◌≡◌, ◌≤◌, ◌-◌}
use Rattle.entry.specs.Entry.{indices as indices_of}
use Rattle.paging.specs.Walk.{leaf}
use Rattle.walk.proofs.leaf_below.Given as goal

abbrev pub invariant-loop-done : goal.invariant-loop-done
invariant-loop-done l = (l.done ≤ l.levels) × (leaf l.words l.start l.total l.initial.t (indices_of l.levels l.virt.0) ≡ leaf l.words l.start l.total l.t (indices_of (l.levels - l.done) l.virt.0))
