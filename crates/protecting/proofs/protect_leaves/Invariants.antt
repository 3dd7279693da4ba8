-- `protect_leaves`: one page a turn.
use Rattle.std.proofs.Common.{◌≡◌, ◌-◌, ◌≤◌}
use Rattle.paging.specs.Protect.{protect_pages}
use Rattle.protecting.proofs.protect_leaves.Given as goal

-- i pages are done
abbrev pub invariant-loop-i : goal.invariant-loop-i
invariant-loop-i l = (l.i ≤ l.n) × (l.words ≡ protect_pages 0 l.writable l.initial.words l.start l.total l.t l.virt.0 l.i)

abbrev pub decreases-loop-i : goal.decreases-loop-i
decreases-loop-i l = l.n - l.i
