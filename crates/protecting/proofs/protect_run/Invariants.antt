-- `protect_run`: one last table a turn.
use Rattle.std.proofs.Common.{◌≡◌, ◌-◌, ◌≤◌}
use Rattle.paging.specs.Protect.{protect_pages}
use Rattle.protecting.proofs.protect_run.Given as goal

-- the pages of the run so far follow the choice
abbrev pub invariant-loop-done : goal.invariant-loop-done
invariant-loop-done l = (l.done ≤ l.n) × (l.words ≡ protect_pages l.up l.writable l.initial.words l.start l.total l.root.0 l.virt.0 l.done)

abbrev pub decreases-loop-done : goal.decreases-loop-done
decreases-loop-done l = l.n - l.done
