-- `protect_below` and `protect_entries`, which call each other one level further down: twice the levels are the measure.
use Rattle.std.proofs.Common.{◌≡◌, ◌+◌, ◌*◌, ◌-◌, ◌≤◌}
use Rattle.paging.specs.Protect.{protect_pages}
use Rattle.protecting.specs.Protecting.{Remembered}
use Rattle.protecting.proofs.table.+protect_below_protect_entries.Given as goal

-- they call each other one level further down: twice the levels are the measure
abbrev pub decreases-protect_below : goal.decreases-protect_below
decreases-protect_below l = 2 * l.d + 1

abbrev pub decreases-protect_entries : goal.decreases-protect_entries
decreases-protect_entries l = 2 * l.d

-- the pages of the run so far follow the choice, and what is remembered still holds
abbrev pub invariant-protect_entries-loop-done : goal.invariant-protect_entries-loop-done
invariant-protect_entries-loop-done l =
    (l.done ≤ l.n) × (l.words ≡ protect_pages l.d l.writable l.initial.words l.start l.total l.t l.virt.0 l.done) × Remembered l.writable l.words l.start l.total l.gone

abbrev pub decreases-protect_entries-loop-done : goal.decreases-protect_entries-loop-done
decreases-protect_entries-loop-done l = l.n - l.done
