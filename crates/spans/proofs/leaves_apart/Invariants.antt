-- `leaves_apart`: the end of the leaves, moved down for each entry on the way. The invariant: so it is for the entries that were looked at.
use Rattle.std.proofs.Common.{ℕ, ◌≡◌, ◌+◌, ◌-◌, ◌<◌, ◌≤◌, List, get_or}
use mathlib.Core.Logic.{◌⊎◌}
use Rattle.entry.specs.Entry.{index}
use Rattle.spans.proofs.leaves_apart.Given as goal

abbrev Past : ℕ → ℕ → ℕ → Type 0
Past x from end = (x < from) ⊎ (end ≤ x + 1)

abbrev Passed : List ℕ → ℕ → ℕ → ℕ → ℕ → ℕ → ℕ → Type 0
Passed above up v t from end passed = (l : ℕ) → l < passed → get_or above l 0 ≡ t → Past (index (up - l) v) from end

abbrev pub invariant-loop-passed : goal.invariant-loop-passed
invariant-loop-passed l = (l.passed ≤ l.up) × (l.from < l.end) × (l.end ≤ 512) × Passed l.above l.up l.virt.0 l.t l.from l.end l.passed

abbrev pub decreases-loop-passed : goal.decreases-loop-passed
decreases-loop-passed l = l.up - l.passed
