-- `zero_frame`: the words from `at` on are set to 0, one a turn. The invariant: i of them are.
use Rattle.std.proofs.Common.{◌≡◌, ◌-◌, ◌≤◌, length}
use Rattle.paging.specs.Map.{clear}
use Rattle.tables.proofs.zero_frame.Given as goal

abbrev pub invariant-loop-i : goal.invariant-loop-i
invariant-loop-i l = (l.i ≤ 512) × (l.words ≡ clear l.initial.words l.at l.i) × (length l.words ≡ length l.initial.words)

abbrev pub decreases-loop-i : goal.decreases-loop-i
decreases-loop-i l = 512 - l.i
