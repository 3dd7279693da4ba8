-- `span_below`: the walk down to the last table. The invariant: `t` is the table that was come to, a lent one, and `above` has those before it.
use Rattle.std.specs.Prelude.{Ok}
use Rattle.std.proofs.Common.{ℕ, ◌≡◌, ◌-◌, ◌<◌, ◌≤◌, true, length, take, get_or}
use Rattle.frame.specs.Frames.{inside}
use Rattle.paging.specs.Walk.{reach}
use Rattle.tree.proofs.Paths.{path}
use Rattle.spans.proofs.span_below.Given as goal

abbrev pub invariant-loop-passed : goal.invariant-loop-passed
invariant-loop-passed l = (l.passed ≤ l.up) × (length l.above ≡ 4) × (reach l.words l.start l.total l.initial.t (take l.passed (path l.up l.virt.0)) ≡ Ok l.t) × (inside l.start l.total l.t ≡ true)
    × ((k : ℕ) → k < l.passed → reach l.words l.start l.total l.initial.t (take k (path l.up l.virt.0)) ≡ Ok (get_or l.above k 0))

abbrev pub decreases-loop-passed : goal.decreases-loop-passed
decreases-loop-passed l = l.up - l.passed
