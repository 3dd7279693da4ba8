-- `free_few`: one page a turn. The invariant: what is left to free from page i on comes out as the whole run, and the tally tells what is gone.
use Rattle.std.proofs.Common.{◌≡◌, ◌+◌, ◌*◌, ◌-◌, ◌≤◌, length}
use Rattle.paging.specs.Kept.{lent_memory}
use Rattle.paging.specs.Map.{RoomToTake}
use Rattle.paging.specs.Pages.{free_pages}
use Rattle.paging.specs.Found.{Tells}
use Rattle.freeing_runs.proofs.free_few.Given as goal

abbrev pub invariant-loop-i : goal.invariant-loop-i
invariant-loop-i l = (l.i ≤ l.n) × (length l.words ≡ length l.initial.words) × RoomToTake (lent_memory l.words l.bitmap l.left) 0
    × (free_pages l.up (lent_memory l.initial.words l.initial.bitmap l.initial.left) l.root.0 l.virt.0 l.n
    ≡ free_pages l.up (lent_memory l.words l.bitmap l.left) l.root.0 (l.virt.0 + l.i * 4096) (l.n - l.i))
    × Tells (lent_memory l.initial.words l.initial.bitmap l.initial.left) (lent_memory l.words l.bitmap l.left) l.found

abbrev pub decreases-loop-i : goal.decreases-loop-i
decreases-loop-i l = l.n - l.i
