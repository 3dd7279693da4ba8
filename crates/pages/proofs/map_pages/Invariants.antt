-- `map_pages`: one page a turn. The invariant: what is left to map from page i on comes out as the whole run, and there is room for the frames it may take.
use Rattle.std.proofs.Common.{◌≡◌, ◌+◌, ◌*◌, ◌-◌, ◌≤◌, length}
use Rattle.paging.specs.Kept.{lent_memory}
use Rattle.paging.specs.Map.{RoomToTake}
use Rattle.paging.specs.Pages.{map_pages}
use Rattle.pages.proofs.map_pages.Given as goal

abbrev pub invariant-loop-i : goal.invariant-loop-i
invariant-loop-i l = (l.i ≤ l.n) × (length l.words ≡ length l.initial.words) × RoomToTake (lent_memory l.words l.bitmap l.left) ((l.n - l.i) * 5)
    × (map_pages l.up l.writable l.user (lent_memory l.initial.words l.initial.bitmap l.initial.left) l.root.0 l.virt.0 0 l.n
    ≡ map_pages l.up l.writable l.user (lent_memory l.words l.bitmap l.left) l.root.0 (l.virt.0 + l.i * 4096) l.i (l.n - l.i))

abbrev pub decreases-loop-i : goal.decreases-loop-i
decreases-loop-i l = l.n - l.i
