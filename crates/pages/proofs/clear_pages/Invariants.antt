-- `clear_pages`: one page a turn. The invariant: what is left to clear from page i on comes out as the whole run.
use Rattle.std.proofs.Common.{ℕ, ◌≡◌, ◌+◌, ◌*◌, ◌-◌, ◌≤◌, List, length}
use Rattle.paging.specs.Kept.{lent_memory}
use Rattle.paging.specs.Pages.{clear_pages}
use Rattle.pages.proofs.clear_pages.Given as goal

abbrev pub invariant-loop-i : goal.invariant-loop-i
invariant-loop-i l = (l.i ≤ l.n) × (length l.words ≡ length l.initial.words)
    × ((b : List ℕ) → clear_pages l.up (lent_memory l.initial.words b l.frames) l.root.0 l.virt.0 l.n
    ≡ clear_pages l.up (lent_memory l.words b l.frames) l.root.0 (l.virt.0 + l.i * 4096) (l.n - l.i))

abbrev pub decreases-loop-i : goal.decreases-loop-i
decreases-loop-i l = l.n - l.i
