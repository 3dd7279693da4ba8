-- `is_clear`: if the flag is 0 so far, nothing so far is marked.
use Rattle.std.proofs.Common.{◌≡◌, ◌*◌, ◌≤◌}
use Rattle.bitmap.specs.Bitmap.{count as count_below, marks_in}
use Rattle.bitmap.proofs.is_clear.Given as goal

abbrev pub invariant-loop-k : goal.invariant-loop-k
invariant-loop-k l = (l.from ≤ l.k) × (l.k ≤ l.end) × (l.any ≡ 0 → count_below (marks_in l.bitmap) (l.k * 64) ≡ count_below (marks_in l.bitmap) (l.from * 64))
