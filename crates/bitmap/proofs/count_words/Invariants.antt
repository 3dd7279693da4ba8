-- `count_words`: the sum is that of the words so far.
use Rattle.std.proofs.Common.{◌≡◌, ◌+◌, ◌*◌, ◌≤◌}
use Rattle.bitmap.specs.Bitmap.{count as count_below, marks_in}
use Rattle.bitmap.proofs.count_words.Given as goal

abbrev pub invariant-loop-k : goal.invariant-loop-k
invariant-loop-k l = (l.from ≤ l.k) × (l.k ≤ l.end) × (count_below (marks_in l.bitmap) (l.from * 64) + l.sum ≡ count_below (marks_in l.bitmap) (l.k * 64))
