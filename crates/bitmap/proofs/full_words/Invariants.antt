-- `full_words`: the words passed are full.
use Rattle.std.proofs.Common.{◌≡◌, ◌*◌}
use Rattle.bitmap.specs.Bitmap.{count as count_below, marks_in}
use Rattle.bitmap.proofs.full_words.Given as goal

abbrev pub invariant-loop-k : goal.invariant-loop-k
invariant-loop-k l = count_below (marks_in l.bitmap) (l.k * 64) ≡ l.k * 64
