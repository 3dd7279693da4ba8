-- `bitmap::lowest_free` meets its contract. The invariant: every number of the words passed is marked. A word's run of ones moves that on, and
-- the search ends where the run stops short of the word's end, or at n.
use Rattle.std.proofs.Common.{ℕ, ◌≡◌, ◌*◌, ◌<◌}
use Rattle.bitmap.specs.Bitmap.{marked, marks_in}
use Rattle.bitmap.proofs.lowest_free.Given as goal

abbrev pub invariant-loop-k : goal.invariant-loop-k
invariant-loop-k l = (j : ℕ) → j < l.k * 64 → marked (marks_in l.bitmap) j ≡ 1
