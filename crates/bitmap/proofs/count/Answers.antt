-- `count`: whole words, and the bits of the last one.
use Rattle.std.proofs.Common.{◌≡◌, ℕ, ◌+◌, ◌%◌}
use Rattle.bitmap.specs.Bitmap.{count as count_below, marks_in}
use Prim.Native.Nat.{◌^◌}
use mathlib.Core.Path.{sym, ◌∙◌, ap, ap₂}
use native.Mathlib.Omega.{arith}
use lib.Count.{ones}
use Rattle.bits.proofs.Single.{and_below}
use Rattle.bitmap.proofs.Marks.{count_le}
use Rattle.bitmap.proofs.ByWord.{count_words}
use Rattle.bitmap.proofs.count.Goals as goal

pub overflow_add-result : goal.overflow_add-result
overflow_add-result c =
    let ended : c.count_whole-sum.result + c.ones.result ≡ count_below (marks_in c.args.bitmap.now) c.args.n = let bm = marks_in c.args.bitmap.now in
    ap₂ ◌+◌ c.count_whole-sum.ensures (c.ones.ensures ∙ ap ones (and_below (c.args.n % 64) c.word.result (omega arith)) ∙ ap (λ (w : ℕ). ones (w % 2 ^ (c.args.n % 64))) c.word.ensures)
    ∙ sym (count_words bm c.args.n) in
    omega (arith, ended, count_le (marks_in c.args.bitmap.now) c.args.n)

pub returns : goal.returns
returns c =
    let ended : c.count_whole-sum.result + c.ones.result ≡ count_below (marks_in c.args.bitmap.now) c.args.n = let bm = marks_in c.args.bitmap.now in
    ap₂ ◌+◌ c.count_whole-sum.ensures (c.ones.ensures ∙ ap ones (and_below (c.args.n % 64) c.word.result (omega arith)) ∙ ap (λ (w : ℕ). ones (w % 2 ^ (c.args.n % 64))) c.word.ensures)
    ∙ sym (count_words bm c.args.n) in
    ended
