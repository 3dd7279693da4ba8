use Rattle.std.proofs.Common.{rules, ◌≡◌, ◌+◌, ◌*◌}
use Rattle.bitmap.specs.Bitmap.{count as count_below, marks_in}
use native.Mathlib.Omega.{arith}
use Rattle.bitmap.proofs.Marks.{count_le}
use Rattle.bitmap.proofs.ByWord.{count_word}
use Rattle.bitmap.proofs.count_words.Goals as goal

pub overflow_add-sum : goal.overflow_add-sum
overflow_add-sum c =
    let grown : count_below (marks_in c.args.bitmap.now) (c.args.from * 64) + (c.loop-k.sum + c.ones-sum.result) ≡ count_below (marks_in c.args.bitmap.now) ((c.loop-k.k + 1) * 64) = omega (arith, c.loop-k.invariant.2, c.ones-sum.ensures, count_word (marks_in c.args.bitmap.now) c.loop-k.k c.word.result c.word.ensures c.word.type_inv) in
    omega (arith, grown, count_le (marks_in c.args.bitmap.now) ((c.loop-k.k + 1) * 64))

pub loop-k-preserved : goal.loop-k-preserved
loop-k-preserved c =
    let grown : count_below (marks_in c.args.bitmap.now) (c.args.from * 64) + (c.loop-k.sum + c.ones-sum.result) ≡ count_below (marks_in c.args.bitmap.now) ((c.loop-k.k + 1) * 64) = omega (arith, c.loop-k.invariant.2, c.ones-sum.ensures, count_word (marks_in c.args.bitmap.now) c.loop-k.k c.word.result c.word.ensures c.word.type_inv) in
    (search rules, search rules, grown)
