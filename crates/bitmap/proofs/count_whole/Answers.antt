-- `count_whole`: full words, then those counted; none is marked behind them.
use Rattle.std.proofs.Common.{◌≡◌, ◌+◌, ◌*◌}
use Rattle.bitmap.specs.Bitmap.{count as count_below, marks_in}
use native.Mathlib.Omega.{arith}
use Rattle.bitmap.proofs.Marks.{count_le}
use Rattle.bitmap.proofs.ByWord.{count_word}
use Rattle.bitmap.proofs.count_whole.Goals as goal

pub returns-then-is_clear : goal.returns-then-is_clear
returns-then-is_clear c =
    let counted : c.full_words-full.result * 64 + c.ones.result ≡ count_below (marks_in c.args.bitmap.now) (c.args.n * 64) = let bm = marks_in c.args.bitmap.now in
    let rest = c.is_clear.ensures c.if-is_clear.true in
    omega (arith, c.ones.ensures, count_word bm c.full_words-full.result c.word.result c.word.ensures c.word.type_inv, c.full_words-full.ensures.result_value, rest) in
    counted

pub overflow_add-result-2 : goal.overflow_add-result-2
overflow_add-result-2 c =
    omega (arith, c.count_words.ensures, c.full_words-full.ensures.result_value, count_le (marks_in c.args.bitmap.now) (c.args.n * 64))
