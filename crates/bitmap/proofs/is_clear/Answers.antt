use Rattle.std.proofs.Common.{rules}
use Rattle.bitmap.specs.Bitmap.{marks_in}
use Rattle.bitmap.proofs.ByWord.{joined_clear}
use Rattle.bitmap.proofs.is_clear.Goals as goal

pub loop-k-preserved : goal.loop-k-preserved
loop-k-preserved c =
    (search rules, search rules, joined_clear (marks_in c.args.bitmap.now) c.args.from c.loop-k.k c.word-any.result c.loop-k.any c.word-any.ensures c.loop-k.invariant.2)
