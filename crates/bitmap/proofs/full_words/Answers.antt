use Rattle.bitmap.specs.Bitmap.{count as count_below, marks_in}
use mathlib.Core.Path.{refl}
use Rattle.bitmap.proofs.ByWord.{count_full}
use Rattle.bitmap.proofs.full_words.Goals as goal

pub loop-k-init : goal.loop-k-init
unfolding count_below
loop-k-init c =
    refl

pub loop-k-preserved : goal.loop-k-preserved
loop-k-preserved c =
    count_full (marks_in c.args.bitmap.now) c.loop-k.k c.word.result c.word.ensures c.if-word.false c.loop-k.invariant
