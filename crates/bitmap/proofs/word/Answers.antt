-- `bitmap::word`: the number in eight bytes is the word of the bitmap that they stand for.
use mathlib.Core.Path.{◌∙◌}
use native.Mathlib.Omega.{arith}
use Rattle.packed.proofs.Words.{word_of}
use Rattle.bitmap.proofs.word.Goals as goal

pub returns : goal.returns
returns c =
    c.word_at.ensures ∙ word_of _ 128 _ (omega arith)
