-- `bitmap::unmark` meets its contract: clearing a set bit takes its power of two from the word.
use mathlib.Core.Path.{◌∙◌}
use Rattle.bitmap.proofs.ByWord.{cleared}
use Rattle.bitmap.proofs.unmark.Goals as goal

pub returns : goal.returns
returns c =
    c.put_word.ensures ∙ cleared _ c.args.i _ c.word-w.ensures c.word-w.type_inv c.requires.i_value
