-- `bitmap::mark` meets its contract: setting a clear bit adds its power of two to the word.
use mathlib.Core.Path.{◌∙◌}
use Rattle.bitmap.proofs.ByWord.{stored}
use Rattle.bitmap.proofs.mark.Goals as goal

pub returns : goal.returns
returns c =
    c.put_word.ensures ∙ stored _ c.args.i _ c.word-w.ensures c.requires.i_value
