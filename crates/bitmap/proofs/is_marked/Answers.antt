-- `bitmap::is_marked` meets its contract: the code's test of one bit is the mark.
use Rattle.bitmap.proofs.ByWord.{tested}
use Rattle.bitmap.proofs.is_marked.Goals as goal

pub returns : goal.returns
returns c =
    tested _ _ _ c.word.ensures
