-- `bitmap::put_word`: eight bytes stored are one word of the bitmap stored.
use Rattle.bitmap.specs.Bitmap.{marks_in}
use mathlib.Core.Path.{◌∙◌, ap}
use native.Mathlib.Omega.{arith}
use Rattle.packed.proofs.RoundTrip.{unpack_sets}
use Rattle.bitmap.proofs.put_word.Goals as goal

pub returns : goal.returns
returns c =
    ap marks_in c.put_word.ensures ∙ unpack_sets 128 _ _ _ (omega arith) (omega arith) (omega arith)
