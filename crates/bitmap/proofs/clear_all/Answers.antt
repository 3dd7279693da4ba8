-- `bitmap::clear_all`: words of zero bytes are zero.
use mathlib.Core.Path.{◌∙◌, ap}
use Rattle.packed.proofs.RoundTrip.{unpack_zeros}
use Rattle.bitmap.specs.Bitmap.{marks_in}
use Rattle.bitmap.proofs.clear_all.Goals as goal

pub returns : goal.returns
returns c =
    ap marks_in (c.fill.ensures.after (λ y e. e)) ∙ unpack_zeros 128 _
