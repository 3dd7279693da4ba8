-- `align_down` is the source's formula: what `low_bits` gives is the alignment less one.
use Rattle.allocator.specs.Round.{align_down}
use Rattle.allocator.proofs.align_down.Goals as goal

pub returns : goal.returns
unfolding align_down
returns c =
    simp c.low_bits.ensures
