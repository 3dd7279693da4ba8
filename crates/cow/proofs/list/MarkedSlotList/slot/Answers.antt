-- The number at its place.
use mathlib.Core.Path.{◌∙◌}
use Rattle.cow.proofs.RoundTrip.{slot_at}
use Rattle.cow.proofs.list.MarkedSlotList.slot.Goals as goal

pub returns : goal.returns
returns c =
    c.word_at.ensures ∙ slot_at c.args.i c.args.list.now c.requires.i_bound
