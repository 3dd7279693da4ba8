-- `slot`: three numbers at its place.
use Rattle.vm_list.proofs.RoundTrip.{slot_read}
use Rattle.vm_list.proofs.slot.Goals as goal

pub returns : goal.returns
returns c =
    slot_read c.args.i c.args.list.now c.requires.i_bound c.word_at.ensures c.word_at-2.ensures c.word_at-3.ensures
