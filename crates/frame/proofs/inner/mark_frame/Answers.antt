-- `mark_frame`: a frame that does not read as marked has a free bit.
use Rattle.std.proofs.Common.{sym, ◌∙◌}
use Rattle.frame.proofs.Laws.{free_bit}
use Rattle.frame.proofs.inner.mark_frame.Goals as goal

pub mark_slot-requires-clause-i_value : goal.mark_slot-requires-clause-i_value
mark_slot-requires-clause-i_value c = free_bit _ _ (sym c.frame_marked.ensures ∙ c.if-not-frame_marked.true)
