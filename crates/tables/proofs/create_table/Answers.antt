-- `create_table`: a frame that was taken is one of the lent frames, so that its words are there.
use Rattle.std.proofs.Common.{rules}
use Rattle.paging.proofs.Walk.{frame_lent}
use Rattle.paging.proofs.Map.{roomy_lent}
use Rattle.walk.proofs.Laws.{place_asks}
use Rattle.tables.proofs.create_table.Goals as goal

pub entry_place-requires-clause-start_le_t : goal.entry_place-requires-clause-start_le_t
entry_place-requires-clause-start_le_t c = (place_asks _ _ c.in_ok-f.f.0 0 c.requires.room_to_take.held.few c.in_ok-f.ensures.lent (search rules)).0

pub entry_place-requires-clause-start_bound : goal.entry_place-requires-clause-start_bound
entry_place-requires-clause-start_bound c = (place_asks _ _ c.in_ok-f.f.0 0 c.requires.room_to_take.held.few c.in_ok-f.ensures.lent (search rules)).1.0

pub zero_frame-requires : goal.zero_frame-requires
zero_frame-requires c = rw c.entry_place.ensures (frame_lent _ (roomy_lent c.requires.room_to_take) c.in_ok-f.ensures.lent)
