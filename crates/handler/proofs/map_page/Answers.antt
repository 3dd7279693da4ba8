-- `map_page`: 11, or the page mapped to the frame that was taken.
use Rattle.copying.proofs.Copying.{taken_roomy, taken_lent}
use Rattle.handler.proofs.map_page.Goals as goal

pub map_over-requires-clause-room_to_take : goal.map_over-requires-clause-room_to_take
map_over-requires-clause-room_to_take c =
    let e = c.raw_frame-taken.ensures c.args.words.now in taken_roomy _ e 4 c.requires.room_to_take

pub map_over-requires-clause-f_value : goal.map_over-requires-clause-f_value
map_over-requires-clause-f_value c =
    let e = c.raw_frame-taken.ensures c.args.words.now in taken_lent _ e _ c.in-Ok.is
