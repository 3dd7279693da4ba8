-- `remap_page`: the page freed, then mapped; where that is refused nothing was found.
use Rattle.paging.specs.Map.{RoomToTake, Memory}
use mathlib.Core.Path.{sym, subst}
use Rattle.paging.proofs.Pages.{free_roomy}
use Rattle.copying.proofs.remap_page.Goals as goal

pub map_frame-mapped-requires-clause-room_to_take : goal.map_frame-mapped-requires-clause-room_to_take
map_frame-mapped-requires-clause-room_to_take c =
    subst (λ (x : Memory). RoomToTake x 4) (sym c.free_page-freed.ensures.frames_after) (free_roomy c.args.up _ _ _ 4 c.requires.room_to_take)
