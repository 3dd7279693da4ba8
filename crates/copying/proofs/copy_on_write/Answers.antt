-- `copy_on_write`: 11, or the copy to the frame that was taken.
use mathlib.Core.Path.{sym, ◌∙◌}
use Rattle.tables.proofs.Laws.{stepped}
use Rattle.copying.proofs.Copying.{taken_roomy, taken_lent, cow_none, cow_on, cow_found_none, cow_found}
use Rattle.copying.proofs.copy_on_write.Goals as goal

pub copy_to-requires-clause-room_to_take : goal.copy_to-requires-clause-room_to_take
copy_to-requires-clause-room_to_take c =
    let e = c.raw_frame-taken.ensures c.args.words.now in taken_roomy _ e 8 c.requires.room_to_take

pub copy_to-requires-clause-f_value : goal.copy_to-requires-clause-f_value
copy_to-requires-clause-f_value c =
    let e = c.raw_frame-taken.ensures c.args.words.now in taken_lent _ e _ c.in-Ok.is

pub returns-in-Err-clause-frames_after : goal.returns-in-Err-clause-frames_after
returns-in-Err-clause-frames_after c =
    let e = stepped (c.raw_frame-taken.ensures c.args.words.now) c.in-Err.is in sym (cow_none c.args.up _ c.args.root.0 c.args.page.0 c.args.user _ _ e)

pub returns-in-Err-clause-found_value : goal.returns-in-Err-clause-found_value
returns-in-Err-clause-found_value c =
    let e = stepped (c.raw_frame-taken.ensures c.args.words.now) c.in-Err.is in c.none.ensures ∙ sym (cow_found_none c.args.up _ c.args.root.0 c.args.page.0 c.args.user _ _ e)

pub returns-in-Ok-clause-frames_after : goal.returns-in-Ok-clause-frames_after
returns-in-Ok-clause-frames_after c =
    let e = stepped (c.raw_frame-taken.ensures c.args.words.now) c.in-Ok.is in c.copy_to.ensures.frames_after ∙ sym (cow_on c.args.up _ c.args.root.0 c.args.page.0 c.args.user _ _ e)

pub returns-in-Ok-clause-found_value : goal.returns-in-Ok-clause-found_value
returns-in-Ok-clause-found_value c =
    let e = stepped (c.raw_frame-taken.ensures c.args.words.now) c.in-Ok.is in c.copy_to.ensures.found_value ∙ sym (cow_found c.args.up _ c.args.root.0 c.args.page.0 c.args.user _ _ e)
