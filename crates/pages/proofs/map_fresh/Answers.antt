-- `map_fresh`: a fresh frame, then its entry below the tables of the levels above; 13 where that is refused.
use Rattle.paging.specs.Kept.{lent_memory}
use mathlib.Core.Path.{sym}
use Rattle.bitmap.specs.Bitmap.{marks_in}
use Rattle.paging.proofs.Pages.{map_fresh_none}
use Rattle.tables.proofs.Laws.{stepped}
use Rattle.pages.proofs.Laws.{fresh_left, map_fresh_made}
use Rattle.pages.proofs.map_fresh.Goals as goal

pub map_entry-mapped-requires-clause-room_to_take : goal.map_entry-mapped-requires-clause-room_to_take
map_entry-mapped-requires-clause-room_to_take c =
    fresh_left {m = lent_memory c.args.words.now c.args.bitmap.now c.args.frames} {m' = lent_memory c.fresh_frame-fresh.new.words c.fresh_frame-fresh.new.bitmap c.fresh_frame-fresh.result.frames}
    c.fresh_frame-fresh.ensures 4 c.requires.room_to_take

pub returns-in-Err : goal.returns-in-Err
returns-in-Err c =
    sym
    (map_fresh_none c.args.up c.args.writable c.args.user (lent_memory c.args.words.now c.args.bitmap.now c.args.frames) c.args.root.0 c.args.virt.0 _
    (lent_memory c.fresh_frame-fresh.new.words c.fresh_frame-fresh.new.bitmap c.fresh_frame-fresh.result.frames) (stepped c.fresh_frame-fresh.ensures c.in-Err.is))

pub returns-in-Ok : goal.returns-in-Ok
returns-in-Ok c =
    map_fresh_made c.args.up c.args.writable c.args.user (lent_memory c.args.words.now c.args.bitmap.now c.args.frames) c.args.root.0 c.args.virt.0 c.requires.room_to_take.held.low _
    (lent_memory c.fresh_frame-fresh.new.words c.fresh_frame-fresh.new.bitmap c.fresh_frame-fresh.result.frames) (stepped c.fresh_frame-fresh.ensures c.in-Ok.is)
    c.set-e.result.0 c.start_address.result c.set-e.ensures c.start_address.ensures
    c.map_entry-mapped.result c.map_entry-mapped.new.words (marks_in c.map_entry-mapped.new.bitmap) (c.map_entry-mapped.ensures.value, (c.map_entry-mapped.ensures.words_after, c.map_entry-mapped.ensures.bitmap_after)) c.or_failed.result c.or_failed.ensures
