-- `demand_page`: 6, 7, 11, or the page mapped.
use Rattle.std.proofs.Common.{◌≡◌, true}
use Rattle.fault.specs.Faults.{valid}
use mathlib.Core.Path.{sym, ◌∙◌}
use Rattle.frame.proofs.Laws.{passed, failed}
use Rattle.tables.proofs.Laws.{stepped}
use Rattle.copying.proofs.Copying.{taken_roomy, taken_lent, frame_low}
use Rattle.fault.proofs.Faults.{demand_invalid, demand_fetch, demand_none, demand_map}
use Rattle.fault.proofs.inner.demand_page.Goals as goal

pub returns-then-not-is_valid : goal.returns-then-not-is_valid
returns-then-not-is_valid c =
    sym (demand_invalid c.args.up _ _ _ _ (failed c.is_valid.ensures c.if-not-is_valid.true))

pub returns-then-is_heap_fetch : goal.returns-then-is_heap_fetch
returns-then-is_heap_fetch c =
    let fits : valid c.args.page.0 ≡ true = passed c.is_valid.ensures c.if-not-is_valid.false in
    sym (demand_fetch c.args.up _ _ _ _ (fits) (sym c.is_heap_fetch.ensures ∙ c.if-is_heap_fetch.true))

pub map_frame-requires-clause-room_to_take : goal.map_frame-requires-clause-room_to_take
map_frame-requires-clause-room_to_take c =
    let e = c.raw_frame-taken.ensures c.args.words.now in let room = taken_roomy _ e 4 c.requires.room_to_take in room

pub map_frame-requires-clause-f_bound : goal.map_frame-requires-clause-f_bound
map_frame-requires-clause-f_bound c =
    let e = c.raw_frame-taken.ensures c.args.words.now in let room = taken_roomy _ e 4 c.requires.room_to_take in frame_low _ room (taken_lent _ e _ c.in-Ok.is)

pub returns-in-Err : goal.returns-in-Err
returns-in-Err c =
    let fits : valid c.args.page.0 ≡ true = passed c.is_valid.ensures c.if-not-is_valid.false in
    sym (demand_none c.args.up _ _ _ _ (fits) (sym c.is_heap_fetch.ensures ∙ c.if-is_heap_fetch.false) _ _
    (stepped (c.raw_frame-taken.ensures _) c.in-Err.is))

pub returns-in-Ok : goal.returns-in-Ok
returns-in-Ok c =
    let fits : valid c.args.page.0 ≡ true = passed c.is_valid.ensures c.if-not-is_valid.false in
    c.map_frame.ensures
    ∙ sym (demand_map c.args.up _ _ c.args.page.0 _ (fits)
    (sym c.is_heap_fetch.ensures ∙ c.if-is_heap_fetch.false) _ _ (stepped (c.raw_frame-taken.ensures _) c.in-Ok.is)
    c.is_write-writable.ensures c.is_user-user.ensures)
