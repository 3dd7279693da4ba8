-- `map_page`: 10, or the entry below the tables of the levels above.
use Rattle.std.proofs.Common.{◌≡◌, ◌-◌, true}
use Rattle.paging.specs.Calls.{whole}
use Rattle.paging.specs.Kept.{lent_memory}
use lib.Dec.{lit≤}
use Rattle.frame.proofs.Laws.{passed, failed}
use Rattle.paging.proofs.Calls.{told, whole_up, whole_above, whole_roomy, map_broken}
use Rattle.mapper.proofs.Laws.{page_told}
use Rattle.mapper.proofs.map_page.Goals as goal

pub returns-then-not-is_whole-clause-value : goal.returns-then-not-is_whole-clause-value
returns-then-not-is_whole-clause-value c =
    (told
    (map_broken (c.args.frames.levels - 1) (lent_memory c.args.words.now c.args.bitmap.now c.args.frames) c.args.root.0 c.args.virt.0 c.args.phys.0 c.args.writable c.args.user
    (failed c.is_whole.ensures c.if-not-is_whole.true))).0

pub returns-then-not-is_whole-clause-words_after : goal.returns-then-not-is_whole-clause-words_after
returns-then-not-is_whole-clause-words_after c =
    (told
    (map_broken (c.args.frames.levels - 1) (lent_memory c.args.words.now c.args.bitmap.now c.args.frames) c.args.root.0 c.args.virt.0 c.args.phys.0 c.args.writable c.args.user
    (failed c.is_whole.ensures c.if-not-is_whole.true))).1.0

pub returns-then-not-is_whole-clause-bitmap_after : goal.returns-then-not-is_whole-clause-bitmap_after
returns-then-not-is_whole-clause-bitmap_after c =
    (told
    (map_broken (c.args.frames.levels - 1) (lent_memory c.args.words.now c.args.bitmap.now c.args.frames) c.args.root.0 c.args.virt.0 c.args.phys.0 c.args.writable c.args.user
    (failed c.is_whole.ensures c.if-not-is_whole.true))).1.1

pub overflow_sub-up : goal.overflow_sub-up
overflow_sub-up c =
    let good : whole (lent_memory c.args.words.now c.args.bitmap.now c.args.frames) c.args.root.0 ≡ true = passed c.is_whole.ensures c.if-not-is_whole.false in
    whole_up (lent_memory c.args.words.now c.args.bitmap.now c.args.frames) c.args.root.0 (good)

pub map_entry-requires-clause-room_to_take : goal.map_entry-requires-clause-room_to_take
map_entry-requires-clause-room_to_take c =
    let good : whole (lent_memory c.args.words.now c.args.bitmap.now c.args.frames) c.args.root.0 ≡ true = passed c.is_whole.ensures c.if-not-is_whole.false in let m = lent_memory c.args.words.now c.args.bitmap.now c.args.frames in whole_roomy m c.args.root.0 (good) 4 (lit≤ tt)

pub map_entry-requires-clause-up_le_most_above : goal.map_entry-requires-clause-up_le_most_above
map_entry-requires-clause-up_le_most_above c =
    let good : whole (lent_memory c.args.words.now c.args.bitmap.now c.args.frames) c.args.root.0 ≡ true = passed c.is_whole.ensures c.if-not-is_whole.false in let m = lent_memory c.args.words.now c.args.bitmap.now c.args.frames in whole_above m c.args.root.0 (good)

pub returns-clause-value : goal.returns-clause-value
returns-clause-value c =
    (let good : whole (lent_memory c.args.words.now c.args.bitmap.now c.args.frames) c.args.root.0 ≡ true = passed c.is_whole.ensures c.if-not-is_whole.false in
    page_told (c.args.frames.levels - 1) (lent_memory c.args.words.now c.args.bitmap.now c.args.frames) c.args.root.0 c.args.virt.0 c.args.phys.0 c.args.writable c.args.user (good)
    c.set-e.result.0 c.set-e.ensures (c.map_entry.ensures.value, (c.map_entry.ensures.words_after, c.map_entry.ensures.bitmap_after))).0

pub returns-clause-words_after : goal.returns-clause-words_after
returns-clause-words_after c =
    (let good : whole (lent_memory c.args.words.now c.args.bitmap.now c.args.frames) c.args.root.0 ≡ true = passed c.is_whole.ensures c.if-not-is_whole.false in
    page_told (c.args.frames.levels - 1) (lent_memory c.args.words.now c.args.bitmap.now c.args.frames) c.args.root.0 c.args.virt.0 c.args.phys.0 c.args.writable c.args.user (good)
    c.set-e.result.0 c.set-e.ensures (c.map_entry.ensures.value, (c.map_entry.ensures.words_after, c.map_entry.ensures.bitmap_after))).1.0

pub returns-clause-bitmap_after : goal.returns-clause-bitmap_after
returns-clause-bitmap_after c =
    (let good : whole (lent_memory c.args.words.now c.args.bitmap.now c.args.frames) c.args.root.0 ≡ true = passed c.is_whole.ensures c.if-not-is_whole.false in
    page_told (c.args.frames.levels - 1) (lent_memory c.args.words.now c.args.bitmap.now c.args.frames) c.args.root.0 c.args.virt.0 c.args.phys.0 c.args.writable c.args.user (good)
    c.set-e.result.0 c.set-e.ensures (c.map_entry.ensures.value, (c.map_entry.ensures.words_after, c.map_entry.ensures.bitmap_after))).1.1
