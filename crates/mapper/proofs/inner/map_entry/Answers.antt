-- `map_entry`: the tables on the way, then the word.
use Rattle.paging.specs.Kept.{lent_memory}
use native.Mathlib.Nat.{le_trans}
use Rattle.entry.specs.Entry.{indices}
use Prim.Native.Nat.{suc}
use Rattle.paging.proofs.Map.{roomy_lent}
use Rattle.paging.proofs.Calls.{told}
use Rattle.mapper.proofs.Laws.{made_left, map_at_stop, map_at_put}
use Rattle.mapper.proofs.inner.map_entry.Goals as goal

pub put_entry-put-requires-clause-words_lent : goal.put_entry-put-requires-clause-words_lent
put_entry-put-requires-clause-words_lent c =
    roomy_lent (made_left c.args.user (lent_memory c.args.words.now c.args.bitmap.now c.args.frames) c.args.root.0 (indices (suc c.args.up) c.args.virt.0) c.args.k c.make_tables.ensures
    (le_trans c.requires.k_le_up c.requires.up_le_most_above) c.requires.room_to_take)

pub returns-in-Err-clause-value : goal.returns-in-Err-clause-value
returns-in-Err-clause-value c =
    (told
    (map_at_stop c.args.up c.args.k c.args.user (lent_memory c.args.words.now c.args.bitmap.now c.args.frames) c.args.root.0 c.args.virt.0 c.args.e
    (lent_memory c.make_tables.new.words c.make_tables.new.bitmap c.make_tables.new.frames) c.make_tables.ensures _ c.in-Err.is)).0

pub returns-in-Err-clause-words_after : goal.returns-in-Err-clause-words_after
returns-in-Err-clause-words_after c =
    (told
    (map_at_stop c.args.up c.args.k c.args.user (lent_memory c.args.words.now c.args.bitmap.now c.args.frames) c.args.root.0 c.args.virt.0 c.args.e
    (lent_memory c.make_tables.new.words c.make_tables.new.bitmap c.make_tables.new.frames) c.make_tables.ensures _ c.in-Err.is)).1.0

pub returns-in-Err-clause-bitmap_after : goal.returns-in-Err-clause-bitmap_after
returns-in-Err-clause-bitmap_after c =
    (told
    (map_at_stop c.args.up c.args.k c.args.user (lent_memory c.args.words.now c.args.bitmap.now c.args.frames) c.args.root.0 c.args.virt.0 c.args.e
    (lent_memory c.make_tables.new.words c.make_tables.new.bitmap c.make_tables.new.frames) c.make_tables.ensures _ c.in-Err.is)).1.1

pub returns-in-Ok-clause-value : goal.returns-in-Ok-clause-value
returns-in-Ok-clause-value c =
    (map_at_put c.args.up c.args.k c.args.user (lent_memory c.args.words.now c.args.bitmap.now c.args.frames) c.args.root.0 c.args.virt.0 c.args.e
    (lent_memory c.make_tables.new.words c.make_tables.new.bitmap c.make_tables.new.frames) c.make_tables.ensures c.requires.k_le_up _ c.in-Ok.is c.page_index-i.ensures.value
    c.as_answer.ensures (c.put_entry-put.ensures.value, c.put_entry-put.ensures.words_after)).0

pub returns-in-Ok-clause-words_after : goal.returns-in-Ok-clause-words_after
returns-in-Ok-clause-words_after c =
    (map_at_put c.args.up c.args.k c.args.user (lent_memory c.args.words.now c.args.bitmap.now c.args.frames) c.args.root.0 c.args.virt.0 c.args.e
    (lent_memory c.make_tables.new.words c.make_tables.new.bitmap c.make_tables.new.frames) c.make_tables.ensures c.requires.k_le_up _ c.in-Ok.is c.page_index-i.ensures.value
    c.as_answer.ensures (c.put_entry-put.ensures.value, c.put_entry-put.ensures.words_after)).1.0

pub returns-in-Ok-clause-bitmap_after : goal.returns-in-Ok-clause-bitmap_after
returns-in-Ok-clause-bitmap_after c =
    (map_at_put c.args.up c.args.k c.args.user (lent_memory c.args.words.now c.args.bitmap.now c.args.frames) c.args.root.0 c.args.virt.0 c.args.e
    (lent_memory c.make_tables.new.words c.make_tables.new.bitmap c.make_tables.new.frames) c.make_tables.ensures c.requires.k_le_up _ c.in-Ok.is c.page_index-i.ensures.value
    c.as_answer.ensures (c.put_entry-put.ensures.value, c.put_entry-put.ensures.words_after)).1.1
