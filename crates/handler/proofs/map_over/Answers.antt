-- `map_over`: the tables on the way, then the word over what stands there.
use Rattle.paging.specs.Map.{Memory}
use Rattle.paging.specs.Kept.{lent_memory}
use Prim.Native.Nat.{suc}
use native.Mathlib.Omega.{arith}
use Rattle.entry.specs.Entry.{indices}
use lib.ListN.{take, length-take}
use Rattle.tables.proofs.Laws.{made_roomy}
use Rattle.paging.proofs.Map.{roomy_less, roomy_lent}
use Rattle.copying.proofs.Copying.{frame_low}
use Rattle.handler.proofs.Handler.{made_lent, map_over_stop, map_over_put}
use Rattle.handler.proofs.map_over.Goals as goal

pub put_over-requires-clause-words_lent : goal.put_over-requires-clause-words_lent
put_over-requires-clause-words_lent c =
    let lent : Memory = lent_memory c.args.words.now c.args.bitmap.now c.args.frames in let is = indices (suc c.args.up) c.args.virt.0 in roomy_lent (made_roomy c.args.user (lent) c.args.root.0 (take c.args.up is) c.make_tables.ensures 0
    (roomy_less {m = lent} _ (omega (arith, length-take c.args.up is, c.requires.up_le_most_above)) c.requires.room_to_take))

pub put_over-requires-clause-f_value : goal.put_over-requires-clause-f_value
put_over-requires-clause-f_value c =
    let lent : Memory = lent_memory c.args.words.now c.args.bitmap.now c.args.frames in let is = indices (suc c.args.up) c.args.virt.0 in made_lent c.args.user (lent) c.args.root.0 (take c.args.up is) c.make_tables.ensures c.args.f c.requires.f_value

pub returns-in-Err : goal.returns-in-Err
returns-in-Err c =
    let lent : Memory = lent_memory c.args.words.now c.args.bitmap.now c.args.frames in
    map_over_stop c.args.up (lent) c.args.root.0 c.args.virt.0 c.args.f c.args.writable c.args.user c.make_tables.ensures c.in-Err.is

pub returns-in-Ok : goal.returns-in-Ok
returns-in-Ok c =
    let lent : Memory = lent_memory c.args.words.now c.args.bitmap.now c.args.frames in
    map_over_put c.args.up (lent) c.args.root.0 c.args.virt.0 c.args.f c.args.writable c.args.user
    c.make_tables.ensures c.in-Ok.is (frame_low {m = lent} c.args.f c.requires.room_to_take c.requires.f_value)
    c.start_address.ensures c.set-e.ensures
    c.page_index.ensures.value (c.put_over.ensures _)
