-- Over the region at the same start, or in a slot that is made free for it.
use Rattle.std.proofs.Common.{sym, ◌∙◌, arith, Ok, Err}
use Rattle.slots.specs.Slots.{listed}
use Rattle.slots.proofs.Search.{found_tells}
use Rattle.mappings.specs.Regions.{start_key}
use Rattle.mappings.specs.Packed.{mmap_in}
use Rattle.mappings.proofs.Sound.{sound_few}
use Rattle.mappings.proofs.Placing.{place_within, place_below, place_room, placed_over, placed_new}
use Rattle.mappings.proofs.list.insert.Goals as goal

pub put-requires-clause-i_bound : goal.put-requires-clause-i_bound
put-requires-clause-i_bound c =
    let bs = c.args.list.now in
    let t = found_tells start_key c.args.r.start (listed (mmap_in bs)) (Ok c.in-Ok.at) (sym c.in-Ok.is ∙ c.find.ensures) in
    omega (arith, place_below bs c.requires.list_value c.args.r.start c.in-Ok.at t.1 t.0, sound_few bs c.requires.list_value)

pub put_in-requires-clause-bounds : goal.put_in-requires-clause-bounds
put_in-requires-clause-bounds c =
    let bs = c.args.list.now in
    let t = found_tells start_key c.args.r.start (listed (mmap_in bs)) (Err c.in-Err.at) (sym c.in-Err.is ∙ c.find.ensures) in
    (place_within bs c.requires.list_value c.args.r.start c.in-Err.at t.1, place_room bs c.requires.list_value c.args.r.start c.in-Err.at t.1 t.0 c.requires.fact)

pub returns-in-Ok : goal.returns-in-Ok
returns-in-Ok c =
    let bs = c.args.list.now in
    let t = found_tells start_key c.args.r.start (listed (mmap_in bs)) (Ok c.in-Ok.at) (sym c.in-Ok.is ∙ c.find.ensures) in
    (c.put.ensures.0, placed_over bs c.requires.list_value c.args.r c.in-Ok.at t.1 t.0 c.put.ensures.1, c.put.ensures.2)

pub returns-in-Err : goal.returns-in-Err
returns-in-Err c =
    let bs = c.args.list.now in
    let t = found_tells start_key c.args.r.start (listed (mmap_in bs)) (Err c.in-Err.at) (sym c.in-Err.is ∙ c.find.ensures) in
    (c.put_in.ensures.0, placed_new bs c.requires.list_value c.args.r c.in-Err.at t.1 t.0 c.put_in.ensures.1, c.put_in.ensures.2)
