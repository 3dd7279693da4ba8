-- `free_among`: the live slots are read, freed and merged, and written back.
use native.Mathlib.Omega.{arith}
use Rattle.vm_list.proofs.Live.{few, free_asks, free_left, free_back}
use Rattle.vm_list.proofs.free_among.Goals as goal

pub free_region-count-requires : goal.free_region-count-requires
free_region-count-requires g c =
    free_asks c.args.list.now c.args.n c.requires.list_value g.row.N c.default-regions.result c.read_slots.new.regions c.requires.room.0 c.read_slots.ensures c.args.i c.requires.i_lt_n

pub write_back-requires-clause-n_bound : goal.write_back-requires-clause-n_bound
write_back-requires-clause-n_bound g c =
    omega (arith, few c.args.list.now c.args.n c.requires.list_value, free_left c.args.list.now c.args.n c.requires.list_value g.row.N c.default-regions.result c.read_slots.new.regions c.requires.room.0 c.read_slots.ensures c.args.i _ _ c.free_region-count.ensures)

pub write_back-requires-clause-room : goal.write_back-requires-clause-room
write_back-requires-clause-room g c =
    omega (arith, free_left c.args.list.now c.args.n c.requires.list_value g.row.N c.default-regions.result c.read_slots.new.regions c.requires.room.0 c.read_slots.ensures c.args.i _ _ c.free_region-count.ensures)

pub returns-clause-list_after : goal.returns-clause-list_after
returns-clause-list_after g c =
    free_back c.args.list.now c.args.n c.requires.list_value g.row.N c.default-regions.result c.read_slots.new.regions c.requires.room.0 c.read_slots.ensures c.args.i c.free_region-count.ensures c.write_back.ensures.list_after
