-- `take_among`: the live slots are read, taken of, and written back.
use native.Mathlib.Omega.{arith}
use Rattle.vm_list.proofs.Live.{few, take_asks, take_left, take_back}
use Rattle.vm_list.proofs.take_among.Goals as goal

pub take_region-count-requires : goal.take_region-count-requires
take_region-count-requires g c =
    take_asks c.args.list.now c.args.n c.requires.list_value g.row.N c.default-regions.result c.read_slots.new.regions c.requires.room.0 c.read_slots.ensures c.args.used c.args.size c.requires.room.1 c.args.i c.requires.i_value.0 c.requires.i_value.1

pub write_back-requires-clause-n_bound : goal.write_back-requires-clause-n_bound
write_back-requires-clause-n_bound g c =
    omega (arith, few c.args.list.now c.args.n c.requires.list_value, take_left c.args.list.now c.args.n c.requires.list_value g.row.N c.default-regions.result c.read_slots.new.regions c.requires.room.0 c.read_slots.ensures c.args.used c.args.size c.requires.room.1 _ _ c.take_region-count.ensures)

pub write_back-requires-clause-room : goal.write_back-requires-clause-room
write_back-requires-clause-room g c =
    omega (arith, take_left c.args.list.now c.args.n c.requires.list_value g.row.N c.default-regions.result c.read_slots.new.regions c.requires.room.0 c.read_slots.ensures c.args.used c.args.size c.requires.room.1 _ _ c.take_region-count.ensures)

pub returns-clause-list_after : goal.returns-clause-list_after
returns-clause-list_after g c =
    take_back c.args.list.now c.args.n c.requires.list_value g.row.N c.default-regions.result c.read_slots.new.regions c.requires.room.0 c.read_slots.ensures c.args.used c.args.size c.requires.room.1 c.take_region-count.ensures c.write_back.ensures.list_after
