-- `take_region`: there are slots for all regions.
use Rattle.vm_list.proofs.Live.{few}
use native.Mathlib.Omega.{arith}
use Rattle.vm_list.proofs.take_region.Goals as goal

pub take_among-requires-else-n-lt-FEW_REGIONS-clause-room : goal.take_among-requires-else-n-lt-FEW_REGIONS-clause-room
take_among-requires-else-n-lt-FEW_REGIONS-clause-room c =
    (few c.args.list.now c.args.n c.requires.list_value, omega arith, omega arith)
