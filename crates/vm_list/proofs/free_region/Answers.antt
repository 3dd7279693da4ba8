-- `free_region`: there are slots for all regions.
use Rattle.vm_list.proofs.Live.{few}
use native.Mathlib.Omega.{arith}
use Rattle.vm_list.proofs.free_region.Goals as goal

pub free_among-requires-else-n-le-FEW_REGIONS-clause-room : goal.free_among-requires-else-n-le-FEW_REGIONS-clause-room
free_among-requires-else-n-le-FEW_REGIONS-clause-room c =
    (few c.args.list.now c.args.n c.requires.list_value, omega arith)
