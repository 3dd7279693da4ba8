-- `with_writable`: the word without bit 1, and the power of bit 1 where it is asked for.
use Rattle.entry.proofs.Writable.{with_writable_sum}
use Rattle.entry.proofs.paging.PageTableEntry.with_writable.Goals as goal

pub returns : goal.returns
returns c =
    with_writable_sum c.args.self.0 c.well_formed.0.1.1.0.1 c.power_if-chosen.result c.args.writable c.power_if-chosen.ensures.value
