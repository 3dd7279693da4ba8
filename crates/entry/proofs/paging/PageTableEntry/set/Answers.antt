-- `set` joins the masked address with the sum of PRESENT and the two choices.
use lib.Dec.{lit<}
use Rattle.entry.proofs.Entry.{joined_flags}
use Rattle.entry.proofs.paging.PageTableEntry.set.Goals as goal

pub returns : goal.returns
returns c =
    joined_flags c.args.addr.0 c.flag_sum.result 1 c.args.writable c.args.user c.flag_sum.ensures (lit< tt)
