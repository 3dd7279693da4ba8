-- `set_huge` joins the masked address with the sum of HUGE, PRESENT and the two choices.
use native.Mathlib.Omega.{arith}
use lib.Dec.{lit<}
use Rattle.entry.proofs.Entry.{joined_flags}
use Rattle.entry.proofs.paging.PageTableEntry.set_huge.Goals as goal

pub returns : goal.returns
returns c =
    joined_flags c.args.addr.0 _ 129 c.args.writable c.args.user (omega (arith, c.flag_sum.ensures)) (lit< tt)
