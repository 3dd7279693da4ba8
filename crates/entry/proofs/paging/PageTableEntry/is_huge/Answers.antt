-- `is_huge` tests bit 7, HUGE.
use Rattle.bits.proofs.Masks.{flag_mask}
use Rattle.entry.proofs.paging.PageTableEntry.is_huge.Goals as goal

pub returns : goal.returns
returns c =
    flag_mask 7 c.args.self.0
