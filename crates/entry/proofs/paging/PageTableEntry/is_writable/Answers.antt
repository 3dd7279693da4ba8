-- `is_writable` tests bit 1, WRITABLE.
use Rattle.bits.proofs.Masks.{flag_mask}
use Rattle.entry.proofs.paging.PageTableEntry.is_writable.Goals as goal

pub returns : goal.returns
returns c =
    flag_mask 1 c.args.self.0
