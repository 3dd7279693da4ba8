-- `is_user` tests bit 2, USER.
use Rattle.bits.proofs.Masks.{flag_mask}
use Rattle.entry.proofs.paging.PageTableEntry.is_user.Goals as goal

pub returns : goal.returns
returns c =
    flag_mask 2 c.args.self.0
