-- `is_user` tests bit 2.
use Rattle.bits.proofs.Masks.{flag_mask}
use Rattle.error_code.proofs.is_user.Goals as goal

pub returns : goal.returns
returns c =
    flag_mask 2 c.args.code
