-- `is_reserved` tests bit 3.
use Rattle.bits.proofs.Masks.{flag_mask}
use Rattle.error_code.proofs.is_reserved.Goals as goal

pub returns : goal.returns
returns c =
    flag_mask 3 c.args.code
