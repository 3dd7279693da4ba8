-- `is_write` tests bit 1.
use Rattle.bits.proofs.Masks.{flag_mask}
use Rattle.error_code.proofs.is_write.Goals as goal

pub returns : goal.returns
returns c =
    flag_mask 1 c.args.code
