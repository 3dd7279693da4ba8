-- `is_fetch` tests bit 4.
use Rattle.bits.proofs.Masks.{flag_mask}
use Rattle.error_code.proofs.is_fetch.Goals as goal

pub returns : goal.returns
returns c =
    flag_mask 4 c.args.code
