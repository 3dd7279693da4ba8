-- `is_fixed` tests bit 4 of the 32 two's-complement bits.
use Rattle.std.proofs.Common.{w32, of_z}
use Rattle.bits.proofs.Masks.{flag_mask}
use Rattle.user_space.proofs.is_fixed.Goals as goal

pub returns : goal.returns
returns c =
    flag_mask 4 (of_z w32 c.args.flags)
