-- `is_writable` tests bit 1 of the 32 two's-complement bits.
use Rattle.std.proofs.Common.{w32, of_z}
use Rattle.bits.proofs.Masks.{flag_mask}
use Rattle.user_space.proofs.is_writable.Goals as goal

pub returns : goal.returns
returns c =
    flag_mask 1 (of_z w32 c.args.prot)
