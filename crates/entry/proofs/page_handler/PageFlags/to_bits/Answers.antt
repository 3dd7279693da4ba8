-- `to_bits` is the sum of the ten powers.
use Rattle.entry.specs.Flags.{bits_of}
use native.Mathlib.Omega.{arith}
use Rattle.entry.proofs.page_handler.PageFlags.to_bits.Goals as goal

pub returns : goal.returns
unfolding bits_of
returns c =
    omega arith
