-- `set` joins the masked address with the flags' bits.
use Rattle.entry.proofs.Flags.{joined_bits_lem}
use Rattle.entry.proofs.page_handler.PageTableEntry.set.Goals as goal

pub returns : goal.returns
returns c =
    rw c.to_bits.ensures (joined_bits_lem c.args.phys c.args.flags)
