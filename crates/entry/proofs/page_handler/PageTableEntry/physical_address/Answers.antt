-- `physical_address` is the address field.
use Rattle.entry.proofs.Entry.{addr_mask_lem}
use Rattle.entry.proofs.page_handler.PageTableEntry.physical_address.Goals as goal

pub returns : goal.returns
returns c =
    addr_mask_lem c.args.self.entry
