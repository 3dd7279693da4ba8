-- The number is stored, and the list is read back.
use Rattle.std.proofs.Common.{rules}
use Rattle.mappings.proofs.Stores.{next_in_lem}
use Rattle.mappings.proofs.put_next.Goals as goal

pub returns : goal.returns
returns c =
    next_in_lem c.args.list.now c.requires (λ i. (c.slice_known-1.given i).fits) c.args.addr (search rules) c.put_word.ensures
