-- The number is stored, and the list is read back.
use Rattle.std.proofs.Common.{rules}
use Rattle.mappings.proofs.Stores.{count_in}
use Rattle.mappings.proofs.MmapSlotList.put_count.Goals as goal

pub returns : goal.returns
returns c =
    count_in c.args.list.now c.requires (λ i. (c.slice_known-1.given i).fits) c.args.n (search rules) c.put_word.ensures
