-- The number is stored, and the list is read back.
use Rattle.std.proofs.Common.{rules, refl}
use Rattle.cow.proofs.RoundTrip.{count_in}
use Rattle.cow.proofs.list.MarkedSlotList.put_count.Goals as goal

pub returns : goal.returns
returns c =
    let p = count_in c.args.list.now c.requires (λ k. (c.slice_known-1.given k).fits) c.args.n (search rules) c.put_word.ensures in
    (p.1, p.0, refl)
