-- The number is stored, and the list is read back.
use Rattle.std.proofs.Common.{rules, refl}
use Rattle.cow.proofs.RoundTrip.{put_in}
use Rattle.cow.proofs.list.MarkedSlotList.put.Goals as goal

pub returns : goal.returns
returns c =
    let p = put_in c.args.list.now c.requires.fits (λ k. (c.slice_known-1.given k).fits) c.args.i c.args.page c.requires.i_bound (search rules) c.put_word.ensures in
    (p.1, p.0, refl)
