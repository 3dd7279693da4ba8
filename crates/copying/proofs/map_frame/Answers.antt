-- `map_frame`: what mapping the page answers, with 18 for each refusal.
use Rattle.paging.specs.Map.{Memory}
use Rattle.paging.specs.Kept.{lent_memory}
use Rattle.copying.proofs.Copying.{map_frame_met}
use Rattle.copying.proofs.map_frame.Goals as goal

pub returns-in-Ok : goal.returns-in-Ok
returns-in-Ok c =
    let lent : Memory = lent_memory c.args.words.now c.args.bitmap.now c.args.frames in
    map_frame_met c.args.up (lent) c.args.root.0 c.args.virt.0 c.args.f c.args.writable c.args.user c.requires.f_bound c.start_address.ensures c.set-e.ensures (c.map_entry-mapped.ensures.value, (c.map_entry-mapped.ensures.words_after, c.map_entry-mapped.ensures.bitmap_after))
    c.in-Ok.is
