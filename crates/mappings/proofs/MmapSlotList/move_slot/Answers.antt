-- Three numbers read at one place and stored at the other, and the list is read back.
use Rattle.std.proofs.Common.{◌+◌, ◌*◌}
use mathlib.Core.Path.{◌∙◌}
use lib.Seq.{sets}
use Rattle.packed.proofs.Stores.{triple, three_stored}
use Rattle.mappings.proofs.Stores.{move_in}
use Rattle.mappings.proofs.MmapSlotList.move_slot.Goals as goal

pub returns : goal.returns
returns c =
    let there = c.args.to * 24 + 16 in
    move_in c.args.list.now c.requires.fits (λ i. (c.slice_known-1.given i).fits) c.args.from c.args.to c.requires.bounds.0 c.requires.bounds.1
    (three_stored c.args.list.now _ _ _ there _ _ _ c.put_word.ensures c.put_word-2.ensures c.put_word-3.ensures
    ∙ (λ j. sets c.args.list.now there (triple (c.word_at-start.ensures j) (c.word_at-size.ensures j) (c.word_at-rest.ensures j))))
