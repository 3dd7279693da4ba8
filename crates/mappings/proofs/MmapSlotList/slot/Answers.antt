-- Two numbers and two signed ones at its place.
use Rattle.std.proofs.Common.{◌+◌, ◌*◌, refl, ◌∙◌, ap, rules, to_z, w32}
use mir.Val.{SFits}
use mir.Facts.{to_z-of_z}
use Rattle.packed.specs.Words.{number}
use Rattle.packed.proofs.Stores.{further}
use Rattle.mappings.proofs.Stores.{slot_at}
use Rattle.mappings.proofs.MmapSlotList.slot.Goals as goal

pub returns : goal.returns
returns c =
    let at = c.args.i * 24 + 16 in
    let fits : SFits w32 c.signed.result = search rules in
    let fits2 : SFits w32 c.signed-2.result = search rules in
    (λ j. record {
      start = c.word_at.ensures j;
      size = (c.word_at-2.ensures ∙ ap (number 8) (further 8 at (at + 8) c.args.list.now refl)) j;
      prot = (to_z-of_z fits ∙ c.signed.ensures ∙ ap (to_z w32) (c.half_at.ensures.value ∙ ap (number 4) (further 16 at (at + 16) c.args.list.now refl))) j;
      flags = (to_z-of_z fits2 ∙ c.signed-2.ensures ∙ ap (to_z w32) (c.half_at-2.ensures.value ∙ ap (number 4) (further 20 at (at + 20) c.args.list.now refl))) j;
    })
    ∙ slot_at c.args.i c.args.list.now c.requires.i_bound
