-- Three numbers at its place, the third of prot and flags, and the list is read back.
use Rattle.std.proofs.Common.{rules, ◌+◌, ◌*◌, w32, of_z}
use Prim.Native.Nat.{◌^◌}
use mathlib.Core.Path.{◌∙◌, ap}
use lib.Seq.{sets}
use mir.Val.{SFits}
use mir.Facts.{to_z-of_z}
use Rattle.packed.proofs.Stores.{triple, three_stored}
use Rattle.mappings.proofs.Stores.{put_in}
use Rattle.mappings.proofs.MmapSlotList.put.Goals as goal

pub returns : goal.returns
returns c =
    let at = c.args.i * 24 + 16 in
    let fits : SFits w32 c.args.r.prot = search (rules, c.struct_told-1.given) in
    let fits2 : SFits w32 c.args.r.flags = search rules in
    let prot = c.unsigned-prot.ensures.value ∙ ap (of_z w32) (to_z-of_z fits) in
    let flags = c.unsigned-flags.ensures.value ∙ ap (of_z w32) (to_z-of_z fits2) in
    put_in c.args.list.now c.requires.fits (λ i. (c.slice_known-1.given i).fits) c.args.i c.args.r c.requires.i_bound (search rules, search rules, fits, fits2)
    (three_stored c.args.list.now _ _ _ at c.args.r.start c.args.r.size _ c.put_word.ensures c.put_word-2.ensures c.put_word-3.ensures
    ∙ (λ j. sets c.args.list.now at (triple c.args.r.start c.args.r.size (prot j + flags j * 2 ^ 32))))
