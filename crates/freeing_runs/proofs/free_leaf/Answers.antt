-- `free_leaf`: the leaf, if there is one, and then its frame.
use Rattle.frame.specs.Frames.{Frames}
use Rattle.paging.specs.Map.{memory}
use Rattle.paging.specs.Kept.{lent_memory}
use mathlib.Core.Path.{sym, ◌∙◌, ap}
use Rattle.pages.proofs.Laws.{unmapped}
use Rattle.freeing_runs.proofs.Leaves.{leaf_none, leaf_freed, leaf_told_none, leaf_told}
use Rattle.freeing_runs.proofs.free_leaf.Goals as goal

pub returns-in-Err-clause-frames_after : goal.returns-in-Err-clause-frames_after
returns-in-Err-clause-frames_after c =
    let m = lent_memory c.args.words.now c.args.bitmap.now c.args.frames in let came = unmapped c.take_leaf.ensures.value c.take_leaf.ensures.words_after c.in-Err.is in sym (leaf_none m c.args.t c.args.i c.take_leaf.new.words _ came)

pub returns-in-Err-clause-tells : goal.returns-in-Err-clause-tells
returns-in-Err-clause-tells c =
    let m = lent_memory c.args.words.now c.args.bitmap.now c.args.frames in let came = unmapped c.take_leaf.ensures.value c.take_leaf.ensures.words_after c.in-Err.is in leaf_told_none m c.args.t c.args.i c.requires.i_bound c.take_leaf.new.words _ came c.none.ensures

pub returns-in-Ok-clause-frames_after : goal.returns-in-Ok-clause-frames_after
returns-in-Ok-clause-frames_after c =
    let m = lent_memory c.args.words.now c.args.bitmap.now c.args.frames in let came = unmapped c.take_leaf.ensures.value c.take_leaf.ensures.words_after c.in-Ok.is in ap (λ (x : Frames). memory c.take_leaf.new.words x) c.give_back.ensures.frames_after ∙ sym (leaf_freed m c.args.t c.args.i c.take_leaf.new.words _ came)

pub returns-in-Ok-clause-tells : goal.returns-in-Ok-clause-tells
returns-in-Ok-clause-tells c =
    let m = lent_memory c.args.words.now c.args.bitmap.now c.args.frames in let came = unmapped c.take_leaf.ensures.value c.take_leaf.ensures.words_after c.in-Ok.is in leaf_told m c.args.t c.args.i c.requires.i_bound c.take_leaf.new.words _ came c.give_back.ensures.frames_after c.give_back.ensures.found_value
