-- `free_page`: the leaf, if there is one, and then its frame.
use Rattle.paging.specs.Map.{memory}
use Rattle.paging.specs.Kept.{lent_memory}
use mathlib.Core.Path.{sym, ◌∙◌, ap}
use Rattle.frame.specs.Frames.{Frames}
use Rattle.paging.proofs.Pages.{free_none, free_page_lem}
use Rattle.paging.proofs.Found.{page_found_none, page_found_lem}
use Rattle.pages.proofs.Laws.{unmapped}
use Rattle.pages.proofs.free_page.Goals as goal

pub returns-in-Err-clause-frames_after : goal.returns-in-Err-clause-frames_after
returns-in-Err-clause-frames_after c =
    let m = lent_memory c.args.words.now c.args.bitmap.now c.args.frames in let came = unmapped c.unmap_leaf.ensures.value c.unmap_leaf.ensures.words_after c.in-Err.is in sym (free_none c.args.up m c.args.root.0 c.args.virt.0 _ c.unmap_leaf.new.words came)

pub returns-in-Err-clause-found_value : goal.returns-in-Err-clause-found_value
returns-in-Err-clause-found_value c =
    let m = lent_memory c.args.words.now c.args.bitmap.now c.args.frames in let came = unmapped c.unmap_leaf.ensures.value c.unmap_leaf.ensures.words_after c.in-Err.is in c.none.ensures ∙ sym (page_found_none c.args.up m c.args.root.0 c.args.virt.0 _ c.unmap_leaf.new.words came)

pub returns-in-Ok-clause-frames_after : goal.returns-in-Ok-clause-frames_after
returns-in-Ok-clause-frames_after c =
    let m = lent_memory c.args.words.now c.args.bitmap.now c.args.frames in let came = unmapped c.unmap_leaf.ensures.value c.unmap_leaf.ensures.words_after c.in-Ok.is in ap (λ (x : Frames). memory c.unmap_leaf.new.words x) c.give_back.ensures.frames_after
    ∙ sym (free_page_lem c.args.up m c.args.root.0 c.args.virt.0 _ c.unmap_leaf.new.words came)

pub returns-in-Ok-clause-found_value : goal.returns-in-Ok-clause-found_value
returns-in-Ok-clause-found_value c =
    let m = lent_memory c.args.words.now c.args.bitmap.now c.args.frames in let came = unmapped c.unmap_leaf.ensures.value c.unmap_leaf.ensures.words_after c.in-Ok.is in c.give_back.ensures.found_value ∙ sym (page_found_lem c.args.up m c.args.root.0 c.args.virt.0 _ c.unmap_leaf.new.words came)
