-- 10, or the list without the page.
use Rattle.std.proofs.Common.{◌≡◌, true}
use Rattle.bits.specs.Bit.{both}
use Rattle.cow.specs.Marked.{sound_marked}
use Rattle.cow.specs.Packed.{marked_in, marked_fit}
use Rattle.frame.proofs.Laws.{passed, failed}
use Rattle.cow.proofs.Marked.{unmark_told_broken, unmark_told}
use Rattle.cow.proofs.unmark_cow.Goals as goal

pub returns-then-not-is_sound-clause-marked_after : goal.returns-then-not-is_sound-clause-marked_after
returns-then-not-is_sound-clause-marked_after c =
    (unmark_told_broken c.args.marked.now c.args.addr.0 (failed c.is_sound.ensures c.if-not-is_sound.true) (λ k. (c.slice_known-1.given k).fits)).0

pub returns-then-not-is_sound-clause-marked_reads : goal.returns-then-not-is_sound-clause-marked_reads
returns-then-not-is_sound-clause-marked_reads c =
    (unmark_told_broken c.args.marked.now c.args.addr.0 (failed c.is_sound.ensures c.if-not-is_sound.true) (λ k. (c.slice_known-1.given k).fits)).1

pub returns-clause-marked_after : goal.returns-clause-marked_after
returns-clause-marked_after c =
    (let sound : both (marked_fit c.args.marked.now) (sound_marked (marked_in c.args.marked.now)) ≡ true = passed c.is_sound.ensures c.if-not-is_sound.false in
    unmark_told c.args.marked.now c.args.addr.0 (sound) c.page_of.ensures c.unmark.new.list (λ k. (c.slice_known-2-1.given k).fits) (c.unmark.ensures.list_after, c.unmark.ensures.list_after_2)).0

pub returns-clause-marked_reads : goal.returns-clause-marked_reads
returns-clause-marked_reads c =
    (let sound : both (marked_fit c.args.marked.now) (sound_marked (marked_in c.args.marked.now)) ≡ true = passed c.is_sound.ensures c.if-not-is_sound.false in
    unmark_told c.args.marked.now c.args.addr.0 (sound) c.page_of.ensures c.unmark.new.list (λ k. (c.slice_known-2-1.given k).fits) (c.unmark.ensures.list_after, c.unmark.ensures.list_after_2)).1
