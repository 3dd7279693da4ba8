-- 10, marked already, 20, or the page put in at its place.
use Rattle.std.proofs.Common.{◌≡◌, true, sym, ◌∙◌, arith}
use Rattle.bits.specs.Bit.{both}
use Rattle.frame.proofs.Laws.{passed, failed}
use Rattle.cow.specs.Marked.{sound_marked}
use Rattle.cow.specs.Packed.{marked_in, marked_fit}
use Rattle.cow.proofs.Marked.{place_within, mark_told_broken, mark_told_there, mark_told_full, mark_told_new}
use Rattle.cow.proofs.mark_cow.Goals as goal

pub returns-then-not-is_sound-clause-marked_after : goal.returns-then-not-is_sound-clause-marked_after
returns-then-not-is_sound-clause-marked_after c =
    (mark_told_broken c.args.marked.now c.args.addr.0 (failed c.is_sound.ensures c.if-not-is_sound.true) (λ k. (c.slice_known-1.given k).fits)).0

pub returns-then-not-is_sound-clause-marked_reads : goal.returns-then-not-is_sound-clause-marked_reads
returns-then-not-is_sound-clause-marked_reads c =
    (mark_told_broken c.args.marked.now c.args.addr.0 (failed c.is_sound.ensures c.if-not-is_sound.true) (λ k. (c.slice_known-1.given k).fits)).1

pub put_in-requires-clause-bounds : goal.put_in-requires-clause-bounds
put_in-requires-clause-bounds c =
    let bs = c.args.marked.now in
    let sound : both (marked_fit bs) (sound_marked (marked_in bs)) ≡ true = passed c.is_sound.ensures c.if-not-is_sound.false in
    let found = sym c.in-Err.is ∙ c.find.ensures in
    (place_within bs sound c.page_of-page.result.0 found, omega (arith, c.count.ensures, c.if-count-ge-MAX_COW_PAGES.false))

pub returns-in-Ok-clause-marked_after : goal.returns-in-Ok-clause-marked_after
returns-in-Ok-clause-marked_after c =
    let bs = c.args.marked.now in
    let sound : both (marked_fit bs) (sound_marked (marked_in bs)) ≡ true = passed c.is_sound.ensures c.if-not-is_sound.false in
    let found = sym c.in-Ok.is ∙ c.find.ensures in
    (mark_told_there bs sound c.page_of-page.result.0 found c.args.addr.0 c.page_of-page.ensures (λ k. (c.slice_known-1.given k).fits)).0

pub returns-in-Ok-clause-marked_reads : goal.returns-in-Ok-clause-marked_reads
returns-in-Ok-clause-marked_reads c =
    let bs = c.args.marked.now in
    let sound : both (marked_fit bs) (sound_marked (marked_in bs)) ≡ true = passed c.is_sound.ensures c.if-not-is_sound.false in
    let found = sym c.in-Ok.is ∙ c.find.ensures in
    (mark_told_there bs sound c.page_of-page.result.0 found c.args.addr.0 c.page_of-page.ensures (λ k. (c.slice_known-1.given k).fits)).1

pub returns-in-Err-clause-marked_after : goal.returns-in-Err-clause-marked_after
returns-in-Err-clause-marked_after c =
    let bs = c.args.marked.now in
    let sound : both (marked_fit bs) (sound_marked (marked_in bs)) ≡ true = passed c.is_sound.ensures c.if-not-is_sound.false in
    let found = sym c.in-Err.is ∙ c.find.ensures in
    (mark_told_full bs sound c.page_of-page.result.0 found c.args.addr.0 c.page_of-page.ensures (omega (arith, c.count.ensures, c.if-count-ge-MAX_COW_PAGES.true)) (λ k. (c.slice_known-1.given k).fits)).0

pub returns-in-Err-clause-marked_reads : goal.returns-in-Err-clause-marked_reads
returns-in-Err-clause-marked_reads c =
    let bs = c.args.marked.now in
    let sound : both (marked_fit bs) (sound_marked (marked_in bs)) ≡ true = passed c.is_sound.ensures c.if-not-is_sound.false in
    let found = sym c.in-Err.is ∙ c.find.ensures in
    (mark_told_full bs sound c.page_of-page.result.0 found c.args.addr.0 c.page_of-page.ensures (omega (arith, c.count.ensures, c.if-count-ge-MAX_COW_PAGES.true)) (λ k. (c.slice_known-1.given k).fits)).1

pub returns-in-Err-2-clause-marked_after : goal.returns-in-Err-2-clause-marked_after
returns-in-Err-2-clause-marked_after c =
    let bs = c.args.marked.now in
    let sound : both (marked_fit bs) (sound_marked (marked_in bs)) ≡ true = passed c.is_sound.ensures c.if-not-is_sound.false in
    let found = sym c.in-Err.is ∙ c.find.ensures in
    (mark_told_new bs sound c.page_of-page.result.0 found c.args.addr.0 c.page_of-page.ensures (omega (arith, c.count.ensures, c.if-count-ge-MAX_COW_PAGES.false)) c.put_in.new.list
    (λ k. (c.type_inv.marked k).fits) c.put_in.ensures.0 c.put_in.ensures.1).0

pub returns-in-Err-2-clause-marked_reads : goal.returns-in-Err-2-clause-marked_reads
returns-in-Err-2-clause-marked_reads c =
    let bs = c.args.marked.now in
    let sound : both (marked_fit bs) (sound_marked (marked_in bs)) ≡ true = passed c.is_sound.ensures c.if-not-is_sound.false in
    let found = sym c.in-Err.is ∙ c.find.ensures in
    (mark_told_new bs sound c.page_of-page.result.0 found c.args.addr.0 c.page_of-page.ensures (omega (arith, c.count.ensures, c.if-count-ge-MAX_COW_PAGES.false)) c.put_in.new.list
    (λ k. (c.type_inv.marked k).fits) c.put_in.ensures.0 c.put_in.ensures.1).1
