-- `copy_page`: the temporary page is unmapped if it is mapped, mapped to the new frame, and unmapped again once the words are copied.
use Rattle.std.proofs.Common.{rules, ◌≡◌, true, length, false}
use Rattle.paging.specs.Walk.{WordsLent}
use Rattle.paging.specs.Map.{out, RoomToTake, Memory}
use Rattle.paging.specs.Kept.{lent_memory}
use Rattle.copying.specs.Copying.{map_frame, temporary}
use mathlib.Core.Path.{sym, ◌∙◌, ap}
use native.Mathlib.Omega.{arith}
use Rattle.tables.proofs.Laws.{stepped}
use Rattle.paging.proofs.Walk.{lent_still}
use Rattle.paging.proofs.Map.{roomy_lent, roomy_less}
use Rattle.copying.proofs.Copying.{mapped_roomy, mapped_lent, unused, unused_roomy, copy_page_stop, copy_page_on}
use Rattle.copying.proofs.copy_page.Goals as goal

pub copy_from-copied-requires-clause-words_lent : goal.copy_from-copied-requires-clause-words_lent
copy_from-copied-requires-clause-words_lent c =
    let freed : Memory = lent_memory c.clear_if_mapped.new.words c.args.bitmap.now c.args.frames in let lent : Memory = lent_memory c.args.words.now c.args.bitmap.now c.args.frames in let free : freed ≡ unused c.args.up (lent) c.args.root.0 = c.clear_if_mapped.ensures c.args.bitmap.now in let room : RoomToTake (freed) 4 = unused_roomy c.args.up _ _ (free) 4 c.requires.room_to_take in let lent-after : WordsLent c.map_frame-mapped.new.words c.map_frame-mapped.result.frames.start c.map_frame-mapped.result.frames.total = roomy_lent (mapped_roomy c.args.up (freed) _ temporary
    c.args.f true false c.map_frame-mapped.ensures 0
    (roomy_less _ (omega (arith, c.requires.up_le_most_above)) (room))) in lent-after

pub copy_from-copied-requires-clause-f_value : goal.copy_from-copied-requires-clause-f_value
copy_from-copied-requires-clause-f_value c =
    let freed : Memory = lent_memory c.clear_if_mapped.new.words c.args.bitmap.now c.args.frames in let lent : Memory = lent_memory c.args.words.now c.args.bitmap.now c.args.frames in let free : freed ≡ unused c.args.up (lent) c.args.root.0 = c.clear_if_mapped.ensures c.args.bitmap.now in let room : RoomToTake (freed) 4 = unused_roomy c.args.up _ _ (free) 4 c.requires.room_to_take in let lent-after : WordsLent c.map_frame-mapped.new.words c.map_frame-mapped.result.frames.start c.map_frame-mapped.result.frames.total = roomy_lent (mapped_roomy c.args.up (freed) _ temporary
    c.args.f true false c.map_frame-mapped.ensures 0
    (roomy_less _ (omega (arith, c.requires.up_le_most_above)) (room))) in mapped_lent c.args.up (freed) _ temporary c.args.f true false c.map_frame-mapped.ensures c.requires.f_value

pub clear_page-requires-clause-words_lent : goal.clear_page-requires-clause-words_lent
clear_page-requires-clause-words_lent c =
    let freed : Memory = lent_memory c.clear_if_mapped.new.words c.args.bitmap.now c.args.frames in let lent : Memory = lent_memory c.args.words.now c.args.bitmap.now c.args.frames in let free : freed ≡ unused c.args.up (lent) c.args.root.0 = c.clear_if_mapped.ensures c.args.bitmap.now in let room : RoomToTake (freed) 4 = unused_roomy c.args.up _ _ (free) 4 c.requires.room_to_take in let lent-after : WordsLent c.map_frame-mapped.new.words c.map_frame-mapped.result.frames.start c.map_frame-mapped.result.frames.total = roomy_lent (mapped_roomy c.args.up (freed) _ temporary
    c.args.f true false c.map_frame-mapped.ensures 0
    (roomy_less _ (omega (arith, c.requires.up_le_most_above)) (room))) in let e : length c.copy_from-copied.new.words ≡ length c.map_frame-mapped.new.words = search rules in lent_still e (lent-after)

pub returns-in-Err : goal.returns-in-Err
returns-in-Err c =
    let freed : Memory = lent_memory c.clear_if_mapped.new.words c.args.bitmap.now c.args.frames in let lent : Memory = lent_memory c.args.words.now c.args.bitmap.now c.args.frames in let free : freed ≡ unused c.args.up (lent) c.args.root.0 = c.clear_if_mapped.ensures c.args.bitmap.now in let mapped : out c.map_frame-mapped.result.walked (lent_memory c.map_frame-mapped.new.words c.map_frame-mapped.new.bitmap c.map_frame-mapped.result.frames) ≡ map_frame c.args.up (unused c.args.up (lent) c.args.root.0) c.args.root.0 temporary c.args.f true false = c.map_frame-mapped.ensures ∙ ap (λ (x : Memory). map_frame c.args.up x c.args.root.0 temporary c.args.f true false)
    (free) in
    sym (copy_page_stop c.args.up _ _ _ _ _ _ (stepped (mapped) c.in-Err.is))

pub returns-in-Ok : goal.returns-in-Ok
returns-in-Ok c =
    let freed : Memory = lent_memory c.clear_if_mapped.new.words c.args.bitmap.now c.args.frames in let lent : Memory = lent_memory c.args.words.now c.args.bitmap.now c.args.frames in let free : freed ≡ unused c.args.up (lent) c.args.root.0 = c.clear_if_mapped.ensures c.args.bitmap.now in let mapped : out c.map_frame-mapped.result.walked (lent_memory c.map_frame-mapped.new.words c.map_frame-mapped.new.bitmap c.map_frame-mapped.result.frames) ≡ map_frame c.args.up (unused c.args.up (lent) c.args.root.0) c.args.root.0 temporary c.args.f true false = c.map_frame-mapped.ensures ∙ ap (λ (x : Memory). map_frame c.args.up x c.args.root.0 temporary c.args.f true false)
    (free) in
    ap (out c.copy_from-copied.result) (c.clear_page.ensures c.map_frame-mapped.new.bitmap)
    ∙ sym (copy_page_on c.args.up _ _ c.args.page.0 _ _ _
    (stepped (mapped) c.in-Ok.is) (sym (c.copy_from-copied.ensures c.map_frame-mapped.new.bitmap)))
