-- `map_huge_page`: 10, then 4, or the entry below the tables that its size leaves.
use Rattle.std.proofs.Common.{◌≡◌, ◌-◌, true}
use Rattle.paging.specs.Calls.{whole, size_of}
use Rattle.paging.specs.Kept.{lent_memory}
use Rattle.address.specs.Address.{aligned}
use mathlib.Core.Path.{◌∙◌, ap}
use lib.Dec.{lit≤}
use Rattle.frame.proofs.Laws.{passed, failed}
use Rattle.paging.proofs.Calls.{told, whole_up, whole_some, whole_above, whole_roomy, huge_broken, huge_virt, huge_phys}
use Rattle.mapper.proofs.Laws.{huge_told}
use Rattle.mapper.proofs.map_huge_page.Goals as goal

pub returns-then-not-is_whole-clause-value : goal.returns-then-not-is_whole-clause-value
returns-then-not-is_whole-clause-value c =
    (told (huge_broken (c.args.frames.levels - 1) (lent_memory c.args.words.now c.args.bitmap.now c.args.frames) c.args.root.0 c.args.virt.0 c.args.phys.0 c.args.writable c.args.user c.args.size
    (failed c.is_whole.ensures c.if-not-is_whole.true))).0

pub returns-then-not-is_whole-clause-words_after : goal.returns-then-not-is_whole-clause-words_after
returns-then-not-is_whole-clause-words_after c =
    (told (huge_broken (c.args.frames.levels - 1) (lent_memory c.args.words.now c.args.bitmap.now c.args.frames) c.args.root.0 c.args.virt.0 c.args.phys.0 c.args.writable c.args.user c.args.size
    (failed c.is_whole.ensures c.if-not-is_whole.true))).1.0

pub returns-then-not-is_whole-clause-bitmap_after : goal.returns-then-not-is_whole-clause-bitmap_after
returns-then-not-is_whole-clause-bitmap_after c =
    (told (huge_broken (c.args.frames.levels - 1) (lent_memory c.args.words.now c.args.bitmap.now c.args.frames) c.args.root.0 c.args.virt.0 c.args.phys.0 c.args.writable c.args.user c.args.size
    (failed c.is_whole.ensures c.if-not-is_whole.true))).1.1

pub returns-then-not-is_aligned-clause-value : goal.returns-then-not-is_aligned-clause-value
returns-then-not-is_aligned-clause-value c =
    (let good : whole (lent_memory c.args.words.now c.args.bitmap.now c.args.frames) c.args.root.0 ≡ true = passed c.is_whole.ensures c.if-not-is_whole.false in let virt-test : c.is_aligned.result ≡ aligned c.args.virt.0 (size_of c.args.size) = c.is_aligned.ensures ∙ ap (aligned c.args.virt.0) c.alignment-align.ensures in
    told (huge_virt (c.args.frames.levels - 1) (lent_memory c.args.words.now c.args.bitmap.now c.args.frames) c.args.root.0 c.args.virt.0 c.args.phys.0 c.args.writable c.args.user c.args.size
    (good) (failed (virt-test) c.if-not-is_aligned.true))).0

pub returns-then-not-is_aligned-clause-words_after : goal.returns-then-not-is_aligned-clause-words_after
returns-then-not-is_aligned-clause-words_after c =
    (let good : whole (lent_memory c.args.words.now c.args.bitmap.now c.args.frames) c.args.root.0 ≡ true = passed c.is_whole.ensures c.if-not-is_whole.false in let virt-test : c.is_aligned.result ≡ aligned c.args.virt.0 (size_of c.args.size) = c.is_aligned.ensures ∙ ap (aligned c.args.virt.0) c.alignment-align.ensures in
    told (huge_virt (c.args.frames.levels - 1) (lent_memory c.args.words.now c.args.bitmap.now c.args.frames) c.args.root.0 c.args.virt.0 c.args.phys.0 c.args.writable c.args.user c.args.size
    (good) (failed (virt-test) c.if-not-is_aligned.true))).1.0

pub returns-then-not-is_aligned-clause-bitmap_after : goal.returns-then-not-is_aligned-clause-bitmap_after
returns-then-not-is_aligned-clause-bitmap_after c =
    (let good : whole (lent_memory c.args.words.now c.args.bitmap.now c.args.frames) c.args.root.0 ≡ true = passed c.is_whole.ensures c.if-not-is_whole.false in let virt-test : c.is_aligned.result ≡ aligned c.args.virt.0 (size_of c.args.size) = c.is_aligned.ensures ∙ ap (aligned c.args.virt.0) c.alignment-align.ensures in
    told (huge_virt (c.args.frames.levels - 1) (lent_memory c.args.words.now c.args.bitmap.now c.args.frames) c.args.root.0 c.args.virt.0 c.args.phys.0 c.args.writable c.args.user c.args.size
    (good) (failed (virt-test) c.if-not-is_aligned.true))).1.1

pub returns-then-not-is_aligned-2-clause-value : goal.returns-then-not-is_aligned-2-clause-value
returns-then-not-is_aligned-2-clause-value c =
    (let good : whole (lent_memory c.args.words.now c.args.bitmap.now c.args.frames) c.args.root.0 ≡ true = passed c.is_whole.ensures c.if-not-is_whole.false in let phys-test : c.is_aligned-2.result ≡ aligned c.args.phys.0 (size_of c.args.size) = c.is_aligned-2.ensures ∙ ap (aligned c.args.phys.0) c.alignment-align.ensures in let virt-test : c.is_aligned.result ≡ aligned c.args.virt.0 (size_of c.args.size) = c.is_aligned.ensures ∙ ap (aligned c.args.virt.0) c.alignment-align.ensures in
    told
    (huge_phys (c.args.frames.levels - 1) (lent_memory c.args.words.now c.args.bitmap.now c.args.frames) c.args.root.0 c.args.virt.0 c.args.phys.0 c.args.writable c.args.user c.args.size (good)
    (passed (virt-test) c.if-not-is_aligned.false) (failed (phys-test) c.if-not-is_aligned-2.true))).0

pub returns-then-not-is_aligned-2-clause-words_after : goal.returns-then-not-is_aligned-2-clause-words_after
returns-then-not-is_aligned-2-clause-words_after c =
    (let good : whole (lent_memory c.args.words.now c.args.bitmap.now c.args.frames) c.args.root.0 ≡ true = passed c.is_whole.ensures c.if-not-is_whole.false in let phys-test : c.is_aligned-2.result ≡ aligned c.args.phys.0 (size_of c.args.size) = c.is_aligned-2.ensures ∙ ap (aligned c.args.phys.0) c.alignment-align.ensures in let virt-test : c.is_aligned.result ≡ aligned c.args.virt.0 (size_of c.args.size) = c.is_aligned.ensures ∙ ap (aligned c.args.virt.0) c.alignment-align.ensures in
    told
    (huge_phys (c.args.frames.levels - 1) (lent_memory c.args.words.now c.args.bitmap.now c.args.frames) c.args.root.0 c.args.virt.0 c.args.phys.0 c.args.writable c.args.user c.args.size (good)
    (passed (virt-test) c.if-not-is_aligned.false) (failed (phys-test) c.if-not-is_aligned-2.true))).1.0

pub returns-then-not-is_aligned-2-clause-bitmap_after : goal.returns-then-not-is_aligned-2-clause-bitmap_after
returns-then-not-is_aligned-2-clause-bitmap_after c =
    (let good : whole (lent_memory c.args.words.now c.args.bitmap.now c.args.frames) c.args.root.0 ≡ true = passed c.is_whole.ensures c.if-not-is_whole.false in let phys-test : c.is_aligned-2.result ≡ aligned c.args.phys.0 (size_of c.args.size) = c.is_aligned-2.ensures ∙ ap (aligned c.args.phys.0) c.alignment-align.ensures in let virt-test : c.is_aligned.result ≡ aligned c.args.virt.0 (size_of c.args.size) = c.is_aligned.ensures ∙ ap (aligned c.args.virt.0) c.alignment-align.ensures in
    told
    (huge_phys (c.args.frames.levels - 1) (lent_memory c.args.words.now c.args.bitmap.now c.args.frames) c.args.root.0 c.args.virt.0 c.args.phys.0 c.args.writable c.args.user c.args.size (good)
    (passed (virt-test) c.if-not-is_aligned.false) (failed (phys-test) c.if-not-is_aligned-2.true))).1.1

pub overflow_sub-up : goal.overflow_sub-up
overflow_sub-up c =
    let good : whole (lent_memory c.args.words.now c.args.bitmap.now c.args.frames) c.args.root.0 ≡ true = passed c.is_whole.ensures c.if-not-is_whole.false in
    let a = c.args in
    whole_up (lent_memory a.words.now a.bitmap.now a.frames) a.root.0 (good)

pub tables_above-k-requires : goal.tables_above-k-requires
tables_above-k-requires c =
    let good : whole (lent_memory c.args.words.now c.args.bitmap.now c.args.frames) c.args.root.0 ≡ true = passed c.is_whole.ensures c.if-not-is_whole.false in
    let a = c.args in
    whole_some (lent_memory a.words.now a.bitmap.now a.frames) a.root.0 (good)

pub map_entry-requires-clause-room_to_take : goal.map_entry-requires-clause-room_to_take
map_entry-requires-clause-room_to_take c =
    let good : whole (lent_memory c.args.words.now c.args.bitmap.now c.args.frames) c.args.root.0 ≡ true = passed c.is_whole.ensures c.if-not-is_whole.false in let a = c.args in let m = lent_memory a.words.now a.bitmap.now a.frames in let up = a.frames.levels - 1 in whole_roomy m a.root.0 (good) 4 (lit≤ tt)

pub map_entry-requires-clause-up_le_most_above : goal.map_entry-requires-clause-up_le_most_above
map_entry-requires-clause-up_le_most_above c =
    let good : whole (lent_memory c.args.words.now c.args.bitmap.now c.args.frames) c.args.root.0 ≡ true = passed c.is_whole.ensures c.if-not-is_whole.false in let a = c.args in let m = lent_memory a.words.now a.bitmap.now a.frames in let up = a.frames.levels - 1 in whole_above m a.root.0 (good)

pub returns-clause-value : goal.returns-clause-value
returns-clause-value c =
    (let good : whole (lent_memory c.args.words.now c.args.bitmap.now c.args.frames) c.args.root.0 ≡ true = passed c.is_whole.ensures c.if-not-is_whole.false in let phys-test : c.is_aligned-2.result ≡ aligned c.args.phys.0 (size_of c.args.size) = c.is_aligned-2.ensures ∙ ap (aligned c.args.phys.0) c.alignment-align.ensures in let virt-test : c.is_aligned.result ≡ aligned c.args.virt.0 (size_of c.args.size) = c.is_aligned.ensures ∙ ap (aligned c.args.virt.0) c.alignment-align.ensures in
    huge_told (c.args.frames.levels - 1) (lent_memory c.args.words.now c.args.bitmap.now c.args.frames) c.args.root.0 c.args.virt.0 c.args.phys.0 c.args.writable c.args.user (good)
    c.args.size (passed (virt-test) c.if-not-is_aligned.false) (passed (phys-test) c.if-not-is_aligned-2.false)
    c.tables_above-k.result c.tables_above-k.ensures c.set_huge-e.result.0 c.set_huge-e.ensures (c.map_entry.ensures.value, (c.map_entry.ensures.words_after, c.map_entry.ensures.bitmap_after))).0

pub returns-clause-words_after : goal.returns-clause-words_after
returns-clause-words_after c =
    (let good : whole (lent_memory c.args.words.now c.args.bitmap.now c.args.frames) c.args.root.0 ≡ true = passed c.is_whole.ensures c.if-not-is_whole.false in let phys-test : c.is_aligned-2.result ≡ aligned c.args.phys.0 (size_of c.args.size) = c.is_aligned-2.ensures ∙ ap (aligned c.args.phys.0) c.alignment-align.ensures in let virt-test : c.is_aligned.result ≡ aligned c.args.virt.0 (size_of c.args.size) = c.is_aligned.ensures ∙ ap (aligned c.args.virt.0) c.alignment-align.ensures in
    huge_told (c.args.frames.levels - 1) (lent_memory c.args.words.now c.args.bitmap.now c.args.frames) c.args.root.0 c.args.virt.0 c.args.phys.0 c.args.writable c.args.user (good)
    c.args.size (passed (virt-test) c.if-not-is_aligned.false) (passed (phys-test) c.if-not-is_aligned-2.false)
    c.tables_above-k.result c.tables_above-k.ensures c.set_huge-e.result.0 c.set_huge-e.ensures (c.map_entry.ensures.value, (c.map_entry.ensures.words_after, c.map_entry.ensures.bitmap_after))).1.0

pub returns-clause-bitmap_after : goal.returns-clause-bitmap_after
returns-clause-bitmap_after c =
    (let good : whole (lent_memory c.args.words.now c.args.bitmap.now c.args.frames) c.args.root.0 ≡ true = passed c.is_whole.ensures c.if-not-is_whole.false in let phys-test : c.is_aligned-2.result ≡ aligned c.args.phys.0 (size_of c.args.size) = c.is_aligned-2.ensures ∙ ap (aligned c.args.phys.0) c.alignment-align.ensures in let virt-test : c.is_aligned.result ≡ aligned c.args.virt.0 (size_of c.args.size) = c.is_aligned.ensures ∙ ap (aligned c.args.virt.0) c.alignment-align.ensures in
    huge_told (c.args.frames.levels - 1) (lent_memory c.args.words.now c.args.bitmap.now c.args.frames) c.args.root.0 c.args.virt.0 c.args.phys.0 c.args.writable c.args.user (good)
    c.args.size (passed (virt-test) c.if-not-is_aligned.false) (passed (phys-test) c.if-not-is_aligned-2.false)
    c.tables_above-k.result c.tables_above-k.ensures c.set_huge-e.result.0 c.set_huge-e.ensures (c.map_entry.ensures.value, (c.map_entry.ensures.words_after, c.map_entry.ensures.bitmap_after))).1.1
