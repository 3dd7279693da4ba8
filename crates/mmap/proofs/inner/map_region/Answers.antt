-- `map_region`: the pages, and then the slot and next_addr, or what a run that stopped leaves.
use Rattle.std.specs.Prelude.{Result}
use Rattle.answer.specs.declared.Refusal.{Refusal}
use Rattle.std.proofs.Common.{◌≡◌, true, List, ℕ, ◌+◌, ◌-◌, ◌*◌, ◌^◌, ◌<◌, ◌≤◌, ◌/◌, Bool, w32, to_z, of_z}
use Rattle.slots.specs.Slots.{listed, store}
use Rattle.address.specs.Address.{as_virt}
use Rattle.paging.specs.Walk.{WordsLent}
use Rattle.paging.specs.Kept.{lent_memory}
use Rattle.paging.specs.Map.{Memory, start_frame, total_of, RoomToTake}
use Rattle.mappings.specs.Regions.{mapped_region, no_mapped_region, insert}
use Rattle.mappings.specs.Packed.{mmap_in, next_in, MmapStands}
use Rattle.user_space.specs.User.{User}
use Rattle.user_space.specs.Packed.{lent_user}
use Rattle.mmap.specs.Calls.{user_pages}
use mathlib.Core.Path.{sym, ◌∙◌, ap}
use native.Mathlib.Omega.{arith}
use mir.Facts.{to_z-of_z}
use Rattle.paging.specs.Pages.{Ran, ran, map_pages}
use Rattle.paging.proofs.Calls.{whole_up, whole_above, whole_roomy}
use Rattle.user_space.specs.Flags.{writable}
use Rattle.user_space.proofs.Leaving.{leaves}
use Rattle.mmap.proofs.Steps.{no_mapping_left, ran_lent, ran_few, region_met, region_stop}
use Rattle.user_space.proofs.Lent.{user_whole}
use Rattle.mmap.proofs.inner.map_region.Goals as goal

pub overflow_sub-up : goal.overflow_sub-up
overflow_sub-up c =
    let lent : User = lent_user c.args.words.now c.args.bitmap.now c.args.frames c.args.list.now in
    whole_up (lent).mem c.args.root.0 (user_whole (lent) c.args.root.0 c.requires.root_value)

pub map_pages-run-requires-clause-room_to_take : goal.map_pages-run-requires-clause-room_to_take
map_pages-run-requires-clause-room_to_take c =
    let lent : User = lent_user c.args.words.now c.args.bitmap.now c.args.frames c.args.list.now in let few : c.args.frames.levels - 1 ≤ 4 = whole_above (lent).mem c.args.root.0 (user_whole (lent) c.args.root.0 c.requires.root_value) in let roomy : RoomToTake (lent).mem (c.args.n / 4096 * 5) = whole_roomy (lent).mem c.args.root.0 (user_whole (lent) c.args.root.0 c.requires.root_value) (c.args.n / 4096 * 5) (omega (arith, c.requires.n_bound)) in roomy

pub map_pages-run-requires-clause-up_le_most_above : goal.map_pages-run-requires-clause-up_le_most_above
map_pages-run-requires-clause-up_le_most_above c =
    let lent : User = lent_user c.args.words.now c.args.bitmap.now c.args.frames c.args.list.now in let few : c.args.frames.levels - 1 ≤ 4 = whole_above (lent).mem c.args.root.0 (user_whole (lent) c.args.root.0 c.requires.root_value) in let roomy : RoomToTake (lent).mem (c.args.n / 4096 * 5) = whole_roomy (lent).mem c.args.root.0 (user_whole (lent) c.args.root.0 c.requires.root_value) (c.args.n / 4096 * 5) (omega (arith, c.requires.n_bound)) in few

pub clear_after-requires-clause-words_lent : goal.clear_after-requires-clause-words_lent
clear_after-requires-clause-words_lent c =
    let lent : User = lent_user c.args.words.now c.args.bitmap.now c.args.frames c.args.list.now in let few : c.args.frames.levels - 1 ≤ 4 = whole_above (lent).mem c.args.root.0 (user_whole (lent) c.args.root.0 c.requires.root_value) in let roomy : RoomToTake (lent).mem (c.args.n / 4096 * 5) = whole_roomy (lent).mem c.args.root.0 (user_whole (lent) c.args.root.0 c.requires.root_value) (c.args.n / 4096 * 5) (omega (arith, c.requires.n_bound)) in let left-lent : (b : Bool) (w : Result ℕ Refusal) (k : ℕ) (m : Memory) → ran w k m ≡ map_pages (c.args.frames.levels - 1) b true (lent).mem c.args.root.0 c.args.virt.0 0 (c.args.n / 4096) → WordsLent m.words (start_frame m) (total_of m) × (c.args.virt.0 + k * 4096 < 2 ^ 64) = λ b w k m h. (
      ran_lent (c.args.frames.levels - 1) b true (lent).mem c.args.root.0 c.args.virt.0 (c.args.n / 4096) h (few) (roomy),
      omega (arith, ran_few (c.args.frames.levels - 1) b true (lent).mem c.args.root.0 c.args.virt.0 (c.args.n / 4096) h, c.requires.n_value, c.requires.n_bound),
    ) in let l = left-lent c.is_writable.result _ _ _ c.map_pages-run.ensures in l.0

pub clear_after-requires-clause-done_bound : goal.clear_after-requires-clause-done_bound
clear_after-requires-clause-done_bound c =
    let lent : User = lent_user c.args.words.now c.args.bitmap.now c.args.frames c.args.list.now in let few : c.args.frames.levels - 1 ≤ 4 = whole_above (lent).mem c.args.root.0 (user_whole (lent) c.args.root.0 c.requires.root_value) in let roomy : RoomToTake (lent).mem (c.args.n / 4096 * 5) = whole_roomy (lent).mem c.args.root.0 (user_whole (lent) c.args.root.0 c.requires.root_value) (c.args.n / 4096 * 5) (omega (arith, c.requires.n_bound)) in let left-lent : (b : Bool) (w : Result ℕ Refusal) (k : ℕ) (m : Memory) → ran w k m ≡ map_pages (c.args.frames.levels - 1) b true (lent).mem c.args.root.0 c.args.virt.0 0 (c.args.n / 4096) → WordsLent m.words (start_frame m) (total_of m) × (c.args.virt.0 + k * 4096 < 2 ^ 64) = λ b w k m h. (
      ran_lent (c.args.frames.levels - 1) b true (lent).mem c.args.root.0 c.args.virt.0 (c.args.n / 4096) h (few) (roomy),
      omega (arith, ran_few (c.args.frames.levels - 1) b true (lent).mem c.args.root.0 c.args.virt.0 (c.args.n / 4096) h, c.requires.n_value, c.requires.n_bound),
    ) in let l = left-lent c.is_writable.result _ _ _ c.map_pages-run.ensures in l.1

pub clear_after-requires-clause-up_le_most_above : goal.clear_after-requires-clause-up_le_most_above
clear_after-requires-clause-up_le_most_above c =
    let lent : User = lent_user c.args.words.now c.args.bitmap.now c.args.frames c.args.list.now in let few : c.args.frames.levels - 1 ≤ 4 = whole_above (lent).mem c.args.root.0 (user_whole (lent) c.args.root.0 c.requires.root_value) in let roomy : RoomToTake (lent).mem (c.args.n / 4096 * 5) = whole_roomy (lent).mem c.args.root.0 (user_whole (lent) c.args.root.0 c.requires.root_value) (c.args.n / 4096 * 5) (omega (arith, c.requires.n_bound)) in let left-lent : (b : Bool) (w : Result ℕ Refusal) (k : ℕ) (m : Memory) → ran w k m ≡ map_pages (c.args.frames.levels - 1) b true (lent).mem c.args.root.0 c.args.virt.0 0 (c.args.n / 4096) → WordsLent m.words (start_frame m) (total_of m) × (c.args.virt.0 + k * 4096 < 2 ^ 64) = λ b w k m h. (
      ran_lent (c.args.frames.levels - 1) b true (lent).mem c.args.root.0 c.args.virt.0 (c.args.n / 4096) h (few) (roomy),
      omega (arith, ran_few (c.args.frames.levels - 1) b true (lent).mem c.args.root.0 c.args.virt.0 (c.args.n / 4096) h, c.requires.n_value, c.requires.n_bound),
    ) in let l = left-lent c.is_writable.result _ _ _ c.map_pages-run.ensures in few

pub returns-in-Err : goal.returns-in-Err
returns-in-Err c =
    let lent : User = lent_user c.args.words.now c.args.bitmap.now c.args.frames c.args.list.now in let run_of : (b : Bool) (r : Ran) → b ≡ writable (to_z w32 (of_z w32 c.args.prot)) → r ≡ map_pages (c.args.frames.levels - 1) b true (lent).mem c.args.root.0 c.args.virt.0 0 (c.args.n / 4096) → user_pages (c.args.frames.levels - 1) (lent).mem c.args.root.0 c.args.virt.0 c.args.n c.args.prot ≡ r = λ b r e h. ap (λ (w : Bool). map_pages (c.args.frames.levels - 1) w true (lent).mem c.args.root.0 c.args.virt.0 0 (c.args.n / 4096)) (ap writable (sym (to_z-of_z c.ranges.prot)) ∙ sym e) ∙ sym h in let run : user_pages (c.args.frames.levels - 1) (lent).mem c.args.root.0 c.args.virt.0 c.args.n c.args.prot ≡ ran c.map_pages-run.result.walked c.map_pages-run.result.done (lent_memory c.map_pages-run.new.words c.map_pages-run.new.bitmap c.map_pages-run.result.frames) = run_of _ _ c.is_writable.ensures c.map_pages-run.ensures in
    no_mapping_left _ (λ i. (c.slice_known-2-1.given i).fits) c.requires.list_value
    (region_stop (c.args.frames.levels - 1) (lent) c.args.root.0 c.args.virt.0 c.args.n c.args.prot c.args.flags (run) _ c.in-Err.is (c.clear_after.ensures c.map_pages-run.new.bitmap))
    c.no_mapping.ensures

pub returns-in-Ok : goal.returns-in-Ok
returns-in-Ok c =
    let lent : User = lent_user c.args.words.now c.args.bitmap.now c.args.frames c.args.list.now in let run_of : (b : Bool) (r : Ran) → b ≡ writable (to_z w32 (of_z w32 c.args.prot)) → r ≡ map_pages (c.args.frames.levels - 1) b true (lent).mem c.args.root.0 c.args.virt.0 0 (c.args.n / 4096) → user_pages (c.args.frames.levels - 1) (lent).mem c.args.root.0 c.args.virt.0 c.args.n c.args.prot ≡ r = λ b r e h. ap (λ (w : Bool). map_pages (c.args.frames.levels - 1) w true (lent).mem c.args.root.0 c.args.virt.0 0 (c.args.n / 4096)) (ap writable (sym (to_z-of_z c.ranges.prot)) ∙ sym e) ∙ sym h in let run : user_pages (c.args.frames.levels - 1) (lent).mem c.args.root.0 c.args.virt.0 c.args.n c.args.prot ≡ ran c.map_pages-run.result.walked c.map_pages-run.result.done (lent_memory c.map_pages-run.new.words c.map_pages-run.new.bitmap c.map_pages-run.result.frames) = run_of _ _ c.is_writable.ensures c.map_pages-run.ensures in let stored : (mid left : List ℕ) → let l = mmap_in c.args.list.now in MmapStands mid (store no_mapped_region (insert (mapped_region c.args.virt.0 c.args.n (to_z w32 (of_z w32 c.args.prot)) (to_z w32 (of_z w32 c.args.flags))) (listed l)) l) (next_in c.args.list.now) → MmapStands left (mmap_in mid) (c.args.virt.0 + c.args.n) → MmapStands left (store no_mapped_region (insert (mapped_region c.args.virt.0 c.args.n c.args.prot c.args.flags) (listed l)) l) (c.args.virt.0 + c.args.n) = λ mid left f g. let l = mmap_in c.args.list.now in
    (g.0, g.1 ∙ f.1 ∙ (λ j. store no_mapped_region (insert (mapped_region c.args.virt.0 c.args.n (to_z-of_z c.ranges.prot j) (to_z-of_z c.ranges.flags j)) (listed l)) l), g.2) in
    leaves as_virt (λ k. (c.slice_known-in-Ok-2-1.given k).fits) (stored c.insert.new.list c.put_next.new.list c.insert.ensures c.put_next.ensures)
    (region_met (c.args.frames.levels - 1) (lent) c.args.root.0 c.args.virt.0 c.args.n c.args.prot c.args.flags (run) _ c.in-Ok.is)
