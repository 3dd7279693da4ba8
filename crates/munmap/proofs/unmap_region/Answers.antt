-- `unmap_region`: the region by its place and size, then its pages, then its slot.
use Rattle.std.specs.Prelude.{Ok, Some, None}
use Rattle.std.proofs.Common.{◌≡◌, true, ◌-◌, ℕ, ◌<◌, ◌/◌, List}
use Rattle.answer.specs.Outcomes.{as_answer}
use Rattle.paging.specs.Kept.{kept}
use Rattle.mappings.specs.Packed.{mmap_in, next_in, sound_list, MmapStands}
use Rattle.user_space.specs.User.{User, user, user_did}
use Rattle.user_space.specs.Packed.{lent_user, UserLeaves}
use Rattle.munmap.specs.Calls.{unmap_region}
use mathlib.Core.Path.{sym, ◌∙◌, ap}
use native.Mathlib.Omega.{arith}
use Rattle.slots.specs.Slots.{listed, store}
use Rattle.slots.specs.Shifts.{taken_out}
use Rattle.slots.specs.Sorted.{place_of}
use Rattle.slots.proofs.Sorted.{remove_there}
use Rattle.packed.proofs.RoundTrip.{Bytes}
use Rattle.frame.proofs.Laws.{passed, failed}
use Rattle.paging.specs.Map.{Memory}
use Rattle.paging.specs.Pages.{free_pages}
use Rattle.paging.proofs.Calls.{whole_up, whole_above, whole_roomy}
use Rattle.mappings.specs.declared.MappedRegion.{MappedRegion}
use Rattle.mappings.specs.Regions.{start_key, no_mapped_region, holds, remove}
use Rattle.mappings.proofs.Rising.{holds_starts, holds_placed}
use Rattle.mappings.proofs.Sound.{sound_few, sound_rising}
use Rattle.mappings.proofs.Placing.{place_below, sized_tells, sized_place}
use Rattle.user_space.proofs.Leaving.{leaves}
use Rattle.user_space.proofs.Lent.{user_whole, list_sound}
use Rattle.munmap.proofs.Steps.{not_unmapped_left, unmap_none, unmap_met}
use Rattle.munmap.proofs.unmap_region.Goals as goal

pub returns-in_default-clause-user_leaves : goal.returns-in_default-clause-user_leaves
returns-in_default-clause-user_leaves c =
    let lent : User = lent_user c.args.words.now c.args.bitmap.now c.args.frames c.args.list.now in let none = sized_tells c.args.addr.0 c.args.n (listed (mmap_in c.args.list.now)) None (sym c.in_default.is ∙ c.find_sized.ensures) in not_unmapped_left _ (λ i. (c.slice_known-2-1.given i).fits) c.requires.list_value (unmap_none (c.args.frames.levels - 1) (lent) c.args.root.0 c.args.addr.0 c.args.n none) c.not_unmapped.ensures

pub overflow_sub-up : goal.overflow_sub-up
overflow_sub-up c =
    let lent : User = lent_user c.args.words.now c.args.bitmap.now c.args.frames c.args.list.now in
    whole_up (lent).mem c.args.root.0 (user_whole (lent) c.args.root.0 c.requires.root_value)

pub free_pages-given-requires-clause-room_to_take : goal.free_pages-given-requires-clause-room_to_take
free_pages-given-requires-clause-room_to_take c =
    let held : holds c.args.addr.0 c.args.n (listed (mmap_in c.args.list.now)) ≡ true = sized_tells c.args.addr.0 c.args.n (listed (mmap_in c.args.list.now)) (Some c.in-Some.at) (sym c.in-Some.is ∙ c.find_sized.ensures) in let lent : User = lent_user c.args.words.now c.args.bitmap.now c.args.frames c.args.list.now in let listed-sound : sound_list c.args.list.now ≡ true = list_sound (lent).mem c.args.list.now c.args.root.0 c.requires.list_value c.requires.root_value in let p = holds_placed c.args.addr.0 c.args.n 0 (listed (mmap_in c.args.list.now)) (sound_rising c.args.list.now (listed-sound)) (held) in whole_roomy (lent).mem c.args.root.0 (user_whole (lent) c.args.root.0 c.requires.root_value) 0 (omega arith)

pub free_pages-given-requires-clause-n_bound : goal.free_pages-given-requires-clause-n_bound
free_pages-given-requires-clause-n_bound c =
    let held : holds c.args.addr.0 c.args.n (listed (mmap_in c.args.list.now)) ≡ true = sized_tells c.args.addr.0 c.args.n (listed (mmap_in c.args.list.now)) (Some c.in-Some.at) (sym c.in-Some.is ∙ c.find_sized.ensures) in let lent : User = lent_user c.args.words.now c.args.bitmap.now c.args.frames c.args.list.now in let listed-sound : sound_list c.args.list.now ≡ true = list_sound (lent).mem c.args.list.now c.args.root.0 c.requires.list_value c.requires.root_value in let p = holds_placed c.args.addr.0 c.args.n 0 (listed (mmap_in c.args.list.now)) (sound_rising c.args.list.now (listed-sound)) (held) in omega (arith, p.end, p.whole)

pub free_pages-given-requires-clause-up_le_most_above : goal.free_pages-given-requires-clause-up_le_most_above
free_pages-given-requires-clause-up_le_most_above c =
    let held : holds c.args.addr.0 c.args.n (listed (mmap_in c.args.list.now)) ≡ true = sized_tells c.args.addr.0 c.args.n (listed (mmap_in c.args.list.now)) (Some c.in-Some.at) (sym c.in-Some.is ∙ c.find_sized.ensures) in let lent : User = lent_user c.args.words.now c.args.bitmap.now c.args.frames c.args.list.now in let listed-sound : sound_list c.args.list.now ≡ true = list_sound (lent).mem c.args.list.now c.args.root.0 c.requires.list_value c.requires.root_value in let p = holds_placed c.args.addr.0 c.args.n 0 (listed (mmap_in c.args.list.now)) (sound_rising c.args.list.now (listed-sound)) (held) in whole_above (lent).mem c.args.root.0 (user_whole (lent) c.args.root.0 c.requires.root_value)

pub remove_at-requires-clause-at_bound : goal.remove_at-requires-clause-at_bound
remove_at-requires-clause-at_bound c =
    let held : holds c.args.addr.0 c.args.n (listed (mmap_in c.args.list.now)) ≡ true = sized_tells c.args.addr.0 c.args.n (listed (mmap_in c.args.list.now)) (Some c.in-Some.at) (sym c.in-Some.is ∙ c.find_sized.ensures) in let lent : User = lent_user c.args.words.now c.args.bitmap.now c.args.frames c.args.list.now in let listed-sound : sound_list c.args.list.now ≡ true = list_sound (lent).mem c.args.list.now c.args.root.0 c.requires.list_value c.requires.root_value in
    let l = listed (mmap_in c.args.list.now) in
    let below : c.in-Some.at < (mmap_in c.args.list.now).count
    = place_below c.args.list.now listed-sound c.args.addr.0 c.in-Some.at (sized_place c.args.addr.0 c.args.n (listed (mmap_in c.args.list.now)) (Some c.in-Some.at) (sym c.in-Some.is ∙ c.find_sized.ensures) held) (holds_starts c.args.addr.0 c.args.n l held) in
    (below, sound_few c.args.list.now listed-sound)

pub returns-clause-user_leaves : goal.returns-clause-user_leaves
returns-clause-user_leaves c =
    let held : holds c.args.addr.0 c.args.n (listed (mmap_in c.args.list.now)) ≡ true = sized_tells c.args.addr.0 c.args.n (listed (mmap_in c.args.list.now)) (Some c.in-Some.at) (sym c.in-Some.is ∙ c.find_sized.ensures) in let lent : User = lent_user c.args.words.now c.args.bitmap.now c.args.frames c.args.list.now in let listed-sound : sound_list c.args.list.now ≡ true = list_sound (lent).mem c.args.list.now c.args.root.0 c.requires.list_value c.requires.root_value in
    let taken : (k : ℕ) → k ≡ place_of start_key c.args.addr.0 (listed (mmap_in c.args.list.now)) → taken_out k (listed (mmap_in c.args.list.now)) ≡ remove c.args.addr.0 (listed (mmap_in c.args.list.now))
    = λ k e. ap (λ (i : ℕ). taken_out i (listed (mmap_in c.args.list.now))) e
    ∙ sym (remove_there start_key c.args.addr.0 0 (listed (mmap_in c.args.list.now)) (sound_rising c.args.list.now listed-sound).0 (holds_starts c.args.addr.0 c.args.n (listed (mmap_in c.args.list.now)) held)) in
    let unmapped : (m : Memory) (left : List ℕ) (k : ℕ) → holds c.args.addr.0 c.args.n (listed (mmap_in c.args.list.now)) ≡ true → k ≡ place_of start_key c.args.addr.0 (listed (mmap_in c.args.list.now)) → m ≡ free_pages (c.args.frames.levels - 1) (lent).mem c.args.root.0 c.args.addr.0 (c.args.n / 4096) → Bytes left → MmapStands left (store no_mapped_region (taken_out k (listed (mmap_in c.args.list.now))) (mmap_in c.args.list.now)) (next_in c.args.list.now) → UserLeaves as_answer (kept (as_answer (Ok 0)) m left) (unmap_region (c.args.frames.levels - 1) (lent) c.args.root.0 c.args.addr.0 c.args.n) = λ m left k h e f b g. let l = mmap_in c.args.list.now in
    leaves as_answer b (g.0, g.1 ∙ ap (λ (x : List MappedRegion). store no_mapped_region x l) (taken k e), g.2)
    (unmap_met (c.args.frames.levels - 1) (lent) c.args.root.0 c.args.addr.0 c.args.n h
    ∙ ap (λ (x : Memory). user_did (Ok 0) (user x (store no_mapped_region (remove c.args.addr.0 (listed l)) l) (next_in c.args.list.now))) (sym f)) in unmapped _ _ _ (held) (sized_place c.args.addr.0 c.args.n (listed (mmap_in c.args.list.now)) (Some c.in-Some.at) (sym c.in-Some.is ∙ c.find_sized.ensures) held) c.free_pages-given.ensures.frames_after (λ i. (c.type_inv.list i).fits) c.remove_at.ensures
