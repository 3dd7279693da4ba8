-- `map_chosen`: the address, then a slot for it, then the region.
use Rattle.std.specs.Prelude.{Ok, Result}
use Rattle.answer.specs.declared.Refusal.{Refusal}
use Rattle.address.specs.declared.VirtAddr.{VirtAddr}
use Rattle.std.proofs.Common.{◌≡◌, true, ℕ, ◌-◌, false, w32, to_z, of_z}
use Rattle.address.specs.Address.{as_virt}
use Rattle.paging.specs.Kept.{Kept}
use Rattle.mappings.specs.Packed.{sound_list}
use Rattle.user_space.specs.User.{User}
use Rattle.user_space.specs.Packed.{lent_user, UserLeaves}
use Rattle.mmap.specs.Calls.{chosen, full, map_region, chosen_region}
use mathlib.Core.Path.{sym, ◌∙◌, ap, subst}
use mir.Facts.{to_z-of_z}
use Rattle.mappings.proofs.Sound.{sound_rising, sound_even}
use Rattle.mmap.proofs.Calls.{room, chosen_place}
use Rattle.mmap.proofs.Steps.{no_mapping_left, placed_stop, placed_full, placed_room, region_same}
use Rattle.user_space.proofs.Lent.{list_sound}
use Rattle.mmap.proofs.inner.map_chosen.Goals as goal

pub returns-then-is_full : goal.returns-then-is_full
returns-then-is_full c =
    let lent : User = lent_user c.args.words.now c.args.bitmap.now c.args.frames c.args.list.now in let came : chosen (lent) c.args.hint c.args.n c.args.flags ≡ c.choose.result = ap (chosen (lent) c.args.hint c.args.n) (sym (to_z-of_z c.ranges.flags)) ∙ sym (c.choose.ensures (lent).mem) in
    no_mapping_left _ (λ i. (c.slice_known-2-1.given i).fits) c.requires.list_value
    (placed_full (c.args.frames.levels - 1) (lent) c.args.root.0 c.args.hint c.args.n c.args.prot c.args.flags _ (came ∙ c.in-Ok.is)
    (sym (c.is_full.ensures (lent).mem) ∙ c.if-is_full.true)) c.no_mapping-then-is_full.ensures

pub map_region-requires-clause-fact : goal.map_region-requires-clause-fact
map_region-requires-clause-fact c =
    let lent : User = lent_user c.args.words.now c.args.bitmap.now c.args.frames c.args.list.now in let came : chosen (lent) c.args.hint c.args.n c.args.flags ≡ c.choose.result = ap (chosen (lent) c.args.hint c.args.n) (sym (to_z-of_z c.ranges.flags)) ∙ sym (c.choose.ensures (lent).mem) in let listed-sound : sound_list c.args.list.now ≡ true = list_sound (lent).mem c.args.list.now c.args.root.0 c.requires.list_value c.requires.root_value in let at = chosen_place (lent) c.args.hint c.args.n c.args.flags _ (sound_rising c.args.list.now (listed-sound)) (sound_even c.args.list.now (listed-sound))
    (came ∙ c.in-Ok.is) in room (lent) _ (sym (c.is_full.ensures (lent).mem) ∙ c.if-is_full.false)

pub map_region-requires-clause-n_bound : goal.map_region-requires-clause-n_bound
map_region-requires-clause-n_bound c =
    let lent : User = lent_user c.args.words.now c.args.bitmap.now c.args.frames c.args.list.now in let came : chosen (lent) c.args.hint c.args.n c.args.flags ≡ c.choose.result = ap (chosen (lent) c.args.hint c.args.n) (sym (to_z-of_z c.ranges.flags)) ∙ sym (c.choose.ensures (lent).mem) in let listed-sound : sound_list c.args.list.now ≡ true = list_sound (lent).mem c.args.list.now c.args.root.0 c.requires.list_value c.requires.root_value in let at = chosen_place (lent) c.args.hint c.args.n c.args.flags _ (sound_rising c.args.list.now (listed-sound)) (sound_even c.args.list.now (listed-sound))
    (came ∙ c.in-Ok.is) in at.1

pub returns-in-Err : goal.returns-in-Err
returns-in-Err c =
    let lent : User = lent_user c.args.words.now c.args.bitmap.now c.args.frames c.args.list.now in let came : chosen (lent) c.args.hint c.args.n c.args.flags ≡ c.choose.result = ap (chosen (lent) c.args.hint c.args.n) (sym (to_z-of_z c.ranges.flags)) ∙ sym (c.choose.ensures (lent).mem) in
    no_mapping_left _ (λ i. (c.slice_known-2-1.given i).fits) c.requires.list_value
    (placed_stop (c.args.frames.levels - 1) (lent) c.args.root.0 c.args.hint c.args.n c.args.prot c.args.flags _ (came ∙ c.in-Err.is)) c.no_mapping.ensures

pub returns-else-is_full : goal.returns-else-is_full
returns-else-is_full c =
    let lent : User = lent_user c.args.words.now c.args.bitmap.now c.args.frames c.args.list.now in let came : chosen (lent) c.args.hint c.args.n c.args.flags ≡ c.choose.result = ap (chosen (lent) c.args.hint c.args.n) (sym (to_z-of_z c.ranges.flags)) ∙ sym (c.choose.ensures (lent).mem) in let placed : (a : ℕ) (k : Kept (Result VirtAddr Refusal)) → chosen (lent) c.args.hint c.args.n c.args.flags ≡ Ok a → full (lent) a ≡ false → UserLeaves as_virt k (map_region (c.args.frames.levels - 1) (lent) c.args.root.0 a c.args.n (to_z w32 (of_z w32 c.args.prot)) (to_z w32 (of_z w32 c.args.flags))) → UserLeaves as_virt k (chosen_region (c.args.frames.levels - 1) (lent) c.args.root.0 c.args.hint c.args.n c.args.prot c.args.flags) = λ a k h f t. subst (UserLeaves as_virt k)
    (sym (placed_room (c.args.frames.levels - 1) (lent) c.args.root.0 c.args.hint c.args.n c.args.prot c.args.flags a h f
    ∙ region_same (c.args.frames.levels - 1) (lent) c.args.root.0 a c.args.n (sym (to_z-of_z c.ranges.prot)) (sym (to_z-of_z c.ranges.flags)))) t in
    placed c.in-Ok.a _ (came ∙ c.in-Ok.is) (sym (c.is_full.ensures (lent).mem) ∙ c.if-is_full.false) c.map_region.ensures
