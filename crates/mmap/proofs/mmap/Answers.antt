-- `mmap`: 10, 1, 3 for the size, then the region.
use Rattle.std.specs.Prelude.{Ok, Result}
use Rattle.answer.specs.declared.Refusal.{Refusal}
use Rattle.address.specs.declared.VirtAddr.{VirtAddr}
use Rattle.std.proofs.Common.{◌≡◌, ℕ, ◌-◌, Bool, true, w32, to_z, of_z}
use Rattle.paging.specs.Kept.{Kept}
use Rattle.user_space.specs.Packed.{UserReads, lent_user, UserLeaves}
use Rattle.mmap.specs.Calls.{mmap_of, chosen_region}
use Rattle.mmap.specs.Packed.{mmap_on, mmapped}
use mathlib.Core.Path.{sym, ◌∙◌, ap, subst}
use mir.Facts.{to_z-of_z}
use Rattle.bits.specs.Bit.{both}
use Rattle.bits.proofs.Choice.{both_true}
use Rattle.allocator.specs.Round.{rounded}
use Rattle.frame.proofs.Laws.{passed, failed}
use Rattle.address.specs.Address.{as_virt}
use Rattle.mappings.specs.Packed.{mmap_fit}
use Rattle.mmap.specs.declared.Mmapped.{Mmapped}
use Rattle.user_space.specs.User.{User, UserDid, sound_user}
use Rattle.mmap.proofs.Steps.{no_mapping_left, mmap_broken, mmap_empty, mmap_large, mmap_sized, hint_same, rounded_whole}
use Rattle.user_space.proofs.Leaving.{on_list, on_broken}
use Rattle.mmap.proofs.mmap.Goals as goal

pub returns-then-not-is_whole-clause-list_after : goal.returns-then-not-is_whole-clause-list_after
returns-then-not-is_whole-clause-list_after c =
    let call : User → UserDid = λ u. mmap_of u c.args.root.0 c.args.hint c.args.size c.args.prot c.args.flags in let lent : User = lent_user c.args.words.now c.args.bitmap.now c.args.frames c.args.list.now in let r = on_broken as_virt (call) (lent).mem c.args.list.now (λ i. (c.slice_known-2-1.given i).fits) (sound_user (lent) c.args.root.0)
    (failed c.is_whole.ensures c.if-not-is_whole.true) (mmap_broken (c.args.frames.levels - 1) (lent) c.args.root.0 c.args.hint c.args.size c.args.prot c.args.flags) in ap (λ (x : Mmapped). mmapped x c.args.words.now c.args.bitmap.now c.args.list.now) c.no_mapping.ensures ∙ r.0

pub returns-then-not-is_whole-clause-user_reads : goal.returns-then-not-is_whole-clause-user_reads
returns-then-not-is_whole-clause-user_reads c =
    let call : User → UserDid = λ u. mmap_of u c.args.root.0 c.args.hint c.args.size c.args.prot c.args.flags in let lent : User = lent_user c.args.words.now c.args.bitmap.now c.args.frames c.args.list.now in let r = on_broken as_virt (call) (lent).mem c.args.list.now (λ i. (c.slice_known-2-1.given i).fits) (sound_user (lent) c.args.root.0)
    (failed c.is_whole.ensures c.if-not-is_whole.true) (mmap_broken (c.args.frames.levels - 1) (lent) c.args.root.0 c.args.hint c.args.size c.args.prot c.args.flags) in r.1

pub returns-then-size-eq0-clause-list_after : goal.returns-then-size-eq0-clause-list_after
returns-then-size-eq0-clause-list_after c =
    (let call : User → UserDid = λ u. mmap_of u c.args.root.0 c.args.hint c.args.size c.args.prot c.args.flags in let lent : User = lent_user c.args.words.now c.args.bitmap.now c.args.frames c.args.list.now in let Good : Type 0 = (mmap_fit c.args.list.now ≡ true) × (sound_user (lent) c.args.root.0 ≡ true) in let tested : (r : Bool) → r ≡ both (mmap_fit c.args.list.now) (sound_user (lent) c.args.root.0) → r ≡ true → Good = λ r e h. both_true (mmap_fit c.args.list.now) (sound_user (lent) c.args.root.0) (passed e h) in let good : Good = tested _ c.is_whole.ensures c.if-not-is_whole.false in
    on_list as_virt (call) (lent).mem c.args.list.now (good).0
    (no_mapping_left _ (λ i. (c.slice_known-2-1.given i).fits) (good).0
    (mmap_empty (c.args.frames.levels - 1) (lent) c.args.root.0 c.args.hint c.args.size c.args.prot c.args.flags (good).1 c.if-size-eq0.true) c.no_mapping-then-size-eq0.ensures)).0

pub returns-then-size-eq0-clause-user_reads : goal.returns-then-size-eq0-clause-user_reads
returns-then-size-eq0-clause-user_reads c =
    (let call : User → UserDid = λ u. mmap_of u c.args.root.0 c.args.hint c.args.size c.args.prot c.args.flags in let lent : User = lent_user c.args.words.now c.args.bitmap.now c.args.frames c.args.list.now in let Good : Type 0 = (mmap_fit c.args.list.now ≡ true) × (sound_user (lent) c.args.root.0 ≡ true) in let tested : (r : Bool) → r ≡ both (mmap_fit c.args.list.now) (sound_user (lent) c.args.root.0) → r ≡ true → Good = λ r e h. both_true (mmap_fit c.args.list.now) (sound_user (lent) c.args.root.0) (passed e h) in let good : Good = tested _ c.is_whole.ensures c.if-not-is_whole.false in
    on_list as_virt (call) (lent).mem c.args.list.now (good).0
    (no_mapping_left _ (λ i. (c.slice_known-2-1.given i).fits) (good).0
    (mmap_empty (c.args.frames.levels - 1) (lent) c.args.root.0 c.args.hint c.args.size c.args.prot c.args.flags (good).1 c.if-size-eq0.true) c.no_mapping-then-size-eq0.ensures)).1

pub map_chosen-requires-clause-n_value : goal.map_chosen-requires-clause-n_value
map_chosen-requires-clause-n_value c =
    let lent : User = lent_user c.args.words.now c.args.bitmap.now c.args.frames c.args.list.now in let Good : Type 0 = (mmap_fit c.args.list.now ≡ true) × (sound_user (lent) c.args.root.0 ≡ true) in let tested : (r : Bool) → r ≡ both (mmap_fit c.args.list.now) (sound_user (lent) c.args.root.0) → r ≡ true → Good = λ r e h. both_true (mmap_fit c.args.list.now) (sound_user (lent) c.args.root.0) (passed e h) in let good : Good = tested _ c.is_whole.ensures c.if-not-is_whole.false in let g = good in (rounded_whole _ _ (sym c.page_align_up.ensures ∙ c.in-Ok.is)).0

pub map_chosen-requires-clause-n_le_last_page : goal.map_chosen-requires-clause-n_le_last_page
map_chosen-requires-clause-n_le_last_page c =
    let lent : User = lent_user c.args.words.now c.args.bitmap.now c.args.frames c.args.list.now in let Good : Type 0 = (mmap_fit c.args.list.now ≡ true) × (sound_user (lent) c.args.root.0 ≡ true) in let tested : (r : Bool) → r ≡ both (mmap_fit c.args.list.now) (sound_user (lent) c.args.root.0) → r ≡ true → Good = λ r e h. both_true (mmap_fit c.args.list.now) (sound_user (lent) c.args.root.0) (passed e h) in let good : Good = tested _ c.is_whole.ensures c.if-not-is_whole.false in let g = good in (rounded_whole _ _ (sym c.page_align_up.ensures ∙ c.in-Ok.is)).1

pub returns-in-Err-clause-list_after : goal.returns-in-Err-clause-list_after
returns-in-Err-clause-list_after c =
    (let call : User → UserDid = λ u. mmap_of u c.args.root.0 c.args.hint c.args.size c.args.prot c.args.flags in let lent : User = lent_user c.args.words.now c.args.bitmap.now c.args.frames c.args.list.now in let Good : Type 0 = (mmap_fit c.args.list.now ≡ true) × (sound_user (lent) c.args.root.0 ≡ true) in let tested : (r : Bool) → r ≡ both (mmap_fit c.args.list.now) (sound_user (lent) c.args.root.0) → r ≡ true → Good = λ r e h. both_true (mmap_fit c.args.list.now) (sound_user (lent) c.args.root.0) (passed e h) in let good : Good = tested _ c.is_whole.ensures c.if-not-is_whole.false in
    let g = good in
    on_list as_virt (call) (lent).mem c.args.list.now g.0
    (no_mapping_left _ (λ i. (c.slice_known-2-1.given i).fits) g.0
    (mmap_large (c.args.frames.levels - 1) (lent) c.args.root.0 c.args.hint c.args.size c.args.prot c.args.flags g.1 c.if-size-eq0.false _ (sym c.page_align_up.ensures ∙ c.in-Err.is))
    c.no_mapping-in-Err.ensures)).0

pub returns-in-Err-clause-user_reads : goal.returns-in-Err-clause-user_reads
returns-in-Err-clause-user_reads c =
    (let call : User → UserDid = λ u. mmap_of u c.args.root.0 c.args.hint c.args.size c.args.prot c.args.flags in let lent : User = lent_user c.args.words.now c.args.bitmap.now c.args.frames c.args.list.now in let Good : Type 0 = (mmap_fit c.args.list.now ≡ true) × (sound_user (lent) c.args.root.0 ≡ true) in let tested : (r : Bool) → r ≡ both (mmap_fit c.args.list.now) (sound_user (lent) c.args.root.0) → r ≡ true → Good = λ r e h. both_true (mmap_fit c.args.list.now) (sound_user (lent) c.args.root.0) (passed e h) in let good : Good = tested _ c.is_whole.ensures c.if-not-is_whole.false in
    let g = good in
    on_list as_virt (call) (lent).mem c.args.list.now g.0
    (no_mapping_left _ (λ i. (c.slice_known-2-1.given i).fits) g.0
    (mmap_large (c.args.frames.levels - 1) (lent) c.args.root.0 c.args.hint c.args.size c.args.prot c.args.flags g.1 c.if-size-eq0.false _ (sym c.page_align_up.ensures ∙ c.in-Err.is))
    c.no_mapping-in-Err.ensures)).1

pub returns-in-Ok-clause-list_after : goal.returns-in-Ok-clause-list_after
returns-in-Ok-clause-list_after c =
    (let lent : User = lent_user c.args.words.now c.args.bitmap.now c.args.frames c.args.list.now in let Good : Type 0 = (mmap_fit c.args.list.now ≡ true) × (sound_user (lent) c.args.root.0 ≡ true) in let tested : (r : Bool) → r ≡ both (mmap_fit c.args.list.now) (sound_user (lent) c.args.root.0) → r ≡ true → Good = λ r e h. both_true (mmap_fit c.args.list.now) (sound_user (lent) c.args.root.0) (passed e h) in let good : Good = tested _ c.is_whole.ensures c.if-not-is_whole.false in let call : User → UserDid = λ u. mmap_of u c.args.root.0 c.args.hint c.args.size c.args.prot c.args.flags in let sized : (n : ℕ) (k : Kept (Result VirtAddr Refusal)) → Good → (c.args.size ≡ 0 → ⊥) → rounded c.args.size ≡ Ok n → UserLeaves as_virt k (chosen_region (c.args.frames.levels - 1) (lent) c.args.root.0 c.args.hint n (to_z w32 (of_z w32 c.args.prot)) (to_z w32 (of_z w32 c.args.flags))) → (k ≡ mmap_on (lent).mem c.args.list.now c.args.root.0 c.args.hint c.args.size c.args.prot c.args.flags) × UserReads (call) (lent).mem c.args.list.now k.list = λ n k g z e t. on_list as_virt (call) (lent).mem c.args.list.now g.0
    (subst (UserLeaves as_virt k)
    (sym (mmap_sized (c.args.frames.levels - 1) (lent) c.args.root.0 c.args.hint c.args.size c.args.prot c.args.flags g.1 z n e
    ∙ hint_same (c.args.frames.levels - 1) (lent) c.args.root.0 c.args.hint n (sym (to_z-of_z c.ranges.prot)) (sym (to_z-of_z c.ranges.flags)))) t) in
    sized c.in-Ok.n _ (good) c.if-size-eq0.false (sym c.page_align_up.ensures ∙ c.in-Ok.is)
    c.map_chosen.ensures).0

pub returns-in-Ok-clause-user_reads : goal.returns-in-Ok-clause-user_reads
returns-in-Ok-clause-user_reads c =
    (let lent : User = lent_user c.args.words.now c.args.bitmap.now c.args.frames c.args.list.now in let Good : Type 0 = (mmap_fit c.args.list.now ≡ true) × (sound_user (lent) c.args.root.0 ≡ true) in let tested : (r : Bool) → r ≡ both (mmap_fit c.args.list.now) (sound_user (lent) c.args.root.0) → r ≡ true → Good = λ r e h. both_true (mmap_fit c.args.list.now) (sound_user (lent) c.args.root.0) (passed e h) in let good : Good = tested _ c.is_whole.ensures c.if-not-is_whole.false in let call : User → UserDid = λ u. mmap_of u c.args.root.0 c.args.hint c.args.size c.args.prot c.args.flags in let sized : (n : ℕ) (k : Kept (Result VirtAddr Refusal)) → Good → (c.args.size ≡ 0 → ⊥) → rounded c.args.size ≡ Ok n → UserLeaves as_virt k (chosen_region (c.args.frames.levels - 1) (lent) c.args.root.0 c.args.hint n (to_z w32 (of_z w32 c.args.prot)) (to_z w32 (of_z w32 c.args.flags))) → (k ≡ mmap_on (lent).mem c.args.list.now c.args.root.0 c.args.hint c.args.size c.args.prot c.args.flags) × UserReads (call) (lent).mem c.args.list.now k.list = λ n k g z e t. on_list as_virt (call) (lent).mem c.args.list.now g.0
    (subst (UserLeaves as_virt k)
    (sym (mmap_sized (c.args.frames.levels - 1) (lent) c.args.root.0 c.args.hint c.args.size c.args.prot c.args.flags g.1 z n e
    ∙ hint_same (c.args.frames.levels - 1) (lent) c.args.root.0 c.args.hint n (sym (to_z-of_z c.ranges.prot)) (sym (to_z-of_z c.ranges.flags)))) t) in
    sized c.in-Ok.n _ (good) c.if-size-eq0.false (sym c.page_align_up.ensures ∙ c.in-Ok.is)
    c.map_chosen.ensures).1
