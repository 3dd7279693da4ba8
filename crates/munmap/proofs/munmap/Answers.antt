-- `munmap`: 10, 1, 2, 3, then the region.
use Rattle.std.specs.Prelude.{Ok, Result, ⊤}
use Rattle.answer.specs.declared.Refusal.{Refusal}
use Rattle.std.proofs.Common.{◌≡◌, true, ◌-◌, ℕ, ◌%◌, Bool}
use Rattle.answer.specs.Outcomes.{as_answer}
use Rattle.paging.specs.Kept.{Kept}
use Rattle.mappings.specs.Packed.{mmap_fit}
use Rattle.user_space.specs.User.{sound_user, User, UserDid}
use Rattle.user_space.specs.Packed.{lent_user, UserLeaves, UserReads}
use Rattle.munmap.specs.Calls.{unmap_region, region_found, munmap_of}
use Rattle.munmap.specs.Packed.{munmapped, munmap_on, munmap_found_on}
use mathlib.Core.Path.{sym, ◌∙◌, ap, subst}
use Rattle.bits.specs.Bit.{both}
use Rattle.bits.proofs.Choice.{both_true}
use Rattle.allocator.specs.Round.{rounded}
use Rattle.frame.specs.declared.Tally.{Tally}
use Rattle.frame.proofs.Laws.{passed, failed}
use Rattle.user_space.proofs.Leaving.{on_list, on_broken}
use Rattle.munmap.specs.declared.Munmapped.{Munmapped}
use Rattle.munmap.proofs.Steps.{not_unmapped_left, not_unmapped_found, munmap_broken, munmap_empty, munmap_odd, munmap_large, munmap_sized, tally_broken, tally_empty, tally_odd, tally_large, tally_sized}
use Rattle.munmap.proofs.munmap.Goals as goal

pub returns-then-not-is_whole-clause-list_after : goal.returns-then-not-is_whole-clause-list_after
returns-then-not-is_whole-clause-list_after c =
    let call : User → UserDid = λ u. munmap_of u c.args.root.0 c.args.addr.0 c.args.size in let lent : User = lent_user c.args.words.now c.args.bitmap.now c.args.frames c.args.list.now in let b = failed c.is_whole.ensures c.if-not-is_whole.true in let r = on_broken as_answer (call) (lent).mem c.args.list.now (λ i. (c.slice_known-2-1.given i).fits) (sound_user (lent) c.args.root.0) b
    (munmap_broken (c.args.frames.levels - 1) (lent) c.args.root.0 c.args.addr.0 c.args.size) in ap (λ (x : Munmapped). munmapped x c.args.words.now c.args.bitmap.now c.args.list.now) c.not_unmapped.ensures ∙ r.0

pub returns-then-not-is_whole-clause-user_reads : goal.returns-then-not-is_whole-clause-user_reads
returns-then-not-is_whole-clause-user_reads c =
    let call : User → UserDid = λ u. munmap_of u c.args.root.0 c.args.addr.0 c.args.size in let lent : User = lent_user c.args.words.now c.args.bitmap.now c.args.frames c.args.list.now in let b = failed c.is_whole.ensures c.if-not-is_whole.true in let r = on_broken as_answer (call) (lent).mem c.args.list.now (λ i. (c.slice_known-2-1.given i).fits) (sound_user (lent) c.args.root.0) b
    (munmap_broken (c.args.frames.levels - 1) (lent) c.args.root.0 c.args.addr.0 c.args.size) in r.1

pub returns-then-not-is_whole-clause-found_value : goal.returns-then-not-is_whole-clause-found_value
returns-then-not-is_whole-clause-found_value c =
    let call : User → UserDid = λ u. munmap_of u c.args.root.0 c.args.addr.0 c.args.size in let lent : User = lent_user c.args.words.now c.args.bitmap.now c.args.frames c.args.list.now in let b = failed c.is_whole.ensures c.if-not-is_whole.true in let r = on_broken as_answer (call) (lent).mem c.args.list.now (λ i. (c.slice_known-2-1.given i).fits) (sound_user (lent) c.args.root.0) b
    (munmap_broken (c.args.frames.levels - 1) (lent) c.args.root.0 c.args.addr.0 c.args.size) in not_unmapped_found c.not_unmapped.ensures (tally_broken (lent).mem c.args.list.now c.args.root.0 c.args.addr.0 c.args.size b)

pub returns-then-size-eq0-clause-list_after : goal.returns-then-size-eq0-clause-list_after
returns-then-size-eq0-clause-list_after c =
    let call : User → UserDid = λ u. munmap_of u c.args.root.0 c.args.addr.0 c.args.size in let lent : User = lent_user c.args.words.now c.args.bitmap.now c.args.frames c.args.list.now in let Good : Type 0 = (mmap_fit c.args.list.now ≡ true) × (sound_user (lent) c.args.root.0 ≡ true) in let tested : (r : Bool) → r ≡ both (mmap_fit c.args.list.now) (sound_user (lent) c.args.root.0) → r ≡ true → Good = λ r e h. both_true (mmap_fit c.args.list.now) (sound_user (lent) c.args.root.0) (passed e h) in let good : Good = tested _ c.is_whole.ensures c.if-not-is_whole.false in let g = good in let r = on_list as_answer (call) (lent).mem c.args.list.now g.0
    (not_unmapped_left _ (λ i. (c.slice_known-2-1.given i).fits) g.0 (munmap_empty (c.args.frames.levels - 1) (lent) c.args.root.0 c.args.addr.0 c.args.size g.1 c.if-size-eq0.true) c.not_unmapped-then-size-eq0.ensures) in r.0

pub returns-then-size-eq0-clause-user_reads : goal.returns-then-size-eq0-clause-user_reads
returns-then-size-eq0-clause-user_reads c =
    let call : User → UserDid = λ u. munmap_of u c.args.root.0 c.args.addr.0 c.args.size in let lent : User = lent_user c.args.words.now c.args.bitmap.now c.args.frames c.args.list.now in let Good : Type 0 = (mmap_fit c.args.list.now ≡ true) × (sound_user (lent) c.args.root.0 ≡ true) in let tested : (r : Bool) → r ≡ both (mmap_fit c.args.list.now) (sound_user (lent) c.args.root.0) → r ≡ true → Good = λ r e h. both_true (mmap_fit c.args.list.now) (sound_user (lent) c.args.root.0) (passed e h) in let good : Good = tested _ c.is_whole.ensures c.if-not-is_whole.false in let g = good in let r = on_list as_answer (call) (lent).mem c.args.list.now g.0
    (not_unmapped_left _ (λ i. (c.slice_known-2-1.given i).fits) g.0 (munmap_empty (c.args.frames.levels - 1) (lent) c.args.root.0 c.args.addr.0 c.args.size g.1 c.if-size-eq0.true) c.not_unmapped-then-size-eq0.ensures) in r.1

pub returns-then-size-eq0-clause-found_value : goal.returns-then-size-eq0-clause-found_value
returns-then-size-eq0-clause-found_value c =
    let call : User → UserDid = λ u. munmap_of u c.args.root.0 c.args.addr.0 c.args.size in let lent : User = lent_user c.args.words.now c.args.bitmap.now c.args.frames c.args.list.now in let Good : Type 0 = (mmap_fit c.args.list.now ≡ true) × (sound_user (lent) c.args.root.0 ≡ true) in let tested : (r : Bool) → r ≡ both (mmap_fit c.args.list.now) (sound_user (lent) c.args.root.0) → r ≡ true → Good = λ r e h. both_true (mmap_fit c.args.list.now) (sound_user (lent) c.args.root.0) (passed e h) in let good : Good = tested _ c.is_whole.ensures c.if-not-is_whole.false in let g = good in let r = on_list as_answer (call) (lent).mem c.args.list.now g.0
    (not_unmapped_left _ (λ i. (c.slice_known-2-1.given i).fits) g.0 (munmap_empty (c.args.frames.levels - 1) (lent) c.args.root.0 c.args.addr.0 c.args.size g.1 c.if-size-eq0.true) c.not_unmapped-then-size-eq0.ensures) in not_unmapped_found c.not_unmapped-then-size-eq0.ensures (tally_empty (lent).mem c.args.list.now c.args.root.0 c.args.addr.0 c.args.size g.0 g.1 c.if-size-eq0.true)

pub returns-then-addr-ne0-clause-list_after : goal.returns-then-addr-ne0-clause-list_after
returns-then-addr-ne0-clause-list_after c =
    let call : User → UserDid = λ u. munmap_of u c.args.root.0 c.args.addr.0 c.args.size in let lent : User = lent_user c.args.words.now c.args.bitmap.now c.args.frames c.args.list.now in let Good : Type 0 = (mmap_fit c.args.list.now ≡ true) × (sound_user (lent) c.args.root.0 ≡ true) in let tested : (r : Bool) → r ≡ both (mmap_fit c.args.list.now) (sound_user (lent) c.args.root.0) → r ≡ true → Good = λ r e h. both_true (mmap_fit c.args.list.now) (sound_user (lent) c.args.root.0) (passed e h) in let good : Good = tested _ c.is_whole.ensures c.if-not-is_whole.false in let g = good in let r = on_list as_answer (call) (lent).mem c.args.list.now g.0
    (not_unmapped_left _ (λ i. (c.slice_known-2-1.given i).fits) g.0
    (munmap_odd (c.args.frames.levels - 1) (lent) c.args.root.0 c.args.addr.0 c.args.size g.1 c.if-size-eq0.false c.if-addr-ne0.true) c.not_unmapped-then-addr-ne0.ensures) in r.0

pub returns-then-addr-ne0-clause-user_reads : goal.returns-then-addr-ne0-clause-user_reads
returns-then-addr-ne0-clause-user_reads c =
    let call : User → UserDid = λ u. munmap_of u c.args.root.0 c.args.addr.0 c.args.size in let lent : User = lent_user c.args.words.now c.args.bitmap.now c.args.frames c.args.list.now in let Good : Type 0 = (mmap_fit c.args.list.now ≡ true) × (sound_user (lent) c.args.root.0 ≡ true) in let tested : (r : Bool) → r ≡ both (mmap_fit c.args.list.now) (sound_user (lent) c.args.root.0) → r ≡ true → Good = λ r e h. both_true (mmap_fit c.args.list.now) (sound_user (lent) c.args.root.0) (passed e h) in let good : Good = tested _ c.is_whole.ensures c.if-not-is_whole.false in let g = good in let r = on_list as_answer (call) (lent).mem c.args.list.now g.0
    (not_unmapped_left _ (λ i. (c.slice_known-2-1.given i).fits) g.0
    (munmap_odd (c.args.frames.levels - 1) (lent) c.args.root.0 c.args.addr.0 c.args.size g.1 c.if-size-eq0.false c.if-addr-ne0.true) c.not_unmapped-then-addr-ne0.ensures) in r.1

pub returns-then-addr-ne0-clause-found_value : goal.returns-then-addr-ne0-clause-found_value
returns-then-addr-ne0-clause-found_value c =
    let call : User → UserDid = λ u. munmap_of u c.args.root.0 c.args.addr.0 c.args.size in let lent : User = lent_user c.args.words.now c.args.bitmap.now c.args.frames c.args.list.now in let Good : Type 0 = (mmap_fit c.args.list.now ≡ true) × (sound_user (lent) c.args.root.0 ≡ true) in let tested : (r : Bool) → r ≡ both (mmap_fit c.args.list.now) (sound_user (lent) c.args.root.0) → r ≡ true → Good = λ r e h. both_true (mmap_fit c.args.list.now) (sound_user (lent) c.args.root.0) (passed e h) in let good : Good = tested _ c.is_whole.ensures c.if-not-is_whole.false in let g = good in let r = on_list as_answer (call) (lent).mem c.args.list.now g.0
    (not_unmapped_left _ (λ i. (c.slice_known-2-1.given i).fits) g.0
    (munmap_odd (c.args.frames.levels - 1) (lent) c.args.root.0 c.args.addr.0 c.args.size g.1 c.if-size-eq0.false c.if-addr-ne0.true) c.not_unmapped-then-addr-ne0.ensures) in not_unmapped_found c.not_unmapped-then-addr-ne0.ensures (tally_odd (lent).mem c.args.list.now c.args.root.0 c.args.addr.0 c.args.size g.0 g.1 c.if-size-eq0.false c.if-addr-ne0.true)

pub returns-in-Err-clause-list_after : goal.returns-in-Err-clause-list_after
returns-in-Err-clause-list_after c =
    let call : User → UserDid = λ u. munmap_of u c.args.root.0 c.args.addr.0 c.args.size in let lent : User = lent_user c.args.words.now c.args.bitmap.now c.args.frames c.args.list.now in let Good : Type 0 = (mmap_fit c.args.list.now ≡ true) × (sound_user (lent) c.args.root.0 ≡ true) in let tested : (r : Bool) → r ≡ both (mmap_fit c.args.list.now) (sound_user (lent) c.args.root.0) → r ≡ true → Good = λ r e h. both_true (mmap_fit c.args.list.now) (sound_user (lent) c.args.root.0) (passed e h) in let good : Good = tested _ c.is_whole.ensures c.if-not-is_whole.false in let g = good in let n = sym c.page_align_up.ensures ∙ c.in-Err.is in let o = on_list as_answer (call) (lent).mem c.args.list.now g.0
    (not_unmapped_left _ (λ i. (c.slice_known-2-1.given i).fits) g.0
    (munmap_large (c.args.frames.levels - 1) (lent) c.args.root.0 c.args.addr.0 c.args.size g.1 c.if-size-eq0.false c.if-addr-ne0.false _ n) c.not_unmapped-in-Err.ensures) in o.0

pub returns-in-Err-clause-user_reads : goal.returns-in-Err-clause-user_reads
returns-in-Err-clause-user_reads c =
    let call : User → UserDid = λ u. munmap_of u c.args.root.0 c.args.addr.0 c.args.size in let lent : User = lent_user c.args.words.now c.args.bitmap.now c.args.frames c.args.list.now in let Good : Type 0 = (mmap_fit c.args.list.now ≡ true) × (sound_user (lent) c.args.root.0 ≡ true) in let tested : (r : Bool) → r ≡ both (mmap_fit c.args.list.now) (sound_user (lent) c.args.root.0) → r ≡ true → Good = λ r e h. both_true (mmap_fit c.args.list.now) (sound_user (lent) c.args.root.0) (passed e h) in let good : Good = tested _ c.is_whole.ensures c.if-not-is_whole.false in let g = good in let n = sym c.page_align_up.ensures ∙ c.in-Err.is in let o = on_list as_answer (call) (lent).mem c.args.list.now g.0
    (not_unmapped_left _ (λ i. (c.slice_known-2-1.given i).fits) g.0
    (munmap_large (c.args.frames.levels - 1) (lent) c.args.root.0 c.args.addr.0 c.args.size g.1 c.if-size-eq0.false c.if-addr-ne0.false _ n) c.not_unmapped-in-Err.ensures) in o.1

pub returns-in-Err-clause-found_value : goal.returns-in-Err-clause-found_value
returns-in-Err-clause-found_value c =
    let call : User → UserDid = λ u. munmap_of u c.args.root.0 c.args.addr.0 c.args.size in let lent : User = lent_user c.args.words.now c.args.bitmap.now c.args.frames c.args.list.now in let Good : Type 0 = (mmap_fit c.args.list.now ≡ true) × (sound_user (lent) c.args.root.0 ≡ true) in let tested : (r : Bool) → r ≡ both (mmap_fit c.args.list.now) (sound_user (lent) c.args.root.0) → r ≡ true → Good = λ r e h. both_true (mmap_fit c.args.list.now) (sound_user (lent) c.args.root.0) (passed e h) in let good : Good = tested _ c.is_whole.ensures c.if-not-is_whole.false in let g = good in let n = sym c.page_align_up.ensures ∙ c.in-Err.is in let o = on_list as_answer (call) (lent).mem c.args.list.now g.0
    (not_unmapped_left _ (λ i. (c.slice_known-2-1.given i).fits) g.0
    (munmap_large (c.args.frames.levels - 1) (lent) c.args.root.0 c.args.addr.0 c.args.size g.1 c.if-size-eq0.false c.if-addr-ne0.false _ n) c.not_unmapped-in-Err.ensures) in not_unmapped_found c.not_unmapped-in-Err.ensures
    (tally_large (lent).mem c.args.list.now c.args.root.0 c.args.addr.0 c.args.size g.0 g.1 c.if-size-eq0.false c.if-addr-ne0.false _ n)

pub returns-in-Ok-clause-list_after : goal.returns-in-Ok-clause-list_after
returns-in-Ok-clause-list_after c =
    (let lent : User = lent_user c.args.words.now c.args.bitmap.now c.args.frames c.args.list.now in let Good : Type 0 = (mmap_fit c.args.list.now ≡ true) × (sound_user (lent) c.args.root.0 ≡ true) in let tested : (r : Bool) → r ≡ both (mmap_fit c.args.list.now) (sound_user (lent) c.args.root.0) → r ≡ true → Good = λ r e h. both_true (mmap_fit c.args.list.now) (sound_user (lent) c.args.root.0) (passed e h) in let good : Good = tested _ c.is_whole.ensures c.if-not-is_whole.false in let call : User → UserDid = λ u. munmap_of u c.args.root.0 c.args.addr.0 c.args.size in let sized : (n : ℕ) (k : Kept (Result ⊤ Refusal)) (f : Tally) → Good → (c.args.size ≡ 0 → ⊥) → c.args.addr.0 % 4096 ≡ 0 → rounded c.args.size ≡ Ok n → UserLeaves as_answer k (unmap_region (c.args.frames.levels - 1) (lent) c.args.root.0 c.args.addr.0 n) → f ≡ region_found (c.args.frames.levels - 1) (lent) c.args.root.0 c.args.addr.0 n → (k ≡ munmap_on (lent).mem c.args.list.now c.args.root.0 c.args.addr.0 c.args.size) × (UserReads (call) (lent).mem c.args.list.now k.list × (f ≡ munmap_found_on (lent).mem c.args.list.now c.args.root.0 c.args.addr.0 c.args.size)) = λ n k f₀ g z o e t f. let r = on_list as_answer (call) (lent).mem c.args.list.now g.0
    (subst (UserLeaves as_answer k) (sym (munmap_sized (c.args.frames.levels - 1) (lent) c.args.root.0 c.args.addr.0 c.args.size g.1 z o n e)) t) in
    (r.0, (r.1, f ∙ sym (tally_sized (lent).mem c.args.list.now c.args.root.0 c.args.addr.0 c.args.size g.0 g.1 z o n e))) in
    sized c.in-Ok.n _ _ (good) c.if-size-eq0.false c.if-addr-ne0.false
    (sym c.page_align_up.ensures ∙ c.in-Ok.is) c.unmap_region.ensures.user_leaves c.unmap_region.ensures.found_value).0

pub returns-in-Ok-clause-user_reads : goal.returns-in-Ok-clause-user_reads
returns-in-Ok-clause-user_reads c =
    (let lent : User = lent_user c.args.words.now c.args.bitmap.now c.args.frames c.args.list.now in let Good : Type 0 = (mmap_fit c.args.list.now ≡ true) × (sound_user (lent) c.args.root.0 ≡ true) in let tested : (r : Bool) → r ≡ both (mmap_fit c.args.list.now) (sound_user (lent) c.args.root.0) → r ≡ true → Good = λ r e h. both_true (mmap_fit c.args.list.now) (sound_user (lent) c.args.root.0) (passed e h) in let good : Good = tested _ c.is_whole.ensures c.if-not-is_whole.false in let call : User → UserDid = λ u. munmap_of u c.args.root.0 c.args.addr.0 c.args.size in let sized : (n : ℕ) (k : Kept (Result ⊤ Refusal)) (f : Tally) → Good → (c.args.size ≡ 0 → ⊥) → c.args.addr.0 % 4096 ≡ 0 → rounded c.args.size ≡ Ok n → UserLeaves as_answer k (unmap_region (c.args.frames.levels - 1) (lent) c.args.root.0 c.args.addr.0 n) → f ≡ region_found (c.args.frames.levels - 1) (lent) c.args.root.0 c.args.addr.0 n → (k ≡ munmap_on (lent).mem c.args.list.now c.args.root.0 c.args.addr.0 c.args.size) × (UserReads (call) (lent).mem c.args.list.now k.list × (f ≡ munmap_found_on (lent).mem c.args.list.now c.args.root.0 c.args.addr.0 c.args.size)) = λ n k f₀ g z o e t f. let r = on_list as_answer (call) (lent).mem c.args.list.now g.0
    (subst (UserLeaves as_answer k) (sym (munmap_sized (c.args.frames.levels - 1) (lent) c.args.root.0 c.args.addr.0 c.args.size g.1 z o n e)) t) in
    (r.0, (r.1, f ∙ sym (tally_sized (lent).mem c.args.list.now c.args.root.0 c.args.addr.0 c.args.size g.0 g.1 z o n e))) in
    sized c.in-Ok.n _ _ (good) c.if-size-eq0.false c.if-addr-ne0.false
    (sym c.page_align_up.ensures ∙ c.in-Ok.is) c.unmap_region.ensures.user_leaves c.unmap_region.ensures.found_value).1.0

pub returns-in-Ok-clause-found_value : goal.returns-in-Ok-clause-found_value
returns-in-Ok-clause-found_value c =
    (let lent : User = lent_user c.args.words.now c.args.bitmap.now c.args.frames c.args.list.now in let Good : Type 0 = (mmap_fit c.args.list.now ≡ true) × (sound_user (lent) c.args.root.0 ≡ true) in let tested : (r : Bool) → r ≡ both (mmap_fit c.args.list.now) (sound_user (lent) c.args.root.0) → r ≡ true → Good = λ r e h. both_true (mmap_fit c.args.list.now) (sound_user (lent) c.args.root.0) (passed e h) in let good : Good = tested _ c.is_whole.ensures c.if-not-is_whole.false in let call : User → UserDid = λ u. munmap_of u c.args.root.0 c.args.addr.0 c.args.size in let sized : (n : ℕ) (k : Kept (Result ⊤ Refusal)) (f : Tally) → Good → (c.args.size ≡ 0 → ⊥) → c.args.addr.0 % 4096 ≡ 0 → rounded c.args.size ≡ Ok n → UserLeaves as_answer k (unmap_region (c.args.frames.levels - 1) (lent) c.args.root.0 c.args.addr.0 n) → f ≡ region_found (c.args.frames.levels - 1) (lent) c.args.root.0 c.args.addr.0 n → (k ≡ munmap_on (lent).mem c.args.list.now c.args.root.0 c.args.addr.0 c.args.size) × (UserReads (call) (lent).mem c.args.list.now k.list × (f ≡ munmap_found_on (lent).mem c.args.list.now c.args.root.0 c.args.addr.0 c.args.size)) = λ n k f₀ g z o e t f. let r = on_list as_answer (call) (lent).mem c.args.list.now g.0
    (subst (UserLeaves as_answer k) (sym (munmap_sized (c.args.frames.levels - 1) (lent) c.args.root.0 c.args.addr.0 c.args.size g.1 z o n e)) t) in
    (r.0, (r.1, f ∙ sym (tally_sized (lent).mem c.args.list.now c.args.root.0 c.args.addr.0 c.args.size g.0 g.1 z o n e))) in
    sized c.in-Ok.n _ _ (good) c.if-size-eq0.false c.if-addr-ne0.false
    (sym c.page_align_up.ensures ∙ c.in-Ok.is) c.unmap_region.ensures.user_leaves c.unmap_region.ensures.found_value).1.1
