-- `protected`: 7 or 8, 17, what refuses the copy, or the page copied and unmarked.
use Rattle.std.proofs.Common.{◌≡◌, true}
use Rattle.paging.specs.Map.{Memory}
use Rattle.paging.specs.Kept.{lent_memory}
use Rattle.cow.specs.Marked.{page_key}
use Rattle.cow.specs.Packed.{marked_in, marked_fit}
use Rattle.error_code.specs.ErrorCode.{is_write}
use Rattle.fault.specs.Faults.{protected_found, Faulting, faulting, FaultDid, protected}
use mathlib.Core.Path.{refl, sym, ◌∙◌}
use Rattle.bits.proofs.Choice.{both_true}
use Rattle.frame.specs.declared.Tally.{Tally}
use Rattle.frame.proofs.Laws.{passed, failed}
use Rattle.tables.proofs.Laws.{stepped}
use Rattle.slots.specs.Slots.{listed}
use Rattle.slots.specs.Sorted.{has_key}
use Rattle.fault.proofs.Faults.{says, says_same, protected_read, protected_plain, protected_stop, protected_met, no_write_none, plain_none, copy_finds}
use Rattle.fault.proofs.inner.protected.Goals as goal

pub returns-then-not-is_write-clause-marked_after : goal.returns-then-not-is_write-clause-marked_after
returns-then-not-is_write-clause-marked_after c =
    (let finds : Faulting → Tally = λ x. protected_found c.args.up x c.args.root.0 c.args.page.0 c.args.code in let fits : marked_fit c.args.marked.now ≡ true = (both_true _ _ c.requires.marked_value).0 in let mem : Memory = lent_memory c.args.words.now c.args.bitmap.now c.args.frames in let lent : Faulting = faulting (mem) (marked_in c.args.marked.now) in let path : Faulting → FaultDid = λ x. protected c.args.up x c.args.root.0 c.args.page.0 c.args.code in
    let h = failed c.is_write.ensures c.if-not-is_write.true in
    let e = protected_read c.args.up (lent) c.args.root.0 c.args.page.0 c.args.code h c.denied.ensures in
    let g = c.none.ensures ∙ sym (no_write_none c.args.up (lent) c.args.root.0 c.args.page.0 c.args.code h) in
    says_same (path) (finds) (mem) c.args.marked.now (fits) refl g e (λ k. (c.slice_known-2-1.given k).fits)).0

pub returns-then-not-is_write-clause-found_value : goal.returns-then-not-is_write-clause-found_value
returns-then-not-is_write-clause-found_value c =
    (let finds : Faulting → Tally = λ x. protected_found c.args.up x c.args.root.0 c.args.page.0 c.args.code in let fits : marked_fit c.args.marked.now ≡ true = (both_true _ _ c.requires.marked_value).0 in let mem : Memory = lent_memory c.args.words.now c.args.bitmap.now c.args.frames in let lent : Faulting = faulting (mem) (marked_in c.args.marked.now) in let path : Faulting → FaultDid = λ x. protected c.args.up x c.args.root.0 c.args.page.0 c.args.code in
    let h = failed c.is_write.ensures c.if-not-is_write.true in
    let e = protected_read c.args.up (lent) c.args.root.0 c.args.page.0 c.args.code h c.denied.ensures in
    let g = c.none.ensures ∙ sym (no_write_none c.args.up (lent) c.args.root.0 c.args.page.0 c.args.code h) in
    says_same (path) (finds) (mem) c.args.marked.now (fits) refl g e (λ k. (c.slice_known-2-1.given k).fits)).1.1

pub returns-then-not-is_listed-clause-marked_after : goal.returns-then-not-is_listed-clause-marked_after
returns-then-not-is_listed-clause-marked_after c =
    (let finds : Faulting → Tally = λ x. protected_found c.args.up x c.args.root.0 c.args.page.0 c.args.code in let fits : marked_fit c.args.marked.now ≡ true = (both_true _ _ c.requires.marked_value).0 in let mem : Memory = lent_memory c.args.words.now c.args.bitmap.now c.args.frames in let lent : Faulting = faulting (mem) (marked_in c.args.marked.now) in let path : Faulting → FaultDid = λ x. protected c.args.up x c.args.root.0 c.args.page.0 c.args.code in let writes : is_write c.args.code ≡ true = passed c.is_write.ensures c.if-not-is_write.false in
    let h = failed c.is_listed.ensures c.if-not-is_listed.true in
    let d = protected_plain c.args.up (lent) c.args.root.0 c.args.page.0 c.args.code (writes) h in
    let g = c.none-then-not-is_listed.ensures ∙ sym (plain_none c.args.up (lent) c.args.root.0 c.args.page.0 c.args.code (writes) h) in
    says_same (path) (finds) (mem) c.args.marked.now (fits) refl g d (λ k. (c.slice_known-2-1.given k).fits)).0

pub returns-then-not-is_listed-clause-found_value : goal.returns-then-not-is_listed-clause-found_value
returns-then-not-is_listed-clause-found_value c =
    (let finds : Faulting → Tally = λ x. protected_found c.args.up x c.args.root.0 c.args.page.0 c.args.code in let fits : marked_fit c.args.marked.now ≡ true = (both_true _ _ c.requires.marked_value).0 in let mem : Memory = lent_memory c.args.words.now c.args.bitmap.now c.args.frames in let lent : Faulting = faulting (mem) (marked_in c.args.marked.now) in let path : Faulting → FaultDid = λ x. protected c.args.up x c.args.root.0 c.args.page.0 c.args.code in let writes : is_write c.args.code ≡ true = passed c.is_write.ensures c.if-not-is_write.false in
    let h = failed c.is_listed.ensures c.if-not-is_listed.true in
    let d = protected_plain c.args.up (lent) c.args.root.0 c.args.page.0 c.args.code (writes) h in
    let g = c.none-then-not-is_listed.ensures ∙ sym (plain_none c.args.up (lent) c.args.root.0 c.args.page.0 c.args.code (writes) h) in
    says_same (path) (finds) (mem) c.args.marked.now (fits) refl g d (λ k. (c.slice_known-2-1.given k).fits)).1.1

pub returns-in-Err-clause-marked_after : goal.returns-in-Err-clause-marked_after
returns-in-Err-clause-marked_after c =
    (let finds : Faulting → Tally = λ x. protected_found c.args.up x c.args.root.0 c.args.page.0 c.args.code in let mem : Memory = lent_memory c.args.words.now c.args.bitmap.now c.args.frames in let lent : Faulting = faulting (mem) (marked_in c.args.marked.now) in let marked : has_key page_key c.args.page.0 (listed (marked_in c.args.marked.now)) ≡ true = passed c.is_listed.ensures c.if-not-is_listed.false in let writes : is_write c.args.code ≡ true = passed c.is_write.ensures c.if-not-is_write.false in let copied : c.copy_on_write-r.result.found ≡ finds (lent) = c.copy_on_write-r.ensures.found_value
    ∙ copy_finds c.args.up (lent) c.args.root.0 c.args.page.0 c.args.code (writes) (marked) c.is_user-user.ensures in let fits : marked_fit c.args.marked.now ≡ true = (both_true _ _ c.requires.marked_value).0 in let path : Faulting → FaultDid = λ x. protected c.args.up x c.args.root.0 c.args.page.0 c.args.code in
    let d = protected_stop c.args.up (lent) c.args.root.0 c.args.page.0 c.args.code (writes) (marked) c.is_user-user.ensures _ _
    (stepped c.copy_on_write-r.ensures.frames_after c.in-Err.is) in
    says_same (path) (finds) (mem) c.args.marked.now (fits) refl (copied) d (λ k. (c.slice_known-2-1.given k).fits)).0

pub returns-in-Err-clause-found_value : goal.returns-in-Err-clause-found_value
returns-in-Err-clause-found_value c =
    (let finds : Faulting → Tally = λ x. protected_found c.args.up x c.args.root.0 c.args.page.0 c.args.code in let mem : Memory = lent_memory c.args.words.now c.args.bitmap.now c.args.frames in let lent : Faulting = faulting (mem) (marked_in c.args.marked.now) in let marked : has_key page_key c.args.page.0 (listed (marked_in c.args.marked.now)) ≡ true = passed c.is_listed.ensures c.if-not-is_listed.false in let writes : is_write c.args.code ≡ true = passed c.is_write.ensures c.if-not-is_write.false in let copied : c.copy_on_write-r.result.found ≡ finds (lent) = c.copy_on_write-r.ensures.found_value
    ∙ copy_finds c.args.up (lent) c.args.root.0 c.args.page.0 c.args.code (writes) (marked) c.is_user-user.ensures in let fits : marked_fit c.args.marked.now ≡ true = (both_true _ _ c.requires.marked_value).0 in let path : Faulting → FaultDid = λ x. protected c.args.up x c.args.root.0 c.args.page.0 c.args.code in
    let d = protected_stop c.args.up (lent) c.args.root.0 c.args.page.0 c.args.code (writes) (marked) c.is_user-user.ensures _ _
    (stepped c.copy_on_write-r.ensures.frames_after c.in-Err.is) in
    says_same (path) (finds) (mem) c.args.marked.now (fits) refl (copied) d (λ k. (c.slice_known-2-1.given k).fits)).1.1

pub returns-in-Ok-clause-marked_after : goal.returns-in-Ok-clause-marked_after
returns-in-Ok-clause-marked_after c =
    (let finds : Faulting → Tally = λ x. protected_found c.args.up x c.args.root.0 c.args.page.0 c.args.code in let mem : Memory = lent_memory c.args.words.now c.args.bitmap.now c.args.frames in let lent : Faulting = faulting (mem) (marked_in c.args.marked.now) in let marked : has_key page_key c.args.page.0 (listed (marked_in c.args.marked.now)) ≡ true = passed c.is_listed.ensures c.if-not-is_listed.false in let writes : is_write c.args.code ≡ true = passed c.is_write.ensures c.if-not-is_write.false in let copied : c.copy_on_write-r.result.found ≡ finds (lent) = c.copy_on_write-r.ensures.found_value
    ∙ copy_finds c.args.up (lent) c.args.root.0 c.args.page.0 c.args.code (writes) (marked) c.is_user-user.ensures in let fits : marked_fit c.args.marked.now ≡ true = (both_true _ _ c.requires.marked_value).0 in let path : Faulting → FaultDid = λ x. protected c.args.up x c.args.root.0 c.args.page.0 c.args.code in
    let d = protected_met c.args.up (lent) c.args.root.0 c.args.page.0 c.args.code (writes) (marked) c.is_user-user.ensures _ _
    (stepped c.copy_on_write-r.ensures.frames_after c.in-Ok.is) in
    says (path) (finds) (mem) c.args.marked.now (fits) refl (copied) d c.unmark.new.list c.unmark.ensures.list_after_2 (λ k. (c.slice_known-in-Ok-1.given k).fits) c.unmark.ensures.list_after).0

pub returns-in-Ok-clause-found_value : goal.returns-in-Ok-clause-found_value
returns-in-Ok-clause-found_value c =
    (let finds : Faulting → Tally = λ x. protected_found c.args.up x c.args.root.0 c.args.page.0 c.args.code in let mem : Memory = lent_memory c.args.words.now c.args.bitmap.now c.args.frames in let lent : Faulting = faulting (mem) (marked_in c.args.marked.now) in let marked : has_key page_key c.args.page.0 (listed (marked_in c.args.marked.now)) ≡ true = passed c.is_listed.ensures c.if-not-is_listed.false in let writes : is_write c.args.code ≡ true = passed c.is_write.ensures c.if-not-is_write.false in let copied : c.copy_on_write-r.result.found ≡ finds (lent) = c.copy_on_write-r.ensures.found_value
    ∙ copy_finds c.args.up (lent) c.args.root.0 c.args.page.0 c.args.code (writes) (marked) c.is_user-user.ensures in let fits : marked_fit c.args.marked.now ≡ true = (both_true _ _ c.requires.marked_value).0 in let path : Faulting → FaultDid = λ x. protected c.args.up x c.args.root.0 c.args.page.0 c.args.code in
    let d = protected_met c.args.up (lent) c.args.root.0 c.args.page.0 c.args.code (writes) (marked) c.is_user-user.ensures _ _
    (stepped c.copy_on_write-r.ensures.frames_after c.in-Ok.is) in
    says (path) (finds) (mem) c.args.marked.now (fits) refl (copied) d c.unmark.new.list c.unmark.ensures.list_after_2 (λ k. (c.slice_known-in-Ok-1.given k).fits) c.unmark.ensures.list_after).1.1
