-- `mprotect`: 10, 1, 2, 3, then the region.
use Rattle.answer.specs.declared.Refusal.{Refusal}
use Rattle.std.specs.Prelude.{Err}
use Rattle.std.proofs.Common.{◌≡◌, true, length, ℕ, Bool, ℤ}
use Rattle.bits.specs.Bit.{both}
use Rattle.paging.specs.Calls.{lent_walk}
use Rattle.mappings.specs.Packed.{mmap_in, next_in, sound_list, mmap_fit}
use Rattle.mprotect.specs.Calls.{protect_region, ProtectDid, protect_did, mprotect as protect}
use Rattle.mprotect.specs.Packed.{protect_kept, kept_protected, mprotect_on, ProtectKept}
use mathlib.Core.Path.{sym, ◌∙◌, ap}
use mir.Facts.{to_z-of_z}
use Rattle.bits.proofs.Choice.{both_true}
use Rattle.frame.proofs.Laws.{passed, failed}
use Rattle.mappings.specs.Regions.{sound_mappings}
use Rattle.mappings.proofs.Sound.{sound_fit}
use Rattle.mprotect.proofs.Steps.{mprotect_empty, mprotect_odd, mprotect_large, mprotect_sized, leaves_alone, on_list, on_broken}
use Rattle.std.proofs.lemmas.Result.{err_from_is_err_and}
use Rattle.mprotect.proofs.mprotect.Goals as goal

pub returns-then-not-is_whole : goal.returns-then-not-is_whole
returns-then-not-is_whole c =
    on_broken c.args.levels c.args.words.now c.args.start c.args.total c.args.root.0 c.args.list.now c.args.addr.0 c.args.size c.args.prot (λ i. (c.slice_known-2-1.given i).fits)
    (failed c.is_whole.ensures c.if-not-is_whole.true)

pub returns-then-size-eq0 : goal.returns-then-size-eq0
returns-then-size-eq0 c =
    let lent : Bool = lent_walk c.args.levels (length c.args.words.now) c.args.start c.args.total c.args.root.0 in let whole : (lent ≡ true) × (sound_list c.args.list.now ≡ true) = both_true _ _ (passed c.is_whole.ensures c.if-not-is_whole.false) in let good : both (lent) (sound_mappings (mmap_in c.args.list.now) (next_in c.args.list.now)) ≡ true = rw (whole.0, (both_true (mmap_fit c.args.list.now) _ whole.1).1) in let answered : ProtectKept = mprotect_on c.args.levels c.args.words.now c.args.start c.args.total c.args.root.0 c.args.list.now c.args.addr.0 c.args.size c.args.prot in let did : ProtectDid = protect c.args.levels c.args.words.now c.args.start c.args.total c.args.root.0 (mmap_in c.args.list.now) (next_in c.args.list.now) c.args.addr.0 c.args.size c.args.prot in let met : (k : ProtectKept) → k ≡ kept_protected (did) (next_in c.args.list.now) → k ≡ answered = λ k h. on_list _ _ _ _ _ c.args.list.now _ _ _ (sound_fit c.args.list.now whole.1) h in let refused : (e : Refusal) → did ≡ protect_did (Err e) c.args.words.now (mmap_in c.args.list.now) → protect_kept (Err e) c.args.words.now c.args.list.now ≡ answered = λ e h. met _ (leaves_alone (λ i. (c.slice_known-2-1.given i).fits) (sound_fit c.args.list.now whole.1) h) in
    refused _ (mprotect_empty _ _ _ _ _ _ _ _ _ _ (good) c.if-size-eq0.true)

pub returns-then-addr-ne0 : goal.returns-then-addr-ne0
returns-then-addr-ne0 c =
    let lent : Bool = lent_walk c.args.levels (length c.args.words.now) c.args.start c.args.total c.args.root.0 in let whole : (lent ≡ true) × (sound_list c.args.list.now ≡ true) = both_true _ _ (passed c.is_whole.ensures c.if-not-is_whole.false) in let good : both (lent) (sound_mappings (mmap_in c.args.list.now) (next_in c.args.list.now)) ≡ true = rw (whole.0, (both_true (mmap_fit c.args.list.now) _ whole.1).1) in let answered : ProtectKept = mprotect_on c.args.levels c.args.words.now c.args.start c.args.total c.args.root.0 c.args.list.now c.args.addr.0 c.args.size c.args.prot in let did : ProtectDid = protect c.args.levels c.args.words.now c.args.start c.args.total c.args.root.0 (mmap_in c.args.list.now) (next_in c.args.list.now) c.args.addr.0 c.args.size c.args.prot in let met : (k : ProtectKept) → k ≡ kept_protected (did) (next_in c.args.list.now) → k ≡ answered = λ k h. on_list _ _ _ _ _ c.args.list.now _ _ _ (sound_fit c.args.list.now whole.1) h in let refused : (e : Refusal) → did ≡ protect_did (Err e) c.args.words.now (mmap_in c.args.list.now) → protect_kept (Err e) c.args.words.now c.args.list.now ≡ answered = λ e h. met _ (leaves_alone (λ i. (c.slice_known-2-1.given i).fits) (sound_fit c.args.list.now whole.1) h) in
    refused _ (mprotect_odd _ _ _ _ _ _ _ _ _ _ (good) c.if-size-eq0.false c.if-addr-ne0.true)

pub returns-in_err-n : goal.returns-in_err-n
returns-in_err-n c =
    let left = err_from_is_err_and c.from_residual.result c.from_residual.ensures.1 in
    let lent : Bool = lent_walk c.args.levels (length c.args.words.now) c.args.start c.args.total c.args.root.0 in let whole : (lent ≡ true) × (sound_list c.args.list.now ≡ true) = both_true _ _ (passed c.is_whole.ensures c.if-not-is_whole.false) in let good : both (lent) (sound_mappings (mmap_in c.args.list.now) (next_in c.args.list.now)) ≡ true = rw (whole.0, (both_true (mmap_fit c.args.list.now) _ whole.1).1) in let answered : ProtectKept = mprotect_on c.args.levels c.args.words.now c.args.start c.args.total c.args.root.0 c.args.list.now c.args.addr.0 c.args.size c.args.prot in let did : ProtectDid = protect c.args.levels c.args.words.now c.args.start c.args.total c.args.root.0 (mmap_in c.args.list.now) (next_in c.args.list.now) c.args.addr.0 c.args.size c.args.prot in let met : (k : ProtectKept) → k ≡ kept_protected (did) (next_in c.args.list.now) → k ≡ answered = λ k h. on_list _ _ _ _ _ c.args.list.now _ _ _ (sound_fit c.args.list.now whole.1) h in let refused : (e : Refusal) → did ≡ protect_did (Err e) c.args.words.now (mmap_in c.args.list.now) → protect_kept (Err e) c.args.words.now c.args.list.now ≡ answered = λ e h. met _ (leaves_alone (λ i. (c.slice_known-2-1.given i).fits) (sound_fit c.args.list.now whole.1) h) in
    rw (left.1, left.2)
    (refused _ (mprotect_large _ _ _ _ _ _ _ _ _ _ (good) c.if-size-eq0.false c.if-addr-ne0.false _ (sym c.page_align_up.ensures ∙ c.in_err-n.was)))

pub returns : goal.returns
returns c =
    let lent : Bool = lent_walk c.args.levels (length c.args.words.now) c.args.start c.args.total c.args.root.0 in let whole : (lent ≡ true) × (sound_list c.args.list.now ≡ true) = both_true _ _ (passed c.is_whole.ensures c.if-not-is_whole.false) in let good : both (lent) (sound_mappings (mmap_in c.args.list.now) (next_in c.args.list.now)) ≡ true = rw (whole.0, (both_true (mmap_fit c.args.list.now) _ whole.1).1) in let answered : ProtectKept = mprotect_on c.args.levels c.args.words.now c.args.start c.args.total c.args.root.0 c.args.list.now c.args.addr.0 c.args.size c.args.prot in let did : ProtectDid = protect c.args.levels c.args.words.now c.args.start c.args.total c.args.root.0 (mmap_in c.args.list.now) (next_in c.args.list.now) c.args.addr.0 c.args.size c.args.prot in let met : (k : ProtectKept) → k ≡ kept_protected (did) (next_in c.args.list.now) → k ≡ answered = λ k h. on_list _ _ _ _ _ c.args.list.now _ _ _ (sound_fit c.args.list.now whole.1) h in
    let a = c.args in
    let kept : ProtectDid → ProtectKept = λ d. kept_protected d (next_in a.list.now) in
    let region = protect_region a.levels a.words.now a.start a.total a.root.0 (mmap_in a.list.now) a.addr.0 c.in_ok-n.n in
    met _
    (c.protect_region.ensures
    ∙ ap (λ (z : ℤ). kept (region z)) (to_z-of_z c.ranges.prot)
    ∙ ap kept (sym (mprotect_sized _ _ _ _ _ _ _ _ _ _ (good) c.if-size-eq0.false c.if-addr-ne0.false _ (sym c.page_align_up.ensures ∙ c.in_ok-n.was))))
