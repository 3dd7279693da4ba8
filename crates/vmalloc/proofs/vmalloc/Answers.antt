-- `vmalloc`: 10, 1, 3, or the first free region large enough.
use Rattle.std.specs.Prelude.{Result, ℕ}
use Rattle.answer.specs.declared.Refusal.{Refusal}
use Rattle.answer.specs.declared.Refusal.TheVariants.{SizeZero}
use Rattle.std.proofs.Common.{◌≡◌, ◌-◌, true}
use Rattle.paging.specs.Kept.{lent_memory}
use Rattle.vmalloc.specs.Calls.{vmalloc_of, Kernel, kernel, KernelDid, kernel_sized}
use Rattle.vmalloc.specs.Packed.{sound_lent}
use mathlib.Core.Path.{sym, ◌∙◌, ap}
use Rattle.allocator.specs.Round.{rounded}
use Rattle.frame.proofs.Laws.{passed, failed}
use Rattle.paging.specs.Map.{Memory}
use Rattle.address.specs.Address.{as_virt}
use Rattle.vm_list.specs.Packed.{vm_in}
use Rattle.vmalloc.proofs.Calls.{vmalloc_broken, vmalloc_empty, vmalloc_sized}
use Rattle.vmalloc.proofs.Told.{told_on, told_refused, told_broken}
use Rattle.vmalloc.proofs.Found.{lent_fit, lent_kernel}
use Rattle.vmalloc.proofs.vmalloc.Goals as goal

pub returns-then-not-is_whole-clause-list_after : goal.returns-then-not-is_whole-clause-list_after
returns-then-not-is_whole-clause-list_after c =
    (let called : Kernel → KernelDid = λ k. vmalloc_of k c.args.root.0 c.args.size in let lent : Memory = lent_memory c.args.words.now c.args.bitmap.now c.args.frames in
    told_broken as_virt (called) (lent) c.args.list.now c.args.root.0 (failed c.is_whole.ensures c.if-not-is_whole.true) (λ k. (c.slice_known-2-1.given k).fits)
    (vmalloc_broken (c.args.frames.levels - 1) (kernel (lent) (vm_in c.args.list.now)) c.args.root.0 c.args.size)).0

pub returns-then-not-is_whole-clause-kernel_reads : goal.returns-then-not-is_whole-clause-kernel_reads
returns-then-not-is_whole-clause-kernel_reads c =
    (let called : Kernel → KernelDid = λ k. vmalloc_of k c.args.root.0 c.args.size in let lent : Memory = lent_memory c.args.words.now c.args.bitmap.now c.args.frames in
    told_broken as_virt (called) (lent) c.args.list.now c.args.root.0 (failed c.is_whole.ensures c.if-not-is_whole.true) (λ k. (c.slice_known-2-1.given k).fits)
    (vmalloc_broken (c.args.frames.levels - 1) (kernel (lent) (vm_in c.args.list.now)) c.args.root.0 c.args.size)).1

pub returns-then-size-eq0-clause-list_after : goal.returns-then-size-eq0-clause-list_after
returns-then-size-eq0-clause-list_after c =
    (let called : Kernel → KernelDid = λ k. vmalloc_of k c.args.root.0 c.args.size in let lent : Memory = lent_memory c.args.words.now c.args.bitmap.now c.args.frames in let good : sound_lent (lent) c.args.list.now c.args.root.0 ≡ true = passed c.is_whole.ensures c.if-not-is_whole.false in
    let g = good in
    told_refused as_virt (called) (lent) c.args.list.now (lent_fit (lent) c.args.list.now c.args.root.0 g) (λ k. (c.slice_known-2-1.given k).fits) SizeZero
    (vmalloc_empty (c.args.frames.levels - 1) (kernel (lent) (vm_in c.args.list.now)) c.args.root.0 c.args.size (lent_kernel (lent) c.args.list.now c.args.root.0 g) c.if-size-eq0.true)).0

pub returns-then-size-eq0-clause-kernel_reads : goal.returns-then-size-eq0-clause-kernel_reads
returns-then-size-eq0-clause-kernel_reads c =
    (let called : Kernel → KernelDid = λ k. vmalloc_of k c.args.root.0 c.args.size in let lent : Memory = lent_memory c.args.words.now c.args.bitmap.now c.args.frames in let good : sound_lent (lent) c.args.list.now c.args.root.0 ≡ true = passed c.is_whole.ensures c.if-not-is_whole.false in
    let g = good in
    told_refused as_virt (called) (lent) c.args.list.now (lent_fit (lent) c.args.list.now c.args.root.0 g) (λ k. (c.slice_known-2-1.given k).fits) SizeZero
    (vmalloc_empty (c.args.frames.levels - 1) (kernel (lent) (vm_in c.args.list.now)) c.args.root.0 c.args.size (lent_kernel (lent) c.args.list.now c.args.root.0 g) c.if-size-eq0.true)).1

pub returns-in-Err-clause-list_after : goal.returns-in-Err-clause-list_after
returns-in-Err-clause-list_after c =
    (let called : Kernel → KernelDid = λ k. vmalloc_of k c.args.root.0 c.args.size in let lent : Memory = lent_memory c.args.words.now c.args.bitmap.now c.args.frames in let good : sound_lent (lent) c.args.list.now c.args.root.0 ≡ true = passed c.is_whole.ensures c.if-not-is_whole.false in let rounds : (a : Result ℕ Refusal) → sound_lent (lent) c.args.list.now c.args.root.0 ≡ true → (c.args.size ≡ 0 → ⊥) → rounded c.args.size ≡ a → called (kernel (lent) (vm_in c.args.list.now)) ≡ kernel_sized (c.args.frames.levels - 1) (kernel (lent) (vm_in c.args.list.now)) c.args.root.0 a = λ a h z e. let k = kernel (lent) (vm_in c.args.list.now) in
    vmalloc_sized (c.args.frames.levels - 1) k c.args.root.0 c.args.size (lent_kernel (lent) c.args.list.now c.args.root.0 h) z ∙ ap (kernel_sized (c.args.frames.levels - 1) k c.args.root.0) e in
    let g = good in
    told_refused as_virt (called) (lent) c.args.list.now (lent_fit (lent) c.args.list.now c.args.root.0 g) (λ k. (c.slice_known-2-1.given k).fits) c.in-Err.n
    (rounds _ g c.if-size-eq0.false (sym c.page_align_up.ensures ∙ c.in-Err.is))).0

pub returns-in-Err-clause-kernel_reads : goal.returns-in-Err-clause-kernel_reads
returns-in-Err-clause-kernel_reads c =
    (let called : Kernel → KernelDid = λ k. vmalloc_of k c.args.root.0 c.args.size in let lent : Memory = lent_memory c.args.words.now c.args.bitmap.now c.args.frames in let good : sound_lent (lent) c.args.list.now c.args.root.0 ≡ true = passed c.is_whole.ensures c.if-not-is_whole.false in let rounds : (a : Result ℕ Refusal) → sound_lent (lent) c.args.list.now c.args.root.0 ≡ true → (c.args.size ≡ 0 → ⊥) → rounded c.args.size ≡ a → called (kernel (lent) (vm_in c.args.list.now)) ≡ kernel_sized (c.args.frames.levels - 1) (kernel (lent) (vm_in c.args.list.now)) c.args.root.0 a = λ a h z e. let k = kernel (lent) (vm_in c.args.list.now) in
    vmalloc_sized (c.args.frames.levels - 1) k c.args.root.0 c.args.size (lent_kernel (lent) c.args.list.now c.args.root.0 h) z ∙ ap (kernel_sized (c.args.frames.levels - 1) k c.args.root.0) e in
    let g = good in
    told_refused as_virt (called) (lent) c.args.list.now (lent_fit (lent) c.args.list.now c.args.root.0 g) (λ k. (c.slice_known-2-1.given k).fits) c.in-Err.n
    (rounds _ g c.if-size-eq0.false (sym c.page_align_up.ensures ∙ c.in-Err.is))).1

pub returns-in-Ok-clause-list_after : goal.returns-in-Ok-clause-list_after
returns-in-Ok-clause-list_after c =
    (let called : Kernel → KernelDid = λ k. vmalloc_of k c.args.root.0 c.args.size in let lent : Memory = lent_memory c.args.words.now c.args.bitmap.now c.args.frames in let good : sound_lent (lent) c.args.list.now c.args.root.0 ≡ true = passed c.is_whole.ensures c.if-not-is_whole.false in let rounds : (a : Result ℕ Refusal) → sound_lent (lent) c.args.list.now c.args.root.0 ≡ true → (c.args.size ≡ 0 → ⊥) → rounded c.args.size ≡ a → called (kernel (lent) (vm_in c.args.list.now)) ≡ kernel_sized (c.args.frames.levels - 1) (kernel (lent) (vm_in c.args.list.now)) c.args.root.0 a = λ a h z e. let k = kernel (lent) (vm_in c.args.list.now) in
    vmalloc_sized (c.args.frames.levels - 1) k c.args.root.0 c.args.size (lent_kernel (lent) c.args.list.now c.args.root.0 h) z ∙ ap (kernel_sized (c.args.frames.levels - 1) k c.args.root.0) e in
    let g = good in
    told_on as_virt (called) (lent) c.args.list.now (lent_fit (lent) c.args.list.now c.args.root.0 g) (rounds _ g c.if-size-eq0.false (sym c.page_align_up.ensures ∙ c.in-Ok.is)) (c.allocate.ensures.list_after, c.allocate.ensures.kernel_stands)).0

pub returns-in-Ok-clause-kernel_reads : goal.returns-in-Ok-clause-kernel_reads
returns-in-Ok-clause-kernel_reads c =
    (let called : Kernel → KernelDid = λ k. vmalloc_of k c.args.root.0 c.args.size in let lent : Memory = lent_memory c.args.words.now c.args.bitmap.now c.args.frames in let good : sound_lent (lent) c.args.list.now c.args.root.0 ≡ true = passed c.is_whole.ensures c.if-not-is_whole.false in let rounds : (a : Result ℕ Refusal) → sound_lent (lent) c.args.list.now c.args.root.0 ≡ true → (c.args.size ≡ 0 → ⊥) → rounded c.args.size ≡ a → called (kernel (lent) (vm_in c.args.list.now)) ≡ kernel_sized (c.args.frames.levels - 1) (kernel (lent) (vm_in c.args.list.now)) c.args.root.0 a = λ a h z e. let k = kernel (lent) (vm_in c.args.list.now) in
    vmalloc_sized (c.args.frames.levels - 1) k c.args.root.0 c.args.size (lent_kernel (lent) c.args.list.now c.args.root.0 h) z ∙ ap (kernel_sized (c.args.frames.levels - 1) k c.args.root.0) e in
    let g = good in
    told_on as_virt (called) (lent) c.args.list.now (lent_fit (lent) c.args.list.now c.args.root.0 g) (rounds _ g c.if-size-eq0.false (sym c.page_align_up.ensures ∙ c.in-Ok.is)) (c.allocate.ensures.list_after, c.allocate.ensures.kernel_stands)).1
