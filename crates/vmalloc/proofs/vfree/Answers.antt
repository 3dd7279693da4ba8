-- `vfree`: 10, 16 for the null address, or the used region at the address.
use Rattle.answer.specs.declared.Refusal.TheVariants.{RegionNotFound}
use Rattle.std.proofs.Common.{◌≡◌, ◌-◌, true}
use Rattle.paging.specs.Kept.{lent_memory}
use Rattle.vmalloc.specs.Calls.{vfree_of, Kernel, kernel, KernelDid}
use Rattle.vmalloc.specs.Packed.{sound_lent}
use mathlib.Core.Path.{sym, ◌∙◌}
use Rattle.answer.specs.Outcomes.{as_answer}
use Rattle.frame.proofs.Laws.{passed, failed}
use Rattle.paging.specs.Map.{Memory}
use Rattle.vm_list.specs.Packed.{vm_in}
use Rattle.vmalloc.proofs.Calls.{vfree_broken, vfree_null, vfree_is}
use Rattle.vmalloc.proofs.Told.{told_on, told_refused, told_broken, tally_broken, tally_null, tally_is}
use Rattle.vmalloc.proofs.Found.{lent_fit, lent_kernel}
use Rattle.vmalloc.proofs.vfree.Goals as goal

pub returns-then-not-is_whole-clause-list_after : goal.returns-then-not-is_whole-clause-list_after
returns-then-not-is_whole-clause-list_after c =
    let called : Kernel → KernelDid = λ k. vfree_of k c.args.root.0 c.args.addr.0 in let lent : Memory = lent_memory c.args.words.now c.args.bitmap.now c.args.frames in let b = failed c.is_whole.ensures c.if-not-is_whole.true in let t = told_broken as_answer (called) (lent) c.args.list.now c.args.root.0 b (λ j. (c.slice_known-2-1.given j).fits)
    (vfree_broken (c.args.frames.levels - 1) (kernel (lent) (vm_in c.args.list.now)) c.args.root.0 c.args.addr.0) in t.0

pub returns-then-not-is_whole-clause-kernel_reads : goal.returns-then-not-is_whole-clause-kernel_reads
returns-then-not-is_whole-clause-kernel_reads c =
    let called : Kernel → KernelDid = λ k. vfree_of k c.args.root.0 c.args.addr.0 in let lent : Memory = lent_memory c.args.words.now c.args.bitmap.now c.args.frames in let b = failed c.is_whole.ensures c.if-not-is_whole.true in let t = told_broken as_answer (called) (lent) c.args.list.now c.args.root.0 b (λ j. (c.slice_known-2-1.given j).fits)
    (vfree_broken (c.args.frames.levels - 1) (kernel (lent) (vm_in c.args.list.now)) c.args.root.0 c.args.addr.0) in t.1

pub returns-then-not-is_whole-clause-found_value : goal.returns-then-not-is_whole-clause-found_value
returns-then-not-is_whole-clause-found_value c =
    let called : Kernel → KernelDid = λ k. vfree_of k c.args.root.0 c.args.addr.0 in let lent : Memory = lent_memory c.args.words.now c.args.bitmap.now c.args.frames in let b = failed c.is_whole.ensures c.if-not-is_whole.true in let t = told_broken as_answer (called) (lent) c.args.list.now c.args.root.0 b (λ j. (c.slice_known-2-1.given j).fits)
    (vfree_broken (c.args.frames.levels - 1) (kernel (lent) (vm_in c.args.list.now)) c.args.root.0 c.args.addr.0) in c.none.ensures ∙ sym (tally_broken (lent) c.args.list.now c.args.root.0 c.args.addr.0 b)

pub returns-then-addr-eq0-clause-list_after : goal.returns-then-addr-eq0-clause-list_after
returns-then-addr-eq0-clause-list_after c =
    let called : Kernel → KernelDid = λ k. vfree_of k c.args.root.0 c.args.addr.0 in let lent : Memory = lent_memory c.args.words.now c.args.bitmap.now c.args.frames in let good : sound_lent (lent) c.args.list.now c.args.root.0 ≡ true = passed c.is_whole.ensures c.if-not-is_whole.false in let g = good in let t = told_refused as_answer (called) (lent) c.args.list.now (lent_fit (lent) c.args.list.now c.args.root.0 g) (λ j. (c.slice_known-2-1.given j).fits) RegionNotFound
    (vfree_null (c.args.frames.levels - 1) (kernel (lent) (vm_in c.args.list.now)) c.args.root.0 c.args.addr.0 (lent_kernel (lent) c.args.list.now c.args.root.0 g) c.if-addr-eq0.true) in t.0

pub returns-then-addr-eq0-clause-kernel_reads : goal.returns-then-addr-eq0-clause-kernel_reads
returns-then-addr-eq0-clause-kernel_reads c =
    let called : Kernel → KernelDid = λ k. vfree_of k c.args.root.0 c.args.addr.0 in let lent : Memory = lent_memory c.args.words.now c.args.bitmap.now c.args.frames in let good : sound_lent (lent) c.args.list.now c.args.root.0 ≡ true = passed c.is_whole.ensures c.if-not-is_whole.false in let g = good in let t = told_refused as_answer (called) (lent) c.args.list.now (lent_fit (lent) c.args.list.now c.args.root.0 g) (λ j. (c.slice_known-2-1.given j).fits) RegionNotFound
    (vfree_null (c.args.frames.levels - 1) (kernel (lent) (vm_in c.args.list.now)) c.args.root.0 c.args.addr.0 (lent_kernel (lent) c.args.list.now c.args.root.0 g) c.if-addr-eq0.true) in t.1

pub returns-then-addr-eq0-clause-found_value : goal.returns-then-addr-eq0-clause-found_value
returns-then-addr-eq0-clause-found_value c =
    let called : Kernel → KernelDid = λ k. vfree_of k c.args.root.0 c.args.addr.0 in let lent : Memory = lent_memory c.args.words.now c.args.bitmap.now c.args.frames in let good : sound_lent (lent) c.args.list.now c.args.root.0 ≡ true = passed c.is_whole.ensures c.if-not-is_whole.false in let g = good in let t = told_refused as_answer (called) (lent) c.args.list.now (lent_fit (lent) c.args.list.now c.args.root.0 g) (λ j. (c.slice_known-2-1.given j).fits) RegionNotFound
    (vfree_null (c.args.frames.levels - 1) (kernel (lent) (vm_in c.args.list.now)) c.args.root.0 c.args.addr.0 (lent_kernel (lent) c.args.list.now c.args.root.0 g) c.if-addr-eq0.true) in c.none-then-addr-eq0.ensures ∙ sym (tally_null (lent) c.args.list.now c.args.root.0 c.args.addr.0 g c.if-addr-eq0.true)

pub returns-clause-list_after : goal.returns-clause-list_after
returns-clause-list_after c =
    let called : Kernel → KernelDid = λ k. vfree_of k c.args.root.0 c.args.addr.0 in let lent : Memory = lent_memory c.args.words.now c.args.bitmap.now c.args.frames in let good : sound_lent (lent) c.args.list.now c.args.root.0 ≡ true = passed c.is_whole.ensures c.if-not-is_whole.false in let g = good in let t = told_on as_answer (called) (lent) c.args.list.now (lent_fit (lent) c.args.list.now c.args.root.0 g)
    (vfree_is (c.args.frames.levels - 1) (kernel (lent) (vm_in c.args.list.now)) c.args.root.0 c.args.addr.0 (lent_kernel (lent) c.args.list.now c.args.root.0 g) c.if-addr-eq0.false)
    (c.free.ensures.list_after, c.free.ensures.kernel_stands) in t.0

pub returns-clause-kernel_reads : goal.returns-clause-kernel_reads
returns-clause-kernel_reads c =
    let called : Kernel → KernelDid = λ k. vfree_of k c.args.root.0 c.args.addr.0 in let lent : Memory = lent_memory c.args.words.now c.args.bitmap.now c.args.frames in let good : sound_lent (lent) c.args.list.now c.args.root.0 ≡ true = passed c.is_whole.ensures c.if-not-is_whole.false in let g = good in let t = told_on as_answer (called) (lent) c.args.list.now (lent_fit (lent) c.args.list.now c.args.root.0 g)
    (vfree_is (c.args.frames.levels - 1) (kernel (lent) (vm_in c.args.list.now)) c.args.root.0 c.args.addr.0 (lent_kernel (lent) c.args.list.now c.args.root.0 g) c.if-addr-eq0.false)
    (c.free.ensures.list_after, c.free.ensures.kernel_stands) in t.1

pub returns-clause-found_value : goal.returns-clause-found_value
returns-clause-found_value c =
    let called : Kernel → KernelDid = λ k. vfree_of k c.args.root.0 c.args.addr.0 in let lent : Memory = lent_memory c.args.words.now c.args.bitmap.now c.args.frames in let good : sound_lent (lent) c.args.list.now c.args.root.0 ≡ true = passed c.is_whole.ensures c.if-not-is_whole.false in let g = good in let t = told_on as_answer (called) (lent) c.args.list.now (lent_fit (lent) c.args.list.now c.args.root.0 g)
    (vfree_is (c.args.frames.levels - 1) (kernel (lent) (vm_in c.args.list.now)) c.args.root.0 c.args.addr.0 (lent_kernel (lent) c.args.list.now c.args.root.0 g) c.if-addr-eq0.false)
    (c.free.ensures.list_after, c.free.ensures.kernel_stands) in c.free.ensures.found_value ∙ sym (tally_is (lent) c.args.list.now c.args.root.0 c.args.addr.0 g c.if-addr-eq0.false)
