-- A frame record that does not fit, or the call on it unpacked; words, bitmap and list are changed where they stand.
use Rattle.vmalloc.specs.Calls.{Kernel, KernelDid, vmalloc_of}
use Rattle.layout.specs.Left.{region_leftovers}
use mathlib.Core.Path.{refl}
use borrow.Author.Tests.{eq-eqb, ne_eqb}
use Rattle.address.specs.Address.{virt_line, as_virt}
use Rattle.layout.specs.Parts.{fields_size}
use Rattle.layout.proofs.Left.{contract_broken, contract_met}
use Rattle.desk_regions.proofs.LeftRegions.{kernel_broken, kernel_met, vmalloc_refused}
use Rattle.desk_regions.proofs.kernel.gadulnos_vmalloc.Goals as goal

pub returns-then-fields-ne-FIELDS_SIZE-clause-list_after : goal.returns-then-fields-ne-FIELDS_SIZE-clause-list_after
returns-then-fields-ne-FIELDS_SIZE-clause-list_after c =
    (let call : Kernel → KernelDid = λ k. vmalloc_of k c.args.root c.args.size in
    contract_broken region_leftovers
    (kernel_broken as_virt virt_line (call) c.args.words.now c.args.fields.now c.args.bits.now c.args.list.now (ne_eqb _ fields_size c.if-fields-ne-FIELDS_SIZE.true) c.broken.ensures)).0

pub returns-clause-list_after : goal.returns-clause-list_after
returns-clause-list_after c =
    (let call : Kernel → KernelDid = λ k. vmalloc_of k c.args.root c.args.size in
    contract_met region_leftovers
    (kernel_met as_virt virt_line (call) c.args.words.now c.args.fields.now c.args.bits.now c.args.list.now refl c.vmalloc-did.new.bitmap
    (eq-eqb _ fields_size c.if-fields-ne-FIELDS_SIZE.false) (λ i. (c.slice_known-2-1.given i).fits) c.get_fields.ensures c.vmalloc-did.ensures.list_after c.line_of.ensures c.put_fields.ensures)
    (vmalloc_refused c.args.words.now c.args.fields.now c.args.bits.now c.args.list.now (λ i. (c.slice_known-2-1.given i).fits) (λ i. (c.slice_known-3-1.given i).fits) c.args.root c.args.size)).0

pub returns-clause-refused : goal.returns-clause-refused
returns-clause-refused c =
    (let call : Kernel → KernelDid = λ k. vmalloc_of k c.args.root c.args.size in
    contract_met region_leftovers
    (kernel_met as_virt virt_line (call) c.args.words.now c.args.fields.now c.args.bits.now c.args.list.now refl c.vmalloc-did.new.bitmap
    (eq-eqb _ fields_size c.if-fields-ne-FIELDS_SIZE.false) (λ i. (c.slice_known-2-1.given i).fits) c.get_fields.ensures c.vmalloc-did.ensures.list_after c.line_of.ensures c.put_fields.ensures)
    (vmalloc_refused c.args.words.now c.args.fields.now c.args.bits.now c.args.list.now (λ i. (c.slice_known-2-1.given i).fits) (λ i. (c.slice_known-3-1.given i).fits) c.args.root c.args.size)).1
