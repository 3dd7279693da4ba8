-- A frame record that does not fit, or the call on it unpacked; words, bitmap and marked pages are changed where they stand.
use Rattle.std.specs.Prelude.{Err}
use Rattle.answer.specs.declared.Refusal.TheVariants.{BrokenRecord}
use Rattle.frame.specs.Found.{key_line}
use Rattle.layout.specs.Left.{fault_leftovers}
use mathlib.Core.Path.{◌∙◌, ap}
use borrow.Author.Tests.{eq-eqb, ne_eqb}
use Rattle.fault.specs.Faults.{Faulting, FaultDid, handle_fault_of}
use Rattle.layout.specs.Parts.{fields_size}
use Rattle.layout.proofs.Left.{contract_broken, contract_met, key_line_lem}
use Rattle.desk_faults.proofs.LeftFaults.{fault_broken, fault_met, fault_unfit_none, fault_found_lem, fault_refused}
use Rattle.desk_faults.proofs.faults.gadulnos_handle_page_fault.Goals as goal

pub returns-then-fields-ne-FIELDS_SIZE-clause-marked_after : goal.returns-then-fields-ne-FIELDS_SIZE-clause-marked_after
returns-then-fields-ne-FIELDS_SIZE-clause-marked_after c =
    let call : Faulting → FaultDid = λ f. handle_fault_of f c.args.root c.args.addr c.args.code in let h = ne_eqb _ fields_size c.if-fields-ne-FIELDS_SIZE.true in let p = contract_broken fault_leftovers (fault_broken (call) c.args.words.now c.args.fields.now c.args.bits.now c.args.marked.now h (ap key_line c.broken_tally.ensures)) in p.0

pub returns-then-fields-ne-FIELDS_SIZE-clause-result_value : goal.returns-then-fields-ne-FIELDS_SIZE-clause-result_value
returns-then-fields-ne-FIELDS_SIZE-clause-result_value c =
    let call : Faulting → FaultDid = λ f. handle_fault_of f c.args.root c.args.addr c.args.code in let h = ne_eqb _ fields_size c.if-fields-ne-FIELDS_SIZE.true in let p = contract_broken fault_leftovers (fault_broken (call) c.args.words.now c.args.fields.now c.args.bits.now c.args.marked.now h (ap key_line c.broken_tally.ensures)) in fault_unfit_none c.args.words.now c.args.fields.now c.args.bits.now c.args.marked.now c.args.root c.args.addr c.args.code (Err BrokenRecord) h c.broken_tally.ensures

pub returns-clause-marked_after : goal.returns-clause-marked_after
returns-clause-marked_after c =
    let call : Faulting → FaultDid = λ f. handle_fault_of f c.args.root c.args.addr c.args.code in let fit = eq-eqb _ fields_size c.if-fields-ne-FIELDS_SIZE.false in let p =
    contract_met fault_leftovers
    (fault_met (call) c.args.words.now c.args.fields.now c.args.bits.now c.args.marked.now c.handle_page_fault-did.new.bitmap
    fit (λ i. (c.slice_known-2-1.given i).fits) c.get_fields-frames.ensures c.handle_page_fault-did.ensures.marked_after (ap key_line c.tally_line.ensures ∙ key_line_lem c.handle_page_fault-did.result.answer c.handle_page_fault-did.result.found) c.put_fields.ensures)
    (fault_refused c.args.words.now c.args.fields.now c.args.bits.now (λ i. (c.slice_known-2-1.given i).fits) c.args.root c.args.addr c.args.code c.args.marked.now (λ i. (c.slice_known-3-1.given i).fits)) in p.0

pub returns-clause-result_value : goal.returns-clause-result_value
returns-clause-result_value c =
    let call : Faulting → FaultDid = λ f. handle_fault_of f c.args.root c.args.addr c.args.code in let fit = eq-eqb _ fields_size c.if-fields-ne-FIELDS_SIZE.false in let p =
    contract_met fault_leftovers
    (fault_met (call) c.args.words.now c.args.fields.now c.args.bits.now c.args.marked.now c.handle_page_fault-did.new.bitmap
    fit (λ i. (c.slice_known-2-1.given i).fits) c.get_fields-frames.ensures c.handle_page_fault-did.ensures.marked_after (ap key_line c.tally_line.ensures ∙ key_line_lem c.handle_page_fault-did.result.answer c.handle_page_fault-did.result.found) c.put_fields.ensures)
    (fault_refused c.args.words.now c.args.fields.now c.args.bits.now (λ i. (c.slice_known-2-1.given i).fits) c.args.root c.args.addr c.args.code c.args.marked.now (λ i. (c.slice_known-3-1.given i).fits)) in fault_found_lem c.args.words.now c.args.fields.now c.args.bits.now c.args.marked.now c.args.root c.args.addr c.args.code c.handle_page_fault-did.result.answer fit c.get_fields-frames.ensures c.handle_page_fault-did.ensures.found_value c.tally_line.ensures

pub returns-clause-refused : goal.returns-clause-refused
returns-clause-refused c =
    let call : Faulting → FaultDid = λ f. handle_fault_of f c.args.root c.args.addr c.args.code in let fit = eq-eqb _ fields_size c.if-fields-ne-FIELDS_SIZE.false in let p =
    contract_met fault_leftovers
    (fault_met (call) c.args.words.now c.args.fields.now c.args.bits.now c.args.marked.now c.handle_page_fault-did.new.bitmap
    fit (λ i. (c.slice_known-2-1.given i).fits) c.get_fields-frames.ensures c.handle_page_fault-did.ensures.marked_after (ap key_line c.tally_line.ensures ∙ key_line_lem c.handle_page_fault-did.result.answer c.handle_page_fault-did.result.found) c.put_fields.ensures)
    (fault_refused c.args.words.now c.args.fields.now c.args.bits.now (λ i. (c.slice_known-2-1.given i).fits) c.args.root c.args.addr c.args.code c.args.marked.now (λ i. (c.slice_known-3-1.given i).fits)) in p.1
