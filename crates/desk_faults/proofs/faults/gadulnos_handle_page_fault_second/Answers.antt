-- A frame record that does not fit, or the call on it unpacked; words and bitmap are changed where they stand.
use Rattle.layout.specs.Left.{second_leftovers}
use borrow.Author.Tests.{eq-eqb, ne_eqb}
use Rattle.paging.specs.Map.{Memory, Out}
use Rattle.handler.specs.Handler.{handle_fault_second_of}
use Rattle.layout.specs.Parts.{fields_size}
use Rattle.layout.proofs.Left.{memory_broken, memory_met, contract_broken, contract_met}
use Rattle.desk_faults.proofs.LeftFaults.{second_refused}
use Rattle.desk_faults.proofs.faults.gadulnos_handle_page_fault_second.Goals as goal

pub returns-then-fields-ne-FIELDS_SIZE-clause-bits_after : goal.returns-then-fields-ne-FIELDS_SIZE-clause-bits_after
returns-then-fields-ne-FIELDS_SIZE-clause-bits_after c =
    (let call : Memory → Out = λ m. handle_fault_second_of m c.args.root c.args.addr c.args.code in
    contract_broken second_leftovers
    (memory_broken (call) c.args.words.now c.args.fields.now c.args.bits.now (ne_eqb _ fields_size c.if-fields-ne-FIELDS_SIZE.true) c.broken.ensures)).0

pub returns-clause-bits_after : goal.returns-clause-bits_after
returns-clause-bits_after c =
    (let call : Memory → Out = λ m. handle_fault_second_of m c.args.root c.args.addr c.args.code in
    contract_met second_leftovers
    (memory_met (call) c.args.words.now c.args.fields.now c.args.bits.now c.handle_page_fault-did.new.bitmap (eq-eqb _ fields_size c.if-fields-ne-FIELDS_SIZE.false) c.get_fields-frames.ensures
    (c.handle_page_fault-did.ensures.value, (c.handle_page_fault-did.ensures.words_after, c.handle_page_fault-did.ensures.bitmap_after)) c.line_of.ensures c.put_fields.ensures)
    (second_refused c.args.words.now c.args.fields.now c.args.bits.now (λ i. (c.slice_known-2-1.given i).fits) c.args.root c.args.addr c.args.code)).0

pub returns-clause-refused : goal.returns-clause-refused
returns-clause-refused c =
    (let call : Memory → Out = λ m. handle_fault_second_of m c.args.root c.args.addr c.args.code in
    contract_met second_leftovers
    (memory_met (call) c.args.words.now c.args.fields.now c.args.bits.now c.handle_page_fault-did.new.bitmap (eq-eqb _ fields_size c.if-fields-ne-FIELDS_SIZE.false) c.get_fields-frames.ensures
    (c.handle_page_fault-did.ensures.value, (c.handle_page_fault-did.ensures.words_after, c.handle_page_fault-did.ensures.bitmap_after)) c.line_of.ensures c.put_fields.ensures)
    (second_refused c.args.words.now c.args.fields.now c.args.bits.now (λ i. (c.slice_known-2-1.given i).fits) c.args.root c.args.addr c.args.code)).1
