-- A record that does not fit, or the call on the record unpacked; words and bitmap are changed where they stand.
use Rattle.paging.specs.Calls.{map_page_of}
use Rattle.layout.specs.Left.{table_leftovers}
use borrow.Author.Tests.{eq-eqb, ne_eqb}
use Rattle.layout.specs.Parts.{fields_size}
use Rattle.layout.proofs.Left.{memory_broken, memory_met, contract_broken, contract_met}
use Rattle.paging.specs.Map.{Memory, Out}
use Rattle.desk_memory.proofs.LeftMemory.{map_refused}
use Rattle.desk_memory.proofs.page_tables.gadulnos_map_page.Goals as goal

pub returns-then-fields-ne-FIELDS_SIZE-clause-bits_after : goal.returns-then-fields-ne-FIELDS_SIZE-clause-bits_after
returns-then-fields-ne-FIELDS_SIZE-clause-bits_after c =
    (let call : Memory → Out = λ m. map_page_of m c.args.root c.args.virt c.args.phys c.args.writable c.args.user in
    contract_broken table_leftovers
    (memory_broken (call) c.args.words.now c.args.fields.now c.args.bits.now (ne_eqb _ fields_size c.if-fields-ne-FIELDS_SIZE.true) c.broken.ensures)).0

pub returns-clause-bits_after : goal.returns-clause-bits_after
returns-clause-bits_after c =
    (let call : Memory → Out = λ m. map_page_of m c.args.root c.args.virt c.args.phys c.args.writable c.args.user in
    contract_met table_leftovers
    (memory_met (call) c.args.words.now c.args.fields.now c.args.bits.now c.map_page-did.new.bitmap (eq-eqb _ fields_size c.if-fields-ne-FIELDS_SIZE.false) c.get_fields-frames.ensures
    (c.map_page-did.ensures.value, (c.map_page-did.ensures.words_after, c.map_page-did.ensures.bitmap_after)) c.line_of.ensures c.put_fields.ensures)
    (map_refused c.args.words.now c.args.fields.now c.args.bits.now (λ i. (c.slice_known-2-1.given i).fits) c.args.root c.args.virt c.args.phys c.args.writable c.args.user)).0

pub returns-clause-refused : goal.returns-clause-refused
returns-clause-refused c =
    (let call : Memory → Out = λ m. map_page_of m c.args.root c.args.virt c.args.phys c.args.writable c.args.user in
    contract_met table_leftovers
    (memory_met (call) c.args.words.now c.args.fields.now c.args.bits.now c.map_page-did.new.bitmap (eq-eqb _ fields_size c.if-fields-ne-FIELDS_SIZE.false) c.get_fields-frames.ensures
    (c.map_page-did.ensures.value, (c.map_page-did.ensures.words_after, c.map_page-did.ensures.bitmap_after)) c.line_of.ensures c.put_fields.ensures)
    (map_refused c.args.words.now c.args.fields.now c.args.bits.now (λ i. (c.slice_known-2-1.given i).fits) c.args.root c.args.virt c.args.phys c.args.writable c.args.user)).1
