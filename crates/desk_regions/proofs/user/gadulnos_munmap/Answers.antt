-- A frame record that does not fit, or the call on it unpacked; words, bitmap and list are changed where they stand.
use Rattle.frame.specs.Found.{key_line, tally_of}
use Rattle.layout.specs.Left.{no_leftovers}
use mathlib.Core.Path.{refl, ◌∙◌, ap}
use borrow.Author.Tests.{eq-eqb, ne_eqb}
use Rattle.answer.specs.Numbers.{answer_line}
use Rattle.answer.specs.Outcomes.{as_answer}
use Rattle.user_space.specs.User.{User, UserDid}
use Rattle.munmap.specs.Calls.{munmap_of}
use Rattle.layout.specs.Parts.{fields_size}
use Rattle.layout.proofs.Left.{contract_broken, contract_met, key_line_lem}
use Rattle.desk_regions.proofs.LeftRegions.{user_broken, user_met, munmap_refused, munmap_none, munmap_found_lem}
use Rattle.desk_regions.proofs.user.gadulnos_munmap.Goals as goal

pub returns-then-fields-ne-FIELDS_SIZE-clause-list_after : goal.returns-then-fields-ne-FIELDS_SIZE-clause-list_after
returns-then-fields-ne-FIELDS_SIZE-clause-list_after c =
    let call : User → UserDid = λ u. munmap_of u c.args.root c.args.addr c.args.size in let h = ne_eqb _ fields_size c.if-fields-ne-FIELDS_SIZE.true in let p = contract_broken no_leftovers (user_broken as_answer answer_line (call) c.args.words.now c.args.fields.now c.args.bits.now c.args.list.now h (ap key_line c.broken_tally.ensures)) in p.0

pub returns-then-fields-ne-FIELDS_SIZE-clause-result_value : goal.returns-then-fields-ne-FIELDS_SIZE-clause-result_value
returns-then-fields-ne-FIELDS_SIZE-clause-result_value c =
    let call : User → UserDid = λ u. munmap_of u c.args.root c.args.addr c.args.size in let h = ne_eqb _ fields_size c.if-fields-ne-FIELDS_SIZE.true in let p = contract_broken no_leftovers (user_broken as_answer answer_line (call) c.args.words.now c.args.fields.now c.args.bits.now c.args.list.now h (ap key_line c.broken_tally.ensures)) in munmap_none c.args.words.now c.args.fields.now c.args.bits.now c.args.list.now c.args.root c.args.addr c.args.size h (ap tally_of c.broken_tally.ensures)

pub returns-clause-list_after : goal.returns-clause-list_after
returns-clause-list_after c =
    let call : User → UserDid = λ u. munmap_of u c.args.root c.args.addr c.args.size in let h = eq-eqb _ fields_size c.if-fields-ne-FIELDS_SIZE.false in let p = contract_met no_leftovers
    (user_met as_answer answer_line (call) c.args.words.now c.args.fields.now c.args.bits.now c.args.list.now refl c.munmap-did.new.bitmap
    h (λ i. (c.slice_known-2-1.given i).fits) c.get_fields.ensures c.munmap-did.ensures.list_after (ap key_line c.tally_line.ensures ∙ key_line_lem c.munmap-did.result.answer c.munmap-did.result.found) c.put_fields.ensures)
    (munmap_refused c.args.words.now c.args.fields.now c.args.bits.now c.args.list.now (λ i. (c.slice_known-2-1.given i).fits) (λ i. (c.slice_known-3-1.given i).fits) c.args.root c.args.addr c.args.size) in p.0

pub returns-clause-result_value : goal.returns-clause-result_value
returns-clause-result_value c =
    let call : User → UserDid = λ u. munmap_of u c.args.root c.args.addr c.args.size in let h = eq-eqb _ fields_size c.if-fields-ne-FIELDS_SIZE.false in let p = contract_met no_leftovers
    (user_met as_answer answer_line (call) c.args.words.now c.args.fields.now c.args.bits.now c.args.list.now refl c.munmap-did.new.bitmap
    h (λ i. (c.slice_known-2-1.given i).fits) c.get_fields.ensures c.munmap-did.ensures.list_after (ap key_line c.tally_line.ensures ∙ key_line_lem c.munmap-did.result.answer c.munmap-did.result.found) c.put_fields.ensures)
    (munmap_refused c.args.words.now c.args.fields.now c.args.bits.now c.args.list.now (λ i. (c.slice_known-2-1.given i).fits) (λ i. (c.slice_known-3-1.given i).fits) c.args.root c.args.addr c.args.size) in ap tally_of c.tally_line.ensures ∙ munmap_found_lem c.args.words.now c.args.fields.now c.args.bits.now c.args.list.now c.args.root c.args.addr c.args.size h c.get_fields.ensures c.munmap-did.ensures.found_value

pub returns-clause-refused : goal.returns-clause-refused
returns-clause-refused c =
    let call : User → UserDid = λ u. munmap_of u c.args.root c.args.addr c.args.size in let h = eq-eqb _ fields_size c.if-fields-ne-FIELDS_SIZE.false in let p = contract_met no_leftovers
    (user_met as_answer answer_line (call) c.args.words.now c.args.fields.now c.args.bits.now c.args.list.now refl c.munmap-did.new.bitmap
    h (λ i. (c.slice_known-2-1.given i).fits) c.get_fields.ensures c.munmap-did.ensures.list_after (ap key_line c.tally_line.ensures ∙ key_line_lem c.munmap-did.result.answer c.munmap-did.result.found) c.put_fields.ensures)
    (munmap_refused c.args.words.now c.args.fields.now c.args.bits.now c.args.list.now (λ i. (c.slice_known-2-1.given i).fits) (λ i. (c.slice_known-3-1.given i).fits) c.args.root c.args.addr c.args.size) in p.1
