-- A frame record that does not fit, or the start, and what it leaves of it; words, bitmap and lists are written where they stand.
use Rattle.layout.specs.Parts.{fields_size}
use Rattle.layout.specs.Left.{no_leftovers}
use borrow.Author.Tests.{eq-eqb, ne_eqb}
use Rattle.layout.proofs.Left.{contract_broken, contract_met}
use Rattle.desk_faults.proofs.LeftBoard.{start_broken, start_did, start_refused}
use Rattle.desk_faults.proofs.start.gadulnos_start_levels.Goals as goal

pub returns-then-fields-ne-FIELDS_SIZE-clause-marked_after : goal.returns-then-fields-ne-FIELDS_SIZE-clause-marked_after
returns-then-fields-ne-FIELDS_SIZE-clause-marked_after c =
    (contract_broken no_leftovers
    (start_broken c.args.words.now c.args.fields.now c.args.bits.now c.args.root.now c.args.kernel.now c.args.user.now c.args.marked.now c.args.from c.args.to c.args.levels
    (ne_eqb _ fields_size c.if-fields-ne-FIELDS_SIZE.true) c.broken.ensures)).0

pub returns-clause-marked_after : goal.returns-clause-marked_after
returns-clause-marked_after c =
    (contract_met no_leftovers
    (start_did c.args.words.now c.args.fields.now c.args.bits.now c.args.root.now c.args.kernel.now c.args.user.now c.args.marked.now c.args.from c.args.to c.args.levels _
    c.start-did.new.bitmap (eq-eqb _ fields_size c.if-fields-ne-FIELDS_SIZE.false) c.start-did.ensures.marked_after c.line_of.ensures (c.put_records.ensures.fields_after, c.put_records.ensures.root_after))
    (start_refused c.args.words.now c.args.fields.now c.args.bits.now c.args.root.now c.args.kernel.now c.args.user.now c.args.marked.now c.args.from c.args.to c.args.levels)).0

pub returns-clause-refused : goal.returns-clause-refused
returns-clause-refused c =
    (contract_met no_leftovers
    (start_did c.args.words.now c.args.fields.now c.args.bits.now c.args.root.now c.args.kernel.now c.args.user.now c.args.marked.now c.args.from c.args.to c.args.levels _
    c.start-did.new.bitmap (eq-eqb _ fields_size c.if-fields-ne-FIELDS_SIZE.false) c.start-did.ensures.marked_after c.line_of.ensures (c.put_records.ensures.fields_after, c.put_records.ensures.root_after))
    (start_refused c.args.words.now c.args.fields.now c.args.bits.now c.args.root.now c.args.kernel.now c.args.user.now c.args.marked.now c.args.from c.args.to c.args.levels)).1
