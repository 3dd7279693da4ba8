-- A record that does not fit, or the call on the record unpacked.
use borrow.Author.Tests.{eq-eqb, ne_eqb}
use Rattle.std.specs.Prelude.{Result, ℕ}
use Rattle.answer.specs.declared.Refusal.{Refusal}
use Rattle.layout.specs.Parts.{fields_size}
use Rattle.frame.specs.Frames.{Frames, total_frames}
use Rattle.answer.specs.Numbers.{count_line}
use Rattle.desk_memory.proofs.LeftMemory.{read_broken, read_met}
use Rattle.desk_memory.proofs.frames.gadulnos_total_frames.Goals as goal

pub returns-then-fields-ne-FIELDS_SIZE : goal.returns-then-fields-ne-FIELDS_SIZE
returns-then-fields-ne-FIELDS_SIZE c =
    let call : Frames → Result ℕ Refusal = λ fr. total_frames fr in
    read_broken count_line (call) c.args.fields.now c.args.bits.now (ne_eqb _ fields_size c.if-fields-ne-FIELDS_SIZE.true) c.broken.ensures

pub returns : goal.returns
returns c =
    let call : Frames → Result ℕ Refusal = λ fr. total_frames fr in
    read_met count_line (call) c.args.fields.now c.args.bits.now (eq-eqb _ fields_size c.if-fields-ne-FIELDS_SIZE.false) c.get_fields.ensures c.total_frames.ensures c.line_of.ensures
