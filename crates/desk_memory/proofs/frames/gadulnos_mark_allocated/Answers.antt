-- A record that does not fit, or the call on the record unpacked; the bitmap is changed where it stands.
use Rattle.std.specs.Prelude.{Result, ⊤}
use Rattle.answer.specs.declared.Refusal.{Refusal}
use Rattle.layout.specs.Left.{no_leftovers}
use mathlib.Core.Path.{refl}
use borrow.Author.Tests.{eq-eqb, ne_eqb}
use Rattle.layout.specs.Parts.{fields_size}
use Rattle.layout.proofs.Left.{contract_broken, contract_met}
use Rattle.frame.specs.Frames.{Frames, FramesDid, mark_allocated}
use Rattle.answer.specs.Numbers.{answer_line}
use Rattle.desk_memory.proofs.LeftMemory.{frames_broken, frames_met, frames_unchanged, mark_clean}
use Rattle.desk_memory.proofs.frames.gadulnos_mark_allocated.Goals as goal

pub returns-then-fields-ne-FIELDS_SIZE-clause-bits_after : goal.returns-then-fields-ne-FIELDS_SIZE-clause-bits_after
returns-then-fields-ne-FIELDS_SIZE-clause-bits_after c =
    (let call : Frames → FramesDid (Result ⊤ Refusal) = λ fr. mark_allocated fr c.args.number in
    contract_broken no_leftovers
    (frames_broken answer_line (call) c.args.fields.now c.args.bits.now (ne_eqb _ fields_size c.if-fields-ne-FIELDS_SIZE.true) c.broken.ensures)).0

pub returns-clause-bits_after : goal.returns-clause-bits_after
returns-clause-bits_after c =
    (let call : Frames → FramesDid (Result ⊤ Refusal) = λ fr. mark_allocated fr c.args.number in
    contract_met no_leftovers
    (frames_met answer_line (call) c.args.fields.now c.args.bits.now
    c.mark_allocated-answer.new.bitmap (eq-eqb _ fields_size c.if-fields-ne-FIELDS_SIZE.false) c.get_fields-frames.ensures c.mark_allocated-answer.ensures c.line_of.ensures c.put_fields.ensures)
    (frames_unchanged answer_line (call) c.args.fields.now c.args.bits.now no_leftovers (λ i. (c.slice_known-1.given i).fits) (mark_clean c.args.number))).0

pub returns-clause-refused : goal.returns-clause-refused
returns-clause-refused c =
    (let call : Frames → FramesDid (Result ⊤ Refusal) = λ fr. mark_allocated fr c.args.number in
    contract_met no_leftovers
    (frames_met answer_line (call) c.args.fields.now c.args.bits.now
    c.mark_allocated-answer.new.bitmap (eq-eqb _ fields_size c.if-fields-ne-FIELDS_SIZE.false) c.get_fields-frames.ensures c.mark_allocated-answer.ensures c.line_of.ensures c.put_fields.ensures)
    (frames_unchanged answer_line (call) c.args.fields.now c.args.bits.now no_leftovers (λ i. (c.slice_known-1.given i).fits) (mark_clean c.args.number))).1
