-- The step that stands next: the end, a line `tape`, or a call.
use Rattle.std.proofs.Common.{◌++◌, ◌≤◌, ℕ, length, sym, ap, ◌∙◌, subst}
use Rattle.std.specs.Prelude.{Ok}
use Rattle.board.specs.Packed.{board_of}
use Rattle.player.specs.Play.{turn}
use Rattle.streams.specs.Streams.{Left, taken}
use Rattle.tape.specs.Kinds.{number_of}
use Rattle.tape.specs.Text.{count_text, line_text}
use Rattle.tape.proofs.Sizes.{call_there}
use Rattle.turn.specs.Run.{Going, run, run_of, tape_word}
use Rattle.turn.proofs.Steps.{step_finished, step_malformed, step_read}
use Rattle.turn.proofs.play_next.Goals as goal

pub take-requires-clause-size_bound : goal.take-requires-clause-size_bound
take-requires-clause-size_bound c =
    subst (λ (n : ℕ). n ≤ length c.args.input.now.bytes) (sym c.size.ensures) (call_there c.args.input.now.bytes c.in-Ok-Some.call (sym c.in-Ok-Some.ensures ∙ ap Ok c.in-Ok-Some.field-0-is))

pub returns-in-Ok-None-clause-result_after : goal.returns-in-Ok-None-clause-result_after
returns-in-Ok-None-clause-result_after c = λ s.
    let a = c.args in
    step_finished (run_of a.words.now a.bitmap.now a.kernel.now a.user.now a.marked.now a.records.now a.input.now a.out.now s) (sym c.in-Ok-None.ensures ∙ ap Ok c.in-Ok-None.field-0-is)

pub returns-in-Err-clause-result_after : goal.returns-in-Err-clause-result_after
returns-in-Err-clause-result_after c = λ s.
    let a = c.args in
    step_malformed (run_of a.words.now a.bitmap.now a.kernel.now a.user.now a.marked.now a.records.now a.input.now a.out.now s) c.in-Err.field-0 c.put_count.new.self
    (sym c.in-Err.ensures) (c.put_count.ensures.text ∙ ap (λ (n : ℕ). a.out.now ++ count_text tape_word n) c.offset.ensures)

pub returns-in-Ok-Some-clause-result_after : goal.returns-in-Ok-Some-clause-result_after
returns-in-Ok-Some-clause-result_after c = λ s.
    let a = c.args in
    let p = c.play-played in
    let from = run_of a.words.now a.bitmap.now a.kernel.now a.user.now a.marked.now a.records.now a.input.now a.out.now s in
    let board = board_of p.new.words p.new.bitmap p.new.kernel p.new.user p.new.marked p.result.records in
    let text = c.put_line.new.self in
    ap (λ (l : Left). run l.bytes l.offset board text Going) (c.take.ensures ∙ ap (λ (n : ℕ). taken n a.input.now) c.size.ensures)
    ∙ step_read from c.in-Ok-Some.call (turn (number_of p.result.kind) p.result.line board) text (sym c.in-Ok-Some.ensures ∙ ap Ok c.in-Ok-Some.field-0-is) p.ensures.records_after (c.put_line.ensures.text ∙ ap (λ (n : ℕ). a.out.now ++ line_text n p.result.line) (c.from.ensures ∙ c.number.ensures))
