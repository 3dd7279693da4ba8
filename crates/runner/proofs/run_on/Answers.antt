-- `run_on`: a turn keeps the invariant, and raises the offset; where the loop ends, the run of the whole tape stands.
use Rattle.std.proofs.Common.{◌≡◌, ◌≤◌, List, [], ℕ, refl, sym, ◌∙◌, ap, subst, arith}
use Rattle.board.specs.Packed.{board_of}
use Rattle.streams.specs.declared.Source.TheVariants.{Open}
use Rattle.streams.specs.Streams.{Left}
use Rattle.turn.specs.Run.{Stage, Going, Ended, goes, Run, run, run_of, stage_behind}
use Rattle.runner.specs.Ends.{stage_stopped}
use Rattle.runner.specs.Loop.{Ran, LoopEndBy}
use Rattle.runner.proofs.Steps.{run_stopped_at, goes_on, ends}
use Rattle.runner.proofs.Whole.{Held, HeldBy, held_none, held_turn, held_ran, held_by_none, held_by_turn, held_by_ran, further}
use Rattle.runner.proofs.run_on.Goals as goal

pub loop-flow-init : goal.loop-flow-init
loop-flow-init g c =
    let a = c.args in
    let b = board_of a.words.now a.bitmap.now a.kernel.now a.user.now a.marked.now a.records.now in
    let tape = g.R.Read.remaining a.reader.now in
    let key = g.W.Write.contents a.writer.now in
    let at_start = subst (λ (t : List ℕ). Held b Open (run [] 0 b t Going)) (sym c.requires.fresh_out) (held_none b) in
    let by_start = subst (λ (t : List ℕ). HeldBy b Open (run [] 0 b t Going) tape tape key key) (sym c.requires.fresh_out) (held_by_none b tape key) in
    record {
      offset = omega (arith, ap (λ (l : Left). l.offset) c.requires.fresh_input);
      lists = c.requires.marked_value;
      held = subst (λ (l : Left). Held b l.source (run l.bytes l.offset b a.out.now Going)) (sym c.requires.fresh_input) at_start;
      held_by = subst (λ (l : Left). HeldBy b l.source (run l.bytes l.offset b a.out.now Going) tape tape key key) (sym c.requires.fresh_input) by_start;
    }

pub loop-flow-smaller : goal.loop-flow-smaller
loop-flow-smaller g c =
    let l = c.loop-flow in
    let n = c.advance.new in
    let now = run_of l.words l.bitmap l.kernel l.user l.marked l.records l.input l.out Going in
    let after = run_of n.words n.bitmap n.kernel n.user n.marked n.records n.input n.out (stage_behind c.in_ok-flow.flow) in
    let going = goes_on c.in_ok-flow.flow (sym c.is_break.ensures ∙ c.if-is_break.false) in
    let f = further l.input.source n.input.source now after c.in_ok-flow.ensures.turned_by.turned l.invariant.offset in
    omega (arith, f.1, f.2 (ap goes going))

pub loop-flow-preserved : goal.loop-flow-preserved
loop-flow-preserved g c =
    let a = c.args in
    let l = c.loop-flow in
    let n = c.advance.new in
    let u = c.in_ok-flow.ensures.turned_by in
    let b = board_of a.words.now a.bitmap.now a.kernel.now a.user.now a.marked.now a.records.now in
    let now = run_of l.words l.bitmap l.kernel l.user l.marked l.records l.input l.out Going in
    let stands : Stage → Run = λ s. run_of n.words n.bitmap n.kernel n.user n.marked n.records n.input n.out s in
    let after = stands (stage_behind c.in_ok-flow.flow) in
    let going = goes_on c.in_ok-flow.flow (sym c.is_break.ensures ∙ c.if-is_break.false) in
    record {
      offset = (further l.input.source n.input.source now after u.turned l.invariant.offset).1;
      lists = c.in_ok-flow.ensures.marked_after;
      held = subst (λ (s : Stage). Held b n.input.source (stands s)) going (held_turn b l.input.source n.input.source now after l.invariant.held refl u.turned);
      held_by =
          subst
          (λ (s : Stage).
          HeldBy b n.input.source (stands s) (g.R.Read.remaining a.reader.now) (g.R.Read.remaining n.reader) (g.W.Write.contents a.writer.now) (g.W.Write.contents n.writer))
          going (held_by_turn b l.input.source n.input.source now after _ _ _ _ _ _ l.invariant.held_by refl u);
    }

pub returns-in_err-flow-clause-loop_end : goal.returns-in_err-flow-clause-loop_end
returns-in_err-flow-clause-loop_end g c =
    let a = c.args in
    let l = c.loop-flow in
    let n = c.advance.new in
    let b = board_of a.words.now a.bitmap.now a.kernel.now a.user.now a.marked.now a.records.now in
    let now = run_of l.words l.bitmap l.kernel l.user l.marked l.records l.input l.out Going in
    let stands : Stage → Run = λ s. run_of n.words n.bitmap n.kernel n.user n.marked n.records n.input n.out s in
    let after = stands (stage_stopped c.in_err-flow.field-0.0) in
    subst (λ (s : Stage). Ran b (stands s)) (sym (run_stopped_at c.from_residual.result c.in_err-flow.field-0.0 c.from_residual.ensures))
    (held_ran b n.input.source after (held_turn b l.input.source n.input.source now after l.invariant.held refl c.in_err-flow.ensures.turned_by.turned))

pub returns-in_err-flow-clause-loop_end_by : goal.returns-in_err-flow-clause-loop_end_by
returns-in_err-flow-clause-loop_end_by g c =
    let a = c.args in
    let l = c.loop-flow in
    let n = c.advance.new in
    let b = board_of a.words.now a.bitmap.now a.kernel.now a.user.now a.marked.now a.records.now in
    let now = run_of l.words l.bitmap l.kernel l.user l.marked l.records l.input l.out Going in
    let stands : Stage → Run = λ s. run_of n.words n.bitmap n.kernel n.user n.marked n.records n.input n.out s in
    let after = stands (stage_stopped c.in_err-flow.field-0.0) in
    subst
    (λ (s : Stage). LoopEndBy b (g.R.Read.remaining a.reader.now) (g.R.Read.remaining n.reader) (g.W.Write.contents a.writer.now) (g.W.Write.contents n.writer) (stands s))
    (sym (run_stopped_at c.from_residual.result c.in_err-flow.field-0.0 c.from_residual.ensures))
    (held_by_ran b n.input.source after _ _ _ _ (held_by_turn b l.input.source n.input.source now after _ _ _ _ _ _ l.invariant.held_by refl c.in_err-flow.ensures.turned_by))

pub returns-then-is_break-clause-loop_end : goal.returns-then-is_break-clause-loop_end
returns-then-is_break-clause-loop_end g c =
    let a = c.args in
    let l = c.loop-flow in
    let n = c.advance.new in
    let b = board_of a.words.now a.bitmap.now a.kernel.now a.user.now a.marked.now a.records.now in
    let now = run_of l.words l.bitmap l.kernel l.user l.marked l.records l.input l.out Going in
    let stands : Stage → Run = λ s. run_of n.words n.bitmap n.kernel n.user n.marked n.records n.input n.out s in
    let after = stands (stage_behind c.in_ok-flow.flow) in
    subst (λ (s : Stage). Ran b (stands s)) (ends c.in_ok-flow.flow (sym c.is_break.ensures ∙ c.if-is_break.true))
    (held_ran b n.input.source after (held_turn b l.input.source n.input.source now after l.invariant.held refl c.in_ok-flow.ensures.turned_by.turned))

pub returns-then-is_break-clause-loop_end_by : goal.returns-then-is_break-clause-loop_end_by
returns-then-is_break-clause-loop_end_by g c =
    let a = c.args in
    let l = c.loop-flow in
    let n = c.advance.new in
    let b = board_of a.words.now a.bitmap.now a.kernel.now a.user.now a.marked.now a.records.now in
    let now = run_of l.words l.bitmap l.kernel l.user l.marked l.records l.input l.out Going in
    let stands : Stage → Run = λ s. run_of n.words n.bitmap n.kernel n.user n.marked n.records n.input n.out s in
    let after = stands (stage_behind c.in_ok-flow.flow) in
    subst
    (λ (s : Stage). LoopEndBy b (g.R.Read.remaining a.reader.now) (g.R.Read.remaining n.reader) (g.W.Write.contents a.writer.now) (g.W.Write.contents n.writer) (stands s))
    (ends c.in_ok-flow.flow (sym c.is_break.ensures ∙ c.if-is_break.true))
    (held_by_ran b n.input.source after _ _ _ _ (held_by_turn b l.input.source n.input.source now after _ _ _ _ _ _ l.invariant.held_by refl c.in_ok-flow.ensures.turned_by))
