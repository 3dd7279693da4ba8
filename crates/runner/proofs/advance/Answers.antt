-- Bytes read, text written, and a step where there is one to make.
use Rattle.std.proofs.Common.{◌≡◌, ◌≤◌, ◌<◌, ℕ, refl, ap, sym, ◌∙◌, subst}
use Rattle.std.specs.Prelude.{Ok}
use Rattle.std.specs.Result.{is_ok}
use Rattle.board.specs.Packed.{board_of}
use Rattle.streams.specs.declared.Source.{Source}
use Rattle.streams.specs.Streams.{readable}
use Rattle.turn.specs.Run.{Stage, Going, TooLong, goes, run_of}
use Rattle.runner.specs.declared.error.RunError.TheVariants.{ReadFailed, WriteFailed}
use Rattle.runner.specs.Ends.{stage_of_turn}
use Rattle.runner.specs.Loop.{TurnedBy}
use Rattle.runner.proofs.Steps.{by_stop, by_step, stopped_at, is_false, stage_unread, stage_unwritten, stage_long, stage_going}
use Rattle.runner.proofs.advance.Goals as goal

pub returns-in_err-read-clause-turned_by : goal.returns-in_err-read-clause-turned_by
returns-in_err-read-clause-turned_by g c =
    let a = c.args in
    let rf = c.refill-read in
    let fl = c.flush-written in
    let b = board_of a.words.now a.bitmap.now a.kernel.now a.user.now a.marked.now a.records.now in
    let at = stopped_at c.from_residual.result ReadFailed c.from_residual.ensures in
    by_stop a.input.now rf.new.self b a.out.now fl.new.out fl.result _ _ _ _ rf.ensures.refilled fl.ensures.text rf.ensures.kept rf.ensures.end fl.ensures.kept
    (stage_of_turn c.from_residual.result)
    (at ∙ stage_unread (readable rf.new.self.source) (is_ok fl.result) rf.new.self.offset (is_false _ c.in_err-read.ensures.variant.1)) (ap goes at)

pub returns-in_err-written-clause-turned_by : goal.returns-in_err-written-clause-turned_by
returns-in_err-written-clause-turned_by g c =
    let a = c.args in
    let rf = c.refill-read in
    let fl = c.flush-written in
    let b = board_of a.words.now a.bitmap.now a.kernel.now a.user.now a.marked.now a.records.now in
    let at = stopped_at c.from_residual-in_err-written.result WriteFailed c.from_residual-in_err-written.ensures in
    by_stop a.input.now rf.new.self b a.out.now fl.new.out fl.result _ _ _ _ rf.ensures.refilled fl.ensures.text rf.ensures.kept rf.ensures.end fl.ensures.kept
    (stage_of_turn c.from_residual-in_err-written.result)
    (at ∙ stage_unwritten (readable rf.new.self.source) (is_ok fl.result) rf.new.self.offset (c.in_ok-read.ensures.variant.0 refl) (ap is_ok c.in_err-written.was)) (ap goes at)

pub returns-then-offset-gt-MOST-clause-turned_by : goal.returns-then-offset-gt-MOST-clause-turned_by
returns-then-offset-gt-MOST-clause-turned_by g c =
    let a = c.args in
    let rf = c.refill-read in
    let fl = c.flush-written in
    let b = board_of a.words.now a.bitmap.now a.kernel.now a.user.now a.marked.now a.records.now in
    let far : 9223372036854775808 < rf.new.self.offset = subst (λ (n : ℕ). 9223372036854775808 < n) c.offset.ensures c.if-offset-gt-MOST.true in
    by_stop a.input.now rf.new.self b a.out.now fl.new.out fl.result _ _ _ _ rf.ensures.refilled fl.ensures.text rf.ensures.kept rf.ensures.end fl.ensures.kept TooLong
    (stage_long (readable rf.new.self.source) (is_ok fl.result) rf.new.self.offset (c.in_ok-read.ensures.variant.0 refl) (ap is_ok c.in_ok-written.was) far) refl

pub returns-clause-turned_by : goal.returns-clause-turned_by
returns-clause-turned_by g c =
    let a = c.args in
    let rf = c.refill-read in
    let fl = c.flush-written in
    let p = c.play_next in
    let b = board_of a.words.now a.bitmap.now a.kernel.now a.user.now a.marked.now a.records.now in
    let near : rf.new.self.offset ≤ 9223372036854775808 = subst (λ (n : ℕ). n ≤ 9223372036854775808) c.offset.ensures c.if-offset-gt-MOST.false in
    let before = run_of a.words.now a.bitmap.now a.kernel.now a.user.now a.marked.now a.records.now a.input.now a.out.now Going in
    let after = run_of p.new.words p.new.bitmap p.new.kernel p.new.user p.new.marked p.new.records p.new.input p.new.out (stage_of_turn (Ok p.result)) in
    subst
    (λ (t : Source).
    TurnedBy a.input.now.source before t after (g.R.Read.remaining a.reader.now) (g.R.Read.remaining rf.new.reader) (g.W.Write.contents a.writer.now) (g.W.Write.contents fl.new.writer))
    (sym p.ensures.source_value)
    (by_step a.input.now rf.new.self b a.out.now fl.new.out fl.result _ _ _ _ rf.ensures.refilled fl.ensures.text rf.ensures.kept rf.ensures.end fl.ensures.kept after
    (stage_going (readable rf.new.self.source) (is_ok fl.result) rf.new.self.offset (c.in_ok-read.ensures.variant.0 refl) (ap is_ok c.in_ok-written.was) near) (p.ensures.result_after Going))
