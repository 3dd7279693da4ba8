-- One last table a turn.
use Rattle.std.proofs.Common.{◌+◌, ◌*◌}
use mathlib.Core.Path.{sym, ◌∙◌}
use native.Mathlib.Omega.{arith}
use Rattle.spans.specs.Spans.{to_end}
use Rattle.protecting.proofs.Leaves.{run_none, run_part, Part, part_of}
use Rattle.protecting.proofs.Below.{last_none, last_there}
use Rattle.protecting.proofs.protect_run.Goals as goal
use Rattle.protecting.proofs.protect_run.Goals.{in-Err, in-Ok}

pub loop-done-init : goal.loop-done-init
loop-done-init c =
    (omega arith, sym (run_none c.args.up c.args.writable c.args.words.now c.args.start c.args.total c.args.root.0 c.args.virt.0))

pub loop-done-preserved : goal.loop-done-preserved
loop-done-preserved c =
    let at = c.args.virt.0 + c.loop-done.done * 4096 in
    let p : Part c.loop-done.done c.args.n (to_end 1 at) c.at_most-part.result =
    part_of 1 at c.loop-done.done c.args.n c.loop-done-test.true c.to_end.ensures c.at_most-part.ensures in (
      p.fit,
      run_part c.args.up c.args.writable c.args.words.now c.args.start c.args.total c.args.root.0 c.args.virt.0 c.loop-done.done c.at_most-part.result c.loop-done.invariant.1
          (elim c.match-find_table.branch [
            | in-Err w ↦
                w.words-is
                ∙ sym (last_none c.args.writable c.loop-done.words c.args.start c.args.total c.args.up c.args.root.0 at c.at_most-part.result p.span _ (sym c.find_table.ensures ∙ w.in-Err.is))
            | in-Ok w ↦
                w.words-is ∙ w.protect_leaves.ensures
                ∙ sym (last_there c.args.writable c.loop-done.words c.args.start c.args.total c.args.up c.args.root.0 at c.at_most-part.result p.span _ (sym c.find_table.ensures ∙ w.in-Ok.is))
          ]),
    )
