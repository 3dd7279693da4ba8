use mathlib.Core.Path.{sym}
use native.Mathlib.Omega.{arith}
use Rattle.bits.proofs.Counter.{onward}
use Rattle.protecting.proofs.Leaves.{run_none, run_next}
use Rattle.protecting.proofs.protect_leaves.Goals as goal

pub loop-i-init : goal.loop-i-init
loop-i-init c =
    (omega arith, sym (run_none 0 c.args.writable c.args.words.now c.args.start c.args.total c.args.t c.args.virt.0))

pub loop-i-preserved : goal.loop-i-preserved
loop-i-preserved c = (
  onward c.loop-i.i c.args.n c.loop-i-test.true,
  run_next 0 c.args.writable c.args.words.now c.args.start c.args.total c.args.t c.args.virt.0 c.loop-i.i c.loop-i.invariant.1 c.protect_leaf.ensures,
)
