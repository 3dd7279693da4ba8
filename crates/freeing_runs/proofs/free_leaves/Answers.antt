use Rattle.std.proofs.Common.{◌+◌}
use Rattle.paging.specs.Kept.{lent_memory}
use mathlib.Core.Path.{sym, ◌∙◌}
use native.Mathlib.Omega.{arith}
use Rattle.paging.proofs.Found.{tells_on, tells_few}
use Rattle.bits.proofs.Counter.{onward}
use Rattle.freeing_runs.proofs.Leaves.{leaf_left, leaves_on, leaves_end}
use Rattle.freeing_runs.proofs.free_leaves.Goals as goal

pub and-found-requires : goal.and-found-requires
and-found-requires c =
    omega (arith, tells_few c.loop-j.invariant.4 c.requires.room_to_take.held.few, tells_few c.free_leaf-leaf.ensures.tells c.loop-j.invariant.2.held.few)

pub loop-j-preserved : goal.loop-j-preserved
loop-j-preserved c = (
  onward c.loop-j.j c.args.n c.loop-j-test.true,
  c.free_leaf-leaf.auto.words ∙ c.loop-j.invariant.1,
  leaf_left (lent_memory c.loop-j.words c.loop-j.bitmap c.loop-j.left) c.args.t (c.args.i + c.loop-j.j) c.free_leaf-leaf.ensures.frames_after c.loop-j.invariant.2,
  c.loop-j.invariant.3
      ∙ leaves_on c.args.t c.args.i c.loop-j.j c.args.n c.loop-j-test.true (lent_memory c.loop-j.words c.loop-j.bitmap c.loop-j.left)
      (lent_memory c.free_leaf-leaf.new.words c.free_leaf-leaf.new.bitmap c.free_leaf-leaf.result.frames) c.free_leaf-leaf.ensures.frames_after,
  tells_on c.loop-j.invariant.4 c.free_leaf-leaf.ensures.tells c.and-found.ensures,
)

pub returns-clause-frames_after : goal.returns-clause-frames_after
returns-clause-frames_after c =
    sym (c.loop-j.invariant.3 ∙ leaves_end _ _ _ _ c.loop-j-test.false _)
