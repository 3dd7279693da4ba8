use Rattle.std.specs.Prelude.{Ok}
use Rattle.std.proofs.Common.{◌≡◌, ◌+◌, ◌*◌}
use Rattle.paging.specs.Pages.{ran}
use Rattle.paging.specs.Kept.{lent_memory}
use mathlib.Core.Path.{sym, ◌∙◌}
use native.Mathlib.Omega.{arith}
use Rattle.bits.proofs.Counter.{onward}
use Rattle.pages.proofs.Laws.{turn_left, turn_on, turn_stop, run_end}
use Rattle.pages.proofs.map_pages.Goals as goal

pub returns-in-Err : goal.returns-in-Err
returns-in-Err c =
    turn_stop c.args.root.0 c.args.virt.0 c.loop-i.i c.args.n c.loop-i-test.true c.args.up c.args.writable c.args.user (lent_memory c.loop-i.words c.loop-i.bitmap c.loop-i.left)
    (lent_memory c.map_fresh-r.new.words c.map_fresh-r.new.bitmap c.map_fresh-r.result.frames) c.map_fresh-r.ensures c.loop-i.invariant.3 _ c.in-Err.is

pub loop-i-preserved : goal.loop-i-preserved
loop-i-preserved c = (
  onward c.loop-i.i c.args.n c.loop-i-test.true,
  c.map_fresh-r.auto.words ∙ c.loop-i.invariant.1,
  turn_left c.args.root.0 c.args.virt.0 c.loop-i.i c.args.n c.loop-i-test.true c.args.up c.args.writable c.args.user (lent_memory c.loop-i.words c.loop-i.bitmap c.loop-i.left)
      (lent_memory c.map_fresh-r.new.words c.map_fresh-r.new.bitmap c.map_fresh-r.result.frames) c.map_fresh-r.ensures c.requires.up_le_most_above c.loop-i.invariant.2,
  turn_on c.args.root.0 c.args.virt.0 c.loop-i.i c.args.n c.loop-i-test.true c.args.up c.args.writable c.args.user (lent_memory c.loop-i.words c.loop-i.bitmap c.loop-i.left)
      (lent_memory c.map_fresh-r.new.words c.map_fresh-r.new.bitmap c.map_fresh-r.result.frames) c.map_fresh-r.ensures c.loop-i.invariant.3 _ c.in-Ok.is,
)

pub returns : goal.returns
returns c =
    let e : c.loop-i.i ≡ c.args.n = omega (arith, c.loop-i.invariant.0, c.loop-i-test.false) in
    sym
    (c.loop-i.invariant.3
    ∙ run_end c.args.root.0 (c.args.virt.0 + c.loop-i.i * 4096) c.loop-i.i c.args.n c.loop-i-test.false
    (lent_memory c.loop-i.words c.loop-i.bitmap c.loop-i.left) c.args.up c.args.writable
    c.args.user
    ∙ λ j. ran (Ok 0) (e j) (lent_memory c.loop-i.words c.loop-i.bitmap c.loop-i.left))
