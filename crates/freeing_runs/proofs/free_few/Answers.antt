use Rattle.std.proofs.Common.{◌+◌, ◌*◌}
use Rattle.paging.specs.Found.{Tells}
use Rattle.paging.specs.Kept.{lent_memory}
use mathlib.Core.Path.{sym, ◌∙◌}
use native.Mathlib.Omega.{arith}
use Rattle.paging.proofs.Found.{tells_on, tells_few, page_told, pages_found_lem}
use Rattle.bits.proofs.Counter.{onward}
use Rattle.freeing_runs.proofs.Steps.{free_end, one_page, span_on, span_roomy}
use Rattle.freeing_runs.proofs.free_few.Goals as goal

pub and-found-requires : goal.and-found-requires
and-found-requires c =
    let told : Tells (lent_memory c.loop-i.words c.loop-i.bitmap c.loop-i.left) (lent_memory c.free_page-page.new.words c.free_page-page.new.bitmap c.free_page-page.result.frames) c.free_page-page.result.found = page_told c.args.up (lent_memory c.loop-i.words c.loop-i.bitmap c.loop-i.left) c.args.root.0 (c.args.virt.0 + c.loop-i.i * 4096) c.free_page-page.ensures.frames_after c.free_page-page.ensures.found_value in
    omega (arith, tells_few c.loop-i.invariant.4 c.requires.room_to_take.held.few, tells_few (told) c.loop-i.invariant.2.held.few)

pub loop-i-preserved : goal.loop-i-preserved
loop-i-preserved c =
    let told : Tells (lent_memory c.loop-i.words c.loop-i.bitmap c.loop-i.left) (lent_memory c.free_page-page.new.words c.free_page-page.new.bitmap c.free_page-page.result.frames) c.free_page-page.result.found = page_told c.args.up (lent_memory c.loop-i.words c.loop-i.bitmap c.loop-i.left) c.args.root.0 (c.args.virt.0 + c.loop-i.i * 4096) c.free_page-page.ensures.frames_after c.free_page-page.ensures.found_value in
    let m = lent_memory c.loop-i.words c.loop-i.bitmap c.loop-i.left in
    let v = c.args.virt.0 + c.loop-i.i * 4096 in
    let e = c.free_page-page.ensures.frames_after ∙ one_page c.args.up m c.args.root.0 v in (
      onward c.loop-i.i c.args.n c.loop-i-test.true,
      c.free_page-page.auto.words ∙ c.loop-i.invariant.1,
      span_roomy c.args.up m c.args.root.0 v 1 e c.loop-i.invariant.2,
      c.loop-i.invariant.3
          ∙ span_on c.args.up c.args.root.0 c.args.virt.0 c.args.n c.loop-i.i 1 m (lent_memory c.free_page-page.new.words c.free_page-page.new.bitmap c.free_page-page.result.frames)
          (omega (arith, c.loop-i-test.true)) c.loop-i.invariant.0 e,
      tells_on c.loop-i.invariant.4 (told) c.and-found.ensures,
    )

pub returns-clause-frames_after : goal.returns-clause-frames_after
returns-clause-frames_after c =
    let e = sym
    (c.loop-i.invariant.3 ∙ free_end c.args.root.0 (c.args.virt.0 + c.loop-i.i * 4096) c.loop-i.i c.args.n c.loop-i-test.false
    (lent_memory c.loop-i.words c.loop-i.bitmap c.loop-i.left) c.args.up) in e

pub returns-clause-found_value : goal.returns-clause-found_value
returns-clause-found_value c =
    let e = sym
    (c.loop-i.invariant.3 ∙ free_end c.args.root.0 (c.args.virt.0 + c.loop-i.i * 4096) c.loop-i.i c.args.n c.loop-i-test.false
    (lent_memory c.loop-i.words c.loop-i.bitmap c.loop-i.left) c.args.up) in pages_found_lem c.args.up c.args.root.0 c.args.n (lent_memory c.args.words.now c.args.bitmap.now c.args.frames) c.args.virt.0 e c.loop-i.invariant.4
