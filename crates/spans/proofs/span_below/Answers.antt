use Rattle.std.specs.Prelude.{Ok}
use Rattle.std.proofs.Common.{rules, ◌≡◌, ◌+◌, ◌≤◌, ◌/◌}
use Rattle.paging.specs.Walk.{reach}
use mathlib.Core.Path.{refl, sym, ◌∙◌}
use native.Mathlib.Omega.{arith}
use lib.ListN.{take, length-set}
use Rattle.frame.proofs.Laws.{passed as test_passed, failed as test_failed}
use Rattle.paging.proofs.Walk.{reach_end}
use Rattle.bits.proofs.Counter.{onward}
use Rattle.tree.proofs.Paths.{path}
use Rattle.walk.proofs.Laws.{named}
use Rattle.spans.proofs.Gaps.{further, gap_absent, gap_outside, gap_root, above_more}
use Rattle.spans.proofs.span_below.Goals as goal

pub returns-then-not-is_inside : goal.returns-then-not-is_inside
returns-then-not-is_inside c =
    gap_root c.args.words.now c.args.start c.args.total c.args.up c.args.root.0 c.args.virt.0 c.to_end.ensures (test_failed c.is_inside.ensures c.if-not-is_inside.true)

pub loop-passed-init : goal.loop-passed-init
loop-passed-init c =
    (search rules, refl, reach_end _ _ _ _ refl, test_passed c.is_inside.ensures c.if-not-is_inside.false, λ k h. absurd (omega arith))

pub returns-in-Err : goal.returns-in-Err
returns-in-Err c =
    gap_absent c.args.words.now c.args.start c.args.total c.args.up c.args.root.0 c.args.virt.0 c.loop-passed.passed c.page_index.ensures.value _ _ c.loop-passed.invariant.0
    c.to_end-in-Err.ensures c.loop-passed.invariant.2
    (sym c.entry_at.ensures ∙ c.in-Err.is)

pub returns-then-not-is_inside-2 : goal.returns-then-not-is_inside-2
returns-then-not-is_inside-2 c =
    let down : reach c.args.words.now c.args.start c.args.total c.args.root.0 (take (c.loop-passed.passed + 1) (path c.args.up c.args.virt.0)) ≡ Ok (c.addr-t.result.0 / 4096) = further c.args.words.now c.args.start c.args.total c.args.up c.args.root.0 c.args.virt.0 c.loop-passed.passed c.page_index.ensures.value c.loop-passed.t _
    c.loop-passed-test.true c.loop-passed.invariant.2
    (sym c.entry_at.ensures ∙ c.in-Ok.is)
    ∙ named _ c.addr-t.ensures in
    let a = c.args in
    gap_outside a.words.now a.start a.total a.up a.root.0 a.virt.0 c.loop-passed.passed _ c.loop-passed-test.true
    c.to_end-then-not-is_inside-2.ensures (down)
    (test_failed c.is_inside-in-loop-passed.ensures c.if-not-is_inside-2.true)

pub loop-passed-preserved : goal.loop-passed-preserved
loop-passed-preserved c =
    let down : reach c.args.words.now c.args.start c.args.total c.args.root.0 (take (c.loop-passed.passed + 1) (path c.args.up c.args.virt.0)) ≡ Ok (c.addr-t.result.0 / 4096) = further c.args.words.now c.args.start c.args.total c.args.up c.args.root.0 c.args.virt.0 c.loop-passed.passed c.page_index.ensures.value c.loop-passed.t _
    c.loop-passed-test.true c.loop-passed.invariant.2
    (sym c.entry_at.ensures ∙ c.in-Ok.is)
    ∙ named _ c.addr-t.ensures in let few : c.args.up ≤ 4 = c.requires.up_le_most_above in
    let a = c.args in (
      onward c.loop-passed.passed _ c.loop-passed-test.true,
      length-set c.loop-passed.above c.loop-passed.passed c.loop-passed.t ∙ c.loop-passed.invariant.1,
      down,
      test_passed c.is_inside-in-loop-passed.ensures c.if-not-is_inside-2.false,
      above_more a.words.now a.start a.total a.up a.root.0 a.virt.0 c.loop-passed.above c.loop-passed.passed c.loop-passed.t
          (omega (arith, c.loop-passed.invariant.1, c.loop-passed-test.true, few)) c.loop-passed.invariant.4 c.loop-passed.invariant.2,
    )
