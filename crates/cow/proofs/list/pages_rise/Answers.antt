-- Four pages in a round, each compared with the one before it.
use Rattle.std.proofs.Common.{rules, get_or}
use Rattle.cow.specs.Marked.{page_key}
use Rattle.cow.specs.Packed.{marked_in}
use mathlib.Core.Path.{sym, ◌∙◌}
use native.Mathlib.Omega.{arith}
use Rattle.slots.proofs.Sorted.{rise_first}
use Rattle.cow.proofs.Rises.{page_stops, no_page_left, stops_second, stops_third, stops_fourth, four_rise}
use Rattle.cow.proofs.list.pages_rise.Goals as goal

pub returns-then-n-lt2 : goal.returns-then-n-lt2
returns-then-n-lt2 c =
    let l = (marked_in c.args.list.now).slots in
    sym (rise_first page_key 0 c.args.n l ∙ no_page_left c.args.list.now c.args.n c.requires.n_bound 1 (get_or l 0 0) (omega (arith, c.if-n-lt2.true)))

pub loop-i-init : goal.loop-i-init
loop-i-init c =
    (search rules, search rules, rw c.slot-last.ensures (rise_first page_key 0 c.args.n (marked_in c.args.list.now).slots))

pub returns-then-a-last : goal.returns-then-a-last
returns-then-a-last c =
    sym (c.loop-i.invariant.2 ∙ page_stops c.args.list.now c.args.n c.requires.n_bound c.loop-i.i c.loop-i.last (omega (arith, c.loop-i-test.true))
    (omega (arith, c.slot-a.ensures, c.if-a-last.true)))

pub returns-then-b-a : goal.returns-then-b-a
returns-then-b-a c =
    sym (c.loop-i.invariant.2 ∙ stops_second c.args.list.now c.args.n c.requires.n_bound c.loop-i.i c.loop-i.last c.loop-i-test.true
    (omega (arith, c.slot-a.ensures, c.if-a-last.false))
    (omega (arith, c.slot-a.ensures, c.slot-b.ensures, c.if-b-a.true)))

pub returns-then-c-b : goal.returns-then-c-b
returns-then-c-b c =
    sym (c.loop-i.invariant.2 ∙ stops_third c.args.list.now c.args.n c.requires.n_bound c.loop-i.i c.loop-i.last c.loop-i-test.true
    (omega (arith, c.slot-a.ensures, c.if-a-last.false))
    (omega (arith, c.slot-a.ensures, c.slot-b.ensures, c.if-b-a.false))
    (omega (arith, c.slot-b.ensures, c.slot-c.ensures, c.if-c-b.true)))

pub returns-then-d-c : goal.returns-then-d-c
returns-then-d-c c =
    sym (c.loop-i.invariant.2 ∙ stops_fourth c.args.list.now c.args.n c.requires.n_bound c.loop-i.i c.loop-i.last c.loop-i-test.true
    (omega (arith, c.slot-a.ensures, c.if-a-last.false))
    (omega (arith, c.slot-a.ensures, c.slot-b.ensures, c.if-b-a.false))
    (omega (arith, c.slot-b.ensures, c.slot-c.ensures, c.if-c-b.false))
    (omega (arith, c.slot-c.ensures, c.slot-d.ensures, c.if-d-c.true)))

pub loop-i-preserved : goal.loop-i-preserved
loop-i-preserved c = (
  search rules,
  search rules,
  rw c.slot-d.ensures
      (c.loop-i.invariant.2 ∙ four_rise c.args.list.now c.args.n c.requires.n_bound c.loop-i.i c.loop-i.last c.loop-i-test.true
      (omega (arith, c.slot-a.ensures, c.if-a-last.false))
      (omega (arith, c.slot-a.ensures, c.slot-b.ensures, c.if-b-a.false))
      (omega (arith, c.slot-b.ensures, c.slot-c.ensures, c.if-c-b.false))
      (omega (arith, c.slot-c.ensures, c.slot-d.ensures, c.if-d-c.false))),
)
