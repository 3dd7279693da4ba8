-- The slots behind the place move down.
use Rattle.std.proofs.Common.{◌∙◌, ◌-◌, refl, ap, set, arith}
use Rattle.slots.specs.Slots.{slotted}
use Rattle.slots.proofs.Turns.{down_turn, down_stored}
use Rattle.slots.proofs.take_out.Goals as goal

pub loop-i-preserved : goal.loop-i-preserved
loop-i-preserved g c =
    let l = g.L.SlotList in
    let s = l.slots_in c.args.list.now in (
      omega (arith, c.loop-i.invariant.0),
      omega (arith, c.loop-i-test.true),
      c.move_slot.ensures.0,
      down_turn l.blank s c.args.at c.loop-i.i c.loop-i.invariant.0
          (omega (arith, c.loop-i-test.true, c.count-last.ensures, c.requires.bounds.1, g.met.L.SlotList.long c.args.list.now)) (l.slots_in c.loop-i.list)
          (l.slots_in c.move_slot.new.list) _ c.loop-i.invariant.3 refl c.move_slot.ensures.1,
      c.move_slot.ensures.2 ∙ c.loop-i.invariant.4,
    )

pub returns : goal.returns
returns g c =
    let l = g.L.SlotList in
    let s = l.slots_in c.args.list.now in
    let n = c.count-last in
    let before = l.slots_in c.loop-i.list in
    let blank = c.put.ensures.1 ∙ ap (λ x. slotted (set before.slots (n.result - 1) x) before.count) c.blank.ensures in (
      c.put_count.ensures.0,
      down_stored l.blank s n.result c.loop-i.i c.args.at n.ensures (omega (arith, c.loop-i-test.false, c.loop-i.invariant.1)) (omega (arith, n.ensures, c.requires.bounds.0))
          (omega (arith, n.ensures, c.requires.bounds.1, g.met.L.SlotList.long c.args.list.now)) c.loop-i.invariant.3 blank c.put_count.ensures.1,
      c.put_count.ensures.2 ∙ c.put.ensures.2 ∙ c.loop-i.invariant.4,
    )
