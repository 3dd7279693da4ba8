-- The slots from the place on move up, the last one first.
use Rattle.std.proofs.Common.{rules, ◌≡◌, ◌<◌, ◌∙◌, ◌+◌, ◌-◌, refl, length, arith}
use Rattle.slots.proofs.Turns.{up_first, up_turn, up_stored}
use Rattle.slots.proofs.put_in.Goals as goal

pub loop-i-init : goal.loop-i-init
loop-i-init g c =
    let l = g.L.SlotList in
    (omega (arith, c.count-count.ensures, c.requires.bounds.0), omega arith, c.requires.fits, up_first l.blank (l.slots_in c.args.list.now) c.count-count.result, search rules)

pub loop-i-preserved : goal.loop-i-preserved
loop-i-preserved g c =
    let l = g.L.SlotList in
    let s = l.slots_in c.args.list.now in
    let small : c.count-count.result < length s.slots = omega (arith, c.count-count.ensures, c.requires.bounds.1, g.met.L.SlotList.long c.args.list.now) in
    let at : c.loop-i.i - 1 + 1 ≡ c.loop-i.i = omega (arith, c.loop-i-test.true) in (
      omega (arith, c.loop-i-test.true),
      omega (arith, c.loop-i.invariant.1),
      c.move_slot.ensures.0,
      up_turn l.blank s c.loop-i.i c.count-count.result (omega (arith, c.loop-i-test.true)) c.loop-i.invariant.1 small (l.slots_in c.loop-i.list) (l.slots_in c.move_slot.new.list) _
          c.loop-i.invariant.3 refl (rw at at c.move_slot.ensures.1),
      c.move_slot.ensures.2 ∙ c.loop-i.invariant.4,
    )

pub returns : goal.returns
returns g c =
    let l = g.L.SlotList in
    let s = l.slots_in c.args.list.now in
    let n = c.count-count in (
      c.put_count.ensures.0,
      up_stored l.blank s n.result c.loop-i.i c.args.at n.ensures c.args.slot (omega (arith, c.loop-i-test.false, c.loop-i.invariant.0)) (omega (arith, n.ensures, c.requires.bounds.0))
          (omega (arith, n.ensures, c.requires.bounds.1, g.met.L.SlotList.long c.args.list.now)) c.loop-i.invariant.3 c.put.ensures.1 c.put_count.ensures.1,
      c.put_count.ensures.2 ∙ c.put.ensures.2 ∙ c.loop-i.invariant.4,
    )
