-- The slot in the middle tells the half.
use Rattle.std.proofs.Common.{◌<◌, ◌+◌, ◌/◌, arith}
use Rattle.slots.proofs.Search.{place_within, place_after, place_before}
use Rattle.slots.proofs.place_of.Goals as goal

pub loop-low-init : goal.loop-low-init
loop-low-init g c =
    let l = g.L.SlotList in
    let s = l.slots_in c.args.list.now in
    let within = place_within l.blank l.key s c.requires.few (g.met.L.SlotList.long c.args.list.now) c.args.key in
    (omega arith, omega (arith, within, c.count-high.ensures), omega (arith, c.count-high.ensures))

pub loop-low-preserved-then-key : goal.loop-low-preserved-then-key
loop-low-preserved-then-key g c =
    let l = g.L.SlotList in
    let s = l.slots_in c.args.list.now in
    let m = (c.loop-low.low + c.loop-low.high) / 2 in
    let below : m < s.count = omega (arith, c.loop-low-test.true, c.loop-low.invariant.2) in
    let after = place_after l.blank l.key s c.requires.few (g.met.L.SlotList.long c.args.list.now) c.args.key c.requires.rises m below c.slot.ensures
    (omega (arith, c.key.ensures, c.if-key.true)) in
    (omega (arith, after), c.loop-low.invariant.1, c.loop-low.invariant.2)

pub loop-low-preserved : goal.loop-low-preserved
loop-low-preserved g c =
    let l = g.L.SlotList in
    let s = l.slots_in c.args.list.now in
    let m = (c.loop-low.low + c.loop-low.high) / 2 in
    let below : m < s.count = omega (arith, c.loop-low-test.true, c.loop-low.invariant.2) in
    let before = place_before l.blank l.key s c.requires.few (g.met.L.SlotList.long c.args.list.now) c.args.key c.requires.rises m below c.slot.ensures
    (omega (arith, c.key.ensures, c.if-key.false)) in
    (c.loop-low.invariant.0, before, omega (arith, below))
