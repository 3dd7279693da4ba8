-- The slot at the place has the key, or none has it.
use Rattle.std.proofs.Common.{◌∙◌, sym, arith}
use Rattle.slots.proofs.Search.{found_here, not_here, not_past}
use Rattle.slots.proofs.find.Goals as goal
use Rattle.slots.proofs.find.Goals.{else-at-count-via-then-at-count+else-key, else-at-count-via-else-at-count}

pub returns-then-key : goal.returns-then-key
returns-then-key g c =
    let l = g.L.SlotList in
    found_here l.blank l.key (l.slots_in c.args.list.now) c.requires.few (g.met.L.SlotList.long c.args.list.now) c.args.key c.requires.rises c.place_of-at.result c.place_of-at.ensures
    (omega (arith, c.if-at-count.true, c.count.ensures)) c.slot.ensures (sym c.key.ensures ∙ c.if-key.true)

pub returns : goal.returns
returns g c =
    let l = g.L.SlotList in
    let s = l.slots_in c.args.list.now in
    let long = g.met.L.SlotList.long c.args.list.now in
    elim c.else-at-count.branch [
      | else-at-count-via-then-at-count+else-key w ↦
          not_here l.blank l.key s c.requires.few long c.args.key c.requires.rises c.place_of-at.result c.place_of-at.ensures
          (omega (arith, w.if-at-count.true, c.count.ensures)) w.slot.ensures (λ e. w.if-key.false (w.key.ensures ∙ e))
      | else-at-count-via-else-at-count w ↦
          not_past l.blank l.key s c.requires.few long c.args.key c.requires.rises c.place_of-at.result c.place_of-at.ensures
          (omega (arith, w.if-at-count.false, c.count.ensures))
    ]
