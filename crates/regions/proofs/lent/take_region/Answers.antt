-- `lent::take_region`: the slots that it steps through are what `store` says.
use Rattle.std.proofs.Common.{◌<◌, nat_lt, sym, ◌∙◌, arith, ltb-true}
use Rattle.bits.proofs.Choice.{both_true}
use Rattle.slots.specs.Slots.{slotted}
use Rattle.regions.proofs.Placed.{placed_at}
use Rattle.regions.proofs.Stored.{whole_steps, split_steps}
use Rattle.regions.proofs.lent.take_region.Goals as goal

pub returns-then-not-keeps_tail : goal.returns-then-not-keeps_tail
returns-then-not-keeps_tail c =
    whole_steps (slotted c.args.regions.now c.args.count) (omega (arith, c.requires.0)) c.args.used c.args.size c.args.i c.requires.2 c.requires.3
    (sym c.keeps_tail.ensures ∙ c.if-not-keeps_tail.true) c.mark.ensures

pub tail-requires : goal.tail-requires
tail-requires c =
    let p = both_true (nat_lt c.args.count 256) _ (sym c.keeps_tail.ensures ∙ c.if-not-keeps_tail.false) in
    let q = placed_at (slotted c.args.regions.now c.args.count) c.requires.1 (omega (arith, c.requires.0)) c.args.i c.requires.3 in
    (omega (arith, ltb-true _ _ p.1), omega (arith, q.end))

pub returns : goal.returns
returns c =
    let e = sym c.keeps_tail.ensures ∙ c.if-not-keeps_tail.false in
    let p = both_true (nat_lt c.args.count 256) _ e in
    let few : c.args.count < 256 = ltb-true _ _ p.0 in
    split_steps (slotted c.args.regions.now c.args.count) (omega (arith, c.requires.0)) c.args.used c.args.size c.args.i c.requires.2 c.requires.3
    (omega (arith, c.requires.0)) e c.tail.ensures c.shift_up.ensures c.mark-2.ensures
