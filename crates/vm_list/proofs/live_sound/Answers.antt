-- `live_sound`: one region after the other.
use Rattle.std.proofs.Common.{rules, ◌-◌, ◌≤◌, ◌<◌, length, drop, ℕ, ◌+◌, ◌*◌, Bool, List}
use Rattle.bits.specs.Bit.{both}
use Rattle.regions.specs.Regions.{no_vm_region, well_placed_vm}
use Rattle.vm_list.specs.Packed.{used_is_flag, vm_in}
use mathlib.Core.Path.{sym, ◌∙◌, ap, ap₂, subst}
use native.Mathlib.Omega.{arith}
use borrow.Author.Tests.{le-leb, lt-leb}
use Rattle.frame.proofs.Laws.{passed, failed}
use Rattle.slots.proofs.Slices.{passing_on, passing_stop, passing_end}
use Rattle.vm_list.proofs.RoundTrip.{enough}
use Rattle.vm_list.proofs.Places.{flags_next, flags_done, none_right, none_left}
use Rattle.vm_list.proofs.live_sound.Goals as goal

pub returns-then-word_at-gt1 : goal.returns-then-word_at-gt1
returns-then-word_at-gt1 c =
    none_left _ _
    (c.loop-i.invariant.1 ∙ flags_next c.args.n c.loop-i.i c.args.list.now c.loop-i-test.true
    ∙ ap (λ (x : Bool). both x (used_is_flag (c.args.n - (c.loop-i.i + 1)) (drop ((c.loop-i.i + 1) * 24 + 8) c.args.list.now))) (lt-leb _ _ (subst (λ (n : ℕ). 1 < n) c.word_at.ensures c.if-word_at-gt1.true)))

pub returns-then-not-is_well_placed : goal.returns-then-not-is_well_placed
returns-then-not-is_well_placed c =
    none_right (used_is_flag c.args.n (drop 8 c.args.list.now)) _
    (passing_stop no_vm_region _ _ (enough c.args.list.now c.args.n c.requires.n_bound) well_placed_vm _ c.loop-i.invariant.0 (search rules)
    (ap well_placed_vm (sym c.slot-r.ensures) ∙ failed c.is_well_placed.ensures c.if-not-is_well_placed.true))

pub loop-i-preserved : goal.loop-i-preserved
loop-i-preserved c = (
  passing_on no_vm_region _ _ (enough c.args.list.now c.args.n c.requires.n_bound) well_placed_vm _ c.loop-i.invariant.0 (search rules)
      (ap well_placed_vm (sym c.slot-r.ensures) ∙ passed c.is_well_placed.ensures c.if-not-is_well_placed.false),
  c.loop-i.invariant.1 ∙ flags_next c.args.n c.loop-i.i c.args.list.now c.loop-i-test.true
      ∙ ap (λ (x : Bool). both x (used_is_flag (c.args.n - (c.loop-i.i + 1)) (drop ((c.loop-i.i + 1) * 24 + 8) c.args.list.now))) (le-leb _ _ (subst (λ (n : ℕ). n ≤ 1) c.word_at.ensures c.if-word_at-gt1.false)),
)

pub returns : goal.returns
returns c =
    ap₂ both (sym (c.loop-i.invariant.1 ∙ flags_done c.args.n c.loop-i.i _ c.loop-i-test.false))
    (passing_end no_vm_region _ _ (enough c.args.list.now c.args.n c.requires.n_bound) well_placed_vm _ c.loop-i.invariant.0 c.loop-i-test.false)
