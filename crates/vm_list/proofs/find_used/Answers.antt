-- `find_used`: one region after the other.
use Rattle.std.proofs.Common.{rules, ◌≤◌, length, ℕ, List}
use Rattle.regions.specs.Regions.{no_vm_region}
use Rattle.regions.specs.List.{used_at}
use Rattle.vm_list.specs.Packed.{vm_in}
use mathlib.Core.Path.{sym, ◌∙◌, ap}
use native.Mathlib.Omega.{arith}
use Rattle.slots.proofs.Slices.{seeking_on, seeking_here, seeking_end}
use Rattle.vm_list.proofs.RoundTrip.{enough}
use Rattle.vm_list.proofs.find_used.Goals as goal

pub returns-then-is_used_at : goal.returns-then-is_used_at
returns-then-is_used_at c = (
  seeking_here no_vm_region _ _ (enough c.args.list.now c.args.n c.requires.n_bound) (used_at _) _ c.loop-i.invariant (search rules)
      (ap (used_at c.args.addr) (sym c.slot.ensures) ∙ sym c.is_used_at.ensures ∙ c.if-is_used_at.true),
  c.loop-i-test.true,
)

pub loop-i-preserved : goal.loop-i-preserved
loop-i-preserved c =
    seeking_on no_vm_region _ _ (enough c.args.list.now c.args.n c.requires.n_bound) (used_at _) _ c.loop-i.invariant (search rules)
    (ap (used_at c.args.addr) (sym c.slot.ensures) ∙ sym c.is_used_at.ensures ∙ c.if-is_used_at.false)

pub returns : goal.returns
returns c =
    sym (seeking_end no_vm_region _ _ (enough c.args.list.now c.args.n c.requires.n_bound) (used_at _) _ c.loop-i.invariant c.loop-i-test.false)
