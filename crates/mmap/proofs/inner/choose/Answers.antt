-- `choose`: the search, the fixed address, or the hint.
use Rattle.std.specs.Prelude.{Option, ℕ}
use Rattle.std.proofs.Common.{◌≡◌, w32, to_z, of_z}
use Rattle.user_space.specs.Packed.{user_in}
use Rattle.mmap.specs.Calls.{chosen}
use mathlib.Core.Path.{sym, ◌∙◌, ap}
use mir.Facts.{to_z-of_z}
use Rattle.user_space.specs.Flags.{fixed}
use Rattle.mmap.proofs.Steps.{chosen_any, chosen_fixed, chosen_hint}
use Rattle.mmap.proofs.inner.choose.Goals as goal

pub returns-then-is_fixed : goal.returns-then-is_fixed
returns-then-is_fixed c m =
    let same : fixed (to_z w32 (of_z w32 c.args.flags)) ≡ fixed c.args.flags = ap fixed (to_z-of_z c.ranges.flags) in
    c.fixed_at.ensures ∙ sym (chosen_fixed (user_in m c.args.list.now) c.args.n c.args.flags _
    (sym (same) ∙ sym c.is_fixed.ensures ∙ c.if-is_fixed.true))
    ∙ ap (λ (x : Option ℕ). chosen (user_in m c.args.list.now) x c.args.n c.args.flags) (sym c.in-Some.is)

pub returns-in-None : goal.returns-in-None
returns-in-None c m =
    c.search.ensures ∙ sym (chosen_any (user_in m c.args.list.now) c.args.n c.args.flags)
    ∙ ap (λ (x : Option ℕ). chosen (user_in m c.args.list.now) x c.args.n c.args.flags) (sym c.in-None.is)

pub returns-else-is_fixed : goal.returns-else-is_fixed
returns-else-is_fixed c m =
    let same : fixed (to_z w32 (of_z w32 c.args.flags)) ≡ fixed c.args.flags = ap fixed (to_z-of_z c.ranges.flags) in
    c.hinted_at.ensures ∙ sym (chosen_hint (user_in m c.args.list.now) c.args.n c.args.flags _
    (sym (same) ∙ sym c.is_fixed.ensures ∙ c.if-is_fixed.false))
    ∙ ap (λ (x : Option ℕ). chosen (user_in m c.args.list.now) x c.args.n c.args.flags) (sym c.in-Some.is)
