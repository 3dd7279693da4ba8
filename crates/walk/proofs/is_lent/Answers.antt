-- `is_lent`: the definition's comparisons, one after the other.
use mathlib.Core.Path.{sym, ◌∙◌}
use native.Mathlib.Omega.{arith}
use Rattle.paging.proofs.Walk.{lent_many, lent_short, lent_high, lent_rooted}
use Rattle.walk.proofs.is_lent.Goals as goal

pub returns-then-total-gt-MAX_FRAMES : goal.returns-then-total-gt-MAX_FRAMES
returns-then-total-gt-MAX_FRAMES c =
    sym (lent_many _ _ _ _ c.if-total-gt-MAX_FRAMES.true)

pub returns-then-total-len : goal.returns-then-total-len
returns-then-total-len c =
    sym (lent_short _ _ _ _ c.if-total-gt-MAX_FRAMES.false c.if-total-len.true)

pub returns-then-start-total : goal.returns-then-start-total
returns-then-start-total c =
    sym (lent_high _ _ _ _ c.if-total-gt-MAX_FRAMES.false c.if-total-len.false (omega arith))

pub returns : goal.returns
returns c =
    c.is_inside.ensures ∙ sym (lent_rooted _ _ _ _ c.if-total-gt-MAX_FRAMES.false c.if-total-len.false (omega arith))
