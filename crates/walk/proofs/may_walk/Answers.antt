-- `may_walk`: the walk's test, then the number of levels.
use Rattle.std.proofs.Common.{◌≡◌, true, ℕ, Bool, false}
use Rattle.paging.specs.Walk.{may_walk}
use Rattle.paging.specs.Calls.{lent_walk}
use Rattle.frame.specs.Frames.{is_levels}
use mathlib.Core.Path.{refl, sym, ◌∙◌}
use Rattle.bits.specs.Bit.{both}
use Rattle.frame.proofs.Laws.{passed, failed}
use Rattle.paging.proofs.Calls.{walk_other, walk_by_lent}
use Rattle.walk.proofs.may_walk.Goals as goal

swapped : (levels len start total root : ℕ) (a b : Bool) → may_walk len start total root ≡ a → is_levels levels ≡ b → lent_walk levels len start total root ≡ both a b
swapped levels len start total root true true h e = walk_by_lent levels len start total root e ∙ h
swapped levels len start total root false true h e = walk_by_lent levels len start total root e ∙ h
swapped levels len start total root true false h e = walk_other levels len start total root e
swapped levels len start total root false false h e = walk_other levels len start total root e

pub returns-then-not-is_lent : goal.returns-then-not-is_lent
returns-then-not-is_lent c =
    sym (swapped _ _ _ _ _ false _ (failed c.is_lent.ensures c.if-not-is_lent.true) refl)

pub returns : goal.returns
returns c =
    sym (swapped _ _ _ _ _ true _ (passed c.is_lent.ensures c.if-not-is_lent.false) (sym c.is_levels.ensures))
