use Rattle.std.proofs.Common.{rules}
use mathlib.Core.Path.{refl, sym}
use lib.ListN.{length-set}
use Rattle.paging.proofs.Map.{clear_none, clear_more}
use Rattle.tables.proofs.zero_frame.Goals as goal

pub loop-i-init : goal.loop-i-init
loop-i-init c =
    (search rules, sym (clear_none _ _), refl)

pub loop-i-preserved : goal.loop-i-preserved
loop-i-preserved c =
    (search rules, rw (clear_more, ← c.loop-i.invariant.1), simp length-set c.loop-i.invariant.2)
