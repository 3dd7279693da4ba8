-- `show_rows`: the loop writes a row at each turn. The invariant is `Written`.
use Rattle.std.proofs.Common.{◌-◌}
use Rattle.working.proofs.Rows.{Written}
use Rattle.working.proofs.show_rows.Given as goal

abbrev pub invariant-loop-at : goal.invariant-loop-at
invariant-loop-at l = Written l.words l.start l.total l.initial.t l.virt.0 l.levels l.out l.t (l.levels - l.at) l.at
