-- `take_frame`: the lowest number that is not marked is free.
use Rattle.std.proofs.Common.{◌+◌, arith}
use Rattle.frame.proofs.Laws.{take_none, lowest_free, inside_yes}
use mathlib.Core.Path.{sym}
use Rattle.frame.proofs.inner.take_frame.Goals as goal

pub mark_slot-requires-clause-i_value : goal.mark_slot-requires-clause-i_value
mark_slot-requires-clause-i_value c = lowest_free _ _ _ c.in-Some.ensures.0 c.in-Some.ensures.1

pub returns-clause-lent : goal.returns-clause-lent
returns-clause-lent c = inside_yes c.args.frames.now.start c.args.frames.now.total (c.args.frames.now.start + c.in-Some.i) (omega arith) (omega (arith, c.in-Some.ensures.1))
