-- `bitmap::marked_run` meets its contract: the zeros at the low end of the complement are the run of ones at the low end of the word.
use Rattle.std.proofs.Common.{rules}
use Rattle.bits.proofs.Counts.{run_below, run_end}
use Rattle.bitmap.proofs.marked_run.Goals as goal

pub returns-clause-below : goal.returns-clause-below
returns-clause-below c =
    run_below 64 c.args.w c.ranges.w.fits

pub returns-clause-next : goal.returns-clause-next
returns-clause-next c =
    run_end 64 c.args.w c.ranges.w.fits (search rules)
