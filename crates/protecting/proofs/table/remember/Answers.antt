-- `remember`: the byte with one bit more.
use Rattle.protecting.proofs.Remembered.{noted, noted_fits}
use Rattle.protecting.proofs.table.remember.Goals as goal

pub overflow_cast-gone : goal.overflow_cast-gone
overflow_cast-gone c =
    record { fits = noted_fits c.args.d c.wide-old.result c.requires.d_le_most_above c.wide-old.ensures.upper_bound }

pub returns : goal.returns
returns c =
    noted c.args.d c.wide-old.result c.requires.d_le_most_above c.args.gone.now c.args.place c.wide-old.ensures.value
