-- `half_at`: the number of the four bytes that were cut out.
use mathlib.Core.Path.{◌∙◌}
use Rattle.packed.proofs.Words.{number_four_of}
use Rattle.packed.proofs.half_at.Goals as goal

pub returns-clause-value : goal.returns-clause-value
returns-clause-value c =
    let chunk = rw c.unwrap.ensures at c.try_into.ensures in
    c.from.ensures ∙ c.from_le_bytes.ensures ∙ number_four_of c.args.at c.args.bytes.now c.unwrap.result c.requires chunk.1.same
