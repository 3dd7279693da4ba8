-- `word_at`: the number of the eight bytes that were cut out.
use mathlib.Core.Path.{◌∙◌}
use Rattle.packed.proofs.Words.{number_eight_of}
use Rattle.packed.proofs.word_at.Goals as goal

pub returns : goal.returns
returns c =
    let chunk = rw c.unwrap.ensures at c.try_into.ensures in
    c.from_le_bytes.ensures ∙ number_eight_of c.args.at c.args.bytes.now c.unwrap.result c.requires chunk.1.same
