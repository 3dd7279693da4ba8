-- `get_fields`: four numbers.
use Rattle.std.proofs.Common.{rules}
use mathlib.Core.Path.{◌∙◌}
use Rattle.packed.proofs.Words.{word_of}
use Rattle.layout.proofs.parts.get_fields.Goals as goal

pub returns : goal.returns
returns c =
    λ j. record { start = (c.word_at.ensures ∙ word_of 0 4 c.args.fields.now (search rules)) j; total = (c.word_at-2.ensures ∙ word_of 1 4 c.args.fields.now (search rules)) j; allocated = (c.word_at-3.ensures ∙ word_of 2 4 c.args.fields.now (search rules)) j; levels = (c.word_at-4.ensures ∙ word_of 3 4 c.args.fields.now (search rules)) j }
