-- `page_align_up` is rounding at 4096: the one law of rounding at 12.
use mathlib.Core.Path.{◌∙◌, sym}
use Rattle.allocator.proofs.Round.{rounded_align}
use Rattle.allocator.proofs.page_align_up.Goals as goal

pub returns : goal.returns
returns c =
    c.align_up.ensures ∙ sym (rounded_align c.args.size)
