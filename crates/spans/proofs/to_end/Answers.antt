-- `to_end`: the span's pages without those before `virt`.
use Rattle.spans.proofs.Gaps.{width_is, within_is}
use Rattle.spans.proofs.to_end.Goals as goal

pub returns : goal.returns
returns c =
    rw (within_is _ c.requires, width_is _ c.requires)
