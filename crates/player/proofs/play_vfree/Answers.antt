-- The call, its line, and the board with what it was lent.
use Rattle.answer.specs.Numbers.{answer_line}
use Rattle.answer.specs.Outcomes.{as_answer}
use Rattle.vmalloc.specs.Calls.{Kernel, vfree_of}
use Rattle.release.specs.Calls.{play as play_regions}
use Rattle.player.proofs.Turns.{kernel_turn}
use Rattle.player.proofs.play_vfree.Goals as goal

pub returns-clause-by_index : goal.returns-clause-by_index
unfolding play_regions
returns-clause-by_index c =
    (kernel_turn c.args.records c.args.words.now c.args.bitmap.now c.args.kernel.now 2 as_answer answer_line _ c.line_of.ensures
    (λ (k : Kernel). vfree_of k c.args.records.root.0 c.args.addr) c.requires c.vfree-did.ensures.list_after c.vfree-did.ensures.kernel_reads).0
