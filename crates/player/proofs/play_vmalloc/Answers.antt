-- The call, its line, and the board with what it was lent.
use Rattle.address.specs.Address.{as_virt, virt_line}
use Rattle.vmalloc.specs.Calls.{Kernel, vmalloc_of}
use Rattle.release.specs.Calls.{play as play_regions}
use Rattle.player.proofs.Turns.{kernel_turn}
use Rattle.player.proofs.play_vmalloc.Goals as goal

pub returns-clause-by_index : goal.returns-clause-by_index
unfolding play_regions
returns-clause-by_index c =
    (kernel_turn c.args.records c.args.words.now c.args.bitmap.now c.args.kernel.now 1 as_virt virt_line _ c.line_of.ensures
    (λ (k : Kernel). vmalloc_of k c.args.records.root.0 c.args.size) c.requires c.vmalloc-did.ensures.list_after c.vmalloc-did.ensures.kernel_reads).0
