-- The call, its line, and the board with what it was lent.
use Rattle.fault.specs.Faults.{Faulting, handle_fault_of}
use Rattle.player.proofs.Turns.{fault_turn}
use Rattle.player.proofs.play_fault.Goals as goal

pub returns-clause-by_index : goal.returns-clause-by_index
returns-clause-by_index c =
    (fault_turn c.args.records c.args.words.now c.args.bitmap.now c.args.marked.now 5 _ c.line_of.ensures
    (λ (f : Faulting). handle_fault_of f c.args.records.root.0 c.args.c.addr c.args.c.code) c.requires c.handle_page_fault-did.ensures.marked_after c.handle_page_fault-did.ensures.fault_reads).0
