-- The call's line, and the bytes that it leaves.
use Rattle.std.proofs.Common.{ℕ}
use Rattle.layout.specs.Left.{no_leftovers}
use Rattle.slots.specs.Slots.{Slots}
use Rattle.cow.specs.Marked.{unmark_cow}
use Rattle.layout.proofs.Left.{contract_met}
use Rattle.desk_faults.proofs.LeftFaults.{marked_did_lem, unmark_refused}
use Rattle.desk_faults.proofs.faults.gadulnos_unmark_cow.Goals as goal

pub returns-clause-marked_after : goal.returns-clause-marked_after
returns-clause-marked_after c =
    (contract_met no_leftovers (marked_did_lem (λ (s : Slots ℕ). unmark_cow s c.args.addr) c.args.marked.now c.unmark_cow.ensures.marked_after c.line_of.ensures)
    (unmark_refused c.args.marked.now (λ i. (c.slice_known-1.given i).fits) c.args.addr)).0

pub returns-clause-refused : goal.returns-clause-refused
returns-clause-refused c =
    (contract_met no_leftovers (marked_did_lem (λ (s : Slots ℕ). unmark_cow s c.args.addr) c.args.marked.now c.unmark_cow.ensures.marked_after c.line_of.ensures)
    (unmark_refused c.args.marked.now (λ i. (c.slice_known-1.given i).fits) c.args.addr)).1
