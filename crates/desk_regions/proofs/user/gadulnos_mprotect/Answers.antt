-- The call's answer, and the words and the list that it leaves where they stand.
use Rattle.layout.specs.Left.{no_leftovers}
use mir.Facts.{to_z-of_z}
use Rattle.layout.proofs.Left.{contract_met}
use Rattle.desk_regions.proofs.LeftRegions.{mprotect_left, mprotect_refused}
use Rattle.desk_regions.proofs.user.gadulnos_mprotect.Goals as goal

pub returns-clause-list_after : goal.returns-clause-list_after
returns-clause-list_after c =
    (contract_met no_leftovers
    (mprotect_left c.args.words.now c.args.list.now c.args.start c.args.total c.args.levels c.args.root c.args.addr c.args.size (to_z-of_z c.ranges.prot) c.mprotect.ensures c.line_of.ensures)
    (mprotect_refused c.args.words.now c.args.list.now c.args.start c.args.total c.args.levels c.args.root c.args.addr c.args.size c.args.prot (λ i. (c.slice_known-2-1.given i).fits))).0

pub returns-clause-refused : goal.returns-clause-refused
returns-clause-refused c =
    (contract_met no_leftovers
    (mprotect_left c.args.words.now c.args.list.now c.args.start c.args.total c.args.levels c.args.root c.args.addr c.args.size (to_z-of_z c.ranges.prot) c.mprotect.ensures c.line_of.ensures)
    (mprotect_refused c.args.words.now c.args.list.now c.args.start c.args.total c.args.levels c.args.root c.args.addr c.args.size c.args.prot (λ i. (c.slice_known-2-1.given i).fits))).1
