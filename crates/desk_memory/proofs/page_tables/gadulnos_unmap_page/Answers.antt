-- The call's answer, and the words that it leaves.
use Rattle.layout.specs.Left.{no_leftovers}
use Rattle.layout.proofs.Left.{contract_met}
use Rattle.desk_memory.proofs.LeftMemory.{unmap_left, unmap_refused}
use Rattle.desk_memory.proofs.page_tables.gadulnos_unmap_page.Goals as goal

pub returns-clause-refused : goal.returns-clause-refused
returns-clause-refused c =
    (contract_met no_leftovers (unmap_left c.args.words.now c.args.start c.args.total c.args.levels c.args.root c.args.virt (c.unmap_page.ensures.value, c.unmap_page.ensures.words_after) c.line_of.ensures)
    (unmap_refused c.args.words.now c.args.start c.args.total c.args.levels c.args.root c.args.virt)).1
