-- The line of the call's answer, which is translate's, and its numbers.
use Rattle.desk_memory.proofs.LeftMemory.{show_left}
use Rattle.desk_memory.proofs.page_tables.gadulnos_show_translate.Goals as goal

pub returns : goal.returns
returns c =
    show_left c.args.words.now c.args.start c.args.total c.args.levels c.args.root c.args.virt (c.show_translate-found.ensures.value, c.show_translate-found.ensures.out_after) c.line_of.ensures
