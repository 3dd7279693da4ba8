-- A broken list, or the search.
use Rattle.desk_regions.specs.Regions.{search_leftovers}
use Rattle.frame.proofs.Laws.{passed}
use Rattle.layout.proofs.Left.{contract_met}
use Rattle.desk_regions.proofs.LeftRegions.{search_met, search_unchanged}
use Rattle.desk_regions.proofs.user.gadulnos_find_free_region.Goals as goal

pub returns-clause-refused : goal.returns-clause-refused
returns-clause-refused c =
    (contract_met search_leftovers
    (search_met c.args.list.now c.args.size c.args.compared.now (passed c.is_sound.ensures c.if-not-is_sound.false) c.find_free_region-found.ensures c.line_of.ensures)
    (search_unchanged c.args.list.now c.args.size c.args.compared.now)).1
