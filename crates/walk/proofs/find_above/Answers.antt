-- `find_above`: the address without its lowest index has the indices above it.
use Rattle.paging.specs.Walk.{reach}
use mathlib.Core.Path.{◌∙◌, ap}
use Rattle.walk.proofs.Laws.{way_above}
use Rattle.walk.proofs.find_above.Goals as goal

pub returns : goal.returns
returns c =
    c.find_table.ensures ∙ ap (reach c.args.words.now c.args.start c.args.total c.args.root.0) (way_above c.args.up c.args.virt.0 c.requires.le_up)
