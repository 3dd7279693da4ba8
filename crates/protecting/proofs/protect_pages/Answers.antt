-- Short runs go one last table after the other; of longer ones all that there are below the root at most.
use mathlib.Core.Path.{◌∙◌}
use Rattle.protecting.proofs.Below.{most_pages}
use Rattle.protecting.proofs.Remembered.{remembered_start}
use Rattle.protecting.proofs.protect_pages.Goals as goal

pub protect_below-requires-clause-remembered : goal.protect_below-requires-clause-remembered
protect_below-requires-clause-remembered c = remembered_start c.args.writable c.args.start c.args.total c.args.words.now 8192

pub returns : goal.returns
returns c =
    let a = c.args in
    c.protect_below.ensures.words_after
    ∙ most_pages a.up a.writable a.start a.total a.root.0 a.words.now a.virt.0 a.n c.all_pages.ensures c.at_most-most.ensures
