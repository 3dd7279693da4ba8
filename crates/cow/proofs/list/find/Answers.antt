-- A sound list's pages rise.
use Rattle.cow.proofs.Marked.{few_listed, pages_rising}
use Rattle.cow.proofs.list.find.Goals as goal

pub find-requires-clause-few : goal.find-requires-clause-few
find-requires-clause-few c =
    few_listed c.args.list.now c.requires

pub find-requires-clause-rises : goal.find-requires-clause-rises
find-requires-clause-rises c =
    pages_rising c.args.list.now c.requires
