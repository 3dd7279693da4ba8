-- A sound list's regions rise.
use Rattle.mappings.proofs.Sound.{sound_few, sound_rising}
use Rattle.mappings.proofs.list.find.Goals as goal

pub find-requires-clause-few : goal.find-requires-clause-few
find-requires-clause-few c =
    sound_few c.args.list.now c.requires

pub find-requires-clause-rises : goal.find-requires-clause-rises
find-requires-clause-rises c =
    (sound_rising c.args.list.now c.requires).0
