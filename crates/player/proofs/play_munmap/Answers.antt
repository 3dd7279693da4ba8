-- The call, its line, and the board with what it was lent.
use Rattle.answer.specs.Numbers.{answer_line}
use Rattle.answer.specs.Outcomes.{as_answer}
use Rattle.user_space.specs.User.{User}
use Rattle.munmap.specs.Calls.{munmap_of}
use Rattle.release.specs.Calls.{play as play_regions}
use Rattle.player.proofs.Turns.{user_turn}
use Rattle.player.proofs.play_munmap.Goals as goal

pub returns-clause-by_index : goal.returns-clause-by_index
unfolding play_regions
returns-clause-by_index c =
    (user_turn c.args.records c.args.words.now c.args.bitmap.now c.args.user.now 4 as_answer answer_line _ c.line_of.ensures
    (λ (u : User). munmap_of u c.args.records.root.0 c.args.c.addr c.args.c.size) c.requires c.munmap-did.ensures.list_after c.munmap-did.ensures.user_reads).0
