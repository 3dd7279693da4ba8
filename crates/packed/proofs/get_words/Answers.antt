use Rattle.std.proofs.Common.{rules}
use mathlib.Core.Path.{refl, ◌∙◌, ap}
use lib.ListN.{set}
use Rattle.packed.proofs.Words.{got_none, got_next}
use Rattle.packed.proofs.get_words.Goals as goal

pub loop-i-init : goal.loop-i-init
loop-i-init c =
    (search rules, refl, got_none _ _)

pub loop-i-preserved : goal.loop-i-preserved
loop-i-preserved c =
    (search rules, search rules, ap (set c.loop-i.words c.loop-i.i) c.word_at.ensures ∙ got_next c.loop-i.i c.args.bytes.now c.loop-i.words c.args.words.now c.loop-i-test.true c.loop-i.invariant.2)
