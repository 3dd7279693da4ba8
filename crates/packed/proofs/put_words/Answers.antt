use Rattle.std.proofs.Common.{rules}
use mathlib.Core.Path.{refl, ◌∙◌}
use Rattle.packed.proofs.Words.{put_none, put_next}
use Rattle.packed.proofs.put_words.Goals as goal

pub loop-i-init : goal.loop-i-init
loop-i-init c =
    (search rules, refl, put_none c.args.words.now _)

pub loop-i-preserved : goal.loop-i-preserved
loop-i-preserved c =
    let a = c.args in
    let next = put_next c.loop-i.i a.words.now c.loop-i.bytes a.bytes.now c.loop-i-test.true c.requires c.loop-i.invariant.1 c.loop-i.invariant.2 in
    (search rules, search rules, c.put_word.ensures ∙ next)
