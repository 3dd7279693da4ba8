use Rattle.std.proofs.Common.{rules, ◌≡◌, ◌-◌}
use mathlib.Core.Path.{sym, ◌∙◌}
use native.Mathlib.Omega.{arith}
use lib.ListN.{length-set}
use Rattle.copying.proofs.Copying.{copy_none, copy_on}
use Rattle.copying.proofs.copy_words.Goals as goal

pub loop-i-preserved : goal.loop-i-preserved
loop-i-preserved c =
    (search rules, c.loop-i.invariant.1 ∙ copy_on _ c.args.from c.args.to c.loop-i.i 512 c.loop-i-test.true, simp length-set c.loop-i.invariant.2)

pub returns : goal.returns
returns c =
    let none : 512 - c.loop-i.i ≡ 0 = omega arith in
    sym (c.loop-i.invariant.1 ∙ rw none (copy_none _ _ _))
