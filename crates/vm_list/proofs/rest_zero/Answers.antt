-- `rest_zero`: the flag so far and the words left say what all say.
use Rattle.std.proofs.Common.{rules}
use mathlib.Core.Path.{sym, ◌∙◌}
use Rattle.vm_list.proofs.Places.{zero_on, zero_end}
use Rattle.vm_list.proofs.rest_zero.Goals as goal

pub loop-j-preserved : goal.loop-j-preserved
loop-j-preserved c =
    (search rules, search rules, zero_on c.args.list.now c.loop-j.j c.word_at-any.result c.loop-j.any c.loop-j-test.true c.word_at-any.ensures ∙ c.loop-j.invariant.2)

pub returns : goal.returns
returns c =
    sym (zero_end c.args.list.now c.loop-j.j c.loop-j.any c.loop-j-test.false) ∙ c.loop-j.invariant.2
