-- Each page is compared with the one before it.
use mathlib.Core.Path.{sym, refl, ◌∙◌}
use native.Mathlib.Omega.{arith}
use Rattle.cow.proofs.Rises.{page_stops, page_rises, no_page_left}
use Rattle.cow.proofs.list.rest_rises.Goals as goal

pub returns-then-page-last : goal.returns-then-page-last
returns-then-page-last c =
    sym (c.loop-j.invariant ∙ page_stops c.args.list.now c.args.n c.requires.n_bound c.loop-j.j c.loop-j.last c.loop-j-test.true
    (omega (arith, c.slot-page.ensures, c.if-page-last.true)))

pub loop-j-preserved : goal.loop-j-preserved
loop-j-preserved c =
    rw c.slot-page.ensures
    (c.loop-j.invariant ∙ page_rises c.args.list.now c.args.n c.requires.n_bound c.loop-j.j c.loop-j.last _ refl c.loop-j-test.true
    (omega (arith, c.slot-page.ensures, c.if-page-last.false)))

pub returns : goal.returns
returns c =
    sym (c.loop-j.invariant ∙ no_page_left c.args.list.now c.args.n c.requires.n_bound c.loop-j.j c.loop-j.last c.loop-j-test.false)
