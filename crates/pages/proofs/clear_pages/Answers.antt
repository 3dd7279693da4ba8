use Rattle.paging.specs.Kept.{lent_memory}
use mathlib.Core.Path.{sym, ◌∙◌}
use Rattle.bits.proofs.Counter.{onward}
use Rattle.pages.proofs.Laws.{clear_on, clear_end}
use Rattle.pages.proofs.clear_pages.Goals as goal

pub loop-i-preserved : goal.loop-i-preserved
loop-i-preserved c = (
  onward c.loop-i.i c.args.n c.loop-i-test.true,
  c.clear_page.auto.words ∙ c.loop-i.invariant.1,
  λ b. c.loop-i.invariant.2 b
      ∙ clear_on c.args.root.0 c.args.virt.0 c.loop-i.i c.args.n c.loop-i-test.true c.args.up (lent_memory c.loop-i.words b c.args.frames)
      (lent_memory c.clear_page.new.words b c.args.frames) (c.clear_page.ensures b),
)

pub returns : goal.returns
returns c b =
    sym (c.loop-i.invariant.2 b ∙ clear_end _ _ _ _ c.loop-i-test.false _ _)
