-- The length, few enough pages, and rising.
use Rattle.cow.specs.Packed.{marked_size}
use mathlib.Core.Path.{sym, ◌∙◌}
use native.Mathlib.Omega.{arith}
use borrow.Author.Tests.{eq-eqb}
use Rattle.cow.proofs.Marked.{too_many, few_enough}
use Rattle.cow.proofs.list.is_sound.Goals as goal

pub returns-then-n-gt-MAX_COW_PAGES : goal.returns-then-n-gt-MAX_COW_PAGES
returns-then-n-gt-MAX_COW_PAGES c =
    sym (too_many c.args.list.now (eq-eqb _ marked_size c.if-list-ne-MARKED_SIZE.false) c.count-n.ensures (omega (arith, c.if-n-gt-MAX_COW_PAGES.true)))

pub returns : goal.returns
returns c =
    c.pages_rise.ensures
    ∙ sym (few_enough c.args.list.now (eq-eqb _ marked_size c.if-list-ne-MARKED_SIZE.false) c.count-n.ensures (omega (arith, c.if-n-gt-MAX_COW_PAGES.false)))
