-- `clear_page`: the words that unmapping the leaf leaves, whatever the bitmap.
use Rattle.std.proofs.Common.{List, ℕ}
use Rattle.paging.specs.Kept.{lent_memory}
use mathlib.Core.Path.{sym, ◌∙◌, ap}
use Rattle.paging.proofs.Pages.{clear_is}
use Rattle.pages.proofs.clear_page.Goals as goal

pub returns : goal.returns
returns c b =
    ap (λ (ws : List ℕ). lent_memory ws b c.args.frames) c.unmap_leaf.ensures.words_after ∙ sym (clear_is _ _ _ _)
