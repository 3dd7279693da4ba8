-- `show_translate`: 10 with no row, or the rows.
use Rattle.std.proofs.Common.{◌≡◌, true, length}
use Rattle.address.specs.Address.{as_phys}
use Rattle.paging.specs.Working.{Working}
use Rattle.working.specs.Rows.{shown_numbers}
use mathlib.Core.Path.{sym, ◌∙◌, ap}
use native.Mathlib.Omega.{arith}
use Rattle.frame.proofs.Laws.{passed, failed, levels_least, levels_most}
use Rattle.paging.specs.Calls.{lent_walk}
use Rattle.paging.proofs.Walk.{lent_words, lent_root}
use Rattle.paging.proofs.Calls.{walk_levels, walk_lent}
use Rattle.paging.proofs.Working.{show_broken, show_is}
use Rattle.working.proofs.RowNumbers.{none_shown}
use Rattle.working.proofs.show_translate.Goals as goal

pub returns-then-not-may_walk-clause-value : goal.returns-then-not-may_walk-clause-value
returns-then-not-may_walk-clause-value c =
    let b = sym (show_broken _ _ _ _ _ _ (failed c.may_walk.ensures c.if-not-may_walk.true)) in ap (λ (w : Working). as_phys w.answer) b

pub returns-then-not-may_walk-clause-out_after : goal.returns-then-not-may_walk-clause-out_after
returns-then-not-may_walk-clause-out_after c =
    let b = sym (show_broken _ _ _ _ _ _ (failed c.may_walk.ensures c.if-not-may_walk.true)) in none_shown ∙ ap (λ (w : Working). shown_numbers w.rows) b

pub show_rows-requires-clause-words_lent : goal.show_rows-requires-clause-words_lent
show_rows-requires-clause-words_lent c =
    let good : lent_walk c.args.levels (length c.args.words.now) c.args.start c.args.total c.args.root.0 ≡ true = passed c.may_walk.ensures c.if-not-may_walk.false in let w = walk_lent _ _ _ _ _ (good) in let l = walk_levels _ _ _ _ _ (good) in lent_words _ _ _ _ w

pub show_rows-requires-clause-levels_nonzero : goal.show_rows-requires-clause-levels_nonzero
show_rows-requires-clause-levels_nonzero c =
    let good : lent_walk c.args.levels (length c.args.words.now) c.args.start c.args.total c.args.root.0 ≡ true = passed c.may_walk.ensures c.if-not-may_walk.false in let w = walk_lent _ _ _ _ _ (good) in let l = walk_levels _ _ _ _ _ (good) in omega (arith, levels_least c.args.levels l)

pub show_rows-requires-clause-levels_le_most_levels : goal.show_rows-requires-clause-levels_le_most_levels
show_rows-requires-clause-levels_le_most_levels c =
    let good : lent_walk c.args.levels (length c.args.words.now) c.args.start c.args.total c.args.root.0 ≡ true = passed c.may_walk.ensures c.if-not-may_walk.false in let w = walk_lent _ _ _ _ _ (good) in let l = walk_levels _ _ _ _ _ (good) in levels_most c.args.levels l

pub show_rows-requires-clause-root_value : goal.show_rows-requires-clause-root_value
show_rows-requires-clause-root_value c =
    let good : lent_walk c.args.levels (length c.args.words.now) c.args.start c.args.total c.args.root.0 ≡ true = passed c.may_walk.ensures c.if-not-may_walk.false in let w = walk_lent _ _ _ _ _ (good) in let l = walk_levels _ _ _ _ _ (good) in lent_root _ _ _ _ w

pub show_rows-requires-clause-out_value : goal.show_rows-requires-clause-out_value
show_rows-requires-clause-out_value c =
    let good : lent_walk c.args.levels (length c.args.words.now) c.args.start c.args.total c.args.root.0 ≡ true = passed c.may_walk.ensures c.if-not-may_walk.false in let w = walk_lent _ _ _ _ _ (good) in let l = walk_levels _ _ _ _ _ (good) in none_shown

pub returns-clause-value : goal.returns-clause-value
returns-clause-value c =
    let good : lent_walk c.args.levels (length c.args.words.now) c.args.start c.args.total c.args.root.0 ≡ true = passed c.may_walk.ensures c.if-not-may_walk.false in let i = sym (show_is _ _ _ _ _ _ (good)) in c.show_rows.ensures.value ∙ ap (λ (w : Working). as_phys w.answer) i

pub returns-clause-out_after : goal.returns-clause-out_after
returns-clause-out_after c =
    let good : lent_walk c.args.levels (length c.args.words.now) c.args.start c.args.total c.args.root.0 ≡ true = passed c.may_walk.ensures c.if-not-may_walk.false in let i = sym (show_is _ _ _ _ _ _ (good)) in c.show_rows.ensures.out_after ∙ ap (λ (w : Working). shown_numbers w.rows) i
