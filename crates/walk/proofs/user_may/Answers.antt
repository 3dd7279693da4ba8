-- `user_may`: 10, or what the entries of the walk let user code do; the loop of four turns, or of five.
use Rattle.std.specs.Prelude.{Ok}
use Rattle.std.proofs.Common.{◌≡◌, true, length}
use Rattle.entry.specs.Entry.{indices as indices_of}
use Rattle.paging.specs.Calls.{lent_walk}
use Rattle.paging.specs.Working.{rows_below}
use Rattle.paging.specs.User.{user_rows}
use mathlib.Core.Path.{sym, ◌∙◌, ap}
use Rattle.paging.proofs.Walk.{lent_words, lent_root}
use Rattle.paging.proofs.Calls.{walk_levels, walk_lent}
use Rattle.paging.proofs.User.{may_broken, may_is}
use Rattle.frame.proofs.Laws.{passed, failed, levels_least, levels_most}
use native.Mathlib.Omega.{arith}
use Rattle.walk.proofs.user_may.Goals as goal

pub returns-then-not-may_walk : goal.returns-then-not-may_walk
returns-then-not-may_walk c =
    sym (may_broken _ _ _ _ _ _ _ (failed c.may_walk.ensures c.if-not-may_walk.true))

pub user_below-requires-clause-words_lent : goal.user_below-requires-clause-words_lent
user_below-requires-clause-words_lent c =
    let good : lent_walk c.args.levels (length c.args.words.now) c.args.start c.args.total c.args.root.0 ≡ true = passed c.may_walk.ensures c.if-not-may_walk.false in let l = walk_lent _ _ _ _ _ (good) in lent_words _ _ _ _ l

pub user_below-requires-clause-root_value : goal.user_below-requires-clause-root_value
user_below-requires-clause-root_value c =
    let good : lent_walk c.args.levels (length c.args.words.now) c.args.start c.args.total c.args.root.0 ≡ true = passed c.may_walk.ensures c.if-not-may_walk.false in let l = walk_lent _ _ _ _ _ (good) in lent_root _ _ _ _ l

pub returns-then-levels-eq-LEVELS : goal.returns-then-levels-eq-LEVELS
returns-then-levels-eq-LEVELS c =
    let good : lent_walk c.args.levels (length c.args.words.now) c.args.start c.args.total c.args.root.0 ≡ true = passed c.may_walk.ensures c.if-not-may_walk.false in
    ap Ok (c.user_below.ensures
    ∙ ap (λ n. user_rows c.args.write (rows_below c.args.words.now c.args.start c.args.total c.args.root.0 (indices_of n c.args.virt.0))) (sym c.if-levels-eq-LEVELS.true))
    ∙ sym (may_is _ _ _ _ _ _ _ (good))

pub user_below-requires-2-clause-words_lent : goal.user_below-requires-2-clause-words_lent
user_below-requires-2-clause-words_lent c =
    let good : lent_walk c.args.levels (length c.args.words.now) c.args.start c.args.total c.args.root.0 ≡ true = passed c.may_walk.ensures c.if-not-may_walk.false in let l = walk_lent _ _ _ _ _ (good) in lent_words _ _ _ _ l

pub user_below-requires-2-clause-root_value : goal.user_below-requires-2-clause-root_value
user_below-requires-2-clause-root_value c =
    let good : lent_walk c.args.levels (length c.args.words.now) c.args.start c.args.total c.args.root.0 ≡ true = passed c.may_walk.ensures c.if-not-may_walk.false in let l = walk_lent _ _ _ _ _ (good) in lent_root _ _ _ _ l

pub returns : goal.returns
returns c =
    let good : lent_walk c.args.levels (length c.args.words.now) c.args.start c.args.total c.args.root.0 ≡ true = passed c.may_walk.ensures c.if-not-may_walk.false in
    let n = walk_levels _ _ _ _ _ (good) in
    let five : 5 ≡ c.args.levels = omega (arith, levels_least c.args.levels n, levels_most c.args.levels n, c.if-levels-eq-LEVELS.false) in
    ap Ok (c.user_below-2.ensures
    ∙ ap (λ n. user_rows c.args.write (rows_below c.args.words.now c.args.start c.args.total c.args.root.0 (indices_of n c.args.virt.0))) five)
    ∙ sym (may_is _ _ _ _ _ _ _ (good))
