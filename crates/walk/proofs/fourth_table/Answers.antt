-- `fourth_table`: no index is taken of four levels, and one of five.
use Rattle.std.proofs.Common.{◌≡◌, ◌-◌, take, [], ◌∷◌}
use Rattle.entry.specs.Entry.{indices as indices_of}
use mathlib.Core.Path.{refl, sym, ◌∙◌, ap}
use native.Mathlib.Omega.{arith}
use Rattle.paging.proofs.Walk.{reach_end, reach_stop, reach_on}
use Rattle.walk.proofs.Laws.{named}
use Rattle.std.proofs.lemmas.Result.{err_from_is_err_and}
use Rattle.walk.proofs.fourth_table.Goals as goal

pub returns-then-levels-lt5 : goal.returns-then-levels-lt5
returns-then-levels-lt5 c =
    let none : c.args.levels - 4 ≡ 0 = omega (arith, c.if-levels-lt5.true) in
    sym (reach_end c.args.words.now c.args.start c.args.total c.args.root.0 (ap (λ n. take n (indices_of 5 c.args.virt.0)) none))

pub returns-in_err-e : goal.returns-in_err-e
returns-in_err-e c =
    let left = err_from_is_err_and c.from_residual.result c.from_residual.ensures.1 in
    let taken : take (c.args.levels - 4) (indices_of 5 c.args.virt.0) ≡ c.page_index.result ∷ [] = let one : c.args.levels - 4 ≡ 1 = omega (arith, c.if-levels-lt5.false, c.requires.levels_le_most_levels) in
    ap (λ n. take n (indices_of 5 c.args.virt.0)) one ∙ ap (λ i. i ∷ []) (sym c.page_index.ensures.value) in
    rw (left.1, left.2)
    (sym (reach_stop c.args.words.now c.args.start c.args.total c.args.root.0 (taken) _ (sym c.entry_at.ensures ∙ c.in_err-e.was)))

pub returns : goal.returns
returns c =
    let taken : take (c.args.levels - 4) (indices_of 5 c.args.virt.0) ≡ c.page_index.result ∷ [] = let one : c.args.levels - 4 ≡ 1 = omega (arith, c.if-levels-lt5.false, c.requires.levels_le_most_levels) in
    ap (λ n. take n (indices_of 5 c.args.virt.0)) one ∙ ap (λ i. i ∷ []) (sym c.page_index.ensures.value) in
    sym
    (reach_on c.args.words.now c.args.start c.args.total c.args.root.0 (taken) _ (sym c.entry_at.ensures ∙ c.in_ok-e.was)
    ∙ reach_end c.args.words.now c.args.start c.args.total _ refl ∙ named _ c.addr.ensures)
