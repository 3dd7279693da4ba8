-- `unmap_leaf`: the way to the last table, then its leaf.
use Rattle.paging.specs.Map.{take_leaf}
use Prim.Native.Nat.{suc}
use mathlib.Core.Path.{sym, ◌∙◌, ap}
use lib.ListN.{get_or, take}
use Rattle.entry.specs.Entry.{indices as indices_of}
use Rattle.entry.proofs.Entry.{index_last}
use Rattle.paging.proofs.Map.{unmap_entry_stop, unmap_entry_take}
use Rattle.paging.proofs.Calls.{told_left}
use Rattle.std.proofs.lemmas.Result.{err_from_is_err_and}
use Rattle.mapper.proofs.inner.unmap_leaf.Goals as goal

pub returns-in_err-t-clause-value : goal.returns-in_err-t-clause-value
returns-in_err-t-clause-value c =
    let left = err_from_is_err_and c.from_residual.result c.from_residual.ensures.1 in
    rw (left.1, left.2)
    ((let is = indices_of (suc c.args.up) c.args.virt.0 in
    told_left
    (unmap_entry_stop c.args.words.now c.args.start c.args.total c.args.root.0 (take c.args.up is) (get_or is c.args.up 0) _ (sym c.find_table.ensures ∙ c.in_err-t.was))).0)

pub returns-in_err-t-clause-words_after : goal.returns-in_err-t-clause-words_after
returns-in_err-t-clause-words_after c =
    (let is = indices_of (suc c.args.up) c.args.virt.0 in
    told_left
    (unmap_entry_stop c.args.words.now c.args.start c.args.total c.args.root.0 (take c.args.up is) (get_or is c.args.up 0) _ (sym c.find_table.ensures ∙ c.in_err-t.was))).1

pub returns-clause-value : goal.returns-clause-value
returns-clause-value c =
    let i = index_last c.args.up c.args.virt.0 ∙ sym c.page_index.ensures.value in let e = told_left (unmap_entry_take _ _ _ _ _ _ _ (sym c.find_table.ensures ∙ c.in_ok-t.was) ∙ ap (take_leaf _ _ _ _) i) in c.take_leaf.ensures.value ∙ e.0

pub returns-clause-words_after : goal.returns-clause-words_after
returns-clause-words_after c =
    let i = index_last c.args.up c.args.virt.0 ∙ sym c.page_index.ensures.value in let e = told_left (unmap_entry_take _ _ _ _ _ _ _ (sym c.find_table.ensures ∙ c.in_ok-t.was) ∙ ap (take_leaf _ _ _ _) i) in c.take_leaf.ensures.words_after ∙ e.1
