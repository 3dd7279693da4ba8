-- `protect_leaf`: a present entry of a lent table, by its place.
use Rattle.std.proofs.Common.{◌≡◌, true}
use Rattle.paging.specs.Walk.{place}
use mathlib.Core.Path.{sym, ◌∙◌, ap}
use lib.ListN.{set}
use Rattle.entry.specs.Entry.{index}
use Rattle.frame.specs.Frames.{inside}
use Rattle.frame.proofs.Laws.{passed, failed}
use Rattle.protecting.proofs.Leaves.{leaf_outside, leaf_absent, leaf_present}
use Rattle.protecting.proofs.protect_leaf.Goals as goal

pub returns-then-not-is_inside : goal.returns-then-not-is_inside
returns-then-not-is_inside c =
    sym (leaf_outside c.args.writable c.args.words.now c.args.start c.args.total c.args.t c.args.virt.0 (failed c.is_inside.ensures c.if-not-is_inside.true))

pub returns-then-not-is_present : goal.returns-then-not-is_present
returns-then-not-is_present c =
    let here : c.entry_place-at.result ≡ place c.args.start c.args.t (index 0 c.args.virt.0) = c.entry_place-at.ensures ∙ ap (place c.args.start c.args.t) c.page_index.ensures.value in let table-lent : inside c.args.start c.args.total c.args.t ≡ true = passed c.is_inside.ensures c.if-not-is_inside.false in
    sym (leaf_absent c.args.writable c.args.words.now c.args.start c.args.total c.args.t c.args.virt.0 (table-lent) _ (here) (failed c.is_present.ensures c.if-not-is_present.true))

pub returns : goal.returns
returns c =
    let here : c.entry_place-at.result ≡ place c.args.start c.args.t (index 0 c.args.virt.0) = c.entry_place-at.ensures ∙ ap (place c.args.start c.args.t) c.page_index.ensures.value in let table-lent : inside c.args.start c.args.total c.args.t ≡ true = passed c.is_inside.ensures c.if-not-is_inside.false in
    ap (set c.args.words.now c.entry_place-at.result) c.with_writable.ensures
    ∙ sym (leaf_present c.args.writable c.args.words.now c.args.start c.args.total c.args.t c.args.virt.0 (table-lent) _ (here)
    (passed c.is_present.ensures c.if-not-is_present.false))
