-- `take_leaf` clears a present leaf and gives its frame, or says why not.
use Rattle.std.proofs.Common.{◌≡◌, true}
use Rattle.frame.specs.Frames.{inside}
use Rattle.paging.proofs.Map.{take_leaf_out}
use Rattle.paging.proofs.Calls.{told_left}
use Rattle.frame.proofs.Laws.{passed, failed}
use Rattle.mapper.proofs.Laws.{take_none, take_there}
use Rattle.mapper.proofs.inner.take_leaf.Goals as goal

pub returns-then-not-is_inside-clause-value : goal.returns-then-not-is_inside-clause-value
returns-then-not-is_inside-clause-value c =
    (told_left (take_leaf_out c.args.words.now c.args.start c.args.total c.args.t c.args.i (failed c.is_inside.ensures c.if-not-is_inside.true))).0

pub returns-then-not-is_inside-clause-words_after : goal.returns-then-not-is_inside-clause-words_after
returns-then-not-is_inside-clause-words_after c =
    (told_left (take_leaf_out c.args.words.now c.args.start c.args.total c.args.t c.args.i (failed c.is_inside.ensures c.if-not-is_inside.true))).1

pub returns-then-not-is_present-clause-value : goal.returns-then-not-is_present-clause-value
returns-then-not-is_present-clause-value c =
    (let table-lent : inside c.args.start c.args.total c.args.t ≡ true = passed c.is_inside.ensures c.if-not-is_inside.false in
    take_none c.args.start c.args.t c.args.i c.entry_place-at.ensures c.args.words.now c.args.total (table-lent) (failed c.is_present.ensures c.if-not-is_present.true)).0

pub returns-then-not-is_present-clause-words_after : goal.returns-then-not-is_present-clause-words_after
returns-then-not-is_present-clause-words_after c =
    (let table-lent : inside c.args.start c.args.total c.args.t ≡ true = passed c.is_inside.ensures c.if-not-is_inside.false in
    take_none c.args.start c.args.t c.args.i c.entry_place-at.ensures c.args.words.now c.args.total (table-lent) (failed c.is_present.ensures c.if-not-is_present.true)).1

pub returns-clause-value : goal.returns-clause-value
returns-clause-value c =
    (let table-lent : inside c.args.start c.args.total c.args.t ≡ true = passed c.is_inside.ensures c.if-not-is_inside.false in
    take_there c.args.start c.args.t c.args.i c.entry_place-at.ensures c.args.words.now c.args.total (table-lent) c.addr.ensures
    (passed c.is_present.ensures c.if-not-is_present.false)).0

pub returns-clause-words_after : goal.returns-clause-words_after
returns-clause-words_after c =
    (let table-lent : inside c.args.start c.args.total c.args.t ≡ true = passed c.is_inside.ensures c.if-not-is_inside.false in
    take_there c.args.start c.args.t c.args.i c.entry_place-at.ensures c.args.words.now c.args.total (table-lent) c.addr.ensures
    (passed c.is_present.ensures c.if-not-is_present.false)).1
