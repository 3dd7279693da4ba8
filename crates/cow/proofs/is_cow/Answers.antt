-- 10, or whether the page is listed.
use Rattle.frame.proofs.Laws.{passed, failed}
use Rattle.cow.proofs.Marked.{cow_told_broken, cow_told}
use Rattle.cow.proofs.is_cow.Goals as goal

pub returns-then-not-is_sound : goal.returns-then-not-is_sound
returns-then-not-is_sound c =
    cow_told_broken c.args.marked.now c.args.addr.0 (failed c.is_sound.ensures c.if-not-is_sound.true)

pub returns : goal.returns
returns c =
    cow_told c.args.marked.now c.args.addr.0 (passed c.is_sound.ensures c.if-not-is_sound.false) c.page_of.ensures c.is_listed.ensures
