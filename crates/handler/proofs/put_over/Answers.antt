-- `put_over`: 19, or the word at its place and the frame zeroed.
use Rattle.std.specs.Prelude.{Ok}
use Rattle.std.proofs.Common.{◌≡◌, true, List, ℕ}
use Rattle.frame.specs.Frames.{inside}
use Rattle.paging.specs.Map.{out}
use Rattle.paging.specs.Kept.{lent_memory}
use mathlib.Core.Path.{sym, ◌∙◌, ap}
use Rattle.frame.proofs.Laws.{passed, failed}
use Rattle.handler.proofs.Handler.{put_over_out, put_over_in}
use Rattle.handler.proofs.put_over.Goals as goal

pub returns-then-not-is_inside : goal.returns-then-not-is_inside
returns-then-not-is_inside c =
    λ b. sym (put_over_out _ _ _ _ _ (failed c.is_inside.ensures c.if-not-is_inside.true))

pub returns : goal.returns
returns c =
    let table : inside c.args.frames.start c.args.frames.total c.args.t ≡ true = passed c.is_inside.ensures c.if-not-is_inside.false in
    λ b.
    ap (λ (ws : List ℕ). out (Ok 0) (lent_memory ws b c.args.frames)) c.zero_frame.ensures
    ∙ sym (put_over_in _ c.args.t c.args.i c.args.e c.args.f (table)
    c.entry_place-at.ensures c.entry_place.ensures)
