-- `fresh_frame`: a frame that was taken is one of the lent frames, so that its words are there.
use Rattle.std.proofs.Common.{rules, ◌≡◌, true, IfOk}
use Rattle.address.specs.declared.Frame.{Frame}
use Rattle.frame.specs.Frames.{inside}
use Rattle.std.proofs.lemmas.Result.{IfOk-at_ok}
use Rattle.paging.proofs.Walk.{frame_lent}
use Rattle.paging.proofs.Map.{roomy_lent}
use Rattle.walk.proofs.Laws.{place_asks}
use Rattle.pages.proofs.fresh_frame.Goals as goal

pub entry_place-requires-clause-start_le_t : goal.entry_place-requires-clause-start_le_t
entry_place-requires-clause-start_le_t c =
    let lent = IfOk-at_ok (λ (f : Frame). inside c.args.frames.start c.args.frames.total f.0 ≡ true) c.in-Ok.is c.take_frame.ensures.lent in
    (place_asks c.args.frames.start c.args.frames.total c.in-Ok.f.0 0 c.requires.held.few lent (search rules)).0

pub entry_place-requires-clause-start_bound : goal.entry_place-requires-clause-start_bound
entry_place-requires-clause-start_bound c =
    let lent = IfOk-at_ok (λ (f : Frame). inside c.args.frames.start c.args.frames.total f.0 ≡ true) c.in-Ok.is c.take_frame.ensures.lent in
    (place_asks c.args.frames.start c.args.frames.total c.in-Ok.f.0 0 c.requires.held.few lent (search rules)).1.0

pub zero_frame-requires : goal.zero_frame-requires
zero_frame-requires c =
    let lent = IfOk-at_ok (λ (f : Frame). inside c.args.frames.start c.args.frames.total f.0 ≡ true) c.in-Ok.is c.take_frame.ensures.lent in
    rw c.entry_place.ensures (frame_lent _ (roomy_lent c.requires) lent)
