-- `free_table`: a table that is marked is passed over; one that was gone through whole is marked.
use Rattle.std.proofs.Common.{◌≡◌, ◌-◌}
use Rattle.bitmap.specs.Bitmap.{marks_in, marked}
use Rattle.paging.specs.Kept.{lent_memory}
use mathlib.Core.Path.{sym, ◌∙◌}
use Rattle.bitmap.proofs.Marks.{marked_true, marked_false}
use Rattle.freeing_runs.proofs.Blanks.{blank_pass, blank_left, blank_more}
use Rattle.freeing_runs.proofs.free_table.Goals as goal

pub returns-then-is_marked-clause-frames_after : goal.returns-then-is_marked-clause-frames_after
returns-then-is_marked-clause-frames_after c =
    let m = lent_memory c.args.words.now c.args.bitmap.now c.args.frames in blank_pass m c.args.t c.args.i c.args.n c.requires.blank c.requires.t_value c.requires.n_bound
    (marked_true _ _ (sym c.is_marked.ensures ∙ c.if-is_marked.true))

pub mark-requires-clause-i_value : goal.mark-requires-clause-i_value
mark-requires-clause-i_value c =
    let free : marked (marks_in c.args.empty.now) (c.args.t - c.args.frames.start) ≡ 0 = marked_false _ _ (sym c.is_marked.ensures ∙ c.if-is_marked.false) in free

pub returns-then-n-eq512-clause-blank_2 : goal.returns-then-n-eq512-clause-blank_2
returns-then-n-eq512-clause-blank_2 c =
    let free : marked (marks_in c.args.empty.now) (c.args.t - c.args.frames.start) ≡ 0 = marked_false _ _ (sym c.is_marked.ensures ∙ c.if-is_marked.false) in rw c.mark.ensures
    (blank_more (lent_memory c.args.words.now c.args.bitmap.now c.args.frames) c.args.t c.args.i c.args.n c.requires.blank c.requires.t_value c.requires.n_bound
    c.free_leaves-left.ensures.frames_after c.if-n-eq512.true (free))

pub returns-clause-blank_2 : goal.returns-clause-blank_2
returns-clause-blank_2 c =
    blank_left (lent_memory c.args.words.now c.args.bitmap.now c.args.frames) c.args.t c.args.i c.args.n c.requires.blank c.requires.t_value
    c.requires.n_bound c.free_leaves-left.ensures.frames_after
