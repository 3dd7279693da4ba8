-- `user_below`: an entry after the other. The invariant: `t` is lent, and what the rows below it say, along the indices of the levels left, is the whole answer.
use Rattle.std.proofs.Common.{◌≡◌, ◌≤◌, ◌-◌, true}
use Rattle.entry.specs.Entry.{indices as indices_of}
use Rattle.frame.specs.Frames.{inside}
use Rattle.paging.specs.Working.{rows_below}
use Rattle.paging.specs.User.{user_rows}
use Rattle.walk.proofs.user_below.Given as goal

abbrev pub invariant-loop-done : goal.invariant-loop-done
invariant-loop-done l = (l.done ≤ l.levels) × (inside l.start l.total l.t ≡ true)
    × (user_rows l.write (rows_below l.words l.start l.total l.initial.t (indices_of l.levels l.virt.0)) ≡ user_rows l.write (rows_below l.words l.start l.total l.t (indices_of (l.levels - l.done) l.virt.0)))
