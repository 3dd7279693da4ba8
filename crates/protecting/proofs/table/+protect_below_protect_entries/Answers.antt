-- A table that is done follows the choice already; one that was gone through whole is remembered, and the pages below each entry are those that it leads to.
use Rattle.std.proofs.Common.{◌≡◌, ◌+◌, ◌*◌, ◌/◌, ◌-◌, ℕ, true}
use mathlib.Core.Path.{sym, ◌∙◌, ap}
use native.Mathlib.Omega.{arith}
use Rattle.entry.proofs.Entry.{frame_of_addr}
use Rattle.frame.specs.Frames.{inside}
use Rattle.paging.specs.Walk.{entry_at}
use Rattle.paging.specs.Protect.{protect_pages}
use Rattle.protecting.specs.Protecting.{Remembered}
use Rattle.spans.specs.Spans.{to_end}
use Rattle.protecting.proofs.Below.{follows_same, part_absent, part_down}
use Rattle.protecting.proofs.Leaves.{run_none, run_part, Part, part_of}
use Rattle.protecting.proofs.Remembered.{undone_lent, done_follows, remembered_as, remembered_run, remembered_whole}
use Rattle.protecting.proofs.table.+protect_below_protect_entries.Goals as goal
use Rattle.protecting.proofs.table.+protect_below_protect_entries.Goals.{protect_below-then-d-eq0, protect_below-else-d-eq0, protect_entries-in-Err, protect_entries-in-Ok}

pub protect_below-returns-then-is_done-clause-words_after : goal.protect_below-returns-then-is_done-clause-words_after
protect_below-returns-then-is_done-clause-words_after t c =
    let a = c.args in
    sym (follows_same a.d a.writable a.start a.total a.t a.words.now a.virt.0 a.n
    (done_follows a.writable a.start a.total a.words.now a.gone.now a.d a.t c.requires.remembered (sym c.is_done.ensures ∙ c.if-is_done.true)))

pub protect_below-returns-then-n-all_pages-clause-remembered_2 : goal.protect_below-returns-then-n-all_pages-clause-remembered_2
protect_below-returns-then-n-all_pages-clause-remembered_2 t c =
    let a = c.args in
    let lent : inside a.start a.total a.t ≡ true = undone_lent a.gone.now a.start a.total a.d a.t (sym c.is_done.ensures ∙ c.if-is_done.false) in
    let gone_through : (c.if-d-eq0.words ≡ protect_pages a.d a.writable a.words.now a.start a.total a.t a.virt.0 a.n)
    × Remembered a.writable c.if-d-eq0.words a.start a.total c.if-d-eq0.gone =
    elim c.if-d-eq0.branch [
      | protect_below-then-d-eq0 w ↦ (
        w.words-is ∙ w.protect_leaves.ensures ∙ ap (λ (d : ℕ). protect_pages d a.writable a.words.now a.start a.total a.t a.virt.0 a.n) (sym w.if-d-eq0.true),
        remembered_as a.writable a.start a.total w.words-is w.gone-is
            (remembered_run a.writable a.start a.total 0 a.t a.virt.0 a.n a.words.now a.gone.now w.protect_leaves.ensures c.requires.remembered),
      )
      | protect_below-else-d-eq0 w ↦
          (w.words-is ∙ w.protect_entries.ensures.words_after, remembered_as a.writable a.start a.total w.words-is w.gone-is w.protect_entries.ensures.remembered_2)
    ] in
    remembered_whole a.writable a.start a.total a.d a.t a.virt.0 a.n a.words.now c.if-d-eq0.gone c.remember.new.gone lent
    (omega (arith, c.all_pages.ensures, c.if-n-all_pages.true)) gone_through.0 c.remember.ensures gone_through.1

pub protect_below-returns-else-n-all_pages-clause-remembered_2 : goal.protect_below-returns-else-n-all_pages-clause-remembered_2
protect_below-returns-else-n-all_pages-clause-remembered_2 t c =
    let a = c.args in
    elim c.if-d-eq0.branch [
      | protect_below-then-d-eq0 w ↦
          remembered_as a.writable a.start a.total w.words-is w.gone-is
          (remembered_run a.writable a.start a.total 0 a.t a.virt.0 a.n a.words.now a.gone.now w.protect_leaves.ensures c.requires.remembered)
      | protect_below-else-d-eq0 w ↦ remembered_as a.writable a.start a.total w.words-is w.gone-is w.protect_entries.ensures.remembered_2
    ]

pub protect_entries-loop-done-init : goal.protect_entries-loop-done-init
protect_entries-loop-done-init t c =
    let a = c.args in
    (omega arith, sym (run_none a.d a.writable a.words.now a.start a.total a.t a.virt.0), c.requires.remembered)

-- the pages of the run so far, those below this entry among them
pub protect_entries-loop-done-preserved : goal.protect_entries-loop-done-preserved
protect_entries-loop-done-preserved t c =
    let a = c.args in
    let l = c.loop-done in
    let k = c.at_most-part.result in
    let at = a.virt.0 + l.done * 4096 in
    let p : Part l.done a.n (to_end a.d at) k = part_of a.d at l.done a.n c.loop-done-test.true c.to_end.ensures c.at_most-part.ensures in
    let read = ap (entry_at l.words a.start a.total a.t) (sym c.page_index.ensures.value) ∙ sym c.entry_at.ensures in
    let turned : (c.match-entry_at.words ≡ protect_pages a.d a.writable a.words.now a.start a.total a.t a.virt.0 (l.done + k))
    × Remembered a.writable c.match-entry_at.words a.start a.total c.match-entry_at.gone =
    elim c.match-entry_at.branch [
      | protect_entries-in-Err w ↦ (
        run_part a.d a.writable a.words.now a.start a.total a.t a.virt.0 l.done k l.invariant.1
            (w.words-is ∙ sym (part_absent a.writable l.words a.start a.total a.t at k a.d _ c.requires.d_nonzero p.span (read ∙ w.in-Err.is))),
        remembered_as a.writable a.start a.total w.words-is w.gone-is l.invariant.2,
      )
      | protect_entries-in-Ok w ↦ (
        run_part a.d a.writable a.words.now a.start a.total a.t a.virt.0 l.done k l.invariant.1
            (w.words-is ∙ w.protect_below.ensures.words_after
            ∙ ap (λ (f : ℕ). protect_pages (a.d - 1) a.writable l.words a.start a.total f at k) (ap (λ (x : ℕ). x / 4096) w.addr-f.ensures ∙ frame_of_addr w.in-Ok.e)
            ∙ sym (part_down a.writable l.words a.start a.total a.t at k a.d _ c.requires.d_nonzero p.span (read ∙ w.in-Ok.is))),
        remembered_as a.writable a.start a.total w.words-is w.gone-is w.protect_below.ensures.remembered_2,
      )
    ] in
    (p.fit, turned.0, turned.1)
