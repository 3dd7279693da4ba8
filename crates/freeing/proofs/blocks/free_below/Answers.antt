-- `free_below`: the pages of entries that are counted are passed over; the next entry is counted once its pages were freed, if the table is still on the way.
use Rattle.std.proofs.Common.{◌-◌, ◌*◌, ◌≤◌, ◌<◌}
use Rattle.paging.specs.Kept.{lent_memory}
use Rattle.freeing.specs.Blocks.{Barren}
use mathlib.Core.Path.{sym, ◌∙◌}
use native.Mathlib.Omega.{arith}
use Rattle.spans.specs.Spans.{to_end}
use Rattle.spans.proofs.Addresses.{to_end_some}
use Rattle.freeing_runs.proofs.Steps.{span_roomy}
use Rattle.freeing.proofs.Barrens.{counted_fit, barren_pass, barren_left, barren_more}
use Rattle.freeing.proofs.blocks.free_below.Goals as goal

pub returns-then-i-k-clause-frames_after : goal.returns-then-i-k-clause-frames_after
returns-then-i-k-clause-frames_after c =
    let few : c.wide-k.result ≤ 512 = omega (arith, c.wide-k.ensures, c.requires.barren.few (c.args.t - c.args.frames.start)) in let past : (512 - c.wide-k.result) * 512 < to_end 2 c.args.virt.0 = counted_fit c.args.virt.0 c.wide-k.result (few) (omega (arith, c.if-i-k.true, c.page_index-i.ensures.value)) in let m = lent_memory c.args.words.now c.args.bitmap.now c.args.frames in barren_pass c.args.up c.requires.le_up m c.args.root.0 c.args.virt.0 c.args.t c.requires.barren c.requires.t_value c.requires.virt_value c.wide-k.result c.wide-k.ensures
    c.at_most-done.result (omega (arith, c.at_most-done.ensures, c.to_end.ensures))

pub find_above-requires-clause-words_lent : goal.find_above-requires-clause-words_lent
find_above-requires-clause-words_lent c =
    let few : c.wide-k.result ≤ 512 = omega (arith, c.wide-k.ensures, c.requires.barren.few (c.args.t - c.args.frames.start)) in let w = span_roomy c.args.up (lent_memory c.args.words.now c.args.bitmap.now c.args.frames) c.args.root.0 c.args.virt.0 c.at_most-done-2.result c.free_run-pages.ensures.frames_after c.requires.room_to_take in record { few = w.held.few; enough = w.enough; low = w.held.low }

pub returns-in-Err-clause-barren_2 : goal.returns-in-Err-clause-barren_2
returns-in-Err-clause-barren_2 c =
    let kept : Barren c.free_run-pages.new.words c.free_run-pages.result.frames.start c.free_run-pages.result.frames.total c.args.barren.now = barren_left c.args.up (lent_memory c.args.words.now c.args.bitmap.now c.args.frames) c.args.root.0 c.args.virt.0 c.at_most-done-2.result
    c.free_run-pages.ensures.frames_after c.requires.barren in let step : (0 < c.at_most-done-2.result) × (c.at_most-done-2.result ≤ c.args.n) = (
      omega (arith, c.at_most-done-2.ensures, c.to_end-2.ensures, to_end_some 1 c.args.virt.0, c.requires.n_nonzero),
      omega (arith, c.at_most-done-2.ensures),
    ) in let g = step in kept

pub returns-in-Ok-clause-barren_2 : goal.returns-in-Ok-clause-barren_2
returns-in-Ok-clause-barren_2 c =
    let step : (0 < c.at_most-done-2.result) × (c.at_most-done-2.result ≤ c.args.n) = (
      omega (arith, c.at_most-done-2.ensures, c.to_end-2.ensures, to_end_some 1 c.args.virt.0, c.requires.n_nonzero),
      omega (arith, c.at_most-done-2.ensures),
    ) in let g = step in barren_more c.args.up c.requires.le_up (lent_memory c.args.words.now c.args.bitmap.now c.args.frames) c.args.root.0 c.args.virt.0 c.args.t c.requires.barren c.requires.t_value
    c.requires.virt_value c.at_most-done-2.result c.free_run-pages.ensures.frames_after (omega (arith, c.at_most-done-2.ensures, c.to_end-2.ensures))
    c.if-done-eq512.true (sym c.find_above.ensures ∙ c.in-Ok.is) c.wide-k.result
    (sym c.if-i-k-2.true ∙ c.page_index-i.ensures.value) c.wide-k.ensures

pub returns-else-i-k-2-clause-barren_2 : goal.returns-else-i-k-2-clause-barren_2
returns-else-i-k-2-clause-barren_2 c =
    let kept : Barren c.free_run-pages.new.words c.free_run-pages.result.frames.start c.free_run-pages.result.frames.total c.args.barren.now = barren_left c.args.up (lent_memory c.args.words.now c.args.bitmap.now c.args.frames) c.args.root.0 c.args.virt.0 c.at_most-done-2.result
    c.free_run-pages.ensures.frames_after c.requires.barren in let step : (0 < c.at_most-done-2.result) × (c.at_most-done-2.result ≤ c.args.n) = (
      omega (arith, c.at_most-done-2.ensures, c.to_end-2.ensures, to_end_some 1 c.args.virt.0, c.requires.n_nonzero),
      omega (arith, c.at_most-done-2.ensures),
    ) in let g = step in kept
