-- `free_span`: the pages of a gap, or the leaves of a table.
use Rattle.paging.specs.Kept.{lent_memory}
use Rattle.freeing_runs.proofs.Steps.{is_gap, is_leaves, gap_step, leaves_step}
use Rattle.freeing_runs.proofs.free_span.Goals as goal

pub returns-in-Gap-clause-frames_after : goal.returns-in-Gap-clause-frames_after
returns-in-Gap-clause-frames_after c =
    let m = lent_memory c.args.words.now c.args.bitmap.now c.args.frames in let g = gap_step c.args.up m c.args.root.0 c.args.virt.0 _ c.args.n
    (is_gap c.args.words.now c.args.frames.start c.args.frames.total c.args.up c.args.root.0 c.args.virt.0 c.find_span.ensures c.in-Gap.is)
    c.requires.n_nonzero c.at_most.ensures in g.1.1

pub returns-in-Leaves-clause-frames_after : goal.returns-in-Leaves-clause-frames_after
returns-in-Leaves-clause-frames_after c =
    let g = leaves_step c.args.up (lent_memory c.args.words.now c.args.bitmap.now c.args.frames) c.args.root.0 c.args.virt.0 _ _ c.args.n c.page_index-i.result
    (is_leaves c.args.words.now c.args.frames.start c.args.frames.total c.args.up c.args.root.0 c.args.virt.0 c.find_span.ensures c.in-Leaves.is)
    c.requires.n_nonzero c.at_most-done.ensures c.page_index-i.ensures.value c.free_table-table.ensures.frames_after in g.1.1
