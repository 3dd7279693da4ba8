-- A full word moves the search on, and the first other one ends it.
use Rattle.std.proofs.Common.{refl, sym, arith, le_refl}
use Rattle.bitmap.specs.Bitmap.{marks_in}
use Rattle.bitmap.proofs.ByWord.{run_full, run_marked, run_told, all_passed}
use Rattle.bitmap.proofs.lowest_free.Goals as goal

pub returns-then-w : goal.returns-then-w
returns-then-w c =
    let run = c.marked_run in
    rw c.then_some.ensures (run_told (marks_in c.args.bitmap.now) c.loop-k.k c.word-w.result run.result c.word-w.ensures (omega arith) c.loop-k.invariant run.ensures.below
    run.ensures.within run.ensures.next c.args.n _ refl)

pub loop-k-preserved : goal.loop-k-preserved
loop-k-preserved c =
    λ j h. run_marked (marks_in c.args.bitmap.now) c.loop-k.k c.word-w.result 64 c.word-w.ensures (le_refl 64) c.loop-k.invariant
    (run_full c.word-w.result c.if-w.false) j (omega arith)

pub returns : goal.returns
returns c =
    sym (all_passed _ _ _ c.loop-k.invariant (omega arith))
