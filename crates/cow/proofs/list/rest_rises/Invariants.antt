-- The invariant: what is left to test, behind the last page that was read, decides the whole.
use Rattle.std.proofs.Common.{◌≡◌, ◌-◌}
use Prim.Native.Nat.{suc}
use lib.Seq.{slice}
use Rattle.slots.specs.Sorted.{rising_from}
use Rattle.cow.specs.Marked.{page_key}
use Rattle.cow.specs.Packed.{marked_in}
use Rattle.cow.proofs.list.rest_rises.Given as goal

abbrev pub invariant-loop-j : goal.invariant-loop-j
invariant-loop-j v = let l = (marked_in v.list).slots in
    rising_from page_key (suc v.before) (slice v.i v.n l) ≡ rising_from page_key (suc v.last) (slice v.j v.n l)

abbrev pub decreases-loop-j : goal.decreases-loop-j
decreases-loop-j l = l.n - l.j
