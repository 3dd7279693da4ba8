-- The invariant: what is left to test, behind the last page that was read, decides the whole.
use Rattle.std.proofs.Common.{◌≡◌, ◌-◌, ◌≤◌, take}
use Prim.Native.Nat.{suc}
use lib.Seq.{slice}
use Rattle.slots.specs.Sorted.{rising_from}
use Rattle.cow.specs.Marked.{page_key}
use Rattle.cow.specs.Packed.{marked_in}
use Rattle.cow.proofs.list.pages_rise.Given as goal

abbrev pub invariant-loop-i : goal.invariant-loop-i
invariant-loop-i v = let l = (marked_in v.list).slots in
    (1 ≤ v.i) × (v.i ≤ 256) × (rising_from page_key 0 (take v.n l) ≡ rising_from page_key (suc v.last) (slice v.i v.n l))

abbrev pub decreases-loop-i : goal.decreases-loop-i
decreases-loop-i l = l.n - l.i
