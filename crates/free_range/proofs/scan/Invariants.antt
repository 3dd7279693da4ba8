-- The invariant: what is in the way among the regions left is what is in the way among all, and the regions compared are those gone by and those that the rest takes.
use Rattle.std.proofs.Common.{◌≡◌, ◌+◌, ◌≤◌}
use Rattle.slots.specs.Slots.{listed}
use Rattle.free_range.specs.Search.{in_the_way}
use Rattle.free_range.specs.Compared.{compared_in}
use Rattle.mappings.specs.Packed.{mmap_in}
use Rattle.mappings.proofs.Loops.{left}
use Rattle.free_range.proofs.scan.Given as goal

abbrev pub invariant-loop-i : goal.invariant-loop-i
invariant-loop-i l = (l.i ≤ l.count) × (in_the_way l.a l.n (left l.list l.i) ≡ in_the_way l.a l.n (listed (mmap_in l.list))) × (l.i + compared_in l.a l.n (left l.list l.i) ≡ compared_in l.a l.n (listed (mmap_in l.list)))
