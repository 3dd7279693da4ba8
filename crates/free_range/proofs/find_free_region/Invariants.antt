-- The invariant: a search from `addr` finds what one from next_addr does, and compares as many regions less those compared so far. Past a region in the way the address is larger.
use Rattle.std.proofs.Common.{◌≡◌, ◌+◌, ◌-◌}
use Rattle.slots.specs.Slots.{listed}
use Rattle.free_range.specs.Search.{find_free}
use Rattle.free_range.specs.Compared.{compared}
use Rattle.mappings.specs.Packed.{mmap_in, next_in}
use Rattle.free_range.proofs.find_free_region.Given as goal

abbrev pub invariant-loop-addr : goal.invariant-loop-addr
invariant-loop-addr l =
    (find_free (listed (mmap_in l.list)) l.addr l.n ≡ find_free (listed (mmap_in l.list)) (next_in l.list) l.n)
    × (l.compared + compared (listed (mmap_in l.list)) l.addr l.n ≡ compared (listed (mmap_in l.list)) (next_in l.list) l.n)

abbrev pub decreases-loop-addr : goal.decreases-loop-addr
decreases-loop-addr l = l.limit - l.addr
