-- The list as packed bytes (docs/LAYOUT.md): the count, next_addr, then 256 slots.
use Rattle.std.specs.Prelude.{ℕ, ◌+◌, ◌*◌, ◌^◌, ◌≡◌, Bool, true, List, ◌++◌, eqb, length, drop}
use Rattle.std.proofs.Common.{of_z, to_z}
use Rattle.std.specs.Int.{w32}
use Rattle.bits.specs.Bit.{both}
use Rattle.packed.specs.Words.{number, bytes}
use Rattle.packed.specs.Records.{records, packed}
use Rattle.slots.specs.Slots.{Slots, slotted}
use Rattle.mappings.specs.declared.MappedRegion.{MappedRegion}
use Rattle.mappings.specs.Regions.{mapped_region, sound_mappings}

-- the count, next_addr and 256 regions of 24 bytes
abbrev pub mmap_size : ℕ
mmap_size = 6160

-- a region: start and size of 8 bytes, prot and flags of 4, by their two's-complement bits
abbrev pub mapped_in : List ℕ → MappedRegion
mapped_in b = mapped_region (number 8 b) (number 8 (drop 8 b)) (to_z w32 (number 4 (drop 16 b))) (to_z w32 (number 4 (drop 20 b)))

abbrev pub mapped_out : MappedRegion → List ℕ
mapped_out r = bytes 8 r.start ++ (bytes 8 r.size ++ bytes 8 (of_z w32 r.prot + of_z w32 r.flags * 2 ^ 32))

abbrev pub mmap_in : List ℕ → Slots MappedRegion
mmap_in bs = slotted (records mapped_in 256 (drop 16 bs)) (number 8 bs)

abbrev pub next_in : List ℕ → ℕ
next_in bs = number 8 (drop 8 bs)

abbrev pub mmap_out : Slots MappedRegion → ℕ → List ℕ
mmap_out s next = (bytes 8 s.count ++ bytes 8 next) ++ packed mapped_out s.slots

-- bytes of another length stand for no list
abbrev pub mmap_fit : List ℕ → Bool
mmap_fit bs = eqb (length bs) mmap_size

-- bytes that stand for these slots and this next_addr
abbrev pub MmapStands : List ℕ → Slots MappedRegion → ℕ → Type 0
MmapStands bs s next = (mmap_fit bs ≡ true) × (mmap_in bs ≡ s) × (next_in bs ≡ next)

-- bytes that stand for a list that is not broken
abbrev pub sound_list : List ℕ → Bool
sound_list bs = both (mmap_fit bs) (sound_mappings (mmap_in bs) (next_in bs))
