-- The list as packed bytes (docs/LAYOUT.md): the count first, then 256 slots.
use Rattle.std.specs.Prelude.{ℕ, zero, suc, Bool, true, List, ◌++◌, eqb, leb, length, take, drop}
use Rattle.bits.specs.Bit.{both, one}
use Rattle.packed.specs.Words.{number, bytes}
use Rattle.packed.specs.Records.{records, packed}
use Rattle.slots.specs.Slots.{Slots}
use Rattle.regions.specs.declared.VMRegion.{VMRegion}
use Rattle.regions.specs.Regions.{vm_region}

-- the count and 256 regions of 24 bytes
abbrev pub vm_size : ℕ
vm_size = 6152

-- its numbers of 8 bytes
abbrev pub vm_words : ℕ
vm_words = 769

-- a region: start, size, and 1 for used or 0 for free, each of 8 bytes
abbrev pub vm_region_in : List ℕ → VMRegion
vm_region_in b = vm_region (number 8 b) (number 8 (drop 8 b)) (eqb (number 8 (drop 16 b)) 1)

abbrev pub vm_region_out : VMRegion → List ℕ
vm_region_out r = bytes 8 r.start ++ (bytes 8 r.size ++ bytes 8 (one r.used))

-- whether each of n regions has 0 or 1 for `used`
unfoldable pub used_is_flag : ℕ → List ℕ → Bool
used_is_flag zero bs = true
used_is_flag (suc n) bs = both (leb (number 8 (drop 16 bs)) 1) (used_is_flag n (drop 24 bs))

abbrev pub vm_in : List ℕ → Slots VMRegion
vm_in bs = record { slots = records vm_region_in 256 (drop 8 bs); count = number 8 bs }

abbrev pub vm_out : Slots VMRegion → List ℕ
vm_out s = bytes 8 s.count ++ packed vm_region_out s.slots

-- another number for `used` than 0 or 1 stands for no record
abbrev pub vm_fit : List ℕ → Bool
vm_fit bs = both (eqb (length bs) vm_size) (used_is_flag 256 (drop 8 bs))

-- slots, the first n of them those of l
abbrev pub overwritten : ℕ → List VMRegion → List VMRegion → List VMRegion
overwritten n l slots = take n l ++ drop n slots
