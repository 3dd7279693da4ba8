-- The mmap list, document 01's 'mmap': 256 regions sorted by start.
use Rattle.std.specs.Prelude.{ℕ, ◌%◌, Bool, false, List, [], ◌∷◌, ℤ, pos, eqb, leb, replicate, Option, Some, None}
use Rattle.bits.specs.Bit.{pick, both}
use Rattle.slots.specs.Slots.{Slots, slotted, listed, every}
use Rattle.slots.specs.Sorted.{rising_from as rising_by, has_key, place_of, insert as insert_by, remove as remove_by}
use Rattle.regions.specs.Regions.{well_placed}
use Rattle.mappings.specs.declared.MappedRegion.{MappedRegion}

-- the fresh next_addr
abbrev pub user_start : ℕ
user_start = 0x0000_1000_0000_0000

abbrev pub mapped_region : ℕ → ℕ → ℤ → ℤ → MappedRegion
mapped_region start size prot flags = record { start = start; size = size; prot = prot; flags = flags }

abbrev pub no_mapped_region : MappedRegion
no_mapped_region = mapped_region 0 0 (pos 0) (pos 0)

-- the board's start
abbrev pub empty_slots : Slots MappedRegion
empty_slots = slotted (replicate 256 no_mapped_region) 0

-- regions are sorted by where they start
abbrev pub start_key : MappedRegion → ℕ
start_key r = r.start

-- whether starts rise strictly, the first being `from` or above
abbrev pub rising_from : ℕ → List MappedRegion → Bool
rising_from from l = rising_by start_key from l

-- whether a region starts at a
abbrev pub starts : ℕ → List MappedRegion → Bool
starts a l = has_key start_key a l

-- a region in its place, or instead of the one with its start
abbrev pub insert : MappedRegion → List MappedRegion → List MappedRegion
insert r l = insert_by start_key r l

-- the list without the region at a
abbrev pub remove : ℕ → List MappedRegion → List MappedRegion
remove a l = remove_by start_key a l

-- the list with another prot for the region at a: 'stores the new prot'
unfoldable pub with_prot : ℕ → ℤ → List MappedRegion → List MappedRegion
with_prot a prot [] = []
with_prot a prot (r ∷ l) = pick (eqb r.start a) (mapped_region r.start r.size prot r.flags ∷ l) (r ∷ with_prot a prot l)

-- whether the region at a has n bytes
unfoldable pub holds : ℕ → ℕ → List MappedRegion → Bool
holds a n [] = false
holds a n (r ∷ l) = pick (eqb r.start a) (eqb r.size n) (holds a n l)

-- where the region at a stands, if it has n bytes
abbrev pub found_sized : ℕ → ℕ → List MappedRegion → Option ℕ
found_sized a n l = pick (holds a n l) (Some (place_of start_key a l)) None

abbrev pub well_placed_mapping : MappedRegion → Bool
well_placed_mapping r = well_placed r.start r.size

-- not broken: at most 256 regions, strictly rising, each well placed, and an aligned next_addr
unfoldable pub sound_mappings : Slots MappedRegion → ℕ → Bool
sound_mappings s next =
    both (leb s.count 256)
    (both (rising_from 0 (listed s)) (both (every well_placed_mapping (listed s)) (eqb (next % 4096) 0)))
