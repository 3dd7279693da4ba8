-- The list as the code holds it, and what its steps come to.
use Rattle.std.specs.Prelude.{ℕ, ◌+◌, ◌≤◌, min, Bool, false, List, ◌∷◌, length, replicate, ◌==◌, slice_index_or, slice_set}
use Rattle.bits.specs.Bit.{both}
use Rattle.slots.specs.Slots.{Slots}
use Rattle.regions.specs.declared.VMRegion.{VMRegion}
use Rattle.regions.specs.Regions.{vm_region, window, no_vm_region}

-- `FEW_REGIONS`: how many slots the small local array has
abbrev pub few_regions : ℕ
few_regions = 64

-- the board's start: the window as one free region
abbrev pub one_region : Slots VMRegion
one_region = record { slots = window ∷ replicate 255 no_vm_region; count = 1 }

-- a used region that starts at a
abbrev pub used_at : ℕ → VMRegion → Bool
used_at a r = both (r.start == a) r.used

-- there are slots for n regions and, if fewer than 256 stand, for one more
abbrev pub HasRoom : ℕ → List VMRegion → Type 0
HasRoom n l = (n ≤ 256) × (min (n + 1) 256 ≤ length l)

-- region i with n bytes, used or free
abbrev pub marked_at : ℕ → ℕ → Bool → List VMRegion → List VMRegion
marked_at i n used l = slice_set l i (vm_region (slice_index_or l i no_vm_region).start n used)

-- region i, free
abbrev pub freed_at : ℕ → List VMRegion → List VMRegion
freed_at i l = marked_at i (slice_index_or l i no_vm_region).size false l
