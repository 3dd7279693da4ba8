-- The vmalloc list, document 01's 'vmalloc': first fit, split, merge.
use Rattle.std.specs.Prelude.{Ok, Err, Result}
use Rattle.answer.specs.declared.Refusal.{Refusal}
use Rattle.answer.specs.declared.Refusal.TheVariants.{NoRegion, RegionNotFound}
use Rattle.std.specs.Prelude.{ℕ, ◌+◌, ◌-◌, ◌%◌, Bool, false, not, List, [], ◌∷◌, length, drop, ◌==◌, nat_le, nat_lt}
use Rattle.bits.specs.Bit.{pick, both}
use Rattle.allocator.specs.Round.{last_page}
use Rattle.slots.specs.Slots.{Slots, listed, every, store}
use Rattle.regions.specs.declared.VMRegion.{VMRegion}

-- 'The window runs from 0xFFFFFFC000000000 up to, not including, 0xFFFFFFE000000000'
abbrev pub window_start : ℕ
window_start = 0xFFFF_FFC0_0000_0000

abbrev pub window_end : ℕ
window_end = 0xFFFF_FFE0_0000_0000

abbrev pub vm_region : ℕ → ℕ → Bool → VMRegion
vm_region start size used = record { start = start; size = size; used = used }

-- the window as one free region
abbrev pub window : VMRegion
window = vm_region window_start (window_end - window_start) false

abbrev pub no_vm_region : VMRegion
no_vm_region = vm_region 0 0 false

-- what is asked of a recorded region, here and in the mmap list: aligned, not empty, ending at most at 2^64 − 4096
abbrev pub well_placed : ℕ → ℕ → Bool
well_placed start size =
    both (start % 4096 == 0) (both (size % 4096 == 0) (both (nat_lt 0 size) (nat_le (start + size) last_page)))

abbrev pub well_placed_vm : VMRegion → Bool
well_placed_vm r = well_placed r.start r.size

abbrev pub is_no_slot : VMRegion → Bool
is_no_slot r = both (r.start == 0) (both (r.size == 0) (not r.used))

-- not broken: at most 256 regions, each well placed, and zero slots past the count
unfoldable pub sound_regions : Slots VMRegion → Bool
sound_regions s =
    both (nat_le s.count 256) (both (every well_placed_vm (listed s)) (every is_no_slot (drop s.count s.slots)))

-- a free region of n bytes or more
abbrev pub fits : ℕ → VMRegion → Bool
fits n r = both (not r.used) (nat_le n r.size)

-- 'First free region large enough'; 15 where there is none
unfoldable pub first_fit : ℕ → List VMRegion → Result ℕ Refusal
first_fit n [] = Err NoRegion
first_fit n (r ∷ l) = pick (fits n r) (Ok r.start) (first_fit n l)

-- the regions behind the one that n bytes are taken of: 'A larger one is split if fewer than 256 stand; at 256 the tail is lost'
abbrev pub behind : ℕ → Bool → VMRegion → List VMRegion → List VMRegion
behind n room r l = pick (both room (nat_lt n r.size)) (vm_region (r.start + n) (r.size - n) false ∷ l) l

-- n bytes taken of the first free region large enough: it has n bytes then, and is used or free
unfoldable pub take_first : Bool → ℕ → Bool → List VMRegion → List VMRegion
take_first used n room [] = []
take_first used n room (r ∷ l) =
    pick (fits n r) (vm_region r.start n used ∷ behind n room r l) (r ∷ take_first used n room l)

abbrev pub taken : Bool → ℕ → List VMRegion → List VMRegion
taken used n l = take_first used n (nat_lt (length l) 256) l

-- the list with n bytes taken of the first region large enough
abbrev pub taken_slots : Bool → ℕ → Slots VMRegion → Slots VMRegion
taken_slots used n s = store no_vm_region (taken used n (listed s)) s

-- the size of the used region at a; 16 where there is none
unfoldable pub used_size : ℕ → List VMRegion → Result ℕ Refusal
used_size a [] = Err RegionNotFound
used_size a (r ∷ l) = pick (both (r.start == a) r.used) (Ok r.size) (used_size a l)

-- that region, free
unfoldable pub free_first : ℕ → List VMRegion → List VMRegion
free_first a [] = []
free_first a (r ∷ l) = pick (both (r.start == a) r.used) (vm_region r.start r.size false ∷ l) (r ∷ free_first a l)

-- two free neighbours that adjoin
abbrev pub joins : VMRegion → VMRegion → Bool
joins r s = both (not r.used) (both (not s.used) (r.start + r.size == s.start))

-- the source's pass from r on: 'merges every adjoining free pair until none is left'
unfoldable pub merge_from : VMRegion → List VMRegion → List VMRegion
merge_from r [] = r ∷ []
merge_from r (s ∷ l) = pick (joins r s) (merge_from (vm_region r.start (r.size + s.size) false) l) (r ∷ merge_from s l)

unfoldable pub merge : List VMRegion → List VMRegion
merge [] = []
merge (r ∷ l) = merge_from r l
