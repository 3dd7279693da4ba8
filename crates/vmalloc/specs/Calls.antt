-- vmalloc and vfree, in document 01's order of checks.
use Rattle.std.specs.Prelude.{Ok, Err, Result}
use Rattle.answer.specs.declared.Refusal.{Refusal}
use Rattle.answer.specs.declared.Refusal.TheVariants.{SizeZero, BrokenRecord, RegionNotFound}
use Rattle.std.specs.Prelude.{ℕ, ◌/◌, Bool, true, false, eqb, leb, ltb}
use Rattle.bits.specs.Bit.{pick, unless, both}
use Rattle.allocator.specs.Round.{rounded}
use Rattle.frame.specs.declared.Tally.{Tally}
use Rattle.frame.specs.Found.{none_found}
use Rattle.paging.specs.Levels.{above_last}
use Rattle.paging.specs.Map.{Memory}
use Rattle.paging.specs.Calls.{whole}
use Rattle.slots.specs.Slots.{Slots, listed, store}
use Rattle.regions.specs.declared.VMRegion.{VMRegion}
use Rattle.regions.specs.Regions.{window_start, window_end, no_vm_region, sound_regions, first_fit, taken_slots, used_size, free_first, merge}
use Rattle.paging.specs.Pages.{Ran, map_pages, free_pages}
use Rattle.paging.specs.Found.{pages_found}

-- what vmalloc and vfree are lent: words and frames, the root beside them, and the list
pub record Kernel : Type 0 where
  pub mem : Memory
  pub regions : Slots VMRegion

abbrev pub kernel : Memory → Slots VMRegion → Kernel
kernel m s = record { mem = m; regions = s }

pub record KernelDid : Type 0 where
  pub answer : Result ℕ Refusal
  pub kernel : Kernel

abbrev pub kernel_did : Result ℕ Refusal → Kernel → KernelDid
kernel_did a k = record { answer = a; kernel = k }

abbrev pub sound_kernel : Kernel → ℕ → Bool
sound_kernel k root = both (whole k.mem root) (sound_regions k.regions)

-- 'Each page: take a frame, zero it, map it writable and not user'
abbrev pub kernel_pages : ℕ → Memory → ℕ → ℕ → ℕ → Ran
kernel_pages up m root a n = map_pages up true false m root a 0 (n / 4096)

-- the region at a once its pages are mapped; after 11 or 13 'the region is free with its size cut, split and unmerged'
abbrev pub kernel_mapped : ℕ → ℕ → Slots VMRegion → Result ℕ Refusal → Memory → KernelDid
kernel_mapped a n s (Ok x) m = kernel_did (Ok a) (kernel m (taken_slots true n s))
kernel_mapped a n s (Err e) m = kernel_did (Err e) (kernel m (taken_slots false n s))

-- n bytes at the first free region large enough; 15 where there is none
abbrev pub kernel_placed : ℕ → Kernel → ℕ → ℕ → Result ℕ Refusal → KernelDid
kernel_placed up k root n (Ok a) = kernel_mapped a n k.regions (kernel_pages up k.mem root a n).walked (kernel_pages up k.mem root a n).mem
kernel_placed up k root n (Err e) = kernel_did (Err e) k

abbrev pub kernel_sized : ℕ → Kernel → ℕ → Result ℕ Refusal → KernelDid
kernel_sized up k root (Ok n) = kernel_placed up k root n (first_fit n (listed k.regions))
kernel_sized up k root (Err e) = kernel_did (Err e) k

-- 'vmalloc: 1, 3, 15', after 10
unfoldable pub vmalloc : ℕ → Kernel → ℕ → ℕ → KernelDid
vmalloc up k root size =
    unless (sound_kernel k root) (kernel_did (Err BrokenRecord) k)
    (pick (eqb size 0) (kernel_did (Err SizeZero) k)
    (kernel_sized up k root (rounded size)))

-- on a board, by its own levels
abbrev pub vmalloc_of : Kernel → ℕ → ℕ → KernelDid
vmalloc_of k root size = vmalloc (above_last k.mem) k root size

-- a used region of n bytes at a, unmapped, freed and merged; or 16
abbrev pub released : ℕ → Kernel → ℕ → ℕ → Result ℕ Refusal → KernelDid
released up k root a (Ok n) =
    kernel_did (Ok 0) (kernel (free_pages up k.mem root a (n / 4096)) (store no_vm_region (merge (free_first a (listed k.regions))) k.regions))
released up k root a (Err e) = kernel_did (Err e) k

-- 16 for 'vfree of an unknown or null address'
unfoldable pub vfree : ℕ → Kernel → ℕ → ℕ → KernelDid
vfree up k root a =
    unless (sound_kernel k root) (kernel_did (Err BrokenRecord) k)
    (pick (eqb a 0) (kernel_did (Err RegionNotFound) k)
    (released up k root a (used_size a (listed k.regions))))

-- on a board, by its own levels
abbrev pub vfree_of : Kernel → ℕ → ℕ → KernelDid
vfree_of k root a = vfree (above_last k.mem) k root a

-- what its frames were found to be, none where it is refused
abbrev pub released_found : ℕ → Kernel → ℕ → ℕ → Result ℕ Refusal → Tally
released_found up k root a (Ok n) = pages_found up k.mem root a (n / 4096)
released_found up k root a (Err e) = none_found

-- 'munmap and vfree return how many frames fell in each', by vfree's checks
unfoldable pub vfree_found : ℕ → Kernel → ℕ → ℕ → Tally
vfree_found up k root a =
    unless (sound_kernel k root) none_found
    (pick (eqb a 0) none_found
    (released_found up k root a (used_size a (listed k.regions))))

abbrev pub vfree_found_of : Kernel → ℕ → ℕ → Tally
vfree_found_of k root a = vfree_found (above_last k.mem) k root a

abbrev pub is_vmalloc_addr : ℕ → Bool
is_vmalloc_addr a = both (leb window_start a) (ltb a window_end)
