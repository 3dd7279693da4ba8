-- munmap, in document 01's order of checks.
use Rattle.std.specs.Prelude.{Ok, Err, Result}
use Rattle.answer.specs.declared.Refusal.{Refusal}
use Rattle.answer.specs.declared.Refusal.TheVariants.{SizeZero, Unaligned, BrokenRecord, RegionNotFound}
use Rattle.std.specs.Prelude.{ℕ, ◌/◌, eqb}
use Rattle.bits.specs.Bit.{pick, unless}
use Rattle.slots.specs.Slots.{listed, store}
use Rattle.allocator.specs.Round.{rounded}
use Rattle.frame.specs.declared.Tally.{Tally}
use Rattle.frame.specs.Found.{none_found}
use Rattle.paging.specs.Levels.{above_last}
use Rattle.paging.specs.Pages.{free_pages}
use Rattle.paging.specs.Found.{pages_found}
use Rattle.mappings.specs.Regions.{no_mapped_region, holds, remove}
use Rattle.user_space.specs.User.{User, user, UserDid, user_did, sound_user, on_page}

-- 'needs a region's start and its rounded size, and frees its frames'
abbrev pub unmap_region : ℕ → User → ℕ → ℕ → ℕ → UserDid
unmap_region up s root a n =
    unless (holds a n (listed s.regions)) (user_did (Err RegionNotFound) s)
    (user_did (Ok 0) (user (free_pages up s.mem root a (n / 4096)) (store no_mapped_region (remove a (listed s.regions)) s.regions) s.next))

abbrev pub unmapped : ℕ → User → ℕ → ℕ → Result ℕ Refusal → UserDid
unmapped up s root a (Ok n) = unmap_region up s root a n
unmapped up s root a (Err e) = user_did (Err e) s

-- 'munmap: 1, 2, 3, 16', after 10
unfoldable pub munmap : ℕ → User → ℕ → ℕ → ℕ → UserDid
munmap up s root a size =
    unless (sound_user s root) (user_did (Err BrokenRecord) s)
    (pick (eqb size 0) (user_did (Err SizeZero) s)
    (unless (on_page a) (user_did (Err Unaligned) s)
    (unmapped up s root a (rounded size))))

-- on a board, by its own levels
abbrev pub munmap_of : User → ℕ → ℕ → ℕ → UserDid
munmap_of s root a size = munmap (above_last s.mem) s root a size

-- what its frames were found to be, none where it is refused
abbrev pub region_found : ℕ → User → ℕ → ℕ → ℕ → Tally
region_found up s root a n = unless (holds a n (listed s.regions)) none_found (pages_found up s.mem root a (n / 4096))

abbrev pub unmapped_found : ℕ → User → ℕ → ℕ → Result ℕ Refusal → Tally
unmapped_found up s root a (Ok n) = region_found up s root a n
unmapped_found up s root a (Err e) = none_found

-- 'munmap and vfree return how many frames fell in each', by munmap's checks
unfoldable pub munmap_found : ℕ → User → ℕ → ℕ → ℕ → Tally
munmap_found up s root a size =
    unless (sound_user s root) none_found
    (pick (eqb size 0) none_found
    (unless (on_page a) none_found
    (unmapped_found up s root a (rounded size))))

abbrev pub munmap_found_of : User → ℕ → ℕ → ℕ → Tally
munmap_found_of s root a size = munmap_found (above_last s.mem) s root a size
