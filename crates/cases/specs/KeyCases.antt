-- Document 01's 'Key cases' as one table.
use Rattle.std.specs.Prelude.{Ok, Err, Option}
use Rattle.answer.specs.declared.Refusal.TheVariants.{TooLarge, NoRegion, RegionNotFound}
use Rattle.std.specs.Prelude.{ℕ, ◌+◌, ◌-◌, ◌^◌, ◌≡◌, true, false, [], ◌∷◌, ℤ}
use Rattle.allocator.specs.Round.{rounded}
use Rattle.entry.specs.Entry.{indices, entry_of, huge_entry_of}
use Rattle.frame.specs.Frames.{Frames, init, sound, is_allocated}
use Rattle.slots.specs.Slots.{listed}
use Rattle.vmalloc.specs.Calls.{vmalloc_of, kernel_did}
use Rattle.mappings.specs.Regions.{user_start, holds}
use Rattle.free_range.specs.Search.{find_free}
use Rattle.user_space.specs.User.{User, sound_user, user_did}
use Rattle.mmap.specs.Calls.{mmap_of}
use Rattle.munmap.specs.Calls.{munmap_of}
use Rattle.board.specs.Board.{Board, board_did, start}
use Rattle.release.specs.Calls.{kernel_of}

pub record KeyCases : Type 0 where
  -- K1 4096 rounds to 4096
  pub k1 : rounded 4096 ≡ Ok 4096
  -- K2 0xFFFFFFC000000000 has indices 511, 256, 0, 0
  pub k2 : indices 4 0xFFFF_FFC0_0000_0000 ≡ 511 ∷ 256 ∷ 0 ∷ 0 ∷ []
  -- K3 0x100000000000: 32, 0, 0, 0
  pub k3 : indices 4 0x1000_0000_0000 ≡ 32 ∷ 0 ∷ 0 ∷ 0 ∷ []
  -- K4 frame 0x101000 writable, not user: 0x101003
  pub k4 : entry_of 0x10_1000 true false ≡ 0x10_1003
  -- K5 user, not writable: 0x101005
  pub k5 : entry_of 0x10_1000 false true ≡ 0x10_1005
  -- K6 huge 0x200000, both: 0x200087
  pub k6 : huge_entry_of 0x20_0000 true true ≡ 0x20_0087
  -- K7 init(0x1800, 0x3800): start 1, total 2
  pub k7 : (fr : Frames) → ((init fr 0x1800 0x3800).answer ≡ Ok tt) × ((init fr 0x1800 0x3800).frames.fa.start ≡ 1) × ((init fr 0x1800 0x3800).frames.fa.total ≡ 2)
  -- K8 with 8192 frames from 256, frames 255 and 8448 read allocated
  pub k8 : (fr : Frames) → fr.fa.start ≡ 256 → fr.fa.total ≡ 8192 → sound fr ≡ true → (is_allocated fr 255 ≡ Ok true) × (is_allocated fr 8448 ≡ Ok true)
  -- K9 fresh search: 0x6FFFFFFFE000 found, 0x6FFFFFFFF000 is 15. Fresh is what a met start leaves
  pub k9 : (old fresh : Board) (from to levels : ℕ) → start old from to levels ≡ board_did (Ok 0) fresh
      → (find_free (listed fresh.user) fresh.next 0x6FFF_FFFF_E000 ≡ Ok user_start) × (find_free (listed fresh.user) fresh.next 0x6FFF_FFFF_F000 ≡ Err NoRegion)
  -- K10 fresh vmalloc of 2^37+1 bytes: 15
  pub k10 : (old fresh : Board) (from to levels : ℕ) → start old from to levels ≡ board_did (Ok 0) fresh
      → vmalloc_of (kernel_of fresh) fresh.root (2 ^ 37 + 1) ≡ kernel_did (Err NoRegion) (kernel_of fresh)
  -- K11 a two-page region: munmap with 4097 met, with 4096 is 16
  pub k11 : (s : User) (root a : ℕ) → sound_user s root ≡ true → holds a 8192 (listed s.regions) ≡ true
      → ((munmap_of s root a 4097).answer ≡ Ok 0) × (munmap_of s root a 4096 ≡ user_did (Err RegionNotFound) s)
  -- K12 mmap size 2^64−4095: 3
  pub k12 : (s : User) (root : ℕ) (hint : Option ℕ) (prot flags : ℤ) → sound_user s root ≡ true → mmap_of s root hint (2 ^ 64 - 4095) prot flags ≡ user_did (Err TooLarge) s
