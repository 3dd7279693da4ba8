-- mprotect (document 02, slip 1): it is lent the words, what a walk needs, and the list of mmap.
use Rattle.std.specs.Prelude.{Ok, Err, Result}
use Rattle.answer.specs.declared.Refusal.{Refusal}
use Rattle.answer.specs.declared.Refusal.TheVariants.{SizeZero, Unaligned, BrokenRecord, RegionNotFound}
use Rattle.std.specs.Prelude.{ℕ, ◌-◌, ◌/◌, List, ℤ, eqb, length}
use Rattle.bits.specs.Bit.{pick, unless, both}
use Rattle.allocator.specs.Round.{rounded}
use Rattle.paging.specs.Levels.{levels_of}
use Rattle.paging.specs.Map.{memory, start_frame, total_of}
use Rattle.paging.specs.Calls.{lent_walk}
use Rattle.paging.specs.Protect.{protect_pages}
use Rattle.slots.specs.Slots.{Slots, listed, store}
use Rattle.mappings.specs.declared.MappedRegion.{MappedRegion}
use Rattle.mappings.specs.Regions.{no_mapped_region, sound_mappings, holds, with_prot}
use Rattle.user_space.specs.Flags.{writable}
use Rattle.user_space.specs.User.{User, user, UserDid, user_did, on_page}

-- the answer, and what is left of the words and of the list
pub record ProtectDid : Type 0 where
  pub answer : Result ℕ Refusal
  pub words : List ℕ
  pub regions : Slots MappedRegion

abbrev pub protect_did : Result ℕ Refusal → List ℕ → Slots MappedRegion → ProtectDid
protect_did a ws s = record { answer = a; words = ws; regions = s }

-- 'takes a region's start and size as munmap does': the region of n bytes at a. 'It makes WRITABLE follow PROT_WRITE .., and stores the new prot'; flags stay
abbrev pub protect_region : ℕ → List ℕ → ℕ → ℕ → ℕ → Slots MappedRegion → ℕ → ℕ → ℤ → ProtectDid
protect_region levels ws start total root s a n prot =
    unless (holds a n (listed s)) (protect_did (Err RegionNotFound) ws s)
    (protect_did (Ok 0) (protect_pages (levels - 1) (writable prot) ws start total root a (n / 4096)) (store no_mapped_region (with_prot a prot (listed s)) s))

abbrev pub protect_sized : ℕ → List ℕ → ℕ → ℕ → ℕ → Slots MappedRegion → ℕ → ℤ → Result ℕ Refusal → ProtectDid
protect_sized levels ws start total root s a prot (Ok n) = protect_region levels ws start total root s a n prot
protect_sized levels ws start total root s a prot (Err e) = protect_did (Err e) ws s

-- 'in munmap's order of checks': 1, 2, 3, 16, after 10
unfoldable pub mprotect : ℕ → List ℕ → ℕ → ℕ → ℕ → Slots MappedRegion → ℕ → ℕ → ℕ → ℤ → ProtectDid
mprotect levels ws start total root s next a size prot =
    unless (both (lent_walk levels (length ws) start total root) (sound_mappings s next)) (protect_did (Err BrokenRecord) ws s)
    (pick (eqb size 0) (protect_did (Err SizeZero) ws s)
    (unless (on_page a) (protect_did (Err Unaligned) ws s)
    (protect_sized levels ws start total root s a prot (rounded size))))

-- on a board: of its frames' record the start, the total and the levels are read, and next_addr is left
abbrev pub keep_user : User → ProtectDid → UserDid
keep_user u d = user_did d.answer (user (memory d.words u.mem.frames) d.regions u.next)

abbrev pub mprotect_of : User → ℕ → ℕ → ℕ → ℤ → UserDid
mprotect_of u root a size prot =
    keep_user u (mprotect (levels_of u.mem) u.mem.words (start_frame u.mem) (total_of u.mem) root u.regions u.next a size prot)
