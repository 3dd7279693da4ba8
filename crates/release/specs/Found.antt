-- What releases find (document 02, slip 5), beside demand 3: in every order the same, each frame freed.
use Rattle.std.specs.Prelude.{Ok}
use Rattle.std.specs.Prelude.{ℕ, ◌/◌, ◌≡◌}
use mathlib.Core.List.{List, [], ◌∷◌, map, Memᴰ}
use Rattle.frame.specs.declared.Tally.{Tally}
use Rattle.frame.specs.Found.{tally, none_found}
use Rattle.vmalloc.specs.Calls.{vfree_found_of}
use Rattle.munmap.specs.Calls.{munmap_found_of}
use Rattle.board.specs.Board.{Board, board_did, start}
use Rattle.release.specs.Calls.{Call, vmalloc_call, vfree_call, mmap_call, munmap_call, kernel_of, user_of, play, after, events}
use Rattle.release.specs.Demand3.{Region, size_is, live, Releases, Order}

-- 'munmap and vfree return how many frames fell in each': what a call finds on a board
abbrev pub found_by : Board → Call → Tally
found_by b (vmalloc_call size) = none_found
found_by b (vfree_call a) = vfree_found_of (kernel_of b) b.root a
found_by b (mmap_call hint size prot flags) = none_found
found_by b (munmap_call a size) = munmap_found_of (user_of b) b.root a size

-- .. and each call of a list, on the board that the last one left
unfoldable pub each_found : Board → List Call → List Tally
each_found b [] = []
each_found b (c ∷ cs) = found_by b c ∷ each_found (play b c).board cs

-- the frames of a region: all freed, none already free, none off the board
abbrev pub whole_freed : Region → Tally
whole_freed r = tally (size_is r / 4096) 0 0

-- what holds of a board with the live regions l
pub record FreesWhole (b : Board) (l : List Region) : Type 0 where
  -- a release of a live region is met, and frees each of its frames
  pub one : (r : Region) (c : Call) → Memᴰ r l → Releases r c → ((play b c).answer ≡ Ok 0) × (found_by b c ≡ whole_freed r)
  -- 'orders of releasing all live regions, one call each': so does each release, wherever it stands
  pub order : (rs : List Call) (o : Order l rs) → each_found b rs ≡ map whole_freed o.0
  -- a call that releases no live region finds no frame
  pub other : (c : Call) → ((r : Region) → Memᴰ r l → Releases r c → ⊥) → found_by b c ≡ none_found

-- 'For every list of vmalloc, vfree, mmap and munmap calls, refused ones included, from a fresh board'. Neither of demand 3's two conditions is asked: what calls turned away
-- with 11 or 13 leave behind lies in no live region.
abbrev pub ReleasesFreeWhole : Type 0
ReleasesFreeWhole =
    (old fresh : Board) (from to levels : ℕ) → start old from to levels ≡ board_did (Ok 0) fresh
    → (cs : List Call) → FreesWhole (after fresh cs) (live (events fresh cs))
