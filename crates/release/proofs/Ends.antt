-- Releasing all live regions: each release is met, it frees each frame of its region, and what it leaves is told, so that every two orders end in one board.
use Prim.Native.Nat.{ℕ, zero, suc, ◌/◌, ◌%◌, ◌<◌}
use mathlib.Core.Path.{◌≡◌, refl, sym, ◌∙◌, ap, subst}
use mathlib.Core.Bool.{true}
use mathlib.Core.List.Memᴰ
use mathlib.Core.List.{List, ◌∷◌}
use native.Mathlib.Omega.{arith}
use borrow.Author.Tests.{eq-eqb, ne_eqb}
use Rattle.std.specs.Prelude.{Ok}
use Rattle.allocator.specs.Round.{rounded}
use Rattle.paging.specs.Map.{Memory}
use Rattle.paging.specs.Pages.{free_pages}
use Rattle.slots.specs.Slots.{listed}
use Rattle.slots.proofs.Filled.{filled}
use Rattle.regions.specs.declared.VMRegion.{VMRegion}
use Rattle.regions.specs.Regions.{window_start, window_end, used_size, merge}
use Rattle.regions.specs.Regions.{no_vm_region}
use Rattle.regions.proofs.Merge.{freed_all}
use Rattle.regions.proofs.Used.{used_inside}
use Rattle.vmalloc.specs.Calls.{vfree_found}
use Rattle.vmalloc.proofs.Calls.{vfree_met}
use Rattle.mappings.specs.declared.MappedRegion.{MappedRegion}
use Rattle.mappings.specs.Regions.{holds, remove}
use Rattle.mappings.specs.Regions.{no_mapped_region}
use Rattle.mappings.proofs.Rising.{holds_placed}
use Rattle.user_space.specs.User.{on_page}
use Rattle.munmap.specs.Calls.{munmap_found}
use Rattle.munmap.proofs.Calls.{munmap_met}
use Rattle.board.specs.Board.{Board, BoardDid, board_did}
use Rattle.release.specs.Calls.{Call, vfree_call, munmap_call, kernel_of, user_of, play}
use Rattle.release.specs.Demand3.{Region, kernel_region, user_region, start_is, size_is, next}
use Rattle.release.specs.Found.{found_by, whole_freed}
use Rattle.release.proofs.Regions.{kernel_give, kernel_fewer, user_give, user_fewer}
use Rattle.release.proofs.Paged.{paged_give, paged_found, give_start}
use Rattle.release.proofs.Invariant.{Leftover, pages_with, Inv}
use Rattle.release.proofs.Sound.{kernel_sound, user_sound, above_is}
use Rattle.release.proofs.Kernel.{kernel_listed, slots_freed}
use Rattle.release.proofs.User.{user_listed, slots_removed}

-- a board with other memory and other lists
abbrev pub board : Board → Memory → List VMRegion → List MappedRegion → Board
board b m k u = record { mem = m; root = b.root; kernel = filled no_vm_region k; user = filled no_mapped_region u; next = b.next; marked = b.marked }

-- what a release leaves of memory, on a board of up levels above the last, and of lists
abbrev pub memory_after : ℕ → ℕ → Memory → Region → Memory
memory_after up root m r = free_pages up m root (start_is r) (size_is r / 4096)

abbrev pub kernel_after : List VMRegion → Region → List VMRegion
kernel_after k (kernel_region a n) = merge (freed_all a k)
kernel_after k (user_region a n) = k

abbrev pub user_after : List MappedRegion → Region → List MappedRegion
user_after u (kernel_region a n) = u
user_after u (user_region a n) = remove a u

-- one release
pub record Gave (up : ℕ) (left : Leftover) (b : Board) (k : List VMRegion) (u : List MappedRegion) (r : Region) (l : List Region) (c : Call) : Type 0 where
  pub met : (play b c).answer ≡ Ok 0
  pub found : found_by b c ≡ whole_freed r
  pub leaves : (play b c).board ≡ board b (memory_after up b.root b.mem r) (kernel_after k r) (user_after u r)
  pub inv : Inv up left (board b (memory_after up b.root b.mem r) (kernel_after k r) (user_after u r)) (kernel_after k r) (user_after u r) l

-- of a kernel's region
module _ {up : ℕ} {b : Board} {k : List VMRegion} {u : List MappedRegion} {l : List Region} {left : Leftover} (a n : ℕ) (h : Inv up left b k u (kernel_region a n ∷ l)) where
  used : used_size a k ≡ Ok n
  used = h.kernel_list.live a n (Memᴰ.head refl)

  above : 0 < a
  above = omega (arith, (used_inside a n window_start window_end k h.kernel_list.rows used).from)

  listed_used : used_size a (listed b.kernel) ≡ Ok n
  listed_used = ap (used_size a) (kernel_listed h) ∙ used

  kernel_found : found_by b (vfree_call a) ≡ whole_freed (kernel_region a n)
  unfolding vfree_found
  kernel_found = rw (above_is h, kernel_sound h, ne_eqb a 0 (λ z. omega (arith, above)), listed_used) (paged_found a (n / 4096) (pages_with l left.stranded) h.paged)

  kernel_play : play b (vfree_call a) ≡ board_did (Ok 0) (board b (free_pages up b.mem b.root a (n / 4096)) (merge (freed_all a k)) u)
  unfolding play
  kernel_play =
      rw (
        above_is h,
        vfree_met up (kernel_of b) b.root a n (kernel_sound h) above listed_used,
      )
      λ i. board_did (Ok 0) (record { mem = free_pages up b.mem b.root a (n / 4096); root = b.root; kernel = slots_freed h a i; user = h.user_is i; next = b.next; marked = b.marked })

  pub kernel_gave : Gave up left b k u (kernel_region a n) l (vfree_call a)
  kernel_gave = record {
    met = ap (λ (x : BoardDid). x.answer) kernel_play;
    found = kernel_found;
    leaves = ap (λ (x : BoardDid). x.board) kernel_play;
    inv = record {
      paged = paged_give a (n / 4096) h.paged;
      first = h.first ∙ sym (give_start up b.mem b.root a (n / 4096));
      kernel_is = refl;
      kernel_list = kernel_give a n h.kernel_list h.once;
      user_is = refl;
      user_list = user_fewer a n h.user_list;
      next = h.next;
      once = h.once.1;
    };
  }

-- of a user's
module _ {up : ℕ} {b : Board} {k : List VMRegion} {u : List MappedRegion} {l : List Region} {left : Leftover} (a n size : ℕ) (r : rounded size ≡ Ok n) (h : Inv up left b k u (user_region a n ∷ l)) where
  held : holds a n u ≡ true
  held = h.user_list.live a n (Memᴰ.head refl)

  asked : 0 < size
  unfolding rounded
  asked = by size refl
    where
      by : (z : ℕ) → size ≡ z → 0 < size
      by zero e =
          let q : Ok 0 ≡ Ok n = subst (λ (x : ℕ). rounded x ≡ Ok n) e r in
          let w : 0 ≡ n = cc in
          absurd (omega (arith, (holds_placed a n 0 u h.user_list.rising held).some))
      by (suc z) e = omega arith

  even : on_page a ≡ true
  even = eq-eqb (a % 4096) 0 (holds_placed a n 0 u h.user_list.rising held).even

  listed_held : holds a n (listed b.user) ≡ true
  listed_held = ap (holds a n) (user_listed h) ∙ held

  user_found : found_by b (munmap_call a size) ≡ whole_freed (user_region a n)
  unfolding munmap_found
  user_found = rw (above_is h, user_sound h, ne_eqb size 0 (λ z. omega (arith, asked)), even, r, listed_held) (paged_found a (n / 4096) (pages_with l left.stranded) h.paged)

  user_play : play b (munmap_call a size) ≡ board_did (Ok 0) (board b (free_pages up b.mem b.root a (n / 4096)) k (remove a u))
  unfolding play
  user_play =
      rw (
        above_is h,
        munmap_met up (user_of b) b.root a size n (user_sound h) asked even r listed_held,
      )
      λ i. board_did (Ok 0) (record { mem = free_pages up b.mem b.root a (n / 4096); root = b.root; kernel = h.kernel_is i; user = slots_removed h a i; next = b.next; marked = b.marked })

  pub user_gave : Gave up left b k u (user_region a n) l (munmap_call a size)
  user_gave = record {
    met = ap (λ (x : BoardDid). x.answer) user_play;
    found = user_found;
    leaves = ap (λ (x : BoardDid). x.board) user_play;
    inv =
        let g = user_give a n h.user_list h.once in
        record {
          paged = paged_give a (n / 4096) h.paged;
          first = h.first ∙ sym (give_start up b.mem b.root a (n / 4096));
          kernel_is = refl;
          kernel_list = kernel_fewer a n h.kernel_list;
          user_is = refl;
          user_list = g;
          next = h.next;
          once = h.once.1;
        };
  }
