-- What releases find: each frame of a live region is freed, in whatever order, and another call finds none.
use Prim.Native.Nat.{ℕ, zero, suc, ◌/◌}
use mathlib.Core.Path.{◌≡◌, refl, ◌∙◌, ap, sym}
use mathlib.Core.Bool.{Bool, true, false}
use mathlib.Core.List.{List, Memᴰ}
use lib.Dec.{eqb}
use Rattle.std.specs.Prelude.{Ok, Err, Result}
use Rattle.answer.specs.declared.Refusal.{Refusal}
use Rattle.bits.specs.Bit.{pick, unless}
use Rattle.allocator.specs.Round.{rounded}
use Rattle.frame.specs.Found.{none_found}
use Rattle.paging.specs.Found.{pages_found}
use Rattle.slots.specs.Slots.{listed}
use Rattle.regions.specs.declared.VMRegion.{VMRegion}
use Rattle.regions.specs.Regions.{used_size}
use Rattle.mappings.specs.declared.MappedRegion.{MappedRegion}
use Rattle.mappings.specs.Regions.{holds}
use Rattle.vmalloc.specs.Calls.{released_found, vfree_found}
use Rattle.user_space.specs.User.{on_page}
use Rattle.munmap.specs.Calls.{unmapped_found, munmap_found}
use Rattle.board.specs.Board.{Board}
use Rattle.release.specs.Calls.{Call, vmalloc_call, vfree_call, mmap_call, munmap_call, kernel_of, user_of}
use Rattle.release.specs.Demand3.{Region, kernel_region, user_region, Releases, by_vfree, by_munmap}
use Rattle.release.specs.Found.{found_by, FreesWhole, ReleasesFreeWhole}
use Rattle.release.proofs.Lists.{perm_front}
use Rattle.release.proofs.Invariant.{Leftover, Inv, inv_perm}
use Rattle.release.proofs.Sound.{kernel_sound, user_sound, above_is}
use Rattle.release.proofs.Kernel.{kernel_listed}
use Rattle.release.proofs.User.{user_listed}
use Rattle.release.proofs.Orders.{gave, order_end}
use Rattle.release.proofs.Run.{fresh_any, some_levels}

module _ {up : ℕ} {b : Board} {k : List VMRegion} {u : List MappedRegion} {l : List Region} {left : Leftover} (h : Inv up left b k u l) where
  -- a call that releases no live region
  vfree_other : (a : ℕ) → ((r : Region) → Memᴰ r l → Releases r (vfree_call a) → ⊥) → found_by b (vfree_call a) ≡ none_found
  unfolding vfree_found
  vfree_other a other = rw (above_is h, kernel_sound h) (by (eqb a 0) (used_size a (listed b.kernel)) refl)
    where
      by : (z : Bool) (w : Result ℕ Refusal) → used_size a (listed b.kernel) ≡ w → pick z none_found (released_found up (kernel_of b) b.root a w) ≡ none_found
      by true w e = refl
      by false (Err x) e = refl
      by false (Ok n) e = absurd (other (kernel_region a n) (h.kernel_list.used a n (ap (used_size a) (sym (kernel_listed h)) ∙ e)) by_vfree)

  munmap_other : (a size : ℕ) → ((r : Region) → Memᴰ r l → Releases r (munmap_call a size) → ⊥) → found_by b (munmap_call a size) ≡ none_found
  unfolding munmap_found
  munmap_other a size other = rw (above_is h, user_sound h) (by (eqb size 0) (on_page a) (rounded size) refl)
    where
      held : (n : ℕ) → rounded size ≡ Ok n → (x : Bool) → holds a n (listed b.user) ≡ x → unless x none_found (pages_found up b.mem b.root a (n / 4096)) ≡ none_found
      held n e true q = absurd (other (user_region a n) (h.user_list.held a n (ap (holds a n) (sym (user_listed h)) ∙ q)) (by_munmap e))
      held n e false q = refl

      by : (z y : Bool) (w : Result ℕ Refusal) → rounded size ≡ w → pick z none_found (unless y none_found (unmapped_found up (user_of b) b.root a w)) ≡ none_found
      by true y w e = refl
      by false false w e = refl
      by false true (Err x) e = refl
      by false true (Ok n) e = held n e (holds a n (listed b.user)) refl

  other_found : (c : Call) → ((r : Region) → Memᴰ r l → Releases r c → ⊥) → found_by b c ≡ none_found
  other_found (vmalloc_call size) other = refl
  other_found (vfree_call a) other = vfree_other a other
  other_found (mmap_call hint size prot flags) other = refl
  other_found (munmap_call a size) other = munmap_other a size other

  frees_whole : FreesWhole b l
  frees_whole = record {
    one = λ r c m x. let g = gave x (inv_perm (perm_front l m).1 h) in (g.met, g.found);
    order = λ rs o. (order_end h o).found;
    other = other_found;
  }

pub releases_free_whole : ReleasesFreeWhole
releases_free_whole old fresh from to zero st cs = absurd (some_levels old fresh from to st)
releases_free_whole old fresh from to (suc up) st cs = frees_whole (fresh_any old fresh from to up st cs).1
