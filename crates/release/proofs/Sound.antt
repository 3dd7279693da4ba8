-- A board that the invariant holds of is not broken, so no call on it answers 10, and calls go by the levels of its tables.
use Prim.Native.Nat.{ℕ, ◌-◌, ◌%◌}
use mathlib.Core.Path.{◌≡◌, refl}
use mathlib.Core.Bool.{true}
use mathlib.Core.List.{List}
use native.Mathlib.Omega.{arith}
use lib.ListN.{length}
use borrow.Author.Tests.{le-leb, eq-eqb}
use Rattle.paging.specs.Levels.{above_last}
use Rattle.tree.proofs.Ordered.{ordered_whole}
use Rattle.slots.proofs.Filled.{filled, listed_filled, drop_filled, every_zero}
use Rattle.regions.specs.declared.VMRegion.{VMRegion}
use Rattle.regions.specs.Regions.{window_start, window_end, is_no_slot, sound_regions}
use Rattle.regions.specs.Regions.{no_vm_region}
use Rattle.vmalloc.specs.Calls.{sound_kernel}
use Rattle.regions.proofs.Rows.{rows_placed}
use Rattle.mappings.specs.declared.MappedRegion.{MappedRegion}
use Rattle.mappings.specs.Regions.{sound_mappings}
use Rattle.mappings.specs.Regions.{no_mapped_region}
use Rattle.user_space.specs.User.{sound_user}
use Rattle.board.specs.Board.{Board}
use Rattle.release.specs.Calls.{kernel_of, user_of}
use Rattle.release.specs.Demand3.{Region}
use Rattle.release.proofs.Regions.{KernelList, UserList}
use Rattle.release.proofs.Invariant.{Leftover, Inv}

regions_sound : {k : List VMRegion} {l : List Region} → KernelList k l → sound_regions (filled no_vm_region k) ≡ true
unfolding sound_regions
regions_sound {k} h =
    rw (le-leb _ _ h.few, listed_filled no_vm_region k, rows_placed window_start window_end k (omega arith) h.rows, drop_filled no_vm_region k)
    (every_zero no_vm_region is_no_slot refl (256 - length k))

mappings_sound : {u : List MappedRegion} {l : List Region} (next : ℕ) → UserList u l → next % 4096 ≡ 0 → sound_mappings (filled no_mapped_region u) next ≡ true
unfolding sound_mappings
mappings_sound {u} next h e =
    rw (le-leb _ _ h.few, listed_filled no_mapped_region u, h.rising.0, h.rising.1, eq-eqb (next % 4096) 0 e)

module _ {up : ℕ} {b : Board} {k : List VMRegion} {u : List MappedRegion} {l : List Region} {left : Leftover} (h : Inv up left b k u l) where
  pub kernel_sound : sound_kernel (kernel_of b) b.root ≡ true
  kernel_sound = rw (ordered_whole h.paged.account.order, h.kernel_is) (regions_sound h.kernel_list)

  pub user_sound : sound_user (user_of b) b.root ≡ true
  user_sound = rw (ordered_whole h.paged.account.order, h.user_is) (mappings_sound b.next h.user_list h.next)

  -- it has so many levels above its last
  pub above_is : above_last b.mem ≡ up
  above_is = omega (arith, h.paged.account.order.levels)
