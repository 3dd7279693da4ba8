-- What holds of what is lent where nothing of it is broken.
use Prim.Native.Nat.{ℕ}
use mathlib.Core.Path.{◌≡◌}
use mathlib.Core.Bool.{true}
use mathlib.Core.List.{List}
use Rattle.bits.proofs.Choice.{both_true}
use Rattle.paging.specs.Map.{Memory}
use Rattle.paging.specs.Calls.{whole}
use Rattle.mappings.specs.Regions.{sound_mappings}
use Rattle.mappings.specs.Packed.{mmap_fit, sound_list}
use Rattle.user_space.specs.Packed.{user_in}
use Rattle.user_space.specs.User.{User, sound_user}

module _ (s : User) (root : ℕ) (h : sound_user s root ≡ true) where
  pub user_whole : whole s.mem root ≡ true
  user_whole = (both_true (whole s.mem root) (sound_mappings s.regions s.next) h).0

  pub user_sound : sound_mappings s.regions s.next ≡ true
  user_sound = (both_true (whole s.mem root) (sound_mappings s.regions s.next) h).1

-- .. with the list as bytes
pub list_sound : (m : Memory) (list : List ℕ) (root : ℕ) → mmap_fit list ≡ true → sound_user (user_in m list) root ≡ true → sound_list list ≡ true
list_sound m list root f h = rw (f, user_sound (user_in m list) root h)
