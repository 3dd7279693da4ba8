-- The region that a call finds in a list that was tested, where it stands.
use Prim.Native.Nat.{ℕ, ◌<◌, ◌≤◌}
use mathlib.Core.Path.{◌≡◌, sym, ◌∙◌, ap, subst}
use mathlib.Core.Bool.{Bool, true, false}
use mathlib.Core.List.{List}
use native.Mathlib.Omega.{arith}
use lib.ListN.{length, get_or, take}
use Rattle.std.specs.Prelude.{Ok, Err}
use Rattle.answer.specs.declared.Refusal.TheVariants.{NoRegion, RegionNotFound}
use Rattle.bits.proofs.Choice.{both_true, both_false}
use Rattle.paging.specs.Map.{Memory}
use Rattle.paging.specs.Calls.{whole}
use Rattle.slots.specs.Slots.{Slots, listed, first_at}
use Rattle.regions.specs.declared.VMRegion.{VMRegion}
use Rattle.regions.specs.Regions.{no_vm_region, sound_regions, fits, first_fit, used_size, free_first}
use Rattle.regions.specs.List.{used_at, freed_at}
use Rattle.vm_list.specs.Packed.{vm_size, vm_in, vm_fit}
use Rattle.regions.proofs.Placed.{Placed, placed_at, sound_few, sound_placed}
use Rattle.regions.proofs.Firsts.{first_below, fit_none_of, fit_of, used_none_of, used_of, free_of}
use Rattle.vm_list.proofs.RoundTrip.{fit_long, slots_long}
use Rattle.vmalloc.specs.Calls.{kernel, sound_kernel}
use Rattle.vmalloc.specs.Packed.{sound_lent}

-- broken memory, whatever the list is
pub broken_memory : (m : Memory) (bs : List ℕ) (root : ℕ) → whole m root ≡ false → sound_lent m bs root ≡ false
broken_memory m bs root h = rw h (both_false (vm_fit bs))

module _ (m : Memory) (bs : List ℕ) (root : ℕ) (h : sound_lent m bs root ≡ true) where
  abbrev s : Slots VMRegion
  s = vm_in bs

  -- what the test of all that is lent says
  pub lent_fit : vm_fit bs ≡ true
  lent_fit = (both_true (vm_fit bs) _ h).0

  pub lent_long : length bs ≡ vm_size
  lent_long = fit_long bs lent_fit

  pub lent_kernel : sound_kernel (kernel m s) root ≡ true
  lent_kernel = (both_true (vm_fit bs) _ h).1

  pub lent_whole : whole m root ≡ true
  lent_whole = (both_true (whole m root) _ lent_kernel).0

  pub lent_sound : sound_regions s ≡ true
  lent_sound = (both_true (whole m root) _ lent_kernel).1

  enough : s.count ≤ length s.slots
  enough = omega (arith, slots_long bs, sound_few s lent_sound)

  module _ (n : ℕ) (c : n ≡ s.count) where
    pub lent_few : n ≤ 256
    lent_few = omega (arith, sound_few s lent_sound)

    module _ (test : VMRegion → Bool) (i : ℕ) (f : i ≡ first_at test (take n s.slots)) where
      pub in_list : i ≡ first_at test (listed s)
      in_list = f ∙ ap (λ (k : ℕ). first_at test (take k s.slots)) c

      pub in_range_lem : (i ≡ n → ⊥) → i < n
      in_range_lem d = subst (λ (k : ℕ). i < k) (sym c) (first_below s enough test i in_list (λ z. d (z ∙ sym c)))

    module _ (i : ℕ) (small : i < n) (r : VMRegion) (e : r ≡ get_or s.slots i no_vm_region) where
      inside : i < s.count
      inside = omega arith

      pub lies : Placed r.start r.size
      lies = subst (λ (x : VMRegion). Placed x.start x.size) (sym e) (placed_at s (sound_placed s lent_sound) enough i inside)

      module _ (size : ℕ) (f : i ≡ first_at (fits size) (take n s.slots)) where
        pub found : (first_fit size (listed s) ≡ Ok r.start) × (size ≤ r.size)
        found = subst (λ (x : VMRegion). (first_fit size (listed s) ≡ Ok x.start) × (size ≤ x.size)) (sym e) (fit_of s enough size i (in_list (fits size) i f) inside)

      module _ (a : ℕ) (f : i ≡ first_at (used_at a) (take n s.slots)) where
        pub found_used : (used_size a (listed s) ≡ Ok r.size) × (r.start ≡ a)
        found_used = subst (λ (x : VMRegion). (used_size a (listed s) ≡ Ok x.size) × (x.start ≡ a)) (sym e) (used_of s enough a i (in_list (used_at a) i f) inside)

        pub found_freed : free_first a (listed s) ≡ freed_at i (listed s)
        found_freed = free_of s enough a i (in_list (used_at a) i f) inside

    pub none_fits : (i size : ℕ) → i ≡ first_at (fits size) (take n s.slots) → i ≡ n → first_fit size (listed s) ≡ Err NoRegion
    none_fits i size f z = fit_none_of s enough size i (in_list (fits size) i f) (z ∙ c)

    pub none_used : (i a : ℕ) → i ≡ first_at (used_at a) (take n s.slots) → i ≡ n → used_size a (listed s) ≡ Err RegionNotFound
    none_used i a f z = used_none_of s enough a i (in_list (used_at a) i f) (z ∙ c)
