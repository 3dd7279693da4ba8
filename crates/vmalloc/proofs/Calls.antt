-- What vmalloc and vfree come to, by the outcomes that document 01 names.
use Prim.Native.Nat.{ℕ, ◌/◌, ◌<◌, ◌≤◌}
use mathlib.Core.Path.{◌≡◌, sym, ◌∙◌, ap}
use mathlib.Core.Bool.{true, false}
use mathlib.Core.List.{List}
use mathlib.Core.Logic.{◌⊎◌, inl, inr}
use native.Mathlib.Omega.{arith}
use lib.Dec.{eqb, leb}
use borrow.Author.Tests.{eqb-true, eqb-false, eq-eqb, ne_eqb, leb-true}
use Rattle.std.specs.Prelude.{Ok, Err, Result}
use Rattle.answer.specs.declared.Refusal.{Refusal}
use Rattle.answer.specs.declared.Refusal.TheVariants.{SizeZero, TooLarge, BrokenRecord, RegionNotFound}
use Rattle.bits.proofs.Choice.{pick_cases}
use Rattle.allocator.specs.Round.{rounded, round_up, last_page}
use Rattle.paging.specs.Map.{Memory}
use Rattle.regions.specs.declared.VMRegion.{VMRegion}
use Rattle.paging.specs.Pages.{Ran, ran, free_pages}
use Rattle.paging.proofs.Calls.{walked_cases}
use Rattle.slots.specs.Slots.{listed, store}
use Rattle.regions.specs.Regions.{no_vm_region, first_fit, taken_slots, used_size, free_first, merge}
use Rattle.vmalloc.specs.Calls.{Kernel, kernel, KernelDid, kernel_did, sound_kernel, kernel_mapped, kernel_pages, kernel_placed, kernel_sized, released, vmalloc, vfree}

positive : (n : ℕ) → (n ≡ 0 → ⊥) → 0 < n
positive n d = omega (arith, d)

module _ (up : ℕ) (k : Kernel) (root : ℕ) where
  -- every outcome of a vmalloc
  pub vmalloc_cases : (size : ℕ) (P : KernelDid → Type 0)
      → (sound_kernel k root ≡ false → P (kernel_did (Err BrokenRecord) k))
      → P (kernel_did (Err SizeZero) k)
      → P (kernel_did (Err TooLarge) k)
      → ((e : Refusal) → first_fit (round_up 12 size) (listed k.regions) ≡ Err e → P (kernel_did (Err e) k))
      → (sound_kernel k root ≡ true → 0 < size → size ≤ last_page → (a : ℕ) → first_fit (round_up 12 size) (listed k.regions) ≡ Ok a
      → P (kernel_mapped a (round_up 12 size) k.regions (kernel_pages up k.mem root a (round_up 12 size)).walked (kernel_pages up k.mem root a (round_up 12 size)).mem))
      → P (vmalloc up k root size)
  unfolding vmalloc rounded
  vmalloc_cases size P broken empty large none fits =
      pick_cases P (sound_kernel k root) _ _
      (λ s. pick_cases P (eqb size 0) _ _ (λ _. empty) (λ z.
      let pos : 0 < size = positive size (eqb-false size 0 z) in
      pick_cases (λ c. P (kernel_sized up k root c)) (leb size last_page) (Ok (round_up 12 size)) (Err TooLarge)
      (λ l. walked_cases (λ w. P (kernel_placed up k root (round_up 12 size) w)) (first_fit (round_up 12 size) (listed k.regions)) (fits s pos (leb-true _ _ l)) none)
      (λ _. large)))
      broken

  -- every outcome of a vfree
  pub vfree_cases : (a : ℕ) (P : KernelDid → Type 0)
      → (sound_kernel k root ≡ false → P (kernel_did (Err BrokenRecord) k))
      → ((e : Refusal) → (a ≡ 0) ⊎ (used_size a (listed k.regions) ≡ Err e) → P (kernel_did (Err e) k))
      → (sound_kernel k root ≡ true → 0 < a → (n : ℕ) → used_size a (listed k.regions) ≡ Ok n
      → P (kernel_did (Ok 0) (kernel (free_pages up k.mem root a (n / 4096)) (store no_vm_region (merge (free_first a (listed k.regions))) k.regions))))
      → P (vfree up k root a)
  unfolding vfree
  vfree_cases a P broken none met =
      pick_cases P (sound_kernel k root) _ _
      (λ s. pick_cases P (eqb a 0) _ _ (λ z. none RegionNotFound (inl (eqb-true a 0 z))) (λ z.
      walked_cases (λ w. P (released up k root a w)) (used_size a (listed k.regions)) (met s (positive a (eqb-false a 0 z))) (λ e f. none e (inr f))))
      broken

  -- .. by what code has tested
  pub vmalloc_broken : (size : ℕ) → sound_kernel k root ≡ false → vmalloc up k root size ≡ kernel_did (Err BrokenRecord) k
  unfolding vmalloc
  vmalloc_broken size h = rw h

  pub vmalloc_empty : (size : ℕ) → sound_kernel k root ≡ true → size ≡ 0 → vmalloc up k root size ≡ kernel_did (Err SizeZero) k
  unfolding vmalloc
  vmalloc_empty size h z = rw (h, eq-eqb size 0 z)

  pub vmalloc_sized : (size : ℕ) → sound_kernel k root ≡ true → (size ≡ 0 → ⊥) → vmalloc up k root size ≡ kernel_sized up k root (rounded size)
  unfolding vmalloc
  vmalloc_sized size h z = rw (h, ne_eqb size 0 z)

  pub vfree_broken : (a : ℕ) → sound_kernel k root ≡ false → vfree up k root a ≡ kernel_did (Err BrokenRecord) k
  unfolding vfree
  vfree_broken a h = rw h

  pub vfree_null : (a : ℕ) → sound_kernel k root ≡ true → a ≡ 0 → vfree up k root a ≡ kernel_did (Err RegionNotFound) k
  unfolding vfree
  vfree_null a h z = rw (h, eq-eqb a 0 z)

  pub vfree_is : (a : ℕ) → sound_kernel k root ≡ true → (a ≡ 0 → ⊥) → vfree up k root a ≡ released up k root a (used_size a (listed k.regions))
  unfolding vfree
  vfree_is a h z = rw (h, ne_eqb a 0 z)

  -- n bytes at region a, once its pages are mapped or the run has stopped
  module _ (n a : ℕ) (f : first_fit n (listed k.regions) ≡ Ok a) {w : Result ℕ Refusal} {done : ℕ} {m : Memory} (e : ran w done m ≡ kernel_pages up k.mem root a n) where
    run : kernel_placed up k root n (first_fit n (listed k.regions)) ≡ kernel_mapped a n k.regions w m
    run = ap (kernel_placed up k root n) f ∙ ap (λ (r : Ran). kernel_mapped a n k.regions r.walked r.mem) (sym e)

    pub placed_met : (x : ℕ) → w ≡ Ok x → kernel_placed up k root n (first_fit n (listed k.regions)) ≡ kernel_did (Ok a) (kernel m (taken_slots true n k.regions))
    placed_met x g = run ∙ ap (λ (v : Result ℕ Refusal). kernel_mapped a n k.regions v m) g

    pub placed_stop : (x : Refusal) → w ≡ Err x → kernel_placed up k root n (first_fit n (listed k.regions)) ≡ kernel_did (Err x) (kernel m (taken_slots false n k.regions))
    placed_stop x g = run ∙ ap (λ (v : Result ℕ Refusal). kernel_mapped a n k.regions v m) g

  -- the used region at a, which is region i, once its pages are freed
  pub released_met : (a n : ℕ) → used_size a (listed k.regions) ≡ Ok n → {m : Memory} → m ≡ free_pages up k.mem root a (n / 4096)
      → {l : List VMRegion} → free_first a (listed k.regions) ≡ l
      → released up k root a (used_size a (listed k.regions)) ≡ kernel_did (Ok 0) (kernel m (store no_vm_region (merge l) k.regions))
  released_met a n u e f =
      ap (released up k root a) u ∙ (λ j. kernel_did (Ok 0) (kernel (sym e j) (store no_vm_region (merge (f j)) k.regions)))

-- a vfree that is met
pub vfree_met : (up : ℕ) (k : Kernel) (root a n : ℕ) → sound_kernel k root ≡ true → 0 < a → used_size a (listed k.regions) ≡ Ok n
    → vfree up k root a ≡ kernel_did (Ok 0) (kernel (free_pages up k.mem root a (n / 4096)) (store no_vm_region (merge (free_first a (listed k.regions))) k.regions))
unfolding vfree
vfree_met up k root a n s pos e = rw (s, ne_eqb a 0 (λ z. omega arith), e)
