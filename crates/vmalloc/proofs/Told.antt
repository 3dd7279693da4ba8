-- What the code says of a call's outcome: what it leaves, and the list that its bytes stand for.
use Prim.Native.Nat.{ℕ}
use mathlib.Core.Path.{◌≡◌, refl, sym, ◌∙◌, ap}
use mathlib.Core.Bool.{Bool, true, false, true≢false}
use mathlib.Core.List.{List}
use borrow.Author.Tests.{eq-eqb, ne_eqb}
use Rattle.std.specs.Prelude.{Err, Result}
use Rattle.answer.specs.declared.Refusal.{Refusal}
use Rattle.answer.specs.declared.Refusal.TheVariants.{BrokenRecord}
use Rattle.bits.specs.Bit.{both}
use Rattle.packed.proofs.RoundTrip.{Bytes}
use Rattle.frame.specs.Found.{none_found}
use Rattle.paging.specs.Map.{Memory}
use Rattle.paging.specs.Kept.{Kept, kept}
use Rattle.slots.specs.Slots.{Slots}
use Rattle.regions.specs.declared.VMRegion.{VMRegion}
use Rattle.vm_list.specs.Packed.{vm_in, vm_fit}
use Rattle.vm_list.proofs.RoundTrip.{packed_back}
use Rattle.vmalloc.specs.Calls.{Kernel, kernel, KernelDid, kernel_did, sound_kernel, vfree_found}
use Rattle.vmalloc.specs.Packed.{kept_kernel, on_vm_list, KernelStands, KernelReads, sound_lent, vfree_found_on, released_found_on}
use Rattle.vmalloc.proofs.Found.{lent_fit, lent_kernel}

-- what an inner call leaves
pub left : {A : Type 0} (form : Result ℕ Refusal → A) {d : KernelDid} (w : Result ℕ Refusal) (m : Memory) {s : Slots VMRegion} → d ≡ kernel_did w (kernel m s) → (zs : List ℕ) → vm_fit zs ≡ true → Bytes zs → vm_in zs ≡ s
    → (kept (form w) m zs ≡ kept_kernel form d) × KernelStands d zs
left form w m h zs fit b e =
    ((λ j. kept (form w) m (packed_back zs fit b e j)) ∙ ap (kept_kernel form) (sym h), (fit, e ∙ ap (λ (x : KernelDid). x.kernel.regions) (sym h)))

-- .. and what the call leaves
module _ {A : Type 0} (form : Result ℕ Refusal → A) (call : Kernel → KernelDid) (m : Memory) (list : List ℕ) where
  abbrev pub Told : Kept A → Type 0
  Told k = (k ≡ on_vm_list form call m list) × KernelReads call m list k.list

  -- the list is one, and the call comes to d
  pub told_on : vm_fit list ≡ true → {d : KernelDid} → call (kernel m (vm_in list)) ≡ d → {k : Kept A} → (k ≡ kept_kernel form d) × KernelStands d k.list → Told k
  unfolding on_vm_list
  told_on fit h (e, s) = (e ∙ ap (kept_kernel form) (sym h) ∙ sym (rw fit), λ _. (s.0, s.1 ∙ ap (λ (x : KernelDid). x.kernel.regions) (sym h)))

  -- .. which refuses it
  pub told_refused : vm_fit list ≡ true → Bytes list → (e : Refusal) → call (kernel m (vm_in list)) ≡ kernel_did (Err e) (kernel m (vm_in list)) → Told (kept (form (Err e)) m list)
  told_refused fit b e h = told_on fit h (left form (Err e) m refl list fit b refl)

  -- something is broken
  pub told_broken : (root : ℕ) → sound_lent m list root ≡ false → Bytes list
      → (sound_kernel (kernel m (vm_in list)) root ≡ false → call (kernel m (vm_in list)) ≡ kernel_did (Err BrokenRecord) (kernel m (vm_in list)))
      → Told (kept (form (Err BrokenRecord)) m list)
  unfolding on_vm_list
  told_broken root h b broken = by (vm_fit list) refl
    where
      by : (f : Bool) → vm_fit list ≡ f → Told (kept (form (Err BrokenRecord)) m list)
      by true e = told_refused e b BrokenRecord (broken (sym (ap (λ (f : Bool). both f (sound_kernel (kernel m (vm_in list)) root)) e) ∙ h))
      by false e = (sym (rw e), λ t. absurd (true≢false (sym t ∙ e)))

-- what a vfree finds, by what code has tested
module _ (m : Memory) (list : List ℕ) (root a : ℕ) where
  pub tally_broken : sound_lent m list root ≡ false → vfree_found_on m list root a ≡ none_found
  unfolding vfree_found_on vfree_found
  tally_broken h = by (vm_fit list) refl
    where
      by : (f : Bool) → vm_fit list ≡ f → vfree_found_on m list root a ≡ none_found
      by true e = rw (e, sym (ap (λ (f : Bool). both f (sound_kernel (kernel m (vm_in list)) root)) e) ∙ h)
      by false e = rw e

  module _ (h : sound_lent m list root ≡ true) where
    pub tally_null : a ≡ 0 → vfree_found_on m list root a ≡ none_found
    unfolding vfree_found_on vfree_found
    tally_null z = rw (lent_fit m list root h, lent_kernel m list root h, eq-eqb a 0 z)

    pub tally_is : (a ≡ 0 → ⊥) → vfree_found_on m list root a ≡ released_found_on m list root a
    unfolding vfree_found_on vfree_found
    tally_is z = rw (lent_fit m list root h, lent_kernel m list root h, ne_eqb a 0 z)
