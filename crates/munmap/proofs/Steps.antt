-- What each step of a munmap comes to, by the tests that code makes.
use Prim.Native.Nat.{ℕ, ◌/◌, ◌%◌}
use mathlib.Core.Path.{◌≡◌, refl, sym, ◌∙◌, ap, subst}
use mathlib.Core.Bool.{Bool, true, false}
use mathlib.Core.List.{List}
use borrow.Author.Tests.{eq-eqb, ne_eqb}
use Rattle.answer.specs.declared.Refusal.{Refusal}
use Rattle.std.specs.Prelude.{Ok, Err}
use Rattle.answer.specs.declared.Refusal.TheVariants.{SizeZero, Unaligned, BrokenRecord, RegionNotFound}
use Rattle.bits.specs.Bit.{both}
use Rattle.slots.specs.Slots.{listed, store}
use Rattle.packed.proofs.RoundTrip.{Bytes}
use Rattle.answer.specs.Outcomes.{as_answer}
use Rattle.allocator.specs.Round.{rounded}
use Rattle.frame.specs.Found.{none_found}
use Rattle.frame.specs.declared.FrameAllocator.{FrameAllocator}
use Rattle.frame.specs.declared.Tally.{Tally}
use Rattle.paging.specs.Levels.{above_last}
use Rattle.paging.specs.Map.{Memory}
use Rattle.paging.specs.Pages.{free_pages}
use Rattle.paging.specs.Found.{pages_found}
use Rattle.mappings.specs.Regions.{no_mapped_region, holds, remove}
use Rattle.mappings.specs.Packed.{mmap_fit}
use Rattle.user_space.specs.Packed.{user_in, lent_user, UserLeaves}
use Rattle.user_space.specs.User.{User, user, user_did, sound_user, UserDid}
use Rattle.user_space.proofs.Leaving.{leaves_alone}
use Rattle.munmap.specs.Packed.{munmap_found_on, munmapped}
use Rattle.munmap.specs.Calls.{unmap_region, munmap, region_found, munmap_found}
use Rattle.munmap.specs.declared.Munmapped.{Munmapped}

-- ---- the region

module _ (up : ℕ) (s : User) (root a n : ℕ) where
  pub unmap_none : holds a n (listed s.regions) ≡ false → unmap_region up s root a n ≡ user_did (Err RegionNotFound) s
  unmap_none h = rw h

  pub unmap_met : holds a n (listed s.regions) ≡ true
      → unmap_region up s root a n ≡ user_did (Ok 0) (user (free_pages up s.mem root a (n / 4096)) (store no_mapped_region (remove a (listed s.regions)) s.regions) s.next)
  unmap_met h = rw h

-- ---- the call

module _ (up : ℕ) (s : User) (root a size : ℕ) where
  pub munmap_broken : sound_user s root ≡ false → munmap up s root a size ≡ user_did (Err BrokenRecord) s
  unfolding munmap
  munmap_broken h = rw h

  module _ (h : sound_user s root ≡ true) where
    pub munmap_empty : size ≡ 0 → munmap up s root a size ≡ user_did (Err SizeZero) s
    unfolding munmap
    munmap_empty z = rw (h, eq-eqb _ _ z)

    module _ (k : size ≡ 0 → ⊥) where
      pub munmap_odd : (a % 4096 ≡ 0 → ⊥) → munmap up s root a size ≡ user_did (Err Unaligned) s
      unfolding munmap
      munmap_odd o = rw (h, ne_eqb _ _ k, ne_eqb _ _ o)

      module _ (o : a % 4096 ≡ 0) where
        pub munmap_large : (e : Refusal) → rounded size ≡ Err e → munmap up s root a size ≡ user_did (Err e) s
        unfolding munmap
        munmap_large e r = rw (h, ne_eqb _ _ k, eq-eqb _ _ o, r)

        pub munmap_sized : (n : ℕ) → rounded size ≡ Ok n → munmap up s root a size ≡ unmap_region up s root a n
        unfolding munmap
        munmap_sized n r = rw (h, ne_eqb _ _ k, eq-eqb _ _ o, r)

-- ---- what it finds

module _ (up : ℕ) (s : User) (root a n : ℕ) where
  pub tally_none : holds a n (listed s.regions) ≡ false → region_found up s root a n ≡ none_found
  tally_none h = rw h

  pub tally_met : holds a n (listed s.regions) ≡ true → region_found up s root a n ≡ pages_found up s.mem root a (n / 4096)
  tally_met h = rw h

module _ (m : Memory) (list : List ℕ) (root a size : ℕ) where
  pub tally_broken : both (mmap_fit list) (sound_user (user_in m list) root) ≡ false → munmap_found_on m list root a size ≡ none_found
  unfolding munmap_found_on munmap_found
  tally_broken h = by (mmap_fit list) refl
    where
      by : (f : Bool) → mmap_fit list ≡ f → munmap_found_on m list root a size ≡ none_found
      by true e = rw (e, sym (ap (λ (f : Bool). both f (sound_user (user_in m list) root)) e) ∙ h)
      by false e = rw e

  module _ (fit : mmap_fit list ≡ true) (h : sound_user (user_in m list) root ≡ true) where
    pub tally_empty : size ≡ 0 → munmap_found_on m list root a size ≡ none_found
    unfolding munmap_found_on munmap_found
    tally_empty z = rw (fit, h, eq-eqb _ _ z)

    module _ (k : size ≡ 0 → ⊥) where
      pub tally_odd : (a % 4096 ≡ 0 → ⊥) → munmap_found_on m list root a size ≡ none_found
      unfolding munmap_found_on munmap_found
      tally_odd o = rw (fit, h, ne_eqb _ _ k, ne_eqb _ _ o)

      module _ (o : a % 4096 ≡ 0) where
        pub tally_large : (e : Refusal) → rounded size ≡ Err e → munmap_found_on m list root a size ≡ none_found
        unfolding munmap_found_on munmap_found
        tally_large e r = rw (fit, h, ne_eqb _ _ k, eq-eqb _ _ o, r)

        pub tally_sized : (n : ℕ) → rounded size ≡ Ok n → munmap_found_on m list root a size ≡ region_found (above_last m) (user_in m list) root a n
        unfolding munmap_found_on munmap_found
        tally_sized n r = rw (fit, h, ne_eqb _ _ k, eq-eqb _ _ o, r)

-- ---- a refusal, as code returns it

module _ (bm : List ℕ) {e : Refusal} {fr : FrameAllocator} {ws list : List ℕ} {d : UserDid} (b : Bytes list) (fit : mmap_fit list ≡ true) (h : d ≡ user_did (Err e) (lent_user ws bm fr list)) where
  pub not_unmapped_left : {r : Munmapped} → r ≡ record { answer = Err e; found = none_found; frames = fr } → UserLeaves as_answer (munmapped r ws bm list) d
  not_unmapped_left q = subst (λ (x : Munmapped). UserLeaves as_answer (munmapped x ws bm list) d) (sym q) (leaves_alone as_answer b fit h)

pub not_unmapped_found : {r : Munmapped} {e : Refusal} {fr : FrameAllocator} {t : Tally} → r ≡ record { answer = Err e; found = none_found; frames = fr } → t ≡ none_found → r.found ≡ t
not_unmapped_found q e = ap (λ (x : Munmapped). x.found) q ∙ sym e
