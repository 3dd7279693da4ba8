-- What each step of mprotect comes to, by the tests that code makes, and what it leaves of the packed list.
use Prim.Native.Nat.{ℕ, ◌-◌, ◌/◌, ◌%◌}
use mathlib.Core.Path.{◌≡◌, refl, sym, ◌∙◌, ap}
use mathlib.Core.Bool.{Bool, true, false}
use mathlib.Core.List.{List}
use lib.IntN.{ℤ}
use lib.ListN.{length}
use borrow.Author.Tests.{eq-eqb, ne_eqb}
use Rattle.std.specs.Prelude.{Ok, Err, Result}
use Rattle.answer.specs.declared.Refusal.{Refusal}
use Rattle.answer.specs.declared.Refusal.TheVariants.{SizeZero, Unaligned, BrokenRecord, RegionNotFound}
use Rattle.bits.specs.Bit.{both}
use Rattle.allocator.specs.Round.{rounded}
use Rattle.answer.specs.Outcomes.{as_answer}
use Rattle.packed.proofs.RoundTrip.{Bytes}
use Rattle.paging.specs.Calls.{lent_walk}
use Rattle.paging.specs.Protect.{protect_pages}
use Rattle.slots.specs.Slots.{Slots, listed, store}
use Rattle.mappings.specs.declared.MappedRegion.{MappedRegion}
use Rattle.mappings.specs.Regions.{no_mapped_region, sound_mappings, holds, with_prot}
use Rattle.mappings.specs.Packed.{mmap_in, next_in, mmap_fit, MmapStands, sound_list}
use Rattle.mappings.proofs.RoundTrip.{stands_back}
use Rattle.user_space.specs.Flags.{writable}
use Rattle.mprotect.specs.Calls.{ProtectDid, protect_did, protect_region, mprotect}
use Rattle.mprotect.specs.Packed.{ProtectKept, protect_kept, kept_protected, mprotect_on}

-- ---- the steps

module _ (levels : ℕ) (ws : List ℕ) (start total root : ℕ) (s : Slots MappedRegion) where
  module _ (a n : ℕ) (prot : ℤ) where
    pub region_none : holds a n (listed s) ≡ false → protect_region levels ws start total root s a n prot ≡ protect_did (Err RegionNotFound) ws s
    region_none h = rw h

    pub region_met : holds a n (listed s) ≡ true
        → protect_region levels ws start total root s a n prot
        ≡ protect_did (Ok 0) (protect_pages (levels - 1) (writable prot) ws start total root a (n / 4096)) (store no_mapped_region (with_prot a prot (listed s)) s)
    region_met h = rw h

  module _ (next a size : ℕ) (prot : ℤ) where
    abbrev good : Bool
    good = both (lent_walk levels (length ws) start total root) (sound_mappings s next)

    pub mprotect_broken : good ≡ false → mprotect levels ws start total root s next a size prot ≡ protect_did (Err BrokenRecord) ws s
    unfolding mprotect
    mprotect_broken h = rw h

    module _ (h : good ≡ true) where
      pub mprotect_empty : size ≡ 0 → mprotect levels ws start total root s next a size prot ≡ protect_did (Err SizeZero) ws s
      unfolding mprotect
      mprotect_empty z = rw (h, eq-eqb _ _ z)

      module _ (k : size ≡ 0 → ⊥) where
        pub mprotect_odd : (a % 4096 ≡ 0 → ⊥) → mprotect levels ws start total root s next a size prot ≡ protect_did (Err Unaligned) ws s
        unfolding mprotect
        mprotect_odd o = rw (h, ne_eqb _ _ k, ne_eqb _ _ o)

        module _ (o : a % 4096 ≡ 0) where
          pub mprotect_large : (e : Refusal) → rounded size ≡ Err e → mprotect levels ws start total root s next a size prot ≡ protect_did (Err e) ws s
          unfolding mprotect
          mprotect_large e r = rw (h, ne_eqb _ _ k, eq-eqb _ _ o, r)

          pub mprotect_sized : (n : ℕ) → rounded size ≡ Ok n
              → mprotect levels ws start total root s next a size prot ≡ protect_region levels ws start total root s a n prot
          unfolding mprotect
          mprotect_sized n r = rw (h, ne_eqb _ _ k, eq-eqb _ _ o, r)

-- ---- the packed list

module _ {w : Result ℕ Refusal} {ws : List ℕ} {d : ProtectDid} where
  -- bytes that stand for what was left
  pub leaves : {left : List ℕ} {s : Slots MappedRegion} {next : ℕ} → Bytes left → MmapStands left s next → d ≡ protect_did w ws s
      → protect_kept (as_answer w) ws left ≡ kept_protected d next
  leaves {next = next} b h e = ap (protect_kept (as_answer w) ws) (stands_back b h) ∙ ap (λ (x : ProtectDid). kept_protected x next) (sym e)

  -- bytes that were not touched
  pub leaves_alone : {list : List ℕ} → Bytes list → mmap_fit list ≡ true → d ≡ protect_did w ws (mmap_in list) → protect_kept (as_answer w) ws list ≡ kept_protected d (next_in list)
  leaves_alone b h e = leaves b (h, refl, refl) e

module _ (levels : ℕ) (ws : List ℕ) (start total root : ℕ) (list : List ℕ) (a size : ℕ) (prot : ℤ) where
  abbrev did : ProtectDid
  did = mprotect levels ws start total root (mmap_in list) (next_in list) a size prot

  -- a call on bytes that stand for a list
  pub on_list : {k : ProtectKept} → mmap_fit list ≡ true → k ≡ kept_protected did (next_in list) → k ≡ mprotect_on levels ws start total root list a size prot
  unfolding mprotect_on
  on_list h l = rw h l

  -- .. which are broken, or stand for none
  pub on_broken : Bytes list → both (lent_walk levels (length ws) start total root) (sound_list list) ≡ false
      → protect_kept (as_answer (Err BrokenRecord)) ws list ≡ mprotect_on levels ws start total root list a size prot
  unfolding mprotect_on
  on_broken b e = by (mmap_fit list) refl
    where
      by : (x : Bool) → mmap_fit list ≡ x → protect_kept (as_answer (Err BrokenRecord)) ws list ≡ mprotect_on levels ws start total root list a size prot
      by true f = on_list f (leaves_alone b f (mprotect_broken levels ws start total root (mmap_in list) (next_in list) a size prot (rw f at e)))
      by false f = rw f
