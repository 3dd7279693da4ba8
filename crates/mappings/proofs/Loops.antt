-- Loops over the listed regions, turn by turn: by the regions that are left, `r ∷ q` or none.
use Prim.Native.Nat.{ℕ, suc, ◌+◌, ◌<◌, ◌≤◌}
use mathlib.Core.Path.{◌≡◌, sym, ◌∙◌, ap}
use mathlib.Core.Bool.{true}
use mathlib.Core.List.{List, [], ◌∷◌}
use native.Mathlib.Omega.{arith}
use lib.ListN.{length, get_or}
use lib.Seq.{slice}
use Rattle.slots.specs.Slots.{listed}
use Rattle.slots.proofs.Slices.{next, none}
use Rattle.regions.proofs.Placed.{Placed}
use Rattle.mappings.specs.declared.MappedRegion.{MappedRegion}
use Rattle.mappings.specs.Regions.{no_mapped_region}
use Rattle.mappings.specs.Packed.{mmap_in, sound_list}
use Rattle.mappings.proofs.Rising.{Rising}
use Rattle.mappings.proofs.Stores.{slots_long}
use Rattle.mappings.proofs.Sound.{sound_few, sound_rising, placed_at, rising_after}

-- ---- the regions from slot i on

abbrev pub left : List ℕ → ℕ → List MappedRegion
left bs i = slice i (mmap_in bs).count (mmap_in bs).slots

module _ (bs : List ℕ) (few : (mmap_in bs).count ≤ 256) (i : ℕ) where
  enough : (mmap_in bs).count ≤ length (mmap_in bs).slots
  enough = omega (arith, slots_long bs)

  pub more : i < (mmap_in bs).count → {r : MappedRegion} → r ≡ get_or (mmap_in bs).slots i no_mapped_region → left bs i ≡ r ∷ left bs (i + 1)
  more h e = next no_mapped_region (mmap_in bs).slots (mmap_in bs).count enough i h ∙ ap (λ (r : MappedRegion). r ∷ left bs (i + 1)) (sym e)

  pub no_more : (mmap_in bs).count ≤ i → left bs i ≡ []
  no_more h = none no_mapped_region (mmap_in bs).slots (mmap_in bs).count enough i h

-- each of them is well placed, and those behind it start above it
module _ (bs : List ℕ) (h : sound_list bs ≡ true) (i : ℕ) (k : i < (mmap_in bs).count) {r : MappedRegion} (e : r ≡ get_or (mmap_in bs).slots i no_mapped_region) where
  pub placed_slot : Placed r.start r.size
  placed_slot = placed_at i 0 (listed (mmap_in bs)) (sound_rising bs h) (more bs (sound_few bs h) i k e)

  pub rising_slot : Rising (suc r.start) (left bs (i + 1))
  rising_slot = rising_after i 0 (listed (mmap_in bs)) (sound_rising bs h) (more bs (sound_few bs h) i k e)
