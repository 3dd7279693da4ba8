-- A region r in its place k: over the one with its start, with another prot, or put in there.
use Prim.Native.Nat.{ℕ, ◌<◌, ◌≤◌}
use mathlib.Core.Path.{◌≡◌, refl, sym, ◌∙◌, ap}
use mathlib.Core.Bool.{Bool, true, false, true≢false}
use mathlib.Core.List.{List}
use mathlib.Core.Logic.{◌⊎◌, ⊎_elim}
use native.Mathlib.Omega.{arith}
use lib.IntN.{ℤ}
use lib.ListN.{length, get_or, set}
use lib.Seq.{get_or-take, set_split}
use Rattle.std.specs.Prelude.{Option, Some, None}
use Rattle.bits.specs.Bit.{pick}
use Rattle.slots.specs.Slots.{Slots, slotted, listed, store}
use Rattle.slots.specs.Shifts.{put_in}
use Rattle.slots.specs.Sorted.{place_of}
use Rattle.slots.proofs.Sorted.{place_le, place_under, insert_new, insert_there}
use Rattle.slots.proofs.Stored.{stored_over}
use Rattle.mappings.specs.declared.MappedRegion.{MappedRegion}
use Rattle.mappings.specs.Regions.{mapped_region, no_mapped_region, start_key, starts, holds, found_sized, insert, with_prot}
use Rattle.mappings.specs.Packed.{mmap_in, sound_list}
use Rattle.mappings.proofs.Stores.{slots_long}
use Rattle.mappings.proofs.Rising.{prot_there}
use Rattle.mappings.proofs.Sound.{sound_few, sound_rising, listed_long}

module _ (bs : List ℕ) (sound : sound_list bs ≡ true) (a k : ℕ) (e : k ≡ place_of start_key a (listed (mmap_in bs))) where
  pub place_within : k ≤ (mmap_in bs).count
  place_within = omega (arith, place_le start_key a (listed (mmap_in bs)), listed_long bs sound)

  pub place_below : starts a (listed (mmap_in bs)) ≡ true → k < (mmap_in bs).count
  place_below h = omega (arith, place_under start_key a (listed (mmap_in bs)) h, listed_long bs sound)

  -- where none starts at a there is room for one more
  pub place_room : starts a (listed (mmap_in bs)) ≡ false → (length (listed (mmap_in bs)) < 256) ⊎ (starts a (listed (mmap_in bs)) ≡ true) → (mmap_in bs).count < 256
  place_room h = ⊎_elim (λ x. omega (arith, listed_long bs sound)) (λ x. absurd (true≢false (sym x ∙ h)))

module _ (bs : List ℕ) (sound : sound_list bs ≡ true) (r : MappedRegion) (k : ℕ) (e : k ≡ place_of start_key r.start (listed (mmap_in bs))) where
  abbrev l : List MappedRegion
  l = listed (mmap_in bs)

  -- r over the region in slot k
  placed_set : k < (mmap_in bs).count → {t : Slots MappedRegion} → t ≡ slotted (set (mmap_in bs).slots k r) (mmap_in bs).count → t ≡ store no_mapped_region (set l k r) (mmap_in bs)
  placed_set below z =
      let few = sound_few bs sound in
      z ∙ stored_over no_mapped_region (mmap_in bs).slots (mmap_in bs).count k below (omega (arith, slots_long bs)) r
      ∙ ap (λ (x : List MappedRegion). store no_mapped_region x (mmap_in bs)) (sym (set_split l k r (omega (arith, listed_long bs sound))))

  pub placed_over : starts r.start l ≡ true → {t : Slots MappedRegion} → t ≡ slotted (set (mmap_in bs).slots k r) (mmap_in bs).count → t ≡ store no_mapped_region (insert r l) (mmap_in bs)
  placed_over h z =
      placed_set (place_below bs sound r.start k e h) z
      ∙ ap (λ (x : List MappedRegion). store no_mapped_region x (mmap_in bs)) (sym (insert_there start_key r 0 l (sound_rising bs sound).0 h ∙ ap (λ (i : ℕ). set l i r) (sym e)))

  pub placed_new : starts r.start l ≡ false → {t : Slots MappedRegion} → t ≡ store no_mapped_region (put_in k r l) (mmap_in bs) → t ≡ store no_mapped_region (insert r l) (mmap_in bs)
  placed_new h z = z ∙ ap (λ (x : List MappedRegion). store no_mapped_region x (mmap_in bs)) (ap (λ (i : ℕ). put_in i r l) e ∙ sym (insert_new start_key r l h))

-- the slot r at a's place with another prot, p; f is the flags that it has
module _ (bs : List ℕ) (sound : sound_list bs ≡ true) (a k : ℕ) (e : k ≡ place_of start_key a (listed (mmap_in bs))) (h : starts a (listed (mmap_in bs)) ≡ true) where
  pub placed_prot : {r : MappedRegion} → r ≡ get_or (mmap_in bs).slots k no_mapped_region → {prot p f : ℤ} → p ≡ prot → f ≡ r.flags
      → {t : Slots MappedRegion} → t ≡ slotted (set (mmap_in bs).slots k (mapped_region a r.size p f)) (mmap_in bs).count
      → t ≡ store no_mapped_region (with_prot a prot (listed (mmap_in bs))) (mmap_in bs)
  placed_prot {r} s {prot} {p} {f} w g z =
      let below = place_below bs sound a k e h in
      let l = listed (mmap_in bs) in
      let there : r ≡ get_or l k no_mapped_region = s ∙ sym (get_or-take (mmap_in bs).count (mmap_in bs).slots k no_mapped_region below) in
      placed_set bs sound (mapped_region a r.size p f) k e below z
      ∙ ap (λ (x : List MappedRegion). store no_mapped_region x (mmap_in bs))
      ((λ j. set l k (mapped_region a (there j).size (w j) ((g ∙ ap (λ (x : MappedRegion). x.flags) there) j)))
      ∙ (λ j. set l (e j) (mapped_region a (get_or l (e j) no_mapped_region).size prot (get_or l (e j) no_mapped_region).flags))
      ∙ sym (prot_there a prot 0 l (sound_rising bs sound) h))

-- ---- what an answer of `found_sized` tells

abbrev pub is_there : Option ℕ → Bool
is_there (Some k) = true
is_there None = false

abbrev pub place_told : Option ℕ → ℕ
place_told (Some k) = k
place_told None = 0

module _ (a n : ℕ) (l : List MappedRegion) (r : Option ℕ) (e : r ≡ found_sized a n l) where
  told : (b : Bool) → holds a n l ≡ b → r ≡ pick b (Some (place_of start_key a l)) None
  told b h = e ∙ ap (λ (x : Bool). pick x (Some (place_of start_key a l)) None) h

  -- whether the region at a has n bytes
  pub sized_tells : holds a n l ≡ is_there r
  sized_tells = by (holds a n l) refl
    where
      by : (b : Bool) → holds a n l ≡ b → holds a n l ≡ is_there r
      by true h = h ∙ sym (ap is_there (told true h))
      by false h = h ∙ sym (ap is_there (told false h))

  -- .. and its place
  pub sized_place : holds a n l ≡ true → place_told r ≡ place_of start_key a l
  sized_place h = ap place_told (told true h)
