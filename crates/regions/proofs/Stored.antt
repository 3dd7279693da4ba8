-- The slots after a step on the list: a region cut, or freed, is what `store` says.
use Rattle.std.proofs.Common.{◌≡◌, ℕ, suc, ◌+◌, ◌-◌, ◌<◌, ◌≤◌, max, Bool, true, false, ltb, List, [], ◌∷◌, ◌++◌, length, get_or, take, drop, set, sym, ◌∙◌, subst, arith, length-take-le, get_or-take, drop-set-lt}
use lib.Seq.{take-set-lt}
use Rattle.bits.specs.Bit.{both}
use Rattle.slots.specs.Slots.{Slots, slotted, listed, every, store, first_at}
use Rattle.slots.specs.Shifts.{shifted_up}
use Rattle.slots.proofs.Stored.{store_same, store_longer, cut_whole, cut_split, split_start, cut_length}
use Rattle.regions.specs.declared.VMRegion.{VMRegion}
use Rattle.regions.specs.Regions.{vm_region, no_vm_region, well_placed_vm, fits, behind, take_first, taken, taken_slots, merge}
use Rattle.regions.specs.List.{marked_at, freed_at}
use Rattle.regions.proofs.Placed.{every_at, every_set}
use Rattle.regions.proofs.Firsts.{taken_at}

-- ---- n bytes taken of the first region large enough, which is region i

module _ (s : Slots VMRegion) (enough : s.count ≤ length s.slots) (used : Bool) (n i : ℕ) (first : i ≡ first_at (fits n) (listed s)) (small : i < s.count) where
  abbrev there : VMRegion
  there = get_or s.slots i no_vm_region

  listed_length : length (listed s) ≡ s.count
  listed_length = length-take-le s.count s.slots enough

  abbrev cut_at : Bool → ℕ → VMRegion → List VMRegion
  cut_at room k r = take k (listed s) ++ (vm_region r.start n used ∷ behind n room r (drop (suc k) (listed s)))

  cut : (room : Bool) → take_first used n room (listed s) ≡ cut_at room i there
  cut room =
      subst (λ (r : VMRegion). take_first used n room (listed s) ≡ cut_at room i r) (get_or-take s.count s.slots i no_vm_region small)
      (subst (λ (k : ℕ). take_first used n room (listed s) ≡ cut_at room k (get_or (listed s) k no_vm_region)) (sym first)
      (taken_at n used room (listed s) (omega (arith, first, listed_length))))

  pub taken_whole : both (ltb s.count 256) (ltb n there.size) ≡ false
      → taken_slots used n s ≡ record { slots = set s.slots i (vm_region there.start n used); count = s.count }
  taken_whole e =
      let a = vm_region there.start n used in
      let m = take i (listed s) ++ (a ∷ drop (suc i) (listed s)) in
      let l : taken used n (listed s) ≡ m = cut (ltb (length (listed s)) 256) ∙ rw (listed_length, e) in
      let c : length m ≡ s.count = cut_length no_vm_region s.slots s.count i small enough (a ∷ []) ∙ omega arith in
      rw (l, store_same no_vm_region m s c) (λ j. record { slots = sym (cut_whole no_vm_region s.slots s.count i small enough a) j; count = s.count })

  pub taken_split : s.count < length s.slots → both (ltb s.count 256) (ltb n there.size) ≡ true
      → taken_slots used n s ≡ record {
        slots = set (set (shifted_up s.slots (i + 1) s.count) (i + 1) (vm_region (there.start + n) (there.size - n) false)) i (vm_region there.start n used);
        count = s.count + 1;
      }
  taken_split more e =
      let a = vm_region there.start n used in
      let b = vm_region (there.start + n) (there.size - n) false in
      let m = take i (listed s) ++ (a ∷ (b ∷ drop (suc i) (listed s))) in
      let l : taken used n (listed s) ≡ m = cut (ltb (length (listed s)) 256) ∙ rw (listed_length, e) in
      let c : length m ≡ s.count + 1 = cut_length no_vm_region s.slots s.count i small enough (a ∷ (b ∷ [])) ∙ omega arith in
      rw (l, store_longer no_vm_region m s c) (λ j. record { slots = sym (cut_split no_vm_region s.slots s.count i small enough more a b) j; count = s.count + 1 })

  -- the lists of slots that the code steps through
  pub whole_steps : both (ltb s.count 256) (ltb n there.size) ≡ false → {zs : List VMRegion} → zs ≡ marked_at i n used s.slots → slotted zs s.count ≡ taken_slots used n s
  whole_steps e z = rw z (sym (taken_whole e))

  pub split_steps : s.count < length s.slots → both (ltb s.count 256) (ltb n there.size) ≡ true → {t : VMRegion} {zs ws : List VMRegion}
      → t ≡ vm_region (there.start + n) (there.size - n) false → zs ≡ set (shifted_up s.slots (i + 1) s.count) (i + 1) t → ws ≡ marked_at i n used zs
      → slotted ws (s.count + 1) ≡ taken_slots used n s
  split_steps more e t z w = rw (w, z, t, split_start no_vm_region s.slots s.count i small enough more (vm_region (there.start + n) (there.size - n) false)) (sym (taken_split more e))

-- ---- region i free

module _ (s : Slots VMRegion) (enough : s.count ≤ length s.slots) (i : ℕ) (small : i < s.count) where
  abbrev freed : VMRegion
  freed = vm_region (get_or s.slots i no_vm_region).start (get_or s.slots i no_vm_region).size false

  abbrev after : Slots VMRegion
  after = record { slots = set s.slots i freed; count = s.count }

  pub freed_listed : listed after ≡ freed_at i (listed s)
  freed_listed = rw (get_or-take s.count s.slots i no_vm_region small) (take-set-lt s.count s.slots i freed small)

  pub freed_lie : every well_placed_vm (listed s) ≡ true → every well_placed_vm (listed after) ≡ true
  freed_lie h =
      let k : i < length (listed s) = omega (arith, length-take-le s.count s.slots enough) in
      rw freed_listed (every_set well_placed_vm (listed s) h i _ (every_at well_placed_vm (listed s) h no_vm_region i k))

  -- what is stored after it is stored in its place
  pub freed_stored : store no_vm_region (merge (listed after)) after ≡ store no_vm_region (merge (freed_at i (listed s))) s
  unfolding store
  freed_stored =
      rw (freed_listed, drop-set-lt (max s.count (length (merge (freed_at i (listed s))))) s.slots i freed (omega arith))
