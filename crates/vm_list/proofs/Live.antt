-- The slots of a list are copied as far as they are live.
use Prim.Native.Nat.{ℕ, suc, ◌+◌, ◌-◌, ◌<◌, ◌≤◌, min, max}
use mathlib.Core.Path.{◌≡◌, refl, sym, ◌∙◌, ap}
use mathlib.Core.Bool.{Bool, true, false, not}
use mathlib.Core.List.{List, [], ◌∷◌, ◌++◌, append_assoc}
use native.Mathlib.Omega.{arith}
use native.Mathlib.Numerals.{add-one}
use lib.Dec.{eqb}
use lib.ListN.{length-set, length, length-replicate, get_or, take, drop, set, replicate, length-append, length-drop, take-append-drop}
use lib.Seq.{drop-cons, take-suc, append_snoc, set_at, take_at, take_all, length-take-le}
use borrow.Author.Tests.{eqb-true}
use Rattle.bits.proofs.Choice.{both_true}
use Rattle.slots.proofs.Filled.{drop_replicate}
use Rattle.slots.specs.Slots.{Slots, slotted, listed, every, first_at, store}
use Rattle.slots.proofs.Stored.{store_count}
use Rattle.regions.specs.declared.VMRegion.{VMRegion}
use Rattle.regions.specs.Regions.{vm_region, no_vm_region, is_no_slot, well_placed_vm, sound_regions, fits, taken, taken_slots, merge}
use Rattle.regions.specs.List.{HasRoom, freed_at}
use Rattle.vm_list.specs.Packed.{vm_in, vm_fit, overwritten}
use Rattle.regions.proofs.Placed.{sound_few, sound_placed, sound_blank}
use Rattle.vm_list.proofs.RoundTrip.{slots_long}
use Rattle.regions.proofs.Rows.{length_merge, taken_few, taken_more}

-- ---- one slot more is copied

pub copied : {A : Type 0} (d : A) (i : ℕ) (l m zs : List A) → i < length l → i < length m → zs ≡ take i l ++ drop i m → set zs i (get_or l i d) ≡ take (i + 1) l ++ drop (i + 1) m
copied d i l m zs h k e =
    let a = get_or l i d in
    rw (e, add-one i, take-suc l i d h) (
    ap (λ (r : List _). set (take i l ++ r) i a) (drop-cons m i d k)
    ∙ set_at (take i l) (get_or m i d) (drop (suc i) m) a i (length-take-le i l (omega arith))
    ∙ sym (append_snoc (take i l) a (drop (suc i) m))
    )

-- ---- an array of m slots, the first n of them read

module _ {A : Type 0} (n m : ℕ) (d : A) (rs slots : List A) (h : n ≤ m) (k : n ≤ length slots) (e : rs ≡ take (length (take n (replicate m d))) slots) where
  wide : length (take n (replicate m d)) ≡ n
  wide = length-take-le n (replicate m d) (omega (arith, length-replicate m d))

  same : rs ≡ take n slots
  same = e ∙ ap (λ (i : ℕ). take i slots) wide

  as_long : length rs ≡ n
  as_long = ap length same ∙ length-take-le n slots k

  pub read_long : length (rs ++ drop n (replicate m d)) ≡ m
  read_long = omega (arith, length-append rs (drop n (replicate m d)), as_long, length-drop n (replicate m d), length-replicate m d)

  pub read_front : take n (rs ++ drop n (replicate m d)) ≡ take n slots
  read_front = take_at rs (drop n (replicate m d)) n as_long ∙ same

-- the first k slots of an array are written
pub written : (k : ℕ) (zs slots : List VMRegion) → k ≤ length zs → overwritten (length (take k zs)) (take k zs) slots ≡ overwritten k zs slots
written k zs slots h =
    let e = length-take-le k zs h in
    ap (λ (i : ℕ). take i (take k zs) ++ drop i slots) e ∙ ap (λ (l : List VMRegion). l ++ drop k slots) (take_all k (take k zs) (omega arith))

-- ---- slots past the count are zero

blank_is : (r : VMRegion) → is_no_slot r ≡ true → r ≡ no_vm_region
blank_is r h =
    let a = both_true (eqb r.start 0) _ h in
    let b = both_true (eqb r.size 0) _ a.1 in
    λ j. record { start = eqb-true r.start 0 a.0 j; size = eqb-true r.size 0 b.0 j; used = free r.used b.1 j }
  where
    free : (u : Bool) → not u ≡ true → u ≡ false
    free true e = sym e
    free false e = refl

blanks : (l : List VMRegion) → every is_no_slot l ≡ true → replicate (length l) no_vm_region ≡ l
unfolding every
blanks [] h = refl
blanks (r ∷ l) h =
    let a = both_true (is_no_slot r) _ h in
    λ j. sym (blank_is r a.0) j ∷ blanks l a.1 j

-- so that live slots in front of zero ones are all of them
pub live_all : (s : Slots VMRegion) → sound_regions s ≡ true → length s.slots ≡ 256 → (n : ℕ) → n ≡ s.count → take n s.slots ++ drop n (replicate 256 no_vm_region) ≡ s.slots
live_all s h long n e =
    let m : 256 - s.count ≡ length (drop s.count s.slots) = omega (arith, length-drop s.count s.slots) in
    ap (λ (k : ℕ). take k s.slots ++ drop k (replicate 256 no_vm_region)) e
    ∙ ap (λ (l : List VMRegion). take s.count s.slots ++ l)
    (drop_replicate no_vm_region s.count 256 ∙ ap (λ (k : ℕ). replicate k no_vm_region) m ∙ blanks (drop s.count s.slots) (sound_blank s h))
    ∙ take-append-drop s.count s.slots

-- ---- what a step leaves, once its live slots are back

longer : {A : Type 0} (d : A) (l : List A) (k : ℕ) → length (l ++ replicate (k - length l) d) ≡ max k (length l)
longer d l k = omega (arith, length-append l (replicate (k - length l) d), length-replicate (k - length l) d)

-- slots past both counts are those that stood there: the step saw the first n, and perhaps others behind them
pub stored_live : {A : Type 0} (d : A) (l : List A) (s : Slots A) (n : ℕ) → n ≡ s.count → (seen : List A) {zs : List A} {m : ℕ} → slotted zs m ≡ store d l (slotted seen n)
    → slotted (take (max n m) zs ++ drop (max n m) s.slots) m ≡ store d l s
unfolding store
stored_live d l s n e seen {zs} {m} h =
    let blank = l ++ replicate (n - length l) d in
    let rest = drop (max n (length l)) seen in
    let k : max n m ≡ max n (length l) = λ j. max n (h j).count in
    let z : zs ≡ blank ++ rest = ap (λ (x : Slots _). x.slots) h ∙ sym (append_assoc l (replicate (n - length l) d) rest) in
    (λ j. slotted (take (k j) (z j) ++ drop (k j) s.slots) (h j).count)
    ∙ ap (λ (x : List _). slotted (x ++ drop (max n (length l)) s.slots) (length l)) (take_at blank rest (max n (length l)) (longer d l n))
    ∙ ap (λ (x : List _). slotted x (length l)) (append_assoc l (replicate (n - length l) d) (drop (max n (length l)) s.slots))
    ∙ ap (λ (k : ℕ). store d l (slotted s.slots k)) e

-- ---- the steps on a sound list of n regions, whose slots an array l holds as far as they are live

module _ (bs : List ℕ) (n : ℕ) (sound : (vm_fit bs ≡ true) × (sound_regions (vm_in bs) ≡ true) × (n ≡ (vm_in bs).count)) where
  abbrev s : Slots VMRegion
  s = vm_in bs

  pub few : n ≤ 256
  few = omega (arith, sound_few s sound.1, sound.2)

  as_many : length (listed s) ≡ n
  as_many = length-take-le s.count s.slots (omega (arith, slots_long bs, sound_few s sound.1)) ∙ sym sound.2

  -- how many regions a step leaves
  pub take_few : (used : Bool) (size : ℕ) → length (taken used size (listed s)) ≤ 256
  take_few used size = taken_few used size (listed s) (omega (arith, as_many, few))

  pub take_more : (used : Bool) (size : ℕ) → length (taken used size (listed s)) ≤ n + 1
  take_more used size = omega (arith, as_many, taken_more used size (listed s))

  pub free_few : (i : ℕ) → length (merge (freed_at i (listed s))) ≤ n
  free_few i =
      let freed = vm_region (get_or (listed s) i no_vm_region).start (get_or (listed s) i no_vm_region).size false in
      omega (arith, length_merge (freed_at i (listed s)), length-set (listed s) i freed, as_many)

  module _ (l : List VMRegion) (r : take n l ≡ take n s.slots) where
    live : take n l ≡ listed s
    live = r ∙ ap (λ (k : ℕ). take k s.slots) sound.2

    -- what a step asks
    pub lies : every well_placed_vm (take n l) ≡ true
    lies = ap (every well_placed_vm) live ∙ sound_placed s sound.1

    pub first_live : (i size : ℕ) → i ≡ first_at (fits size) (listed s) → i ≡ first_at (fits size) (take n l)
    first_live i size first = first ∙ ap (first_at (fits size)) (sym live)

    -- and what is written back of it
    module _ (f : List VMRegion → List VMRegion) (zs : List VMRegion) (m : ℕ) (h : slotted zs m ≡ store no_vm_region (f (take n l)) (slotted l n)) where
      left : slotted zs m ≡ store no_vm_region (f (listed s)) (slotted l n)
      left = h ∙ ap (λ (x : List VMRegion). store no_vm_region (f x) (slotted l n)) live

      pub step_count : m ≡ length (f (listed s))
      step_count = ap (λ (x : Slots VMRegion). x.count) left ∙ store_count no_vm_region (f (listed s)) (slotted l n)

      pub step_back : {z : Slots VMRegion} → z ≡ slotted (overwritten (max n m) zs s.slots) m → z ≡ store no_vm_region (f (listed s)) s
      step_back z = z ∙ stored_live no_vm_region (f (listed s)) s n sound.2 l left

  -- an array of m slots, the first n of them read: what is asked of a step on it, and what it leaves
  module _ (m : ℕ) (d : VMRegion) (rs : List VMRegion) (small : n ≤ m) (e : rs ≡ take (length (take n (replicate m d))) s.slots) where
    abbrev array : List VMRegion
    array = rs ++ drop n (replicate m d)

    there : n ≤ length s.slots
    there = omega (arith, slots_long bs, few)

    held : take n array ≡ take n s.slots
    held = read_front n m d rs s.slots small there e

    module _ (used : Bool) (size : ℕ) (room : min (n + 1) 256 ≤ m) where
      pub take_asks : (i : ℕ) → i ≡ first_at (fits size) (listed s) → i < n
          → HasRoom n array × (every well_placed_vm (take n array) ≡ true) × (i ≡ first_at (fits size) (take n array)) × (i < n)
      take_asks i first k = ((few, omega (arith, read_long n m d rs s.slots small there e)), lies array held, first_live array held i size first, k)

      pub take_left : (zs : List VMRegion) (k : ℕ) → slotted zs k ≡ taken_slots used size (slotted array n) → max n k ≤ min m 256
      take_left zs k h =
          omega (arith, step_count array held (taken used size) zs k h, take_few used size, take_more used size, few)

      pub take_back : {zs : List VMRegion} {k : ℕ} → slotted zs k ≡ taken_slots used size (slotted array n) → {z : Slots VMRegion}
          → z ≡ slotted (overwritten (max n k) zs s.slots) k → z ≡ taken_slots used size s
      take_back {zs} {k} h z = step_back array held (taken used size) zs k h z

    module _ (i : ℕ) where
      abbrev freed : List VMRegion → List VMRegion
      freed l = merge (freed_at i l)

      pub free_asks : i < n → (n ≤ length array) × (every well_placed_vm (take n array) ≡ true) × (i < n)
      free_asks k = (omega (arith, read_long n m d rs s.slots small there e), lies array held, k)

      pub free_left : (zs : List VMRegion) (k : ℕ) → slotted zs k ≡ store no_vm_region (freed (take n array)) (slotted array n) → max n k ≤ n
      free_left zs k h = omega (arith, step_count array held freed zs k h, free_few i)

      pub free_back : {zs : List VMRegion} {k : ℕ} → slotted zs k ≡ store no_vm_region (freed (take n array)) (slotted array n) → {z : Slots VMRegion}
          → z ≡ slotted (overwritten (max n k) zs s.slots) k → z ≡ store no_vm_region (freed (listed s)) s
      free_back {zs} {k} h z = step_back array held freed zs k h z
