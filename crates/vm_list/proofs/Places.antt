-- The tests of a packed list, one pass over each number: what they say is that the bytes fit and the list is not broken.
use Prim.Native.Nat.{ℕ, zero, suc, ◌+◌, ◌*◌, ◌-◌, ◌<◌, ◌≤◌}
use mathlib.Core.Path.{◌≡◌, refl, sym, ◌∙◌, ap}
use mathlib.Core.Bool.{Bool, true, false, not}
use mathlib.Core.List.{List}
use native.Mathlib.Omega.{arith}
use native.Mathlib.Nat.{zero-add}
use native.Mathlib.Numerals.{add-one}
use lib.Dec.{eqb, leb}
use lib.ListN.{length, get_or, take, drop, drop_of_length-le}
use lib.Bits.{bit_or, or_add_and, and_le_r, or_zero_l}
use lib.Seq.{drop-drop, drop-cons}
use borrow.Author.Tests.{eq-eqb, ne_eqb, eqb-true, eqb-false, lt-leb, le-leb}
use Rattle.bits.specs.Bit.{both}
use Rattle.packed.specs.Words.{number, unpack}
use Rattle.packed.specs.Records.{records}
use Rattle.packed.proofs.Words.{length_unpack, word_of}
use Rattle.packed.proofs.Stores.{further}
use Rattle.slots.specs.Slots.{every}
use Rattle.regions.specs.declared.VMRegion.{VMRegion}
use Rattle.regions.specs.Regions.{is_no_slot, well_placed_vm, sound_regions}
use Rattle.vm_list.specs.Packed.{vm_size, vm_words, vm_region_in, used_is_flag, vm_in, vm_fit}

abbrev pub is_zero : ℕ → Bool
is_zero w = eqb w 0

-- ---- words joined into one flag

or_none : (a b : ℕ) → eqb (bit_or a b) 0 ≡ both (eqb a 0) (eqb b 0)
or_none a b = by (eqb a 0) refl
  where
    by : (x : Bool) → eqb a 0 ≡ x → eqb (bit_or a b) 0 ≡ both x (eqb b 0)
    by true e = rw (eqb-true a 0 e, or_zero_l b)
    by false e = ne_eqb (bit_or a b) 0 (λ z. eqb-false a 0 e (omega (arith, or_add_and a b, and_le_r a b)))

both_assoc : (x y z : Bool) → both (both x y) z ≡ both x (both y z)
both_assoc true y z = refl
both_assoc false y z = refl

-- one word more
pub zero_on : (bs : List ℕ) (j w any : ℕ) → j < vm_words → w ≡ number 8 (drop (j * 8) bs)
    → both (eqb (bit_or any w) 0) (every is_zero (drop (j + 1) (unpack vm_words bs))) ≡ both (eqb any 0) (every is_zero (drop j (unpack vm_words bs)))
unfolding every
zero_on bs j w any h e =
    let g : w ≡ get_or (unpack vm_words bs) j 0 = e ∙ word_of j vm_words bs h in
    rw (drop-cons (unpack vm_words bs) j 0 (omega (arith, length_unpack vm_words bs)), ← g, add-one j, or_none any w)
    (both_assoc (eqb any 0) (eqb w 0) (every is_zero (drop (suc j) (unpack vm_words bs))))

pub zero_end : (bs : List ℕ) (j any : ℕ) → vm_words ≤ j → both (eqb any 0) (every is_zero (drop j (unpack vm_words bs))) ≡ eqb any 0
unfolding every
zero_end bs j any h = rw (drop_of_length-le (unpack vm_words bs) {i = j} (omega (arith, length_unpack vm_words bs))) (keep (eqb any 0))
  where
    keep : (x : Bool) → both x true ≡ x
    keep true = refl
    keep false = refl

-- ---- the test of `used`, slot by slot

pub flags_next : (n i : ℕ) (bs : List ℕ) → i < n
    → used_is_flag (n - i) (drop (i * 24 + 8) bs) ≡ both (leb (number 8 (drop (i * 24 + 24) bs)) 1) (used_is_flag (n - (i + 1)) (drop ((i + 1) * 24 + 8) bs))
unfolding used_is_flag
flags_next n i bs h =
    let m : n - i ≡ suc (n - (i + 1)) = omega arith in
    rw (m, further 16 (i * 24 + 8) (i * 24 + 24) bs (omega arith), further 24 (i * 24 + 8) ((i + 1) * 24 + 8) bs (omega arith))

pub flags_done : (n i : ℕ) (bs : List ℕ) → n ≤ i → used_is_flag (n - i) bs ≡ true
unfolding used_is_flag
flags_done n i bs h = let m : n - i ≡ 0 = omega arith in rw m

pub none_right : (x y : Bool) → false ≡ y → false ≡ both x y
none_right true y e = e
none_right false y e = refl

pub none_left : (x y : Bool) → x ≡ false → false ≡ both x y
none_left x y e = rw e

-- ---- slots past the count

both_four : (f g p q : Bool) → both (both f g) (both p q) ≡ both (both f p) (both g q)
both_four true true p q = refl
both_four true false true q = refl
both_four true false false q = refl
both_four false g p q = refl

blank_words : (x y z : ℕ) → both (leb z 1) (both (eqb x 0) (both (eqb y 0) (not (eqb z 1)))) ≡ both (eqb x 0) (both (eqb y 0) (eqb z 0))
blank_words x y zero = refl
blank_words x y (suc zero) = refl
blank_words x y (suc (suc z)) = rw (lt-leb (suc (suc z)) 1 (omega arith), ne_eqb (suc (suc z)) 0 (λ e. omega arith)) (none (eqb x 0) (eqb y 0))
  where
    none : (a b : Bool) → false ≡ both a (both b false)
    none true true = refl
    none true false = refl
    none false b = refl

slots_step : (x y z : ℕ) (f e w : Bool) → both f e ≡ w
    → both (both (leb z 1) f) (both (both (eqb x 0) (both (eqb y 0) (not (eqb z 1)))) e) ≡ both (eqb x 0) (both (eqb y 0) (both (eqb z 0) w))
slots_step x y z f e w h =
    both_four (leb z 1) f (both (eqb x 0) (both (eqb y 0) (not (eqb z 1)))) e
    ∙ ap (both (both (leb z 1) (both (eqb x 0) (both (eqb y 0) (not (eqb z 1)))))) h
    ∙ ap (λ (b : Bool). both b w) (blank_words x y z)
    ∙ both_assoc (eqb x 0) (both (eqb y 0) (eqb z 0)) w ∙ ap (both (eqb x 0)) (both_assoc (eqb y 0) (eqb z 0) w)

-- n slots: the flags and blanks of slots, and the zeros of their words
zero_slots : (n : ℕ) (bs : List ℕ) → both (used_is_flag n bs) (every is_no_slot (records vm_region_in n bs)) ≡ every is_zero (unpack (n * 3) bs)
unfolding used_is_flag records every unpack
zero_slots zero bs = refl
zero_slots (suc n) bs =
    let m : suc n * 3 ≡ suc (suc (suc (n * 3))) = omega arith in
    let x = number 8 bs in
    let y = number 8 (drop 8 bs) in
    let z = number 8 (drop 16 bs) in
    rw (m, ← further 8 8 16 bs refl, ← further 8 16 24 bs refl) (slots_step x y z (used_is_flag n (drop 24 bs)) (every is_no_slot (records vm_region_in n (drop 24 bs)))
    (every is_zero (unpack (n * 3) (drop 24 bs))) (zero_slots n (drop 24 bs)))

flags_split : (n m : ℕ) (bs : List ℕ) → used_is_flag (n + m) bs ≡ both (used_is_flag n bs) (used_is_flag m (drop (n * 24) bs))
unfolding used_is_flag
flags_split zero m bs = ap (λ (k : ℕ). used_is_flag k bs) (zero-add m)
flags_split (suc n) m bs =
    let e : suc n + m ≡ suc (n + m) = omega arith in
    let d : 24 + n * 24 ≡ suc n * 24 = omega arith in
    rw (e, flags_split n m (drop 24 bs), drop-drop (n * 24) 24 bs, d) (sym (both_assoc (leb (number 8 (drop 16 bs)) 1) (used_is_flag n (drop 24 bs)) _))

records_drop : (n m : ℕ) (bs : List ℕ) → drop n (records vm_region_in (n + m) bs) ≡ records vm_region_in m (drop (n * 24) bs)
unfolding records
records_drop zero m bs = ap (λ (k : ℕ). records vm_region_in k bs) (zero-add m)
records_drop (suc n) m bs =
    let e : suc n + m ≡ suc (n + m) = omega arith in
    let d : 24 + n * 24 ≡ suc n * 24 = omega arith in
    rw e (records_drop n m (drop 24 bs) ∙ ap (records vm_region_in m) (drop-drop (n * 24) 24 bs ∙ ap (λ (k : ℕ). drop k bs) d))

unpack_drop : (n m : ℕ) (bs : List ℕ) → drop n (unpack (n + m) bs) ≡ unpack m (drop (n * 8) bs)
unfolding unpack
unpack_drop zero m bs = ap (λ (k : ℕ). unpack k bs) (zero-add m)
unpack_drop (suc n) m bs =
    let e : suc n + m ≡ suc (n + m) = omega arith in
    let d : 8 + n * 8 ≡ suc n * 8 = omega arith in
    rw e (unpack_drop n m (drop 8 bs) ∙ ap (unpack m) (drop-drop (n * 8) 8 bs ∙ ap (λ (k : ℕ). drop k bs) d))

module _ (bs : List ℕ) (long : length bs ≡ vm_size) (few : number 8 bs ≤ 256) where
  abbrev live : ℕ
  live = number 8 bs

  abbrev left : ℕ
  left = 256 - live

  rest_words : both (used_is_flag left (drop (live * 24) (drop 8 bs))) (every is_no_slot (drop live (vm_in bs).slots)) ≡ every is_zero (drop (live * 3 + 1) (unpack vm_words bs))
  rest_words =
      let a : live + left ≡ 256 = omega arith in
      let b : live * 3 + 1 + left * 3 ≡ vm_words = omega arith in
      let d : 8 + live * 24 ≡ (live * 3 + 1) * 8 = omega arith in
      ap (λ (l : List VMRegion). both (used_is_flag left (drop (live * 24) (drop 8 bs))) (every is_no_slot l))
      (ap (λ (k : ℕ). drop live (records vm_region_in k (drop 8 bs))) (sym a) ∙ records_drop live left (drop 8 bs))
      ∙ zero_slots left (drop (live * 24) (drop 8 bs))
      ∙ ap (λ (l : List ℕ). every is_zero (unpack (left * 3) l)) (drop-drop (live * 24) 8 bs ∙ ap (λ (k : ℕ). drop k bs) d)
      ∙ ap (every is_zero) (sym (unpack_drop (live * 3 + 1) (left * 3) bs) ∙ ap (λ (k : ℕ). drop (live * 3 + 1) (unpack k bs)) b)

  -- the tests that the code makes are those of a list that fits and is not broken
  pub whole_test : both (both (used_is_flag live (drop 8 bs)) (every well_placed_vm (take live (vm_in bs).slots))) (every is_zero (drop (live * 3 + 1) (unpack vm_words bs)))
      ≡ both (vm_fit bs) (sound_regions (vm_in bs))
  unfolding sound_regions
  whole_test =
      let a : live + left ≡ 256 = omega arith in
      rw (eq-eqb (length bs) vm_size long, le-leb live 256 few, ← rest_words) (
      both_four (used_is_flag live (drop 8 bs)) (every well_placed_vm (take live (vm_in bs).slots)) (used_is_flag left (drop (live * 24) (drop 8 bs))) _
      ∙ ap (λ (b : Bool). both b (both (every well_placed_vm (take live (vm_in bs).slots)) (every is_no_slot (drop live (vm_in bs).slots))))
      (sym (flags_split live left (drop 8 bs)) ∙ ap (λ (k : ℕ). used_is_flag k (drop 8 bs)) a)
      )

pub other_length : (bs : List ℕ) → (length bs ≡ vm_size → ⊥) → false ≡ both (vm_fit bs) (sound_regions (vm_in bs))
other_length bs h = rw (ne_eqb (length bs) vm_size h)

pub too_many : (bs : List ℕ) → 256 < number 8 bs → false ≡ both (vm_fit bs) (sound_regions (vm_in bs))
unfolding sound_regions
too_many bs h = none_right (vm_fit bs) _ (rw (lt-leb (number 8 bs) 256 h))

module _ (bs : List ℕ) (long : length bs ≡ vm_size) (few : number 8 bs ≤ 256) (n : ℕ) (e : n ≡ number 8 bs) {t : Bool}
    (tested : t ≡ both (used_is_flag n (drop 8 bs)) (every well_placed_vm (take n (vm_in bs).slots))) where
  abbrev rest : Bool
  rest = every is_zero (drop (n * 3 + 1) (unpack vm_words bs))

  all : both t rest ≡ both (vm_fit bs) (sound_regions (vm_in bs))
  all =
      ap (λ (x : Bool). both x rest) tested
      ∙ ap (λ (k : ℕ). both (both (used_is_flag k (drop 8 bs)) (every well_placed_vm (take k (vm_in bs).slots))) (every is_zero (drop (k * 3 + 1) (unpack vm_words bs)))) e
      ∙ whole_test bs long few

  pub live_broken : t ≡ false → false ≡ both (vm_fit bs) (sound_regions (vm_in bs))
  live_broken h = ap (λ (x : Bool). both x rest) (sym h) ∙ all

  pub live_right : t ≡ true → {r : Bool} → r ≡ rest → r ≡ both (vm_fit bs) (sound_regions (vm_in bs))
  live_right h r = r ∙ ap (λ (x : Bool). both x rest) (sym h) ∙ all
