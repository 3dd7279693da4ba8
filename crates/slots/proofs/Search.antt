-- A key's place among the listed slots: beside one that is read, and what is found there.
use Prim.Native.Nat.{ℕ, ◌<◌, ◌≤◌}
use mathlib.Core.Path.{◌≡◌, refl, sym, ◌∙◌, ap}
use mathlib.Core.Bool.{Bool, true, false}
use mathlib.Core.List.{List}
use native.Mathlib.Omega.{arith}
use lib.Dec.{eqb}
use lib.ListN.{length, get_or}
use lib.Seq.{get_or-take, length-take-le}
use borrow.Author.Tests.{eq-eqb, ne_eqb}
use Rattle.std.specs.Prelude.{Ok, Err, Result}
use Rattle.bits.specs.Bit.{pick}
use Rattle.slots.specs.Slots.{Slots, listed}
use Rattle.slots.specs.Sorted.{rising_from, has_key, place_of, found}
use Rattle.slots.proofs.Sorted.{place_le, place_behind, place_until, key_past, key_at}

module _ {A : Type 0} (d : A) (key : A → ℕ) (s : Slots A) (few : s.count ≤ 256) (long : length s.slots ≡ 256) where
  pub listed_long : length (listed s) ≡ s.count
  listed_long = length-take-le s.count s.slots (omega (arith, few, long))

  module _ (v : ℕ) where
    abbrev place : ℕ
    place = place_of key v (listed s)

    pub place_within : place ≤ s.count
    place_within = omega (arith, place_le key v (listed s), listed_long)

    module _ (rise : rising_from key 0 (listed s) ≡ true) where
      -- beside slot m
      module _ (m : ℕ) (h : m < s.count) {a : A} (e : a ≡ get_or s.slots m d) where
        there : get_or (listed s) m d ≡ a
        there = get_or-take s.count s.slots m d h ∙ sym e

        pub place_after : key a < v → m < place
        place_after k = place_behind key v d 0 m (listed s) rise (omega (arith, h, listed_long)) (omega (arith, k, ap key there))

        pub place_before : v ≤ key a → place ≤ m
        place_before k = place_until key v d m (listed s) (omega (arith, h, listed_long)) (omega (arith, k, ap key there))

      -- k is the place
      module _ (k : ℕ) (p : k ≡ place) where
        is : (b : Bool) → has_key key v (listed s) ≡ b → pick b (Ok k) (Err k) ≡ found key v (listed s)
        is b h = (λ j. pick (sym h j) (Ok (p j)) (Err (p j)))

        pub not_past : s.count ≤ k → Err k ≡ found key v (listed s)
        not_past h = is false (key_past key v (listed s) (omega (arith, p, h, listed_long)))

        module _ (h : k < s.count) {a : A} (e : a ≡ get_or s.slots k d) where
          has : has_key key v (listed s) ≡ eqb (key a) v
          has =
              key_at key v d 0 (listed s) rise (omega (arith, p, h, listed_long))
              ∙ ap (λ (i : ℕ). eqb (key (get_or (listed s) i d)) v) (sym p)
              ∙ ap (λ (x : A). eqb (key x) v) (there k h e)

          pub found_here : key a ≡ v → Ok k ≡ found key v (listed s)
          found_here q = is true (has ∙ eq-eqb (key a) v q)

          pub not_here : (key a ≡ v → ⊥) → Err k ≡ found key v (listed s)
          not_here q = is false (has ∙ ne_eqb (key a) v q)

-- ---- what an answer of `found` tells

abbrev pub value : Result ℕ ℕ → ℕ
value (Ok k) = k
value (Err k) = k

abbrev pub is_found : Result ℕ ℕ → Bool
is_found (Ok k) = true
is_found (Err k) = false

-- whether one has the key, and its place
pub found_tells : {A : Type 0} (key : A → ℕ) (v : ℕ) (l : List A) (r : Result ℕ ℕ) → r ≡ found key v l → (has_key key v l ≡ is_found r) × (value r ≡ place_of key v l)
found_tells key v l r e = by (has_key key v l) refl
  where
    pick-is : (b : Bool) → has_key key v l ≡ b → r ≡ pick b (Ok (place_of key v l)) (Err (place_of key v l))
    pick-is b h = e ∙ ap (λ (x : Bool). pick x (Ok (place_of key v l)) (Err (place_of key v l))) h

    by : (b : Bool) → has_key key v l ≡ b → (has_key key v l ≡ is_found r) × (value r ≡ place_of key v l)
    by true h = (h ∙ sym (ap is_found (pick-is true h)), ap value (pick-is true h))
    by false h = (h ∙ sym (ap is_found (pick-is false h)), ap value (pick-is false h))
