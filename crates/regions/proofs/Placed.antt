-- The test for a broken list, one comparison after the other, and what it says of a region of a sound list.
use Rattle.std.proofs.Common.{◌≡◌, ℕ, zero, suc, ◌+◌, ◌-◌, ◌%◌, ◌^◌, ◌<◌, ◌≤◌, Bool, true, false, eqb, ltb, leb, List, [], ◌∷◌, ◌++◌, length, get_or, drop, set, sym, refl, ◌∙◌, subst, arith, length-take-le, get_or-take, ltb-true, le-ltb, lt-ltb, eq-eqb, ne_eqb, eqb-true, le-leb, leb-true}
use native.Mathlib.Decide.{dec_le, dec_lt}
use borrow.Author.Tests.{lt-leb}
use Rattle.bits.specs.Bit.{both}
use Rattle.bits.proofs.Choice.{both_true}
use Rattle.allocator.specs.Round.{last_page}
use Rattle.slots.specs.Slots.{Slots, listed, every}
use Rattle.regions.specs.declared.VMRegion.{VMRegion}
use Rattle.regions.specs.Regions.{no_vm_region, well_placed, well_placed_vm, is_no_slot, sound_regions}

-- ---- one region

-- an end that fits, tested without the sum
pub ends : (a n e : ℕ) → a ≤ e → leb n (e - a) ≡ leb (a + n) e
ends a n e h = by (dec_le n (e - a))
  where
    by : Dec (n ≤ e - a) → leb n (e - a) ≡ leb (a + n) e
    by (yes l) = le-leb _ _ l ∙ sym (le-leb (a + n) e (omega arith))
    by (no l) = lt-leb n (e - a) (omega arith) ∙ sym (lt-leb (a + n) e (omega arith))

-- the default of a slot is the one that holds no region
pub default_blank : (r : VMRegion) → (r.start ≡ 0) × ((r.size ≡ 0) × (r.used ≡ false)) → r ≡ no_vm_region
default_blank r h = λ j. record { start = h.0 j; size = h.1.0 j; used = h.1.1 j }

-- what it says that a region is well placed
pub record Placed (a n : ℕ) : Type 0 where
  pub even : a % 4096 ≡ 0
  pub whole : n % 4096 ≡ 0
  pub some : 0 < n
  pub end : a + n ≤ last_page

pub placed : (a n : ℕ) → well_placed a n ≡ true → Placed a n
placed a n h =
    let p = both_true (eqb (a % 4096) 0) _ h in
    let q = both_true (eqb (n % 4096) 0) _ p.1 in
    let r = both_true (ltb 0 n) _ q.1 in
    record { even = eqb-true _ _ p.0; whole = eqb-true _ _ q.0; some = ltb-true _ _ r.0; end = leb-true _ _ r.1 }

pub placed_back : (a n : ℕ) → Placed a n → well_placed a n ≡ true
placed_back a n p = rw (eq-eqb _ _ p.even, eq-eqb _ _ p.whole, lt-ltb _ _ p.some, le-leb _ _ p.end)

-- tested by its remainders and its sum
module _ (a n : ℕ) where
  pub placed_odd : (a % 4096 + n % 4096 ≡ 0 → ⊥) → well_placed a n ≡ false
  placed_odd h = by (dec_lt 0 (a % 4096))
    where
      by : Dec (0 < a % 4096) → well_placed a n ≡ false
      by (yes k) = rw (ne_eqb (a % 4096) 0 (λ e. omega arith))
      by (no k) = let z : a % 4096 ≡ 0 = omega arith in rw (eq-eqb (a % 4096) 0 z, ne_eqb (n % 4096) 0 (λ e. h (omega arith)))

  -- a sum of whole pages that does not wrap ends at the last page's start at most
  pub placed_sum : (s : ℕ) → a < 2 ^ 64 → n < 2 ^ 64 → a % 4096 + n % 4096 ≡ 0 → s ≡ (a + n) % 2 ^ 64 → ltb a s ≡ well_placed a n
  placed_sum s f g h e = by (dec_lt a s) (well_placed a n) refl
    where
      by : Dec (a < s) → (x : Bool) → well_placed a n ≡ x → ltb a s ≡ x
      by (yes k) x w =
          lt-ltb a s k ∙ sym (placed_back a n (record { even = omega arith; whole = omega arith; some = omega arith; end = omega arith })) ∙ w
      by (no k) true w = let p = placed a n w in absurd (omega (arith, p.some, p.end))
      by (no k) false w = le-ltb a s (omega arith)

-- ---- each of a list

module _ {A : Type 0} (test : A → Bool) where
  pub every_at : (l : List A) → every test l ≡ true → (d : A) (i : ℕ) → i < length l → test (get_or l i d) ≡ true
  unfolding every
  every_at [] h d i k = absurd (omega arith)
  every_at (a ∷ l) h d zero k = (both_true (test a) (every test l) h).0
  every_at (a ∷ l) h d (suc i) k = every_at l (both_true (test a) (every test l) h).1 d i (omega arith)

  pub every_append : (l m : List A) → every test (l ++ m) ≡ both (every test l) (every test m)
  unfolding every
  every_append [] m = refl
  every_append (a ∷ l) m = rw (every_append l m) (three (test a) (every test l) (every test m))
    where
      three : (x y z : Bool) → both x (both y z) ≡ both (both x y) z
      three true y z = refl
      three false y z = refl

  pub every_set : (l : List A) → every test l ≡ true → (i : ℕ) (a : A) → test a ≡ true → every test (set l i a) ≡ true
  unfolding every
  every_set [] h i a t = refl
  every_set (b ∷ l) h zero a t = rw (t, (both_true (test b) (every test l) h).1)
  every_set (b ∷ l) h (suc i) a t =
      let p = both_true (test b) (every test l) h in
      rw (p.0, every_set l p.1 i a t)

-- ---- what a sound list says

module _ (s : Slots VMRegion) where
  pub sound_few : sound_regions s ≡ true → s.count ≤ 256
  unfolding sound_regions
  sound_few h = leb-true _ _ (both_true (leb s.count 256) _ h).0

  pub sound_placed : sound_regions s ≡ true → every well_placed_vm (listed s) ≡ true
  unfolding sound_regions
  sound_placed h = (both_true (every well_placed_vm (listed s)) _ (both_true (leb s.count 256) _ h).1).0

  pub sound_blank : sound_regions s ≡ true → every is_no_slot (drop s.count s.slots) ≡ true
  unfolding sound_regions
  sound_blank h = (both_true (every well_placed_vm (listed s)) _ (both_true (leb s.count 256) _ h).1).1

-- .. and of each of its regions
pub placed_at : (s : Slots VMRegion) → every well_placed_vm (listed s) ≡ true → s.count ≤ length s.slots → (i : ℕ) → i < s.count
    → Placed (get_or s.slots i no_vm_region).start (get_or s.slots i no_vm_region).size
placed_at s h enough i k =
    placed _ _
    (subst (λ (r : VMRegion). well_placed_vm r ≡ true) (get_or-take s.count s.slots i no_vm_region k)
    (every_at well_placed_vm (listed s) h no_vm_region i (omega (arith, length-take-le s.count s.slots enough))))
