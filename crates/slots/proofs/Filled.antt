-- Lists of 256 slots whose slots past the count are zero: storing a new list leaves such slots.
use Prim.Native.Nat.{ℕ, zero, suc, ◌+◌, ◌-◌, ◌≤◌, max}
use mathlib.Core.Path.{◌≡◌, refl, ◌∙◌, ap}
use mathlib.Core.Bool.{Bool, true}
use mathlib.Core.List.{List, ◌++◌}
use native.Mathlib.Omega.{arith}
use native.Mathlib.Decide.{dec_le}
use lib.ListN.{length, get_or, drop, replicate, replicate-append-replicate}
use lib.Seq.{take_at, drop_at, drop-append-add}
use Rattle.slots.specs.Slots.{Slots, listed, store, every}

module _ {A : Type 0} (z : A) where
  -- l listed, and zero slots up to 256
  abbrev pub filled : List A → Slots A
  filled l = record { slots = l ++ replicate (256 - length l) z; count = length l }

  pub listed_filled : (l : List A) → listed (filled l) ≡ l
  listed_filled l = take_at l (replicate (256 - length l) z) (length l) refl

  pub drop_filled : (l : List A) → drop (length l) (filled l).slots ≡ replicate (256 - length l) z
  drop_filled l = drop_at l (replicate (256 - length l) z) (length l) refl

  pub drop_replicate : (k n : ℕ) → drop k (replicate n z) ≡ replicate (n - k) z
  drop_replicate zero n = let e : n - 0 ≡ n = omega arith in rw e
  drop_replicate (suc k) zero = let e : 0 - suc k ≡ 0 = omega arith in rw e
  drop_replicate (suc k) (suc n) = let e : suc n - suc k ≡ n - k = omega arith in rw e (drop_replicate k n)

  -- what follows m listed slots after k of them were
  rest : (l : List A) (m : ℕ) → length l ≤ 256 → m ≤ 256
      → replicate (length l - m) z ++ drop (max (length l) m) (filled l).slots ≡ replicate (256 - m) z
  rest l m h k = by (dec_le (length l) m)
    where
      by : Dec (length l ≤ m) → replicate (length l - m) z ++ drop (max (length l) m) (filled l).slots ≡ replicate (256 - m) z
      by (yes e) =
          let a : length l - m ≡ 0 = omega arith in
          let b : max (length l) m ≡ length l + (m - length l) = omega arith in
          let c : 256 - length l - (m - length l) ≡ 256 - m = omega arith in
          rw (a, b, drop-append-add l (replicate (256 - length l) z) (m - length l), drop_replicate (m - length l) (256 - length l), c)
      by (no e) =
          let b : max (length l) m ≡ length l = omega arith in
          let c : length l - m + (256 - length l) ≡ 256 - m = omega arith in
          rw (b, drop_filled l) (replicate-append-replicate (length l - m) (256 - length l) z ∙ ap (λ (n : ℕ). replicate n z) c)

  pub store_filled : (l m : List A) → length l ≤ 256 → length m ≤ 256 → store z m (filled l) ≡ filled m
  unfolding store
  store_filled l m h k = ap (λ (xs : List A). record { slots = m ++ xs; count = length m }) (rest l (length m) h k)

  -- zeros read zero, past their end too
  pub zero_at : (n i : ℕ) → get_or (replicate n z) i z ≡ z
  zero_at zero i = refl
  zero_at (suc n) zero = refl
  zero_at (suc n) (suc i) = zero_at n i

  -- a test that holds of the zero slot holds of all slots past the count
  pub every_zero : (test : A → Bool) → test z ≡ true → (n : ℕ) → every test (replicate n z) ≡ true
  unfolding every
  every_zero test h zero = refl
  every_zero test h (suc n) = rw h (every_zero test h n)
