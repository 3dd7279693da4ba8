-- Where the search for a free range ends: at an aligned address below the user's end.
use Prim.Native.Nat.{ℕ, zero, suc, ◌+◌, ◌%◌, ◌<◌, ◌≤◌}
use mathlib.Core.Path.{◌≡◌, refl}
use mathlib.Core.Bool.{Bool, true, false}
use mathlib.Core.List.{List, [], ◌∷◌}
use native.Mathlib.Omega.{arith}
use lib.Dec.{ltb}
use lib.ListN.{length}
use borrow.Author.Tests.{lt-ltb, le-ltb, ltb-true}
use Rattle.std.specs.Prelude.{Ok, Err, Result, Option, None, Some}
use Rattle.answer.specs.declared.Refusal.{Refusal}
use Rattle.answer.specs.declared.Refusal.TheVariants.{NoRegion}
use Rattle.bits.specs.Bit.{pick}
use Rattle.bits.proofs.Choice.{pick_cases}
use Rattle.regions.proofs.Placed.{Placed}
use Rattle.mappings.specs.declared.MappedRegion.{MappedRegion}
use Rattle.free_range.specs.Search.{user_end, overlaps, in_the_way, or_past, search_from, find_free}
use Rattle.mappings.proofs.Rising.{Rising, rising_first}
use Rattle.free_range.proofs.Ahead.{way_past, ahead, ahead_few, ahead_less, scans}

pub way_even : (a n e lo : ℕ) (l : List MappedRegion) → Rising lo l → in_the_way a n l ≡ Some e → e % 4096 ≡ 0
unfolding in_the_way
way_even a n e lo [] h k = let z : ◌≡◌ {A = ℕ} 0 1 = cc in absurd (omega arith)
way_even a n e lo (r ∷ l) h k = let p = rising_first lo r l h in by p.1 (overlaps a n r) k (way_even a n e (suc r.start) l p.2)
  where
    by : Placed r.start r.size → (x : Bool) → pick x (Some (r.start + r.size)) (in_the_way a n l) ≡ Some e → (in_the_way a n l ≡ Some e → e % 4096 ≡ 0) → e % 4096 ≡ 0
    by p true g more = let z : r.start + r.size ≡ e = cc in omega (arith, p.even, p.whole)
    by p false g more = more g

pub search_place : (k : ℕ) (l : List MappedRegion) (n a b lo : ℕ) → Rising lo l → a % 4096 ≡ 0 → search_from k l n a ≡ Ok b → (b % 4096 ≡ 0) × (b + n < user_end)
unfolding search_from
search_place zero l n a b lo h e g = let z : ◌≡◌ {A = ℕ} 0 1 = cc in absurd (omega arith)
search_place (suc k) l n a b lo h e g = one (ltb (a + n) user_end) refl g (λ c q. search_place k l n c b lo h q)
  where
    two : a + n < user_end → (w : Option ℕ) → in_the_way a n l ≡ w → or_past w (Ok a) (search_from k l n) ≡ Ok b
        → ((c : ℕ) → c % 4096 ≡ 0 → search_from k l n c ≡ Ok b → (b % 4096 ≡ 0) × (b + n < user_end)) → (b % 4096 ≡ 0) × (b + n < user_end)
    two u (Some c) w g more = more c (way_even a n c lo l h w) g
    two u None w g more = let y : a ≡ b = cc in (omega arith, omega arith)

    one : (x : Bool) → ltb (a + n) user_end ≡ x → pick x (or_past (in_the_way a n l) (Ok a) (search_from k l n)) (Err NoRegion) ≡ Ok b
        → ((c : ℕ) → c % 4096 ≡ 0 → search_from k l n c ≡ Ok b → (b % 4096 ≡ 0) × (b + n < user_end)) → (b % 4096 ≡ 0) × (b + n < user_end)
    one true u g more = two (ltb-true _ _ u) (in_the_way a n l) refl g more
    one false u g more = let z : ◌≡◌ {A = ℕ} 0 1 = cc in absurd (omega arith)

-- it never goes back: a hole below next_addr is not used again
pub search_from_lem : (k : ℕ) (l : List MappedRegion) (n a b : ℕ) → search_from k l n a ≡ Ok b → a ≤ b
unfolding search_from
search_from_lem zero l n a b g = let z : ◌≡◌ {A = ℕ} 0 1 = cc in absurd (omega arith)
search_from_lem (suc k) l n a b g = one (ltb (a + n) user_end) g (λ c. search_from_lem k l n c b)
  where
    two : (w : Option ℕ) → in_the_way a n l ≡ w → or_past w (Ok a) (search_from k l n) ≡ Ok b → ((c : ℕ) → search_from k l n c ≡ Ok b → c ≤ b) → a ≤ b
    two (Some c) w g more = omega (arith, way_past a n c l w, more c g)
    two None w g more = let y : a ≡ b = cc in omega arith

    one : (x : Bool) → pick x (or_past (in_the_way a n l) (Ok a) (search_from k l n)) (Err NoRegion) ≡ Ok b → ((c : ℕ) → search_from k l n c ≡ Ok b → c ≤ b) → a ≤ b
    one true g more = two (in_the_way a n l) refl g more
    one false g more = let z : ◌≡◌ {A = ℕ} 0 1 = cc in absurd (omega arith)

pub find_from : (l : List MappedRegion) (next n b : ℕ) → find_free l next n ≡ Ok b → next ≤ b
find_from l next n b = search_from_lem (suc (length l)) l n next b

-- it ends at an address, or with 15
abbrev pub Ends : Result ℕ Refusal → Type 0
Ends (Ok b) = Unit {0}
Ends (Err e) = e ≡ NoRegion

pub search_ends : (k : ℕ) (l : List MappedRegion) (n a : ℕ) → Ends (search_from k l n a)
unfolding search_from
search_ends zero l n a = refl
search_ends (suc k) l n a = pick_cases Ends (ltb (a + n) user_end) _ _ (λ _. by (in_the_way a n l) (search_ends k l n)) (λ _. refl)
  where
    by : (w : Option ℕ) → ((e : ℕ) → Ends (search_from k l n e)) → Ends (or_past w (Ok a) (search_from k l n))
    by None more = tt
    by (Some e) more = more e

-- ---- the scans are enough

module _ (l : List MappedRegion) (n : ℕ) where
  goes : (k a : ℕ) → search_from (suc k) l n a ≡ pick (ltb (a + n) user_end) (or_past (in_the_way a n l) (Ok a) (search_from k l n)) (Err NoRegion)
  unfolding search_from
  goes k a = refl

  search_scans : (k j a : ℕ) → ahead a l < k → ahead a l < j → search_from k l n a ≡ search_from j l n a
  search_scans = scans l n (λ k. search_from k l n) Ok (λ a w. pick (ltb (a + n) user_end) w (Err NoRegion)) goes

-- more scans find nothing else
pub enough : (k : ℕ) (l : List MappedRegion) (next n : ℕ) → length l < k → search_from k l n next ≡ find_free l next n
enough k l next n h = search_scans l n k (suc (length l)) next (omega (arith, ahead_few next l)) (omega (arith, ahead_few next l))

-- ---- the search, one scan at a time

module _ (l : List MappedRegion) (n a : ℕ) where
  pub find_none : user_end ≤ a + n → find_free l a n ≡ Err NoRegion
  unfolding search_from
  find_none h = rw (le-ltb _ _ h)

  module _ (h : a + n < user_end) where
    pub find_here : in_the_way a n l ≡ None → find_free l a n ≡ Ok a
    unfolding search_from
    find_here e = rw (lt-ltb _ _ h, e)

    pub find_past : (e : ℕ) → in_the_way a n l ≡ Some e → find_free l a n ≡ find_free l e n
    unfolding search_from
    find_past e w =
        let fewer = ahead_less a n e l w in
        let few = ahead_few a l in
        rw (lt-ltb _ _ h, w) (search_scans l n (length l) (suc (length l)) e (omega arith) (omega arith))
