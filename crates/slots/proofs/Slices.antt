-- Loops over slots, turn by turn: tests of each, the first that passes a test, and shifts by one.
use Prim.Native.Nat.{ℕ, suc, ◌+◌, ◌-◌, ◌<◌, ◌≤◌}
use mathlib.Core.Path.{◌≡◌, sym, ◌∙◌, ap, subst}
use mathlib.Core.Bool.{Bool, true, false}
use mathlib.Core.List.{List, [], ◌∷◌, ◌++◌, map, append_assoc}
use native.Mathlib.Omega.{arith}
use native.Mathlib.Numerals.{add-one}
use lib.ListN.{length, get_or, set, take, drop, length-map, length-take, length-append, take-append-drop, drop_of_length-le, get_or-append}
use lib.Seq.{slice, slice-cons, slice_empty, length-slice, length-take-le, take-suc, drop-cons, append_snoc, set_at, get_or-take, get_or-drop, get_or-append-add, drop-append-le}
use Rattle.slots.specs.Slots.{every, first_at}
use Rattle.slots.specs.Shifts.{shifted_up, shifted_down}

-- ---- the slots up to n, from i on

-- those left say what all say
abbrev pub Passing : {A : Type 0} → (A → Bool) → List A → ℕ → ℕ → Type 0
Passing test l n i = (i ≤ n) × (every test (slice i n l) ≡ every test (take n l))

-- the first among those left is the first of all
abbrev pub Seeking : {A : Type 0} → (A → Bool) → List A → ℕ → ℕ → Type 0
Seeking test l n i = (i ≤ n) × (i + first_at test (slice i n l) ≡ first_at test (take n l))

module _ {A : Type 0} (d : A) (l : List A) (n : ℕ) (enough : n ≤ length l) where
  pub next : (i : ℕ) → i < n → slice i n l ≡ get_or l i d ∷ slice (i + 1) n l
  next i h = rw (add-one i) (slice-cons i n l d h enough)

  pub none : (i : ℕ) → n ≤ i → slice i n l ≡ []
  none i h = drop_of_length-le (take n l) {i = i} (omega (arith, length-take n l))

  module _ (test : A → Bool) (i : ℕ) where
    pub passing_on : Passing test l n i → i < n → test (get_or l i d) ≡ true → Passing test l n (i + 1)
    unfolding every
    passing_on p h e = (omega arith, rw (next i h, e) at p.1)

    pub passing_stop : Passing test l n i → i < n → test (get_or l i d) ≡ false → false ≡ every test (take n l)
    unfolding every
    passing_stop p h e = rw (next i h, e) at p.1

    pub passing_end : Passing test l n i → n ≤ i → true ≡ every test (take n l)
    unfolding every
    passing_end p h = rw (none i h) at p.1

    pub seeking_on : Seeking test l n i → i < n → test (get_or l i d) ≡ false → Seeking test l n (i + 1)
    unfolding first_at
    seeking_on p h e =
        let f : first_at test (slice i n l) ≡ suc (first_at test (slice (i + 1) n l)) = rw (next i h, e) in
        (omega arith, omega (arith, p.1))

    pub seeking_here : Seeking test l n i → i < n → test (get_or l i d) ≡ true → i ≡ first_at test (take n l)
    unfolding first_at
    seeking_here p h e = let f : first_at test (slice i n l) ≡ 0 = rw (next i h, e) in omega (arith, p.1)

    pub seeking_end : Seeking test l n i → n ≤ i → n ≡ first_at test (take n l)
    unfolding first_at
    seeking_end p h = let f : first_at test (slice i n l) ≡ 0 = rw (none i h) in omega (arith, p.0, p.1)

-- ---- what owning an array of records tells of its list: it stands there as a list of the records' fields
pub length_fields : {X Y : Type 0} (f : X → Y) (l : List X) (n : ℕ) → length (map f l) ≡ n → length l ≡ n
length_fields f l n e = sym (length-map l f) ∙ e

-- ---- shifts by one

module _ {A : Type 0} (d : A) (l : List A) where
  -- one slot set, between those before it and those from it on
  set_between : (p : List A) (i : ℕ) (a : A) → i < length l → (k : ℕ) → length p ≡ k → set (p ++ drop i l) k a ≡ p ++ (a ∷ drop (i + 1) l)
  set_between p i a h k e = rw (drop-cons l i d h, add-one i) (set_at p (get_or l i d) (drop (suc i) l) a k e)

  -- .. or set as the last of the first ones
  pub set_last : (j : ℕ) (a : A) (rest : List A) → j < length l → set (take (j + 1) l ++ rest) j a ≡ take j l ++ (a ∷ rest)
  set_last j a rest h =
      rw (add-one j, take-suc l j d h, append_snoc (take j l) (get_or l j d) rest) (set_at (take j l) (get_or l j d) rest a j (length-take-le j l (omega arith)))

  slice_snoc : (f t : ℕ) → f ≤ t → t < length l → slice f (t + 1) l ≡ slice f t l ++ (get_or l t d ∷ [])
  slice_snoc f t h k =
      rw (add-one t, take-suc l t d k) (drop-append-le f (take t l) (get_or l t d ∷ []) (omega (arith, length-take-le t l (omega arith))))

  -- up, from the end: slots from j on are moved
  pub up_start : (end : ℕ) → l ≡ shifted_up l end end
  unfolding shifted_up
  up_start end = rw (slice_empty end l) (sym (take-append-drop (end + 1) l))

  up_step : (k end : ℕ) → k < end → end < length l → set (shifted_up l (suc k) end) (suc k) (get_or (shifted_up l (suc k) end) k d) ≡ shifted_up l k end
  unfolding shifted_up
  up_step k end h small =
      let rest = slice (suc k) end l ++ drop (end + 1) l in
      let from : get_or (take (suc k + 1) l ++ rest) k d ≡ get_or l k d =
      get_or-append (take (suc k + 1) l) rest d k (omega (arith, length-take-le (suc k + 1) l (omega arith))) ∙ get_or-take (suc k + 1) l k d (omega arith) in
      rw (from, set_last (suc k) (get_or l k d) rest (omega arith), add-one k, slice-cons k end l d h (omega arith))

  pub up_on : (j end : ℕ) → 0 < j → j ≤ end → end < length l → {ys : List A} → ys ≡ shifted_up l j end → set ys j (get_or ys (j - 1) d) ≡ shifted_up l (j - 1) end
  up_on j end h k small e =
      rw e
      (subst (λ (i : ℕ). set (shifted_up l i end) i (get_or (shifted_up l i end) (j - 1) d) ≡ shifted_up l (j - 1) end) (sym (one_less j h))
      (up_step (j - 1) end (omega arith) small))
    where
      one_less : (i : ℕ) → 0 < i → i ≡ suc (i - 1)
      one_less i h = omega arith

  -- down, from the front: slots up to j are moved, slot j still holds what it held
  abbrev pub down_to : ℕ → ℕ → List A
  down_to at j = take at l ++ (slice (at + 1) (j + 1) l ++ drop j l)

  pub down_start : (at : ℕ) → l ≡ down_to at at
  down_start at = rw (slice_empty (at + 1) l) (sym (take-append-drop at l))

  module _ (at j : ℕ) (h : at ≤ j) (small : j < length l) where
    front : List A
    front = take at l ++ slice (at + 1) (j + 1) l

    front_length : length front ≡ j
    unfolding front
    front_length =
        length-append (take at l) (slice (at + 1) (j + 1) l)
        ∙ omega (arith, length-take-le at l (omega arith), length-slice (at + 1) (j + 1) l (omega arith))

    down-split : down_to at j ≡ front ++ drop j l
    unfolding front
    down-split = sym (append_assoc (take at l) (slice (at + 1) (j + 1) l) (drop j l))

    down-set : (a : A) → set (down_to at j) j a ≡ take at l ++ (slice (at + 1) (j + 1) l ++ (a ∷ drop (j + 1) l))
    unfolding front
    down-set a = rw (down-split, set_between front j a small j front_length) (append_assoc (take at l) (slice (at + 1) (j + 1) l) (a ∷ drop (j + 1) l))

    down-read : get_or (down_to at j) (j + 1) d ≡ get_or l (j + 1) d
    down-read =
        ap (λ (xs : List A). get_or xs (j + 1) d) down-split
        ∙ subst (λ (k : ℕ). get_or (front ++ drop j l) (k + 1) d ≡ get_or l (j + 1) d) front_length
        (get_or-append-add front (drop j l) 1 d ∙ get_or-drop j l 1 d)

    pub down_on : j + 1 < length l → {ys : List A} → ys ≡ down_to at j → set ys j (get_or ys (j + 1) d) ≡ down_to at (j + 1)
    down_on more e =
        rw (e, down-read, down-set (get_or l (j + 1) d), slice_snoc (at + 1) (j + 1) (omega arith) more)
        (ap (λ (xs : List A). take at l ++ xs) (sym (append_snoc (slice (at + 1) (j + 1) l) (get_or l (j + 1) d) (drop (j + 1) l))))

    pub down_end : (blank : A) (end : ℕ) → end ≡ j + 1 → {ys : List A} → ys ≡ down_to at j → set ys (end - 1) blank ≡ shifted_down blank l at end
    unfolding shifted_down
    down_end blank end g e =
        let f : end - 1 ≡ j = omega arith in
        rw (f, g, e) (down-set blank)
