-- The slots after a step on the list: what the code's stores leave is what `store` says.
use Prim.Native.Nat.{ℕ, suc, ◌+◌, ◌-◌, ◌<◌, ◌≤◌, max}
use mathlib.Core.Path.{◌≡◌, refl, sym, ◌∙◌, subst}
use mathlib.Core.List.{List, ◌∷◌, ◌++◌, append_assoc}
use native.Mathlib.Omega.{arith}
use native.Mathlib.Numerals.{add-one}
use lib.ListN.{length, get_or, set, take, drop, replicate, length-append, length-take, length-drop, take-append-drop, get_or-append}
use lib.Seq.{slice, length-take-le, get_or-take, take-take, set_split, set-append_left}
use Rattle.slots.specs.Slots.{Slots, slotted, store}
use Rattle.slots.specs.Shifts.{put_in, taken_out, shifted_up, shifted_down}
use Rattle.slots.proofs.Slices.{set_last, down_to, down_end}

module _ {A : Type 0} (blank : A) (m : List A) (s : Slots A) where
  pub store_count : (store blank m s).count ≡ length m
  unfolding store
  store_count = refl

  -- a list no longer than before: blank slots take the place of those gone
  pub store_shorter : (k : ℕ) → length m ≡ k → k ≤ s.count
      → store blank m s ≡ record { slots = m ++ (replicate (s.count - k) blank ++ drop s.count s.slots); count = k }
  unfolding store
  store_shorter k e h = let f : max s.count k ≡ s.count = omega arith in rw (e, f)

  -- .. with as many
  pub store_same : length m ≡ s.count → store blank m s ≡ record { slots = m ++ drop s.count s.slots; count = s.count }
  store_same e = let z : s.count - s.count ≡ 0 = omega arith in store_shorter s.count e (omega arith) ∙ rw z

  -- .. with one more, which takes the next slot
  pub store_longer : length m ≡ s.count + 1 → store blank m s ≡ record { slots = m ++ drop (s.count + 1) s.slots; count = s.count + 1 }
  unfolding store
  store_longer e =
      let f : max s.count (s.count + 1) ≡ s.count + 1 = omega arith in
      let z : s.count - (s.count + 1) ≡ 0 = omega arith in
      rw (e, f, z)

module _ {A : Type 0} (d : A) (l : List A) (n i : ℕ) (h : i < n) (enough : n ≤ length l) where
  -- one listed element in another's place
  pub cut_whole : (a : A) → set l i a ≡ take i (take n l) ++ (a ∷ drop (suc i) (take n l)) ++ drop n l
  cut_whole a =
      subst (λ (xs : List A). set xs i a ≡ take i (take n l) ++ (a ∷ drop (suc i) (take n l)) ++ drop n l) (take-append-drop n l)
      (let k : i < length (take n l) = omega (arith, length-take-le n l enough) in rw (set-append_left (take n l) (drop n l) i a k, set_split (take n l) i a k))

  -- two in its place, the listed ones behind it moved up
  pub cut_split : n < length l → (a b : A)
      → set (set (shifted_up l (i + 1) n) (i + 1) b) i a ≡ take i (take n l) ++ (a ∷ (b ∷ drop (suc i) (take n l))) ++ drop (n + 1) l
  unfolding shifted_up
  cut_split small a b =
      let rest = slice (i + 1) n l ++ drop (n + 1) l in
      rw (set_last d l (i + 1) b rest (omega arith), set_last d l i a (b ∷ rest) (omega arith), take-take i n l (omega arith), add-one i)
      (sym (append_assoc (take i l) (a ∷ (b ∷ slice (suc i) n l)) (drop (n + 1) l)))

  -- .. and what stood there is still there before the first of the two is set
  pub split_start : n < length l → (b : A) → get_or (set (shifted_up l (i + 1) n) (i + 1) b) i d ≡ get_or l i d
  unfolding shifted_up
  split_start small b =
      let rest = slice (i + 1) n l ++ drop (n + 1) l in
      rw (set_last d l (i + 1) b rest (omega arith))
      (get_or-append (take (i + 1) l) (b ∷ rest) d i (omega (arith, length-take-le (i + 1) l (omega arith))) ∙ get_or-take (i + 1) l i d (omega arith))

  pub cut_length : (m : List A) → length (take i (take n l) ++ (m ++ drop (suc i) (take n l))) ≡ n - 1 + length m
  cut_length m =
      length-append (take i (take n l)) (m ++ drop (suc i) (take n l))
      ∙ omega (arith, length-append m (drop (suc i) (take n l)), length-take i (take n l), length-take-le n l enough, length-drop (suc i) (take n l))

-- ---- one put in, overwritten, or taken out

module _ {A : Type 0} (blank : A) (l : List A) (n : ℕ) (enough : n ≤ length l) where
  -- what is listed, stored again
  pub stored_again : store blank (take n l) (slotted l n) ≡ slotted l n
  stored_again = store_same blank (take n l) (slotted l n) (length-take-le n l enough) ∙ rw (take-append-drop n l)

  pub in_long : (j : ℕ) (a : A) → j ≤ n → length (put_in j a (take n l)) ≡ n + 1
  in_long j a h = simp (length-append, length-take, length-drop) (omega arith)

  pub out_long : (j : ℕ) → j < n → length (taken_out j (take n l)) ≡ n - 1
  out_long j h = simp (length-append, length-take, length-drop) (omega arith)

module _ {A : Type 0} (blank : A) (l : List A) (n j : ℕ) where
  pub stored_in : (a : A) → j ≤ n → n < length l → {ys : List A} → ys ≡ shifted_up l j n → slotted (set ys j a) (n + 1) ≡ store blank (put_in j a (take n l)) (slotted l n)
  unfolding shifted_up
  stored_in a h k e =
      rw (
        store_longer blank (put_in j a (take n l)) (slotted l n) (in_long blank l n (omega arith) j a h),
        e,
        set_last blank l j a (slice j n l ++ drop (n + 1) l) (omega arith),
        append_assoc,
        take-take j n l h,
      )

  module _ (h : j < n) (k : n ≤ length l) where
    pub stored_over : (a : A) → slotted (set l j a) n ≡ store blank (take j (take n l) ++ a ∷ drop (suc j) (take n l)) (slotted l n)
    stored_over a =
        let long : length (take j (take n l) ++ a ∷ drop (suc j) (take n l)) ≡ n = simp (length-append, length-take, length-drop) (omega arith) in
        rw (store_same blank (take j (take n l) ++ a ∷ drop (suc j) (take n l)) (slotted l n) long, cut_whole blank l n j h k a, append_assoc)

    pub stored_out : {ys : List A} → ys ≡ down_to blank l j (n - 1) → slotted (set ys (n - 1) blank) (n - 1) ≡ store blank (taken_out j (take n l)) (slotted l n)
    unfolding shifted_down
    stored_out e =
        let one : n - (n - 1) ≡ 1 = omega arith in
        rw (
          store_shorter blank (taken_out j (take n l)) (slotted l n) (n - 1) (out_long blank l n k j h) (omega arith),
          down_end blank l j (n - 1) (omega arith) (omega arith) blank n (omega arith) e,
          one,
          append_assoc,
          take-take j n l (omega arith),
          add-one j,
        )
