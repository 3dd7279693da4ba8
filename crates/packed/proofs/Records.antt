-- Records read from bytes and written to them: a turn of each loop, and the round trip.
use Prim.Native.Nat.{ℕ, zero, suc, ◌+◌, ◌*◌, ◌<◌, ◌≤◌}
use mathlib.Core.Path.{◌≡◌, refl, sym, ◌∙◌, ap}
use mathlib.Core.List.{List, [], ◌∷◌, ◌++◌, append_assoc, append-nil}
use native.Mathlib.Omega.{arith}
use lib.ListN.{length, take, drop, get_or, set, length-append, take-append-drop, drop_of_length-le}
use lib.Seq.{drop-cons, drop-drop, take_at, set_at, take_all, take-suc, append_snoc, drop-append-add, length-take-le, sets, sets-eq}
use Rattle.packed.specs.Records.{records, packed}

-- stores of one text behind another
pub sets_append : (xs ys l : List ℕ) (i j : ℕ) → i + length xs ≡ j → sets l i (xs ++ ys) ≡ sets (sets l i xs) j ys
sets_append [] ys l i j h = let e : i ≡ j = omega arith in rw e refl
sets_append (x ∷ xs) ys l i j h = sets_append xs ys (set l i x) (suc i) j (omega arith)

-- a head that was stored
pub head_stored : (n : ℕ) (l vs : List ℕ) → length vs ≡ n → n ≤ length l → take n (sets l 0 vs) ≡ vs
head_stored n l vs h k = ap (take n) (sets-eq vs l 0 (omega arith)) ∙ take_at vs (drop (0 + length vs) l) n h

module _ {A : Type 0} (f : List ℕ → A) where
  pub length_records : (n : ℕ) (bs : List ℕ) → length (records f n bs) ≡ n
  unfolding records
  length_records zero bs = refl
  length_records (suc n) bs = ap suc (length_records n (drop 24 bs))

  pub records_next : (n : ℕ) (bs : List ℕ) → records f (suc n) bs ≡ records f n bs ++ (f (drop (n * 24) bs) ∷ [])
  unfolding records
  records_next zero bs = refl
  records_next (suc n) bs =
      let e : 24 + n * 24 ≡ suc n * 24 = omega arith in
      ap (λ (l : List A). f bs ∷ l) (records_next n (drop 24 bs) ∙ ap (λ (l : List ℕ). records f n (drop 24 bs) ++ (f l ∷ [])) (drop-drop (n * 24) 24 bs ∙ ap (λ (k : ℕ). drop k bs) e))

  -- slots of which i are read
  pub read_none : (bs : List ℕ) (l : List A) → l ≡ records f 0 bs ++ drop 0 l
  unfolding records
  read_none bs l = refl

  pub read_next : (d : A) (i : ℕ) (bs : List ℕ) (l l₀ : List A) (a : A) → i < length l₀ → a ≡ f (drop (i * 24) bs) → l ≡ records f i bs ++ drop i l₀
      → set l i a ≡ records f (i + 1) bs ++ drop (i + 1) l₀
  read_next d i bs l l₀ a h q e =
      let s : i + 1 ≡ suc i = omega arith in
      rw (e, s) (
      ap (λ (k : List A). set (records f i bs ++ k) i a) (drop-cons l₀ i d h)
      ∙ set_at (records f i bs) (get_or l₀ i d) (drop (suc i) l₀) a i (length_records i bs)
      ∙ sym (append_snoc (records f i bs) a (drop (suc i) l₀))
      ∙ ap (λ (x : A). (records f i bs ++ (x ∷ [])) ++ drop (suc i) l₀) q
      ∙ ap (λ (k : List A). k ++ drop (suc i) l₀) (sym (records_next i bs))
      )

  pub read_all : (n : ℕ) (bs : List ℕ) (l l₀ : List A) → length l₀ ≤ n → l ≡ records f n bs ++ drop n l₀ → l ≡ records f n bs
  read_all n bs l l₀ h e = e ∙ ap (λ (k : List A). records f n bs ++ k) (drop_of_length-le l₀ h) ∙ append-nil (records f n bs)

module _ {A : Type 0} (g : A → List ℕ) (each : (a : A) → length (g a) ≡ 24) where
  pub packed_append : (l m : List A) → packed g (l ++ m) ≡ packed g l ++ packed g m
  unfolding packed
  packed_append [] m = refl
  packed_append (a ∷ l) m = ap (λ (x : List ℕ). g a ++ x) (packed_append l m) ∙ sym (append_assoc (g a) (packed g l) (packed g m))

  pub length_packed : (l : List A) → length (packed g l) ≡ 24 * length l
  unfolding packed
  length_packed [] = refl
  length_packed (a ∷ l) =
      let e = length-append (g a) (packed g l) in
      let x = each a in
      let b = length_packed l in
      omega arith

  packed_last : (d : A) (i : ℕ) (l : List A) → i < length l → packed g (take (suc i) l) ≡ packed g (take i l) ++ g (get_or l i d)
  unfolding packed
  packed_last d i l h =
      ap (packed g) (take-suc l i d h) ∙ packed_append (take i l) (get_or l i d ∷ []) ∙ ap (λ (x : List ℕ). packed g (take i l) ++ x) (append-nil (g (get_or l i d)))

  -- bytes behind a head of k, of which i records are written
  pub write_none : (k : ℕ) (l : List A) (bs : List ℕ) → bs ≡ take k bs ++ (packed g (take 0 l) ++ drop (k + 0 * 24) bs)
  unfolding packed
  write_none k l bs = let e : k + 0 * 24 ≡ k = omega arith in rw e (sym (take-append-drop k bs))

  pub write_next : (d : A) (k i : ℕ) (l : List A) (bs bs₀ : List ℕ) → i < length l → length bs₀ ≡ k + 24 * length l → length bs ≡ length bs₀
      → bs ≡ take k bs₀ ++ (packed g (take i l) ++ drop (k + i * 24) bs₀)
      → sets bs (k + i * 24) (g (get_or l i d)) ≡ take k bs₀ ++ (packed g (take (i + 1) l) ++ drop (k + (i + 1) * 24) bs₀)
  write_next d k i l bs bs₀ h n m e =
      let a = get_or l i d in
      let s : i + 1 ≡ suc i = omega arith in
      let x = length_packed (take i l) in
      let y = length-take-le i l (omega arith) in
      let z = length-take-le k bs₀ (omega arith) in
      let w = each a in
      let head = take k bs₀ ++ packed g (take i l) in
      let c : length head ≡ k + i * 24 = omega (arith, length-append (take k bs₀) (packed g (take i l))) in
      let e' : bs ≡ head ++ drop (k + i * 24) bs₀ = e ∙ sym (append_assoc (take k bs₀) (packed g (take i l)) (drop (k + i * 24) bs₀)) in
      let before : take (k + i * 24) bs ≡ head = rw e' (take_at head (drop (k + i * 24) bs₀) (k + i * 24) c) in
      let t : k + i * 24 + 24 ≡ k + suc i * 24 = omega arith in
      let u : k + i * 24 + 24 ≡ length head + 24 = omega arith in
      let back : drop (k + i * 24 + 24) bs ≡ drop (k + suc i * 24) bs₀ =
      rw (e', u) (drop-append-add head (drop (k + i * 24) bs₀) 24) ∙ drop-drop 24 (k + i * 24) bs₀ ∙ ap (λ (j : ℕ). drop j bs₀) t
      in
      sets-eq (g a) bs (k + i * 24) (omega arith)
      ∙ rw (before, w, back, s, packed_last d i l h) (simp append_assoc refl)

  pub write_all : (k n : ℕ) (l : List A) (bs bs₀ : List ℕ) → length l ≤ n → length bs₀ ≤ k + n * 24
      → bs ≡ take k bs₀ ++ (packed g (take n l) ++ drop (k + n * 24) bs₀) → bs ≡ take k bs₀ ++ packed g l
  write_all k n l bs bs₀ h m e =
      e ∙ ap (λ (q : List ℕ). take k bs₀ ++ q)
      (ap (λ (q : List ℕ). packed g (take n l) ++ q) (drop_of_length-le bs₀ m) ∙ append-nil (packed g (take n l)) ∙ ap (packed g) (take_all n l h))
