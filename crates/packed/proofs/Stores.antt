-- Stores into packed bytes: one behind another, behind a head, and into one slot of a packed list. And what is read at a slot.
use Prim.Native.Nat.{ℕ, zero, suc, ◌+◌, ◌*◌, ◌<◌}
use mathlib.Core.Path.{◌≡◌, refl, sym, ◌∙◌, ap}
use mathlib.Core.List.{List, [], ◌∷◌, ◌++◌}
use native.Mathlib.Omega.{arith}
use lib.ListN.{length, drop, get_or, set, length-append}
use lib.Seq.{drop-drop, sets}
use Rattle.packed.specs.Words.{bytes, pack}
use Rattle.packed.specs.Records.{records, packed}
use Rattle.packed.proofs.Words.{length_bytes}
use Rattle.packed.proofs.Records.{sets_append}

-- bytes behind a place, from another place on
pub further : (k at at' : ℕ) (bs : List ℕ) → at + k ≡ at' → drop at' bs ≡ drop k (drop at bs)
further k at at' bs e = ap (λ (n : ℕ). drop n bs) (sym e) ∙ sym (drop-drop k at bs)

-- the i-th of n records
pub record_at : {A : Type 0} (f : List ℕ → A) (d : A) (n i : ℕ) (bs : List ℕ) → i < n → get_or (records f n bs) i d ≡ f (drop (i * 24) bs)
unfolding records
record_at f d zero i bs h = absurd (omega arith)
record_at f d (suc n) zero bs h = refl
record_at f d (suc n) (suc i) bs h =
    let e : 24 + i * 24 ≡ suc i * 24 = omega arith in
    record_at f d n i (drop 24 bs) (omega arith) ∙ ap f (drop-drop (i * 24) 24 bs ∙ ap (λ (k : ℕ). drop k bs) e)

-- ---- stores behind a head, and at the head

sets_next : (x : ℕ) (l vs : List ℕ) (k : ℕ) → sets (x ∷ l) (suc k) vs ≡ x ∷ sets l k vs
sets_next x l [] k = refl
sets_next x l (v ∷ vs) k = sets_next x (set l k v) vs (suc k)

pub sets_behind : (h l vs : List ℕ) (k : ℕ) → sets (h ++ l) (length h + k) vs ≡ h ++ sets l k vs
sets_behind [] l vs k = ap (λ (n : ℕ). sets l n vs) (omega arith)
sets_behind (x ∷ h) l vs k =
    let e : length (x ∷ h) + k ≡ suc (length h + k) = omega arith in
    ap (λ (n : ℕ). sets (x ∷ (h ++ l)) n vs) e ∙ sets_next x (h ++ l) vs (length h + k) ∙ ap (λ (m : List ℕ). x ∷ m) (sets_behind h l vs k)

pub sets_head : (h l vs : List ℕ) → length vs ≡ length h → sets (h ++ l) 0 vs ≡ vs ++ l
sets_head [] l [] e = refl
sets_head [] l (v ∷ vs) e = absurd (omega arith)
sets_head (x ∷ h) l [] e = absurd (omega arith)
sets_head (x ∷ h) l (v ∷ vs) e = sets_next v (h ++ l) vs 0 ∙ ap (λ (m : List ℕ). v ∷ m) (sets_head h l vs (omega arith))

-- ---- one slot of a packed list, each slot of w bytes

module _ {A : Type 0} (g : A → List ℕ) (w : ℕ) (each : (a : A) → length (g a) ≡ w) where
  pub packed_set : (l : List A) (i : ℕ) (a : A) → i < length l → sets (packed g l) (i * w) (g a) ≡ packed g (set l i a)
  unfolding packed
  packed_set [] i a h = absurd (omega arith)
  packed_set (x ∷ l) zero a h =
      let e : 0 * w ≡ 0 = omega arith in
      ap (λ (n : ℕ). sets (g x ++ packed g l) n (g a)) e ∙ sets_head (g x) (packed g l) (g a) (each a ∙ sym (each x))
  packed_set (x ∷ l) (suc i) a h =
      let e : suc i * w ≡ length (g x) + i * w = omega (arith, each x) in
      ap (λ (n : ℕ). sets (g x ++ packed g l) n (g a)) e ∙ sets_behind (g x) (packed g l) (g a) (i * w)
      ∙ ap (λ (m : List ℕ). g x ++ m) (packed_set l i a (omega arith))

  -- .. and behind a head of k bytes
  pub slot_set : (head : List ℕ) (l : List A) (k i : ℕ) (a : A) → length head ≡ k → i < length l
      → sets (head ++ packed g l) (i * w + k) (g a) ≡ head ++ packed g (set l i a)
  slot_set head l k i a n h =
      let e : i * w + k ≡ length head + i * w = omega arith in
      ap (λ (m : ℕ). sets (head ++ packed g l) m (g a)) e ∙ sets_behind head (packed g l) (g a) (i * w) ∙ ap (λ (m : List ℕ). head ++ m) (packed_set l i a h)

-- numbers are packed as records of eight bytes
pack_packed : (l : List ℕ) → pack l ≡ packed (bytes 8) l
unfolding pack packed
pack_packed [] = refl
pack_packed (x ∷ l) = ap (λ (m : List ℕ). bytes 8 x ++ m) (pack_packed l)

pub word_set : (head l : List ℕ) (k i x : ℕ) → length head ≡ k → i < length l → sets (head ++ pack l) (i * 8 + k) (bytes 8 x) ≡ head ++ pack (set l i x)
word_set head l k i x n h =
    ap (λ (m : List ℕ). sets (head ++ m) (i * 8 + k) (bytes 8 x)) (pack_packed l)
    ∙ slot_set (bytes 8) 8 (length_bytes 8) head l k i x n h
    ∙ ap (λ (m : List ℕ). head ++ m) (sym (pack_packed (set l i x)))

-- ---- a slot of three numbers

abbrev pub triple : ℕ → ℕ → ℕ → List ℕ
triple x y z = bytes 8 x ++ (bytes 8 y ++ bytes 8 z)

pub length_triple : (x y z : ℕ) → length (triple x y z) ≡ 24
length_triple x y z =
    let a = length_bytes 8 x in
    let b = length_bytes 8 y in
    let c = length_bytes 8 z in
    let d = length-append (bytes 8 x) (bytes 8 y ++ bytes 8 z) in
    let e = length-append (bytes 8 y) (bytes 8 z) in
    omega arith

-- three numbers stored one behind the other
pub three_stored : (l m n o : List ℕ) (at x y z : ℕ) → m ≡ sets l at (bytes 8 x) → n ≡ sets m (at + 8) (bytes 8 y) → o ≡ sets n (at + 16) (bytes 8 z)
    → o ≡ sets l at (triple x y z)
three_stored l m n o at x y z e f g =
    let a = length_bytes 8 x in
    let b = length_bytes 8 y in
    g ∙ ap (λ (q : List ℕ). sets q (at + 16) (bytes 8 z)) (f ∙ ap (λ (q : List ℕ). sets q (at + 8) (bytes 8 y)) e)
    ∙ sym (sets_append (bytes 8 x) (bytes 8 y ++ bytes 8 z) l at (at + 8) (omega arith) ∙ sets_append (bytes 8 y) (bytes 8 z) (sets l at (bytes 8 x)) (at + 8) (at + 16) (omega arith))
