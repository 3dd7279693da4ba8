-- The marked pages come back: bytes that are read and packed again, slots that are packed and read again; and one number stored where it stands.
use Prim.Native.Nat.{ℕ, zero, suc, ◌+◌, ◌*◌, ◌^◌, ◌<◌}
use mathlib.Core.Path.{◌≡◌, refl, sym, ◌∙◌, ap, subst}
use mathlib.Core.Bool.{true}
use mathlib.Core.List.{List, [], ◌∷◌}
use native.Mathlib.Decide.{dec_lt}
use native.Mathlib.Omega.{arith}
use lib.ListN.{length, drop, get_or, set, replicate, length-append, length-set, length-replicate, get_or-eq_default}
use lib.Seq.{drop_at, sets}
use borrow.Author.Tests.{eq-eqb, eqb-true}
use Rattle.packed.specs.Words.{number, bytes, pack, unpack}
use Rattle.packed.proofs.Words.{length_bytes, length_pack, length_unpack, word_of, unpack_pack, pack_unpack}
use Rattle.packed.proofs.Stores.{further, sets_head, word_set}
use Rattle.packed.proofs.RoundTrip.{Bytes, Words, number_small, next_word, number_kept, bytes_behind}
use Rattle.slots.specs.Slots.{Slots, slotted}
use Rattle.slots.proofs.Filled.{zero_at}
use Rattle.cow.specs.Marked.{no_pages}
use Rattle.cow.specs.Packed.{marked_size, marked_in, marked_out, marked_fit}

pub fit_long : (bs : List ℕ) → marked_fit bs ≡ true → length bs ≡ marked_size
fit_long bs fit = eqb-true _ marked_size fit

pub same_long : (xs ys : List ℕ) → marked_fit xs ≡ true → marked_fit ys ≡ true → length xs ≡ length ys
same_long xs ys a b = fit_long xs a ∙ sym (fit_long ys b)

-- ---- the round trip

pub marked_back : (bs : List ℕ) → marked_fit bs ≡ true → Bytes bs → marked_out (marked_in bs) ≡ bs
marked_back bs fit b = next_word 256 bs ∙ pack_unpack 257 bs (fit_long bs fit) b

pub marked_kept : (s : Slots ℕ) → s.count < 2 ^ 64 → length s.slots ≡ 256 → Words s.slots → marked_in (marked_out s) ≡ s
marked_kept s h n fits = λ j. record {
  slots = (ap (unpack 256) (drop_at (bytes 8 s.count) (pack s.slots) 8 (length_bytes 8 s.count)) ∙ ap (λ (k : ℕ). unpack k (pack s.slots)) (sym n)
      ∙ unpack_pack s.slots fits) j;
  count = number_kept s.count (pack s.slots) h j;
}

pub marked_fit_out : (s : Slots ℕ) → length s.slots ≡ 256 → marked_fit (marked_out s) ≡ true
marked_fit_out s n =
    eq-eqb (length (marked_out s)) marked_size (omega (arith, length-append (bytes 8 s.count) (pack s.slots), length_bytes 8 s.count, length_pack s.slots))

-- ---- a slot read where it stands

pub slot_at : (i : ℕ) (bs : List ℕ) → i < 256 → number 8 (drop (i * 8 + 8) bs) ≡ get_or (marked_in bs).slots i 0
slot_at i bs h = ap (number 8) (further (i * 8) 8 (i * 8 + 8) bs (omega arith)) ∙ word_of i 256 (drop 8 bs) h

pub slots_long : (bs : List ℕ) → length (marked_in bs).slots ≡ 256
slots_long bs = length_unpack 256 (drop 8 bs)

-- ---- a slot and the count stored where they stand

slot_fits : (bs : List ℕ) → Bytes bs → Words (marked_in bs).slots
slot_fits bs b i = by (dec_lt i 256)
  where
    by : Dec (i < 256) → get_or (marked_in bs).slots i 0 < 2 ^ 64
    by (yes h) = subst (λ (x : ℕ). x < 2 ^ 64) (slot_at i bs h) (number_small (drop (i * 8 + 8) bs) (bytes_behind (i * 8 + 8) bs b))
    by (no h) = subst (λ (x : ℕ). x < 2 ^ 64) (sym (get_or-eq_default (marked_in bs).slots 0 (omega (arith, slots_long bs)))) (omega arith)

set_fits : (l : List ℕ) (i x : ℕ) → x < 2 ^ 64 → Words l → Words (set l i x)
set_fits [] i x f h j = h j
set_fits (a ∷ l) zero x f h zero = f
set_fits (a ∷ l) zero x f h (suc j) = h (suc j)
set_fits (a ∷ l) (suc i) x f h zero = h 0
set_fits (a ∷ l) (suc i) x f h (suc j) = set_fits l i x f (λ k. h (suc k)) j

module _ (bs : List ℕ) (fit : marked_fit bs ≡ true) (b : Bytes bs) where
  abbrev old : Slots ℕ
  old = marked_in bs

  pub put_in : (i x : ℕ) → i < 256 → x < 2 ^ 64 → {zs : List ℕ} → zs ≡ sets bs (i * 8 + 8) (bytes 8 x)
      → (marked_in zs ≡ slotted (set old.slots i x) old.count) × (marked_fit zs ≡ true)
  put_in i x h f z =
      let new = slotted (set old.slots i x) old.count in
      let long : length new.slots ≡ 256 = length-set old.slots i x ∙ slots_long bs in
      let e = z ∙ ap (λ (l : List ℕ). sets l (i * 8 + 8) (bytes 8 x)) (sym (marked_back bs fit b))
      ∙ word_set (bytes 8 old.count) old.slots 8 i x (length_bytes 8 old.count) (omega (arith, slots_long bs)) in
      (ap marked_in e ∙ marked_kept new (number_small bs b) long (set_fits old.slots i x f (slot_fits bs b)), ap marked_fit e ∙ marked_fit_out new long)

  pub count_in : (n : ℕ) → n < 2 ^ 64 → {zs : List ℕ} → zs ≡ sets bs 0 (bytes 8 n) → (marked_in zs ≡ slotted old.slots n) × (marked_fit zs ≡ true)
  count_in n h z =
      let new = slotted old.slots n in
      let e = z ∙ ap (λ (l : List ℕ). sets l 0 (bytes 8 n)) (sym (marked_back bs fit b))
      ∙ sets_head (bytes 8 old.count) (pack old.slots) (bytes 8 n) (length_bytes 8 n ∙ sym (length_bytes 8 old.count)) in
      (ap marked_in e ∙ marked_kept new h (slots_long bs) (slot_fits bs b), ap marked_fit e ∙ marked_fit_out new (slots_long bs))

-- ---- no page marked

zeros_fit : (n : ℕ) → Words (replicate n 0)
zeros_fit n i = omega (arith, zero_at {A = ℕ} 0 n i)

zeros_out : replicate 2056 0 ≡ marked_out no_pages
unfolding pack bytes
zeros_out = refl

-- once the bytes are zero
pub started : {bs : List ℕ} → bs ≡ replicate 2056 0 → (bs ≡ marked_out no_pages) × ((marked_in bs ≡ no_pages) × (marked_fit bs ≡ true))
started e =
    let long : length no_pages.slots ≡ 256 = length-replicate {A = ℕ} 256 0 in
    let o = e ∙ zeros_out in
    (o, (ap marked_in o ∙ marked_kept no_pages (omega arith) long (zeros_fit 256), ap marked_fit o ∙ marked_fit_out no_pages long))
