-- Slots, count and next_addr where they stand: what is read of the bytes, and what they stand for once one of them is stored.
use Prim.Native.Nat.{ℕ, zero, suc, ◌+◌, ◌*◌, ◌<◌, ◌≤◌, ◌^◌}
use mathlib.Core.Path.{◌≡◌, refl, sym, ◌∙◌, ap, subst}
use mathlib.Core.Bool.{true}
use mathlib.Core.List.{List, [], ◌∷◌, ◌++◌, append_assoc}
use native.Mathlib.Omega.{arith}
use native.Mathlib.Decide.{dec_lt}
use lib.ListN.{length, drop, get_or, set, length-append, length-drop, length-set, get_or-eq_default, replicate, length-replicate}
use lib.Seq.{drop-drop, sets}
use mir.Facts.{sfits_to_z, sfits_lit}
use Rattle.packed.specs.Words.{number, bytes}
use Rattle.packed.specs.Records.{packed}
use Rattle.packed.proofs.Records.{length_records}
use Rattle.packed.proofs.Words.{length_bytes}
use Rattle.packed.proofs.Stores.{further, triple, record_at, sets_behind, sets_head, slot_set}
use Rattle.packed.proofs.RoundTrip.{Bytes, number_small, bytes_behind}
use Rattle.slots.specs.Slots.{Slots, slotted}
use Rattle.mappings.specs.declared.MappedRegion.{MappedRegion}
use Rattle.slots.proofs.Filled.{zero_at}
use Rattle.mappings.specs.Regions.{no_mapped_region, empty_slots}
use Rattle.mappings.specs.Packed.{mapped_in, mapped_out, mmap_in, next_in, mmap_out, mmap_fit, MmapStands}
use Rattle.mappings.proofs.RoundTrip.{half_fits, mapped_back, fit_long, mmap_back, MappedFits, length_mapped, mmap_kept, next_kept, mmap_fit_out}

pub slot_at : (i : ℕ) (bs : List ℕ) → i < 256 → mapped_in (drop (i * 24 + 16) bs) ≡ get_or (mmap_in bs).slots i no_mapped_region
slot_at i bs h =
    let e : 16 + i * 24 ≡ i * 24 + 16 = omega arith in
    sym (record_at mapped_in no_mapped_region 256 i (drop 16 bs) h ∙ ap mapped_in (drop-drop (i * 24) 16 bs ∙ ap (λ (k : ℕ). drop k bs) e))

pub slots_long : (bs : List ℕ) → length (mmap_in bs).slots ≡ 256
slots_long bs = length_records mapped_in 256 (drop 16 bs)

-- bytes that fit have one length
pub same_long : (xs bs : List ℕ) → mmap_fit xs ≡ true → mmap_fit bs ≡ true → length xs ≡ length bs
same_long xs bs a b = fit_long xs a ∙ sym (fit_long bs b)

-- ---- one of them stored into the packed list

module _ (s : Slots MappedRegion) (next : ℕ) where
  head_long : length (bytes 8 s.count ++ bytes 8 next) ≡ 16
  head_long = omega (arith, length-append (bytes 8 s.count) (bytes 8 next), length_bytes 8 s.count, length_bytes 8 next)

  out_set : (i : ℕ) (r : MappedRegion) → i < length s.slots → sets (mmap_out s next) (i * 24 + 16) (mapped_out r) ≡ mmap_out (slotted (set s.slots i r) s.count) next
  out_set i r h = slot_set mapped_out 24 length_mapped (bytes 8 s.count ++ bytes 8 next) s.slots 16 i r head_long h

  abbrev rest : List ℕ
  rest = packed mapped_out s.slots

  out_count : (n : ℕ) → sets (mmap_out s next) 0 (bytes 8 n) ≡ mmap_out (slotted s.slots n) next
  out_count n =
      ap (λ (l : List ℕ). sets l 0 (bytes 8 n)) (append_assoc (bytes 8 s.count) (bytes 8 next) rest)
      ∙ sets_head (bytes 8 s.count) (bytes 8 next ++ rest) (bytes 8 n) (length_bytes 8 n ∙ sym (length_bytes 8 s.count))
      ∙ sym (append_assoc (bytes 8 n) (bytes 8 next) rest)

  out_next : (x : ℕ) → sets (mmap_out s next) 8 (bytes 8 x) ≡ mmap_out s x
  out_next x =
      let e : 8 ≡ length (bytes 8 s.count) + 0 = omega (arith, length_bytes 8 s.count) in
      ap (λ (l : List ℕ). sets l 8 (bytes 8 x)) (append_assoc (bytes 8 s.count) (bytes 8 next) rest)
      ∙ ap (λ (k : ℕ). sets (bytes 8 s.count ++ (bytes 8 next ++ rest)) k (bytes 8 x)) e
      ∙ sets_behind (bytes 8 s.count) (bytes 8 next ++ rest) (bytes 8 x) 0
      ∙ ap (λ (l : List ℕ). bytes 8 s.count ++ l) (sets_head (bytes 8 next) rest (bytes 8 x) (length_bytes 8 x ∙ sym (length_bytes 8 next)))
      ∙ sym (append_assoc (bytes 8 s.count) (bytes 8 x) rest)

-- ---- what the bytes stand for then

set_fits : (l : List MappedRegion) (i : ℕ) (r : MappedRegion) → MappedFits r → ((j : ℕ) → MappedFits (get_or l j no_mapped_region)) → (j : ℕ) → MappedFits (get_or (set l i r) j no_mapped_region)
set_fits [] i r f h j = h j
set_fits (a ∷ l) zero r f h zero = f
set_fits (a ∷ l) zero r f h (suc j) = h (suc j)
set_fits (a ∷ l) (suc i) r f h zero = h 0
set_fits (a ∷ l) (suc i) r f h (suc j) = set_fits l i r f (λ k. h (suc k)) j

module _ (bs : List ℕ) (fit : mmap_fit bs ≡ true) (b : Bytes bs) where
  abbrev old : Slots MappedRegion
  old = mmap_in bs

  mapped_fits : (k : ℕ) → k + 24 ≤ length bs → MappedFits (mapped_in (drop k bs))
  mapped_fits k h =
      let text = drop k bs in
      let c = bytes_behind k bs b in
      let long = length-drop k bs in (
        number_small text c,
        number_small (drop 8 text) (bytes_behind 8 text c),
        sfits_to_z (half_fits (drop 16 text) (omega (arith, length-drop 16 text)) (λ i _. bytes_behind 16 text c i)),
        sfits_to_z (half_fits (drop 20 text) (omega (arith, length-drop 20 text)) (λ i _. bytes_behind 20 text c i)),
      )

  -- each slot's numbers fit
  slot_fits : (i : ℕ) → MappedFits (get_or old.slots i no_mapped_region)
  slot_fits i = by (dec_lt i 256)
    where
      by : Dec (i < 256) → MappedFits (get_or old.slots i no_mapped_region)
      by (yes h) = subst (λ (r : MappedRegion). MappedFits r) (slot_at i bs h) (mapped_fits (i * 24 + 16) (omega (arith, fit_long bs fit)))
      by (no h) =
          subst (λ (r : MappedRegion). MappedFits r) (sym (get_or-eq_default old.slots no_mapped_region (omega (arith, slots_long bs))))
          (omega arith, omega arith, sfits_lit tt, sfits_lit tt)

  stands : (s : Slots MappedRegion) (next : ℕ) → s.count < 2 ^ 64 → next < 2 ^ 64 → length s.slots ≡ 256 → ((i : ℕ) → MappedFits (get_or s.slots i no_mapped_region))
      → {zs : List ℕ} → zs ≡ mmap_out s next → MmapStands zs s next
  stands s next h k long fits e = (ap mmap_fit e ∙ mmap_fit_out s next long, ap mmap_in e ∙ mmap_kept s next h k long fits, ap next_in e ∙ next_kept s next h k)

  small : next_in bs < 2 ^ 64
  small = number_small (drop 8 bs) (bytes_behind 8 bs b)

  -- a store into the bytes is one into the list packed
  packed_again : (k : ℕ) (vs : List ℕ) → sets bs k vs ≡ sets (mmap_out old (next_in bs)) k vs
  packed_again k vs = ap (λ (l : List ℕ). sets l k vs) (sym (mmap_back bs fit b))

  module _ {zs : List ℕ} where
    pub put_in : (i : ℕ) (r : MappedRegion) → i < 256 → MappedFits r → zs ≡ sets bs (i * 24 + 16) (mapped_out r)
        → MmapStands zs (slotted (set old.slots i r) old.count) (next_in bs)
    put_in i r h f z =
        stands (slotted (set old.slots i r) old.count) (next_in bs) (number_small bs b) small (length-set old.slots i r ∙ slots_long bs)
        (set_fits old.slots i r f slot_fits) (z ∙ packed_again (i * 24 + 16) (mapped_out r) ∙ out_set old (next_in bs) i r (omega (arith, slots_long bs)))

    -- slot i, by its three numbers, over slot k
    pub move_in : (i k : ℕ) → i < 256 → k < 256 → let at = i * 24 + 16 in
        zs ≡ sets bs (k * 24 + 16) (triple (number 8 (drop at bs)) (number 8 (drop (at + 8) bs)) (number 8 (drop (at + 16) bs)))
        → MmapStands zs (slotted (set old.slots k (get_or old.slots i no_mapped_region)) old.count) (next_in bs)
    move_in i k h g z =
        let at = i * 24 + 16 in
        let e = ap mapped_out (sym (slot_at i bs h)) ∙ mapped_back 0 (drop at bs) (omega (arith, length-drop at bs, fit_long bs fit), bytes_behind at bs b) in
        put_in k (get_or old.slots i no_mapped_region) g (slot_fits i)
        (z ∙ (λ j. sets bs (k * 24 + 16) (triple (number 8 (drop at bs)) (number 8 (further 8 at (at + 8) bs refl j)) (number 8 (further 16 at (at + 16) bs refl j))))
        ∙ ap (sets bs (k * 24 + 16)) (sym e))

    pub count_in : (n : ℕ) → n < 2 ^ 64 → zs ≡ sets bs 0 (bytes 8 n) → MmapStands zs (slotted old.slots n) (next_in bs)
    count_in n h z =
        stands (slotted old.slots n) (next_in bs) h small (slots_long bs) slot_fits (z ∙ packed_again 0 (bytes 8 n) ∙ out_count old (next_in bs) n)

    pub next_in_lem : (x : ℕ) → x < 2 ^ 64 → zs ≡ sets bs 8 (bytes 8 x) → MmapStands zs old x
    next_in_lem x h z = stands old x (number_small bs b) h (slots_long bs) slot_fits (z ∙ packed_again 8 (bytes 8 x) ∙ out_next old (next_in bs) x)

-- ---- zero bytes: no region stands

zeros_out : replicate 6160 0 ≡ mmap_out empty_slots 0
unfolding packed bytes
zeros_out = refl

none_fits : MappedFits no_mapped_region
none_fits = (omega arith, omega arith, sfits_lit tt, sfits_lit tt)

pub zeros_in : {bs : List ℕ} → bs ≡ replicate 6160 0 → mmap_in bs ≡ empty_slots
zeros_in e =
    ap mmap_in (e ∙ zeros_out)
    ∙ mmap_kept empty_slots 0 (omega arith) (omega arith) (length-replicate {A = MappedRegion} 256 no_mapped_region)
    (λ i. subst MappedFits (sym (zero_at no_mapped_region 256 i)) none_fits)
