-- The packed list comes back: bytes that are read and packed again, and slots that are packed and read again. So a slot, or the count, that is stored where it stands is the one that is read there.
use Prim.Native.Nat.{ℕ, zero, suc, ◌+◌, ◌*◌, ◌^◌, ◌<◌, ◌≤◌}
use mathlib.Core.Path.{◌≡◌, refl, sym, ◌∙◌, ap, subst}
use mathlib.Core.Bool.{Bool, true, false}
use mathlib.Core.List.{List, [], ◌∷◌, ◌++◌, append_assoc}
use native.Mathlib.Omega.{arith}
use native.Mathlib.Decide.{dec_lt}
use lib.Dec.{eqb, leb}
use lib.ListN.{length, drop, get_or, set, replicate, length-replicate, length-append, length-set, get_or-eq_default}
use lib.Seq.{drop_at, sets}
use borrow.Author.Tests.{eq-eqb, eqb-true, le-leb, leb-true}
use mir.Val.{bool_byte}
use Rattle.bits.specs.Bit.{one}
use Rattle.bits.proofs.Choice.{both_true}
use Rattle.packed.specs.Words.{number, bytes, pack}
use Rattle.packed.specs.Records.{records, packed}
use Rattle.packed.proofs.Records.{length_packed, length_records}
use Rattle.packed.proofs.Words.{length_bytes, pack_unpack}
use Rattle.packed.proofs.Stores.{further, record_at, sets_head, slot_set, triple, length_triple, three_stored}
use Rattle.packed.proofs.RoundTrip.{Bytes, number_small, next_word, number_kept, behind_two, first_kept, second_kept, slots_back, slots_kept, bytes_behind, pack_zeros}
use Rattle.slots.specs.Slots.{Slots, slotted}
use Rattle.slots.proofs.Filled.{zero_at}
use Rattle.regions.specs.declared.VMRegion.{VMRegion}
use Rattle.regions.specs.Regions.{no_vm_region}
use Rattle.vm_list.specs.Packed.{vm_size, vm_words, vm_region_in, vm_region_out, used_is_flag, vm_in, vm_out, vm_fit}

-- ---- what is read at a slot

pub slot_at : (i : ℕ) (bs : List ℕ) → i < 256 → vm_region_in (drop (i * 24 + 8) bs) ≡ get_or (vm_in bs).slots i no_vm_region
slot_at i bs h =
    sym (record_at vm_region_in no_vm_region 256 i (drop 8 bs) h ∙ ap vm_region_in (sym (further (i * 24) 8 (i * 24 + 8) bs (omega arith))))

-- .. number by number
pub slot_read : (i : ℕ) (bs : List ℕ) → i < 256 → {x y z : ℕ} → x ≡ number 8 (drop (i * 24 + 8) bs) → y ≡ number 8 (drop (i * 24 + 16) bs) → z ≡ number 8 (drop (i * 24 + 24) bs)
    → record { start = x; size = y; used = eqb z 1 } ≡ get_or (vm_in bs).slots i no_vm_region
slot_read i bs h a b c =
    (λ j. record {
      start = a j;
      size = (b ∙ ap (number 8) (further 8 (i * 24 + 8) (i * 24 + 16) bs (omega arith))) j;
      used = ap (λ (w : ℕ). eqb w 1) (c ∙ ap (number 8) (further 16 (i * 24 + 8) (i * 24 + 24) bs (omega arith))) j;
    }) ∙ slot_at i bs h

pub slots_long : (bs : List ℕ) → length (vm_in bs).slots ≡ 256
slots_long bs = length_records vm_region_in 256 (drop 8 bs)

-- .. so n of them are there
pub enough : (bs : List ℕ) (n : ℕ) → n ≤ 256 → n ≤ length (vm_in bs).slots
enough bs n h = omega (arith, slots_long bs)

pub fit_long : (bs : List ℕ) → vm_fit bs ≡ true → length bs ≡ vm_size
fit_long bs fit = eqb-true _ vm_size (both_true _ _ fit).0

-- ---- read and packed again

flag_back : (w : ℕ) → w ≤ 1 → one (eqb w 1) ≡ w
flag_back zero h = refl
flag_back (suc zero) h = refl
flag_back (suc (suc w)) h = absurd (omega arith)

flags_apart : (n : ℕ) (bs : List ℕ) → used_is_flag (suc n) bs ≡ true → (leb (number 8 (drop 16 bs)) 1 ≡ true) × (used_is_flag n (drop 24 bs) ≡ true)
unfolding used_is_flag
flags_apart n bs h = both_true _ _ h

pub vm_back : (bs : List ℕ) → vm_fit bs ≡ true → Bytes bs → vm_out (vm_in bs) ≡ bs
vm_back bs fit b =
    let h = both_true _ _ fit in
    ap (λ (l : List ℕ). bytes 8 (number 8 bs) ++ l)
    (slots_back vm_region_in vm_region_out (λ (n : ℕ) (l : List ℕ). used_is_flag n l ≡ true) (λ n l k. used n l k) (λ n l k. (flags_apart n l k).1) 256 (drop 8 bs) h.1)
    ∙ next_word 768 bs ∙ pack_unpack vm_words bs (eqb-true _ vm_size h.0) b
  where
    used : (n : ℕ) (l : List ℕ) → used_is_flag (suc n) l ≡ true → vm_region_out (vm_region_in l) ≡ triple (number 8 l) (number 8 (drop 8 l)) (number 8 (drop 16 l))
    used n l k = ap (triple (number 8 l) (number 8 (drop 8 l))) (flag_back (number 8 (drop 16 l)) (leb-true _ 1 (flags_apart n l k).0))

-- bytes that fit are the list that they stand for, packed
pub packed_back : (bs : List ℕ) → vm_fit bs ≡ true → Bytes bs → {s : Slots VMRegion} → vm_in bs ≡ s → bs ≡ vm_out s
packed_back bs fit b e = sym (vm_back bs fit b) ∙ ap vm_out e

-- ---- packed and read again

-- numbers that fit their bytes
abbrev pub VmFits : VMRegion → Type 0
VmFits r = (r.start < 2 ^ 64) × (r.size < 2 ^ 64)

pub length_vm : (r : VMRegion) → length (vm_region_out r) ≡ 24
length_vm r = length_triple r.start r.size (one r.used)

flag_of : (r : VMRegion) (bs : List ℕ) → number 8 (drop 16 (vm_region_out r ++ bs)) ≡ one r.used
flag_of r bs = ap (number 8) (behind_two r.start r.size (one r.used) bs) ∙ number_kept (one r.used) bs (small r.used)
  where
    small : (b : Bool) → one b < 2 ^ 64
    small true = omega arith
    small false = omega arith

flag_kept : (b : Bool) → eqb (one b) 1 ≡ b
flag_kept true = refl
flag_kept false = refl

vm_region_kept : (r : VMRegion) (bs : List ℕ) → VmFits r → vm_region_in (vm_region_out r ++ bs) ≡ r
vm_region_kept r bs (h, k) = λ j. record {
  start = first_kept r.start r.size (one r.used) bs h j;
  size = second_kept r.start r.size (one r.used) bs k j;
  used = (ap (λ (n : ℕ). eqb n 1) (flag_of r bs) ∙ flag_kept r.used) j;
}

pub vm_kept : (s : Slots VMRegion) → s.count < 2 ^ 64 → length s.slots ≡ 256 → ((i : ℕ) → VmFits (get_or s.slots i no_vm_region)) → vm_in (vm_out s) ≡ s
vm_kept s h n fits =
    let text = packed vm_region_out s.slots in
    λ j. record {
      slots = (ap (records vm_region_in 256) (drop_at (bytes 8 s.count) text 8 (length_bytes 8 s.count)) ∙ ap (λ (k : ℕ). records vm_region_in k text) (sym n)
          ∙ slots_kept vm_region_in vm_region_out no_vm_region VmFits length_vm vm_region_kept s.slots fits) j;
      count = number_kept s.count text h j;
    }

flags_out : (l : List VMRegion) → used_is_flag (length l) (packed vm_region_out l) ≡ true
unfolding used_is_flag packed
flags_out [] = refl
flags_out (r ∷ l) =
    rw (flag_of r (packed vm_region_out l), drop_at (vm_region_out r) (packed vm_region_out l) 24 (length_vm r), le-leb (one r.used) 1 (low r.used), flags_out l) refl
  where
    low : (b : Bool) → one b ≤ 1
    low true = omega arith
    low false = omega arith

pub vm_fit_out : (s : Slots VMRegion) → length s.slots ≡ 256 → vm_fit (vm_out s) ≡ true
vm_fit_out s n =
    let head = bytes 8 s.count in
    let rest = packed vm_region_out s.slots in
    let long : length (head ++ rest) ≡ vm_size = omega (arith, length-append head rest, length_bytes 8 s.count, length_packed vm_region_out length_vm s.slots) in
    let flags : used_is_flag 256 (drop 8 (head ++ rest)) ≡ true =
    ap (used_is_flag 256) (drop_at head rest 8 (length_bytes 8 s.count)) ∙ ap (λ (k : ℕ). used_is_flag k rest) (sym n) ∙ flags_out s.slots
    in
    rw (eq-eqb (length (head ++ rest)) vm_size long, flags) refl

-- ---- a slot, or the count, stored where it stands

bool_one : (b : Bool) → bool_byte b ≡ one b
bool_one true = refl
bool_one false = refl

-- a region stored number by number
pub region_stored : (l m n o : List ℕ) (i : ℕ) (r : VMRegion) → m ≡ sets l (i * 24 + 8) (bytes 8 r.start) → n ≡ sets m (i * 24 + 16) (bytes 8 r.size)
    → o ≡ sets n (i * 24 + 24) (bytes 8 (bool_byte r.used)) → o ≡ sets l (i * 24 + 8) (vm_region_out r)
region_stored l m n o i r e f g =
    let a : i * 24 + 16 ≡ i * 24 + 8 + 8 = omega arith in
    let b : i * 24 + 24 ≡ i * 24 + 8 + 16 = omega arith in
    three_stored l m n o (i * 24 + 8) r.start r.size (one r.used) e (f ∙ ap (λ (k : ℕ). sets m k (bytes 8 r.size)) a)
    (g ∙ (λ j. sets n (b j) (bytes 8 (bool_one r.used j))))

-- each slot's numbers fit
slot_fits : (bs : List ℕ) → Bytes bs → (i : ℕ) → VmFits (get_or (vm_in bs).slots i no_vm_region)
slot_fits bs b i = by (dec_lt i 256)
  where
    by : Dec (i < 256) → VmFits (get_or (vm_in bs).slots i no_vm_region)
    by (yes h) =
        let c = bytes_behind (i * 24 + 8) bs b in
        subst VmFits (slot_at i bs h) (number_small (drop (i * 24 + 8) bs) c, number_small (drop 8 (drop (i * 24 + 8) bs)) (bytes_behind 8 (drop (i * 24 + 8) bs) c))
    by (no h) =
        subst VmFits (sym (get_or-eq_default (vm_in bs).slots no_vm_region (omega (arith, slots_long bs)))) (omega arith, omega arith)

set_fits : (l : List VMRegion) (i : ℕ) (r : VMRegion) → VmFits r → ((j : ℕ) → VmFits (get_or l j no_vm_region)) → (j : ℕ) → VmFits (get_or (set l i r) j no_vm_region)
set_fits [] i r f h j = h j
set_fits (a ∷ l) zero r f h zero = f
set_fits (a ∷ l) zero r f h (suc j) = h (suc j)
set_fits (a ∷ l) (suc i) r f h zero = h 0
set_fits (a ∷ l) (suc i) r f h (suc j) = set_fits l i r f (λ k. h (suc k)) j

module _ (bs : List ℕ) (fit : vm_fit bs ≡ true) (b : Bytes bs) where
  abbrev old : Slots VMRegion
  old = vm_in bs

  pub put_in : (i : ℕ) (r : VMRegion) → i < 256 → VmFits r → {zs : List ℕ} → zs ≡ sets bs (i * 24 + 8) (vm_region_out r)
      → (vm_in zs ≡ slotted (set old.slots i r) old.count) × (vm_fit zs ≡ true)
  put_in i r h f z =
      let new = slotted (set old.slots i r) old.count in
      let long : length new.slots ≡ 256 = length-set old.slots i r ∙ slots_long bs in
      let e = z ∙ ap (λ (l : List ℕ). sets l (i * 24 + 8) (vm_region_out r)) (sym (vm_back bs fit b))
      ∙ slot_set vm_region_out 24 length_vm (bytes 8 old.count) old.slots 8 i r (length_bytes 8 old.count) (omega (arith, slots_long bs))
      in
      (ap vm_in e ∙ vm_kept new (number_small bs b) long (set_fits old.slots i r f (slot_fits bs b)), ap vm_fit e ∙ vm_fit_out new long)

  pub count_in : (n : ℕ) → n < 2 ^ 64 → {zs : List ℕ} → zs ≡ sets bs 0 (bytes 8 n) → (vm_in zs ≡ slotted old.slots n) × (vm_fit zs ≡ true)
  count_in n h z =
      let new = slotted old.slots n in
      let e = z ∙ ap (λ (l : List ℕ). sets l 0 (bytes 8 n)) (sym (vm_back bs fit b))
      ∙ sets_head (bytes 8 old.count) (packed vm_region_out old.slots) (bytes 8 n) (length_bytes 8 n ∙ sym (length_bytes 8 old.count))
      in
      (ap vm_in e ∙ vm_kept new h (slots_long bs) (slot_fits bs b), ap vm_fit e ∙ vm_fit_out new (slots_long bs))

-- ---- the list with no region, all zero

abbrev pub no_regions : Slots VMRegion
no_regions = slotted (replicate 256 no_vm_region) 0

zeros : (n : ℕ) → packed vm_region_out (replicate n no_vm_region) ≡ pack (replicate (n * 3) 0)
unfolding packed pack
zeros zero = refl
zeros (suc n) =
    let e : suc n * 3 ≡ suc (suc (suc (n * 3))) = omega arith in
    rw e (append_assoc (bytes 8 0) (bytes 8 0 ++ bytes 8 0) (packed vm_region_out (replicate n no_vm_region))
    ∙ ap (λ (l : List ℕ). bytes 8 0 ++ l) (append_assoc (bytes 8 0) (bytes 8 0) (packed vm_region_out (replicate n no_vm_region)))
    ∙ ap (λ (l : List ℕ). bytes 8 0 ++ (bytes 8 0 ++ (bytes 8 0 ++ l))) (zeros n))

pub all_zero : pack (replicate vm_words 0) ≡ vm_out no_regions
unfolding pack
all_zero = ap (λ (l : List ℕ). bytes 8 0 ++ l) (sym (zeros 256))

-- .. as bytes that are filled with 0
pub filled_zero : (n : ℕ) → n ≡ vm_size → replicate n 0 ≡ vm_out no_regions
filled_zero n h = ap (λ (k : ℕ). replicate k 0) h ∙ sym (pack_zeros vm_words) ∙ all_zero

pub no_regions_in : vm_in (vm_out no_regions) ≡ no_regions
no_regions_in = vm_kept no_regions (omega arith) (length-replicate 256 no_vm_region) (λ i. subst VmFits (sym (zero_at no_vm_region 256 i)) (omega arith, omega arith))

pub no_regions_fit_out : vm_fit (vm_out no_regions) ≡ true
no_regions_fit_out = vm_fit_out no_regions (length-replicate 256 no_vm_region)
