-- The list comes back: bytes that are read and packed again, and slots that are packed and read again.
use Prim.Native.Nat.{ℕ, zero, suc, ◌+◌, ◌*◌, ◌/◌, ◌^◌, ◌<◌, ◌≤◌}
use mathlib.Core.Path.{◌≡◌, refl, sym, ◌∙◌, ap}
use mathlib.Core.Bool.{true}
use mathlib.Core.List.{List, ◌++◌, append_assoc}
use native.Mathlib.Omega.{arith}
use lib.ListN.{length, drop, get_or, length-append, length-drop}
use lib.Seq.{drop_at}
use borrow.Author.Tests.{eq-eqb, eqb-true}
use mir.Facts.{to_z-of_z, of_z-to_z, Fits-of_lt, Fits-of_z}
use mir.Val.{Fits, SFits, of_z, to_z}
use mir.Syntax.{w32}
use Rattle.packed.specs.Words.{number, bytes, pack, unpack}
use Rattle.packed.specs.Records.{records, packed}
use Rattle.packed.proofs.Records.{length_packed}
use Rattle.packed.proofs.Words.{length_bytes, number_four, number_eight, pack_unpack}
use Rattle.packed.proofs.Stores.{further, triple, length_triple}
use Rattle.packed.proofs.RoundTrip.{Bytes, next_word, number_kept, behind_two, first_kept, second_kept, slots_back, slots_kept, bytes_behind}
use Rattle.slots.specs.Slots.{Slots}
use Rattle.mappings.specs.declared.MappedRegion.{MappedRegion}
use Rattle.mappings.specs.Regions.{no_mapped_region}
use Rattle.mappings.specs.Packed.{mmap_size, mapped_in, mapped_out, mmap_in, next_in, mmap_out, mmap_fit, MmapStands}

-- ---- bytes come back

-- a number by its halves
halves : (bs : List ℕ) → 8 ≤ length bs → number 8 bs ≡ number 4 bs + number 4 (drop 4 bs) * 2 ^ 32
halves bs h = omega (arith, number_eight 0 bs h, number_four 0 bs (omega arith), number_four 4 bs h)

pub half_fits : (bs : List ℕ) → 4 ≤ length bs → ((i : ℕ) → i < 4 → get_or bs i 0 < 256) → Fits w32 (number 4 bs)
half_fits bs h b =
    Fits-of_lt (omega (arith, number_four 0 bs h, b 0 (omega arith), b 1 (omega arith), b 2 (omega arith), b 3 (omega arith)))

-- n regions' bytes
abbrev pub Held : ℕ → List ℕ → Type 0
Held n bs = (n * 24 ≤ length bs) × Bytes bs

pub mapped_back : (n : ℕ) (bs : List ℕ) → Held (suc n) bs → mapped_out (mapped_in bs) ≡ triple (number 8 bs) (number 8 (drop 8 bs)) (number 8 (drop 16 bs))
mapped_back n bs (long, b) =
    let prot = half_fits (drop 16 bs) (omega (arith, length-drop 16 bs)) (λ i _. bytes_behind 16 bs b i) in
    let flags = half_fits (drop 20 bs) (omega (arith, length-drop 20 bs)) (λ i _. bytes_behind 20 bs b i) in
    ap (triple (number 8 bs) (number 8 (drop 8 bs))) (
    (λ j. of_z-to_z prot j + of_z-to_z flags j * 2 ^ 32)
    ∙ ap (λ (l : List ℕ). number 4 (drop 16 bs) + number 4 l * 2 ^ 32) (further 4 16 20 bs refl)
    ∙ sym (halves (drop 16 bs) (omega (arith, length-drop 16 bs)))
    )

pub fit_long : (bs : List ℕ) → mmap_fit bs ≡ true → length bs ≡ mmap_size
fit_long bs fit = eqb-true (length bs) mmap_size fit

pub mmap_back : (bs : List ℕ) → mmap_fit bs ≡ true → Bytes bs → mmap_out (mmap_in bs) (next_in bs) ≡ bs
mmap_back bs fit b =
    let n = fit_long bs fit in
    let one = bytes 8 (number 8 bs) in
    let two = bytes 8 (next_in bs) in
    ap (λ (l : List ℕ). (one ++ two) ++ l)
    (slots_back mapped_in mapped_out Held mapped_back (λ k l h. (omega (arith, length-drop 24 l, h.0), bytes_behind 24 l h.1)) 256 (drop 16 bs)
    (omega (arith, length-drop 16 bs), bytes_behind 16 bs b))
    ∙ append_assoc one two (pack (unpack 768 (drop 16 bs)))
    ∙ ap (λ (l : List ℕ). one ++ (two ++ pack (unpack 768 l))) (further 8 8 16 bs refl)
    ∙ ap (λ (l : List ℕ). one ++ l) (next_word 768 (drop 8 bs))
    ∙ next_word 769 bs
    ∙ pack_unpack 770 bs n b

-- bytes are those of what they stand for
pub stands_back : {bs : List ℕ} {s : Slots MappedRegion} {next : ℕ} → Bytes bs → MmapStands bs s next → bs ≡ mmap_out s next
stands_back {bs} b h = sym (mmap_back bs h.0 b) ∙ (λ j. mmap_out (h.1 j) (h.2 j))

-- ---- slots come back

-- numbers that fit their bytes
abbrev pub MappedFits : MappedRegion → Type 0
MappedFits r = (r.start < 2 ^ 64) × (r.size < 2 ^ 64) × SFits w32 r.prot × SFits w32 r.flags

low_bytes : (k z i : ℕ) (bs : List ℕ) → i < k → get_or (bytes k z ++ bs) i 0 < 256
unfolding bytes
low_bytes zero z i bs h = absurd (omega arith)
low_bytes (suc k) z zero bs h = omega arith
low_bytes (suc k) z (suc i) bs h = low_bytes k (z / 256) i bs (omega arith)

-- two halves written as one number
two_kept : (p q : ℕ) (bs : List ℕ) → p < 2 ^ 32 → q < 2 ^ 32 → let t = bytes 8 (p + q * 2 ^ 32) ++ bs in (number 4 t ≡ p) × (number 4 (drop 4 t) ≡ q)
two_kept p q bs h k =
    let z = p + q * 2 ^ 32 in
    let t = bytes 8 z ++ bs in
    let long : 8 ≤ length t = omega (arith, length-append (bytes 8 z) bs, length_bytes 8 z) in
    let e = number_kept z bs (omega arith) in
    let d = halves t long in
    let l = (half_fits t (omega arith) (λ i g. low_bytes 8 z i bs (omega arith))).fits in
    (omega arith, omega arith)

pub length_mapped : (r : MappedRegion) → length (mapped_out r) ≡ 24
length_mapped r = length_triple r.start r.size (of_z w32 r.prot + of_z w32 r.flags * 2 ^ 32)

mapped_kept : (r : MappedRegion) (bs : List ℕ) → MappedFits r → mapped_in (mapped_out r ++ bs) ≡ r
mapped_kept r bs (h, k, p, f) =
    let z = of_z w32 r.prot + of_z w32 r.flags * 2 ^ 32 in
    let back : drop 16 (mapped_out r ++ bs) ≡ bytes 8 z ++ bs = behind_two r.start r.size z bs in
    let two = two_kept (of_z w32 r.prot) (of_z w32 r.flags) bs (Fits-of_z p).fits (Fits-of_z f).fits in
    λ j. record {
      start = first_kept r.start r.size z bs h j;
      size = second_kept r.start r.size z bs k j;
      prot = (ap (λ (l : List ℕ). to_z w32 (number 4 l)) back ∙ ap (to_z w32) two.0 ∙ to_z-of_z p) j;
      flags = (ap (λ (l : List ℕ). to_z w32 (number 4 l)) (further 4 16 20 (mapped_out r ++ bs) refl ∙ ap (drop 4) back) ∙ ap (to_z w32) two.1 ∙ to_z-of_z f) j;
    }

module _ (s : Slots MappedRegion) (next : ℕ) (h : s.count < 2 ^ 64) (k : next < 2 ^ 64) where
  abbrev written : List ℕ
  written = packed mapped_out s.slots

  ahead : mmap_out s next ≡ bytes 8 s.count ++ (bytes 8 next ++ written)
  ahead = append_assoc (bytes 8 s.count) (bytes 8 next) written

  behind : drop 8 (mmap_out s next) ≡ bytes 8 next ++ written
  behind = ap (drop 8) ahead ∙ drop_at (bytes 8 s.count) (bytes 8 next ++ written) 8 (length_bytes 8 s.count)

  pub next_kept : next_in (mmap_out s next) ≡ next
  next_kept = ap (number 8) behind ∙ number_kept next written k

  pub mmap_kept : length s.slots ≡ 256 → ((i : ℕ) → MappedFits (get_or s.slots i no_mapped_region)) → mmap_in (mmap_out s next) ≡ s
  mmap_kept n fits = λ j. record {
    slots = (ap (records mapped_in 256) (further 8 8 16 (mmap_out s next) refl ∙ ap (drop 8) behind ∙ drop_at (bytes 8 next) written 8 (length_bytes 8 next))
        ∙ ap (λ (m : ℕ). records mapped_in m written) (sym n)
        ∙ slots_kept mapped_in mapped_out no_mapped_region MappedFits length_mapped mapped_kept s.slots fits) j;
    count = (ap (number 8) ahead ∙ number_kept s.count (bytes 8 next ++ written) h) j;
  }

-- what one call packs, the next call takes
pub mmap_fit_out : (s : Slots MappedRegion) (next : ℕ) → length s.slots ≡ 256 → mmap_fit (mmap_out s next) ≡ true
mmap_fit_out s next n =
    let one = bytes 8 s.count in
    let two = bytes 8 next in
    let rest = packed mapped_out s.slots in
    eq-eqb (length ((one ++ two) ++ rest)) mmap_size (
    omega (
      arith,
      length-append (one ++ two) rest,
      length-append one two,
      length_bytes 8 s.count,
      length_bytes 8 next,
      length_packed mapped_out length_mapped s.slots,
    )
    )
