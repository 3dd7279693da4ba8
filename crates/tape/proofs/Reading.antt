-- What reading a tape comes to, by the tests that code makes.
use Prim.Native.Nat.{ℕ, ◌≤◌, ◌<◌}
use mathlib.Core.Path.{◌≡◌, refl}
use mathlib.Core.Bool.{Bool, true, false}
use mathlib.Core.List.{List, [], ◌∷◌}
use native.Mathlib.Omega.{arith}
use lib.Dec.{eqb, leb, ltb}
use lib.IntN.{ℤ}
use lib.ListN.{length, get_or, drop}
use lib.Seq.{get_or-drop, drop-drop}
use mir.Val.{to_z}
use mir.Syntax.{w32}
use borrow.Author.Tests.{ne_eqb, lt-ltb, le-ltb, le-leb, lt-leb}
use Rattle.bits.specs.Bit.{pick, both}
use Rattle.packed.specs.Words.{number}
use Rattle.std.specs.Prelude.{Ok, Err, Some, None, IsErr}
use Rattle.tape.specs.declared.Kind.{Kind}
use Rattle.tape.specs.declared.Kind.TheVariants.{Vmalloc, Vfree, Mmap, Munmap, Fault, Translate}
use Rattle.tape.specs.Kinds.{number_of}
use Rattle.tape.specs.declared.Call.TheVariants.{Mmap as MmapOf, Translate as TranslateOf}
use Rattle.tape.specs.Tape.{body_size, mmap_body, body, Next, read, finished, malformed, next}

-- ---- the kinds

pub size_none : (k : ℕ) → (k ≡ 1 → ⊥) → (k ≡ 2 → ⊥) → (k ≡ 3 → ⊥) → (k ≡ 4 → ⊥) → (k ≡ 5 → ⊥) → (k ≡ 6 → ⊥) → body_size k ≡ 0
size_none k a b c d e f = rw (ne_eqb k 1 a, ne_eqb k 2 b, ne_eqb k 3 c, ne_eqb k 4 d, ne_eqb k 5 e, ne_eqb k 6 f) refl

-- a known kind's body has a number at least
pub size_least : (k : ℕ) → 0 < body_size k → 8 ≤ body_size k
size_least k = by (eqb k 1) (eqb k 2) (eqb k 3) (eqb k 4) (eqb k 5) (eqb k 6)
  where
    by : (a b c d e f : Bool) → 0 < pick a 8 (pick b 8 (pick c 25 (pick d 16 (pick e 16 (pick f 8 0)))))
        → 8 ≤ pick a 8 (pick b 8 (pick c 25 (pick d 16 (pick e 16 (pick f 8 0)))))
    by true b c d e f h = omega arith
    by false true c d e f h = omega arith
    by false false true d e f h = omega arith
    by false false false true e f h = omega arith
    by false false false false true f h = omega arith
    by false false false false false true h = omega arith
    by false false false false false false h = absurd (omega arith)

-- a kind has a body
pub size_known : (x : Kind) → 0 < body_size (number_of x)
size_known Vmalloc = omega arith
size_known Vfree = omega arith
size_known Mmap = omega arith
size_known Munmap = omega arith
size_known Fault = omega arith
size_known Translate = omega arith

pub size_most : (k : ℕ) → body_size k ≤ 25
size_most k = by (eqb k 1) (eqb k 2) (eqb k 3) (eqb k 4) (eqb k 5) (eqb k 6)
  where
    by : (a b c d e f : Bool) → pick a 8 (pick b 8 (pick c 25 (pick d 16 (pick e 16 (pick f 8 0))))) ≤ 25
    by true b c d e f = omega arith
    by false true c d e f = omega arith
    by false false true d e f = omega arith
    by false false false true e f = omega arith
    by false false false false true f = omega arith
    by false false false false false true = omega arith
    by false false false false false false = omega arith

pub body_last : (k : ℕ) (b : List ℕ) → (k ≡ 1 → ⊥) → (k ≡ 2 → ⊥) → (k ≡ 3 → ⊥) → (k ≡ 4 → ⊥) → (k ≡ 5 → ⊥) → body k b ≡ read (TranslateOf (number 8 b))
body_last k l a b c d e = rw (ne_eqb k 1 a, ne_eqb k 2 b, ne_eqb k 3 c, ne_eqb k 4 d, ne_eqb k 5 e) refl

-- ---- mmap's body behind its kind byte

first : (bs : List ℕ) → get_or (drop 1 bs) 0 0 ≡ get_or bs 1 0
first bs = get_or-drop 1 bs 0 0

pub mmap_bad : (bs : List ℕ) → 2 ≤ get_or bs 1 0 → malformed ≡ mmap_body (drop 1 bs)
mmap_bad bs h = rw (first bs, le-ltb (get_or bs 1 0) 2 h) refl

pub mmap_good : (bs : List ℕ) → get_or bs 1 0 < 2 → (a s p f : ℕ) (q g : ℤ) → a ≡ number 8 (drop 2 bs) → s ≡ number 8 (drop 10 bs)
    → p ≡ number 4 (drop 18 bs) → f ≡ number 4 (drop 22 bs) → q ≡ to_z w32 p → g ≡ to_z w32 f
    → read (MmapOf (record { addr = pick (eqb (get_or bs 1 0) 1) (Some a) None; size = s; prot = q; flags = g })) ≡ mmap_body (drop 1 bs)
mmap_good bs h a s p f q g ea es ep ef eq eg =
    rw (first bs, lt-ltb (get_or bs 1 0) 2 h, drop-drop 1 1 bs, drop-drop 9 1 bs, drop-drop 17 1 bs, drop-drop 21 1 bs, eq, eg, ea, es, ep, ef) refl

-- ---- what stands next

pub next_none : (bs : List ℕ) → length bs ≡ 0 → finished ≡ next bs
unfolding next
next_none [] h = refl
next_none (k ∷ b) h = absurd (omega arith)

pub next_unknown : (bs b : List ℕ) (k : ℕ) → bs ≡ k ∷ b → body_size k ≡ 0 → malformed ≡ next bs
unfolding next
next_unknown bs b k e h = rw (e, le-ltb 0 (body_size k) (omega arith)) refl

pub next_short : (bs b : List ℕ) (k : ℕ) → bs ≡ k ∷ b → length b < body_size k → malformed ≡ next bs
unfolding next
next_short bs b k e h = rw e (by (ltb 0 (body_size k)) (leb (body_size k) (length b)) (lt-leb (body_size k) (length b) h))
  where
    by : (x y : Bool) → y ≡ false → malformed ≡ pick (both x y) (body k b) malformed
    by true y f = rw f refl
    by false y f = refl

pub next_whole : (bs b : List ℕ) (x : Kind) → bs ≡ number_of x ∷ b → body_size (number_of x) ≤ length b → body (number_of x) b ≡ next bs
unfolding next
next_whole bs b x e h = rw (e, lt-ltb 0 (body_size (number_of x)) (size_known x), le-leb (body_size (number_of x)) (length b) h) refl

-- a refusal of another result, as it is handed on
pub handed_on : (r : Next) → IsErr r → malformed ≡ r
handed_on (Ok x) h = cc
handed_on (Err e) h = refl
