-- Tables without a present entry: their leaves are passed over, and they stay so.
use Prim.Native.Nat.{ℕ, zero, suc, ◌+◌, ◌-◌, ◌*◌, ◌<◌, ◌≤◌}
use mathlib.Core.Path.{◌≡◌, refl, sym, ◌∙◌, ap, subst}
use mathlib.Core.Bool.{Bool, true, false, false≢true}
use mathlib.Core.List.{List}
use native.Mathlib.Decide.{ℕ_discrete}
use native.Mathlib.Omega.{arith}
use lib.Arith.{lt_of_le-ne}
use lib.ListN.{get_or}
use Rattle.bits.specs.Bit.{flag}
use Rattle.bits.proofs.Choice.{pick_cases}
use Rattle.packed.proofs.RoundTrip.{zeros, unpack_zeros}
use Rattle.bitmap.specs.Bitmap.{marks_in, bitmap_size, marked, mark}
use Rattle.bitmap.proofs.Marks.{mark_other, marked_replicate}
use Rattle.entry.proofs.Entry.{flag_zero}
use Rattle.frame.specs.Frames.{inside}
use Rattle.paging.specs.Walk.{place}
use Rattle.paging.specs.Map.{Memory, memory, start_frame, total_of, Left, take_leaf}
use Rattle.paging.specs.Pages.{freed}
use Rattle.paging.proofs.Map.{set_own, take_leaf_none}
use Rattle.tree.proofs.Ordered.{inside_in}
use Rattle.freeing_runs.specs.Freeing.{free_leaf, free_leaves, Blank}
use Rattle.freeing_runs.proofs.Fewer.{Fewer}
use Rattle.freeing_runs.proofs.Less.{Less, less_refl, less_trans, leaf_less}

-- none of n entries of table t from entry i on is present
abbrev Bare : Memory → ℕ → ℕ → ℕ → Type 0
Bare m t i n = (x : ℕ) → i ≤ x → x < i + n → flag 0 (get_or m.words (place (start_frame m) t x) 0) ≡ false

-- absent entries stay absent
fewer_absent : {ws ws' : List ℕ} → Fewer ws ws' → (x : ℕ) → flag 0 (get_or ws x 0) ≡ false → flag 0 (get_or ws' x 0) ≡ false
fewer_absent {ws} {ws'} f x h = go (flag 0 (get_or ws' x 0)) refl
  where
    go : (b : Bool) → flag 0 (get_or ws' x 0) ≡ b → flag 0 (get_or ws' x 0) ≡ false
    go true e = absurd (false≢true (sym h ∙ ap (flag 0) (sym (f.from x e)) ∙ e))
    go false e = e

-- ---- leaves of a table

leaves_less : (t n i : ℕ) (m : Memory) → Less m (free_leaves m t i n)
unfolding free_leaves
leaves_less t zero i m = less_refl m
leaves_less t (suc n) i m = less_trans (leaf_less m t i) (leaves_less t n (suc i) (free_leaf m t i))

-- those that are absent are passed over
leaf_absent : (m : Memory) (t i : ℕ) → inside_in m t ≡ true → flag 0 (get_or m.words (place (start_frame m) t i) 0) ≡ false → free_leaf m t i ≡ m
unfolding free_leaf
leaf_absent m t i ins h = ap (λ (l : Left). memory l.words (freed l.walked m.frames)) (take_leaf_none m.words (start_frame m) (total_of m) t i ins h)

leaves_none : (t n i : ℕ) (m : Memory) → inside_in m t ≡ true → Bare m t i n → free_leaves m t i n ≡ m
unfolding free_leaves
leaves_none t zero i m ins bare = refl
leaves_none t (suc n) i m ins bare =
    rw (leaf_absent m t i ins (bare i (omega arith) (omega arith))) (leaves_none t n (suc i) m ins (λ x a b. bare x (omega arith) (omega arith)))

-- and those that were freed are absent
leaf_gone : (m : Memory) (t i : ℕ) → inside_in m t ≡ true → flag 0 (get_or (free_leaf m t i).words (place (start_frame m) t i) 0) ≡ false
unfolding free_leaf take_leaf
leaf_gone m t i ins =
    let P : Left → Type 0 = λ l. flag 0 (get_or l.words (place (start_frame m) t i) 0) ≡ false in
    pick_cases P (inside (start_frame m) (total_of m) t) _ _
    (λ _. pick_cases P (flag 0 (get_or m.words (place (start_frame m) t i) 0)) _ _
    (λ _. ap (flag 0) (set_own m.words (place (start_frame m) t i)) ∙ flag_zero 0) (λ h. h)) (λ h. absurd (false≢true (sym h ∙ ins)))

leaves_gone : (t n i : ℕ) (m : Memory) → inside_in m t ≡ true
    → (x : ℕ) → i ≤ x → x < i + n → flag 0 (get_or (free_leaves m t i n).words (place (start_frame m) t x) 0) ≡ false
unfolding free_leaves
leaves_gone t zero i m ins x a b = absurd (omega arith)
leaves_gone t (suc n) i m ins x a b =
    let f = leaf_less m t i in
    go (ℕ_discrete x i)
    (λ c. subst (λ (s : ℕ). flag 0 (get_or (free_leaves (free_leaf m t i) t (suc i) n).words (place s t x) 0) ≡ false) f.start
    (leaves_gone t n (suc i) (free_leaf m t i) (rw (f.start, f.total) ins) x c (omega arith)))
  where
    go : Dec (x ≡ i) → (suc i ≤ x → flag 0 (get_or (free_leaves (free_leaf m t i) t (suc i) n).words (place (start_frame m) t x) 0) ≡ false)
        → flag 0 (get_or (free_leaves (free_leaf m t i) t (suc i) n).words (place (start_frame m) t x) 0) ≡ false
    go (yes e) r = rw e (fewer_absent (leaves_less t n (suc i) (free_leaf m t i)).words (place (start_frame m) t i) (leaf_gone m t i ins))
    go (no d) r = r (lt_of_le-ne a (λ e. d (sym e)))

-- ---- what `empty` marks

pub blank_start : (ws : List ℕ) → Blank ws (marks_in (zeros bitmap_size))
blank_start ws = rw (unpack_zeros 128 bitmap_size) (record { absent = λ j h. absurd (omega (arith, marked_replicate 128 j)) })

blank_fewer : {ws ws' bm : List ℕ} → Fewer ws ws' → Blank ws bm → Blank ws' bm
blank_fewer f b = record { absent = λ j h x l. fewer_absent f (j * 512 + x) (b.absent j h x l) }

module _ (m : Memory) (t i n : ℕ) {bm : List ℕ} (b : Blank m.words bm) (ins : inside_in m t ≡ true) (fit : i + n ≤ 512) where
  -- a table that is marked is passed over
  pub blank_pass : marked bm (t - start_frame m) ≡ 1 → m ≡ free_leaves m t i n
  blank_pass h = sym (leaves_none t n i m ins (λ x _ l. b.absent (t - start_frame m) h x (omega arith)))

  module _ {m' : Memory} (e : m' ≡ free_leaves m t i n) where
    pub blank_left : Blank m'.words bm
    blank_left = rw e (blank_fewer (leaves_less t n i m).words b)

    -- one that was gone through whole can be marked
    pub blank_more : n ≡ 512 → marked bm (t - start_frame m) ≡ 0 → Blank m'.words (mark bm (t - start_frame m))
    blank_more w free = record {
      absent = λ j h x l. go j h x l (ℕ_discrete j (t - start_frame m));
    }
      where
        go : (j : ℕ) → marked (mark bm (t - start_frame m)) j ≡ 1 → (x : ℕ) → x < 512 → Dec (j ≡ t - start_frame m) → flag 0 (get_or m'.words (j * 512 + x) 0) ≡ false
        go j h x l (yes q) = rw (e, q) (leaves_gone t n i m ins x (omega arith) (omega arith))
        go j h x l (no d) = blank_left.absent j (sym (mark_other bm (t - start_frame m) free j d) ∙ h) x l
