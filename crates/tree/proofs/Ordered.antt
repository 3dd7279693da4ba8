-- A memory in order, the invariant of all that follows: its tree, its sizes, its bitmap and its counter.
use Prim.Native.Nat.{ℕ, suc, ◌+◌, ◌*◌, ◌-◌, ◌/◌, ◌%◌, ◌^◌, ◌<◌, ◌≤◌}
use mathlib.Core.Path.{◌≡◌, refl, ◌∙◌, ap}
use mathlib.Core.Bool.{Bool, true}
use mathlib.Core.List.{List, []}
use native.Mathlib.Omega.{arith}
use lib.Dec.{eqb}
use lib.ListN.{length}
use borrow.Author.Tests.{eq-eqb}
use Rattle.std.specs.Prelude.{Ok, Err, Result}
use Rattle.answer.specs.declared.Refusal.{Refusal}
use Rattle.answer.specs.declared.Refusal.TheVariants.{NotMapped}
use Rattle.answer.specs.Outcomes.{and_then}
use Rattle.bitmap.specs.Bitmap.{marked, count}
use Rattle.bitmap.proofs.Marks.{Words}
use Rattle.entry.specs.Entry.{indices}
use Rattle.entry.proofs.Entry.{length_indices}
use Rattle.frame.specs.Frames.{is_levels, inside}
use Rattle.frame.proofs.Laws.{inside_from, inside_under, sound_counted}
use Rattle.paging.specs.declared.Leaf.{Leaf}
use Rattle.paging.specs.Walk.{reach, leaf, address, WordsLent}
use Rattle.paging.specs.Map.{Memory, start_frame, total_of}
use Rattle.paging.specs.Calls.{whole, lent_walk, translate}
use Rattle.paging.specs.Levels.{levels_of}
use Rattle.paging.proofs.Walk.{lent_rooted}
use Rattle.paging.proofs.Calls.{whole_lent, walk_by_lent, translate_is}
use Rattle.tree.proofs.Tree.{Tree, tree_stop}
use Rattle.tree.proofs.Plain.{Plain, Ends, at_page, at_none, leaf_ends}

-- ---- a memory's walks and marks

abbrev pub reach_in : Memory → ℕ → List ℕ → Result ℕ Refusal
reach_in m root p = reach m.words (start_frame m) (total_of m) root p

abbrev pub leaf_in : Memory → ℕ → List ℕ → Result Leaf Refusal
leaf_in m root p = leaf m.words (start_frame m) (total_of m) root p

-- whether frame f is one of those lent
abbrev pub inside_in : Memory → ℕ → Bool
inside_in m f = inside (start_frame m) (total_of m) f

-- 1 if the lent frame f is marked and 0 if it is free
abbrev pub mark_in : Memory → ℕ → ℕ
mark_in m f = marked m.frames.bits (f - start_frame m)

-- the translation of an address, on a board of so many levels
abbrev pub translate_in : ℕ → Memory → ℕ → ℕ → Result ℕ Refusal
translate_in levels m root v = translate levels m.words (start_frame m) (total_of m) root v

abbrev pub PlainIn : Memory → ℕ → ℕ → Type 0
PlainIn m root n = Plain m.words (start_frame m) (total_of m) root n

-- ---- in order

-- a memory with n levels of tables below root, as its record says and as a board may have: its tree, sizes that are not broken, a whole bitmap, and a counter that
-- counts it
pub record Ordered (m : Memory) (root n : ℕ) : Type 0 where
  pub tree : Tree m.words m.frames.bits (start_frame m) (total_of m) root n
  pub sizes : WordsLent m.words (start_frame m) (total_of m)
  pub wide : length m.frames.bits ≡ 128
  pub small : Words m.frames.bits
  pub counted : m.frames.fa.allocated ≡ count m.frames.bits (total_of m)
  pub levels : levels_of m ≡ n
  pub board : is_levels n ≡ true

module _ {m : Memory} {root n : ℕ} (o : Ordered m root n) where
  pub root_inside : inside_in m root ≡ true
  unfolding reach
  root_inside = o.tree.into [] root (omega arith) refl

  pub root_marked : mark_in m root ≡ 1
  unfolding reach
  root_marked = o.tree.kept [] root (omega arith) refl

  -- no call turns it away with 10
  pub ordered_whole : whole m root ≡ true
  ordered_whole =
      let few = o.sizes.few in
      let low = o.sizes.low in
      let e : eqb m.frames.fa.allocated (count m.frames.bits (total_of m)) ≡ true = eq-eqb _ _ o.counted in
      rw (lent_rooted (length m.words) (start_frame m) (total_of m) root few o.sizes.enough low, root_inside, sound_counted m.frames few low (ap is_levels o.levels ∙ o.board)) e

  pub ordered_walk : lent_walk n (length m.words) (start_frame m) (total_of m) root ≡ true
  ordered_walk = walk_by_lent n (length m.words) (start_frame m) (total_of m) root o.board ∙ whole_lent m root ordered_whole

  -- a free frame is not reached
  pub free_unreached : (f : ℕ) → mark_in m f ≡ 0 → (p : List ℕ) → length p ≤ n → reach_in m root p ≡ Ok f → ⊥
  free_unreached f free p lp h = let k : mark_in m f ≡ 1 = o.tree.kept p f lp h in omega arith

  -- a lent frame's bit is in the bitmap, and its number fits an entry
  pub in_bitmap : (j : ℕ) → j < total_of m → j / 64 < length m.frames.bits
  in_bitmap j l = omega (arith, o.wide, o.sizes.few)

  pub in_entry : (f : ℕ) → inside_in m f ≡ true → f < 2 ^ 40
  in_entry f h = omega (arith, o.sizes.low, inside_from (start_frame m) (total_of m) f h, inside_under (start_frame m) (total_of m) f h)

-- ---- translations, where there is no large page

module _ {m : Memory} {root up : ℕ} (o : Ordered m root (suc up)) (w : PlainIn m root (suc up)) (v : ℕ) where
  translates : {x : Result ℕ Refusal} {l : Result Leaf Refusal} → Ends x l → address v l ≡ and_then x Err (λ f. Ok (f * 2 ^ 12 + v % 2 ^ 12))
  translates (at_page e) = ap (λ (f : ℕ). Ok (f * 2 ^ 12 + v % 2 ^ 12)) e
  translates at_none = refl

  -- an address translates just where its page is reached, to the place in that frame; if not it is 14
  pub translate_reach : translate_in (suc up) m root v ≡ and_then (reach_in m root (indices (suc up) v)) Err (λ f. Ok (f * 2 ^ 12 + v % 2 ^ 12))
  translate_reach =
      translate_is (suc up) m.words (start_frame m) (total_of m) root v (ordered_walk o)
      ∙ translates (leaf_ends w (indices (suc up) v) (omega arith) (length_indices (suc up) v))

  pub page_translates : (f : ℕ) → reach_in m root (indices (suc up) v) ≡ Ok f → translate_in (suc up) m root v ≡ Ok (f * 2 ^ 12 + v % 2 ^ 12)
  page_translates f h = translate_reach ∙ rw h

  pub no_page_translates : ((f : ℕ) → reach_in m root (indices (suc up) v) ≡ Ok f → ⊥) → translate_in (suc up) m root v ≡ Err NotMapped
  no_page_translates none = translate_reach ∙ go (reach_in m root (indices (suc up) v)) refl
    where
      go : (x : Result ℕ Refusal) → reach_in m root (indices (suc up) v) ≡ x → and_then x Err (λ f. Ok (f * 2 ^ 12 + v % 2 ^ 12)) ≡ Err NotMapped
      go (Ok f) h = absurd (none f h)
      go (Err a) h = ap Err (tree_stop o.tree (indices (suc up) v) a (omega (arith, length_indices (suc up) v)) h)
