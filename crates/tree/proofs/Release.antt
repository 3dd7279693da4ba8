-- Unmapping: a leaf is cleared, and its frame may be freed. The memory stays in order, and every other path comes where it came.
use Prim.Native.Nat.{ℕ, suc, ◌-◌, ◌<◌, ◌≤◌}
use mathlib.Core.Path.{◌≡◌, refl, sym, ◌∙◌, ap}
use mathlib.Core.Bool.{Bool, true, false}
use mathlib.Core.List.{List, [], ◌∷◌, ◌++◌}
use native.Mathlib.Omega.{arith}
use lib.ListN.{length, get_or, length-append, length-set}
use Rattle.std.specs.Prelude.{Ok, Err, Result}
use Rattle.answer.specs.declared.Refusal.{Refusal}
use Rattle.answer.specs.declared.Refusal.TheVariants.{NotMapped, TableOutside}
use Rattle.bits.specs.Bit.{flag}
use Rattle.bitmap.specs.Bitmap.{marked, unmark, count}
use Rattle.bitmap.proofs.Marks.{Words, unmark_own, unmark_other, unmark_words, length_unmark, count_unmark}
use Rattle.entry.specs.Entry.{frame_of}
use Rattle.entry.proofs.Entry.{flag_zero}
use Rattle.frame.specs.Frames.{frames, inside, without_mark, with_counter}
use Rattle.frame.proofs.Laws.{inside_from, inside_under}
use Rattle.paging.specs.Walk.{place, reach}
use Rattle.paging.specs.Map.{Memory, memory, start_frame, total_of, left, unmap_entry}
use Rattle.paging.proofs.Map.{take_leaf_out, take_leaf_none, take_leaf_there, unmap_entry_stop, unmap_entry_take}
use Rattle.tree.proofs.Paths.{same_path}
use Rattle.tree.proofs.Walks.{nowhere, entry_cases, entry_there, reach_step, reach_back}
use Rattle.tree.proofs.Tree.{stored, other_reach, other_leaf, cut_here, cut_tree}
use Rattle.tree.proofs.Plain.{cut_plain}
use Rattle.tree.proofs.Ordered.{reach_in, leaf_in, inside_in, mark_in, PlainIn, Ordered}

-- ---- what unmapping comes to

-- a page that is reached: its leaf is cleared, and its frame handed back
pub unmap_met : (ws : List ℕ) (start total root : ℕ) (q : List ℕ) (j t f : ℕ) → reach ws start total root q ≡ Ok t → reach ws start total root (q ++ (j ∷ [])) ≡ Ok f
    → unmap_entry ws start total root q j ≡ left (Ok f) (stored ws start t j 0)
unmap_met ws start total root q j t f hq hf =
    let b = reach_back ws start total root q j f hf in
    let bt : b.table ≡ t = let x = b.way in cc in
    let c = entry_cases ws start total b.table j b.word b.entry in
    let ins : inside start total t ≡ true = rw bt at c.table in
    let word : get_or ws (place start t j) 0 ≡ b.word = rw bt at c.word in
    unmap_entry_take ws start total root q j t hq ∙ take_leaf_there ws start total t j ins (ap (flag 0) word ∙ c.bit)
    ∙ ap (λ (x : ℕ). left (Ok x) (stored ws start t j 0)) (ap frame_of word ∙ b.names)

-- one that is not: nothing is done
pub unmap_none : (ws : List ℕ) (start total root : ℕ) (q : List ℕ) (j : ℕ) (a : Refusal) → j < 512 → reach ws start total root (q ++ (j ∷ [])) ≡ Err a
    → (b : Refusal) × (unmap_entry ws start total root q j ≡ left (Err b) ws)
unmap_none ws start total root q j a sj h = by_way (reach ws start total root q) refl
  where
    by_word : (t : ℕ) → reach ws start total root q ≡ Ok t → inside start total t ≡ true → (x : Bool) → flag 0 (get_or ws (place start t j) 0) ≡ x
        → (b : Refusal) × (unmap_entry ws start total root q j ≡ left (Err b) ws)
    by_word t k i true w = absurd (nowhere (sym h ∙ reach_step ws start total q root t j _ k (entry_there ws start total t j i sj w)))
    by_word t k i false w = (NotMapped, unmap_entry_take ws start total root q j t k ∙ take_leaf_none ws start total t j i w)

    by-table : (t : ℕ) → reach ws start total root q ≡ Ok t → (x : Bool) → inside start total t ≡ x → (b : Refusal) × (unmap_entry ws start total root q j ≡ left (Err b) ws)
    by-table t k true i = by_word t k i (flag 0 (get_or ws (place start t j) 0)) refl
    by-table t k false i = (TableOutside, unmap_entry_take ws start total root q j t k ∙ take_leaf_out ws start total t j i)

    by_way : (x : Result ℕ Refusal) → reach ws start total root q ≡ x → (b : Refusal) × (unmap_entry ws start total root q j ≡ left (Err b) ws)
    by_way (Ok t) k = by-table t k (inside start total t) refl
    by_way (Err b) k = (b, unmap_entry_stop ws start total root q j b k)

-- ---- what it leaves

-- m' is m without the page at path w, whose frame was f: all else is reached as it was, and no other frame's mark changes
pub record Cut (m m' : Memory) (root n : ℕ) (w : List ℕ) (f : ℕ) : Type 0 where
  pub order : Ordered m' root n
  pub plain : PlainIn m root n → PlainIn m' root n
  pub start : start_frame m' ≡ start_frame m
  pub total : total_of m' ≡ total_of m
  pub was : reach_in m root w ≡ Ok f
  pub gone : reach_in m' root w ≡ Err NotMapped
  pub rest : (p : List ℕ) → length p ≤ n → (p ≡ w → ⊥) → reach_in m' root p ≡ reach_in m root p
  pub leaves : (p : List ℕ) → length p ≡ n → (p ≡ w → ⊥) → leaf_in m' root p ≡ leaf_in m root p
  pub marks : (g : ℕ) → inside_in m g ≡ true → (g ≡ f → ⊥) → mark_in m' g ≡ mark_in m g

-- the page's frame is reached by nothing now
pub cut_away : {m m' : Memory} {root n : ℕ} {w : List ℕ} {f : ℕ} → Ordered m root n → length w ≤ n → Cut m m' root n w f
    → (p : List ℕ) → length p ≤ n → reach_in m' root p ≡ Ok f → ⊥
cut_away {m' = m'} {root = root} {w = w} {f = f} o lw c p lp h = go (same_path p w)
  where
    go : Dec (p ≡ w) → ⊥
    go (yes e) = nowhere (sym c.gone ∙ ap (reach_in m' root) (sym e) ∙ h)
    go (no d) = d (o.tree.once p w f lp lw (sym (c.rest p lp d) ∙ h) c.was)

-- the leaf is cleared
abbrev pub cleared : Memory → ℕ → ℕ → Memory
cleared m t j = memory (stored m.words (start_frame m) t j 0) m.frames

-- .. and its frame f is free
abbrev pub freed : Memory → ℕ → ℕ → ℕ → Memory
freed m t j f = memory (stored m.words (start_frame m) t j 0) (without_mark m.frames (f - start_frame m))

module _ {m : Memory} {root n : ℕ} (o : Ordered m root n) (q : List ℕ) (j t f : ℕ) (lq : suc (length q) ≡ n) (sj : j < 512)
    (hq : reach_in m root q ≡ Ok t) (hf : reach_in m root (q ++ (j ∷ [])) ≡ Ok f) where
  under : length q < n
  under = omega arith

  length_w : length (q ++ (j ∷ [])) ≡ n
  length_w = length-append q (j ∷ []) ∙ omega arith

  f_inside : inside_in m f ≡ true
  f_inside = o.tree.into (q ++ (j ∷ [])) f (omega (arith, length_w)) hf

  f_marked : mark_in m f ≡ 1
  f_marked = o.tree.kept (q ++ (j ∷ [])) f (omega (arith, length_w)) hf

  -- another page's path does not go through the leaf
  off : (p : List ℕ) → length p ≤ n → (p ≡ q ++ (j ∷ []) → ⊥) → (r : List ℕ) → p ≡ q ++ (j ∷ r) → ⊥
  off p lp d [] e = d e
  off p lp d (i ∷ r) e = omega (arith, ap length e, length-append q (j ∷ i ∷ r))

  -- .. with any bitmap that differs at f alone
  cut : (bits : List ℕ) (a : ℕ) → length bits ≡ 128 → Words bits → a ≡ count bits (total_of m)
      → ((k : ℕ) → (k ≡ f - start_frame m → ⊥) → marked bits k ≡ marked m.frames.bits k)
      → Cut m (memory (stored m.words (start_frame m) t j 0) (frames bits (with_counter m.frames.fa a))) root n (q ++ (j ∷ [])) f
  cut bits a wide small counted others = record {
    order = record {
      tree = cut_tree o.tree o.sizes.enough q t j under hq sj 0 (flag_zero 0) f bits hf others;
      sizes = record { few = o.sizes.few; enough = rw length-set o.sizes.enough; low = o.sizes.low };
      wide = wide;
      small = small;
      counted = counted;
      levels = o.levels;
      board = o.board;
    };
    plain = λ c. cut_plain o.tree o.sizes.enough q t j under hq sj 0 c (flag_zero 0);
    start = refl;
    total = refl;
    was = hf;
    gone = cut_here o.tree o.sizes.enough q t j under hq sj 0 (flag_zero 0) [];
    rest = λ p lp d. other_reach o.tree o.sizes.enough q t j under hq sj 0 p lp (off p lp d);
    leaves = λ p lp d. other_leaf o.tree o.sizes.enough q t j under hq sj 0 p (omega arith) (off p (omega arith) d);
    marks = λ g ins d. others (g - start_frame m) (λ e.
        d (omega (arith, inside_from (start_frame m) (total_of m) g ins, inside_from (start_frame m) (total_of m) f f_inside)));
  }

  pub cleared_cut : Cut m (cleared m t j) root n (q ++ (j ∷ [])) f
  cleared_cut = cut m.frames.bits m.frames.fa.allocated o.wide o.small o.counted (λ k d. refl)

  pub freed_cut : Cut m (freed m t j f) root n (q ++ (j ∷ [])) f
  unfolding without_mark
  freed_cut =
      let bits = m.frames.bits in
      let k = f - start_frame m in
      cut (unmark bits k) (m.frames.fa.allocated - 1) (length_unmark bits k ∙ o.wide) (unmark_words bits k o.small)
      (omega (arith, o.counted, count_unmark bits k (total_of m) f_marked (inside_under (start_frame m) (total_of m) f f_inside))) (unmark_other bits k f_marked)

  -- its frame, and no other, became free
  pub freed_free : mark_in (freed m t j f) f ≡ 0
  unfolding without_mark
  freed_free = unmark_own m.frames.bits (f - start_frame m) f_marked
