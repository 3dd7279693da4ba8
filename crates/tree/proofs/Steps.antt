-- The two steps that every mapping is made of: a free frame is taken and zeroed, and an absent entry is written. Each keeps the memory in order.
use Prim.Native.Nat.{ℕ, suc, ◌+◌, ◌-◌, ◌<◌, ◌≤◌}
use mathlib.Core.Path.{◌≡◌, refl, sym, ◌∙◌, ap, subst}
use mathlib.Core.Bool.{true, false}
use mathlib.Core.List.{List, [], ◌∷◌, ◌++◌}
use mathlib.Core.Logic.{inl, inr, ⊎_elim}
use native.Mathlib.Omega.{arith}
use native.Mathlib.Decide.{ℕ_discrete}
use lib.ListN.{length, get_or, length-set}
use Rattle.std.specs.Prelude.{Ok, Err}
use Rattle.answer.specs.declared.Refusal.TheVariants.{NotMapped}
use Rattle.bits.specs.Bit.{flag}
use Rattle.bitmap.specs.Bitmap.{marked, mark}
use Rattle.bitmap.proofs.Marks.{mark_own, mark_other, mark_more, length_mark, mark_words, count_mark}
use Rattle.entry.specs.Entry.{frame_of}
use Rattle.frame.specs.Frames.{with_mark}
use Rattle.frame.proofs.Laws.{inside_yes, inside_from}
use Rattle.paging.specs.Walk.{place, entry_at}
use Rattle.paging.specs.Map.{Memory, memory, start_frame, total_of, zero_frame}
use Rattle.paging.proofs.Map.{length_clear}
use Rattle.tree.proofs.Paths.{Leads}
use Rattle.tree.proofs.Walks.{entry_absent}
use Rattle.tree.proofs.Tree.{idle_reach, idle_leaf, stored, keeps, reached, grown_at, grown_tree, grown_leaf}
use Rattle.tree.proofs.Plain.{idle_plain, grown_plain}
use Rattle.tree.proofs.Words.{zero_other, zero_blank}
use Rattle.tree.proofs.Ordered.{reach_in, leaf_in, inside_in, mark_in, Ordered, free_unreached, in_bitmap}
use Rattle.tree.proofs.Growth.{Grew, None}

-- ---- a frame is taken and zeroed

-- the memory once frame start + j is marked and zeroed
abbrev pub freshened : Memory → ℕ → Memory
freshened m j = memory (zero_frame m.words (start_frame m) (start_frame m + j)) (with_mark m.frames j)

module _ {m : Memory} {root n : ℕ} (o : Ordered m root n) (j : ℕ) (lt : j < total_of m) (free : marked m.frames.bits j ≡ 0) where
  pub fresh_inside : inside_in m (start_frame m + j) ≡ true
  fresh_inside = inside_yes (start_frame m) (total_of m) (start_frame m + j) (omega arith) (omega arith)

  fresh_at : start_frame m + j - start_frame m ≡ j
  fresh_at = omega arith

  pub fresh_free : mark_in m (start_frame m + j) ≡ 0
  fresh_free = ap (marked m.frames.bits) fresh_at ∙ free

  pub fresh_marked : mark_in (freshened m j) (start_frame m + j) ≡ 1
  unfolding with_mark
  fresh_marked = ap (marked (mark m.frames.bits j)) fresh_at ∙ mark_own m.frames.bits j free (in_bitmap o j lt)

  fresh_new : (p : List ℕ) → length p ≤ n → reach_in m root p ≡ Ok (start_frame m + j) → ⊥
  fresh_new = free_unreached o (start_frame m + j) fresh_free

  -- no walk sees it
  pub fresh_reach : (p : List ℕ) → length p ≤ n → reach_in (freshened m j) root p ≡ reach_in m root p
  unfolding with_mark
  fresh_reach =
      idle_reach m.words _ (start_frame m) (total_of m) root n (start_frame m + j) (zero_other m.words (start_frame m) (total_of m) (start_frame m + j) fresh_inside) fresh_new

  pub fresh_leaf : (p : List ℕ) → length p ≤ n → leaf_in (freshened m j) root p ≡ leaf_in m root p
  unfolding with_mark
  fresh_leaf =
      idle_leaf m.words _ (start_frame m) (total_of m) root n (start_frame m + j) (zero_other m.words (start_frame m) (total_of m) (start_frame m + j) fresh_inside) fresh_new

  -- it has no entry
  pub fresh_blank : (i : ℕ) → entry_at (freshened m j).words (start_frame m) (total_of m) (start_frame m + j) i ≡ Err NotMapped
  fresh_blank = zero_blank m.words (start_frame m) (total_of m) (start_frame m + j) fresh_inside o.sizes.enough

  -- and is the one frame that is marked and not reached
  pub fresh_grew : (w : List ℕ) → Grew m (freshened m j) root n w None (λ f. f ≡ start_frame m + j)
  unfolding with_mark
  fresh_grew w = record {
    order = record {
      tree = record {
        once = λ p q x lp lq h k. o.tree.once p q x lp lq (back p lp h) (back q lq k);
        into = λ p x lp h. o.tree.into p x lp (back p lp h);
        kept = λ p x lp h. mark_more m.frames.bits j free (x - start_frame m) (o.tree.kept p x lp (back p lp h));
      };
      sizes = record { few = o.sizes.few; enough = rw length_clear o.sizes.enough; low = o.sizes.low };
      wide = length_mark m.frames.bits j ∙ o.wide;
      small = mark_words m.frames.bits j free o.small;
      counted = ap (λ (x : ℕ). x + 1) o.counted ∙ sym (count_mark m.frames.bits j (total_of m) free lt (in_bitmap o j lt));
      levels = o.levels;
      board = o.board;
    };
    plain =
        idle_plain m.words _ (start_frame m) (total_of m) root n (start_frame m + j) (zero_other m.words (start_frame m) (total_of m) (start_frame m + j) fresh_inside) fresh_new;
    start = refl;
    total = refl;
    stay = λ p x lp h. fresh_reach p lp ∙ h;
    grew = λ p x lp h. inl (back p lp h);
    more = λ f. mark_more m.frames.bits j free (f - start_frame m);
    used = λ f ins no-mark done. inr (own f ins no-mark done);
  }
    where
      back : (p : List ℕ) {x : ℕ} → length p ≤ n → reach_in (freshened m j) root p ≡ Ok x → reach_in m root p ≡ Ok x
      back p lp h = sym (fresh_reach p lp) ∙ h

      own : (f : ℕ) → inside_in m f ≡ true → mark_in m f ≡ 0 → marked (mark m.frames.bits j) (f - start_frame m) ≡ 1 → f ≡ start_frame m + j
      own f ins no-mark done = go (ℕ_discrete (f - start_frame m) j)
        where
          go : Dec (f - start_frame m ≡ j) → f ≡ start_frame m + j
          go (yes e) = omega (arith, inside_from (start_frame m) (total_of m) f ins)
          go (no d) = absurd (omega (arith, mark_other m.frames.bits j free (f - start_frame m) d, no-mark, done))

-- ---- an entry is written

-- the memory once entry j of table s is e
abbrev pub written : Memory → ℕ → ℕ → ℕ → Memory
written m s j e = memory (stored m.words (start_frame m) s j e) m.frames

-- what is asked of a word e that is written below q and names f: f is marked and nothing reaches it, and if it is a table it has no entry, and e no HUGE
pub record Names (m : Memory) (root n : ℕ) (q : List ℕ) (e f : ℕ) : Type 0 where
  pub bit : flag 0 e ≡ true
  pub names : frame_of e ≡ f
  pub lent : inside_in m f ≡ true
  pub mine : mark_in m f ≡ 1
  pub new : (p : List ℕ) → length p ≤ n → reach_in m root p ≡ Ok f → ⊥
  pub blank : suc (length q) < n → (i : ℕ) → entry_at m.words (start_frame m) (total_of m) f i ≡ Err NotMapped
  pub low : suc (length q) < n → flag 7 e ≡ false

module _ {m : Memory} {root n : ℕ} (o : Ordered m root n) (q : List ℕ) (s j : ℕ) (lq : length q < n) (hq : reach_in m root q ≡ Ok s) (small : j < 512)
    (absent : flag 0 (get_or m.words (place (start_frame m) s j) 0) ≡ false) {e f : ℕ} (c : Names m root n q e f) where
  none : entry_at m.words (start_frame m) (total_of m) s j ≡ Err NotMapped
  none = entry_absent m.words (start_frame m) (total_of m) s j (o.tree.into q s (omega arith) hq) small absent

  pub write_at : reach_in (written m s j e) root (q ++ (j ∷ [])) ≡ Ok f
  write_at = grown_at o.tree o.sizes.enough q s j lq hq small e f c.bit c.names c.new c.blank

  -- f is reached, along that path, and nothing else is new
  pub write_grew : (w : List ℕ) → Leads (q ++ (j ∷ [])) w → Grew m (written m s j e) root n w (λ x. x ≡ f) None
  write_grew w l = record {
    order = record {
      tree = grown_tree o.tree o.sizes.enough q s j lq hq small e f c.bit c.names c.new c.blank c.lent c.mine;
      sizes = record { few = o.sizes.few; enough = rw length-set o.sizes.enough; low = o.sizes.low };
      wide = o.wide;
      small = o.small;
      counted = o.counted;
      levels = o.levels;
      board = o.board;
    };
    plain = λ a. grown_plain o.tree o.sizes.enough q s j lq hq small e a f c.bit c.names c.new c.blank c.low;
    start = refl;
    total = refl;
    stay = keeps o.tree o.sizes.enough q s j lq hq small e none;
    grew = λ p x lp h. ⊎_elim (λ a. inr (subst (λ (y : List ℕ). Leads y w) (sym a.0) l, a.1)) (λ a. inl a)
        (reached o.tree o.sizes.enough q s j lq hq small e f c.bit c.names c.new c.blank p x lp h);
    more = λ x h. h;
    used = λ x a b d. absurd (omega arith);
  }

  -- a new table changes no leaf
  pub write_leaf : suc (length q) < n → (p : List ℕ) → length p ≡ n → leaf_in (written m s j e) root p ≡ leaf_in m root p
  write_leaf lt =
      grown_leaf o.tree o.sizes.enough q s j lq hq small e f c.bit c.names c.new c.blank none (c.low lt) lt
