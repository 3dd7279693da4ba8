-- The invariant of the tables: each frame is reached along one path at most, lies among the lent and is marked. What a change of the words leaves of it:
-- words of a frame that nothing reaches, and one entry of a table that is reached. Every step of a mapping or an unmapping is made of these two.
use Prim.Native.Nat.{ℕ, suc, ◌*◌, ◌-◌, ◌<◌, ◌≤◌}
use mathlib.Core.Path.{◌≡◌, refl, sym, ◌∙◌, ap}
use mathlib.Core.Bool.{true, false}
use mathlib.Core.List.{List, [], ◌∷◌, ◌++◌}
use mathlib.Core.Logic.{◌⊎◌, inl, inr, ⊎_elim}
use native.Mathlib.Omega.{arith}
use lib.ListN.{length, get_or, set, length-append}
use lib.Seq.{get_or-set_same, get_or-set_other}
use Rattle.answer.specs.declared.Refusal.{Refusal}
use Rattle.std.specs.Prelude.{Ok, Err}
use Rattle.answer.specs.declared.Refusal.TheVariants.{NotMapped}
use Rattle.bits.specs.Bit.{flag}
use Rattle.bitmap.specs.Bitmap.{marked}
use Rattle.entry.specs.Entry.{frame_of}
use Rattle.frame.specs.Frames.{inside}
use Rattle.frame.proofs.Laws.{inside_from, inside_under}
use Rattle.paging.specs.Walk.{place, present, entry_at, reach, judge, leaf}
use Rattle.paging.proofs.Walk.{entry_in, present_yes, present_no}
use Rattle.tree.proofs.Paths.{through}
use Rattle.tree.proofs.Walks.{nowhere, place_table, place_index, entry_stop, reach_append, reach_stuck, reach_halt, entry_agree, Same, same_reach, same_leaf, same_then, same_along}

-- n levels of tables below root: the path [] comes to the root, shorter paths to tables, a path of n indices to a page
pub record Tree (ws bits : List ℕ) (start total root n : ℕ) : Type 0 where
  pub once : (p q : List ℕ) (f : ℕ) → length p ≤ n → length q ≤ n → reach ws start total root p ≡ Ok f → reach ws start total root q ≡ Ok f → p ≡ q
  pub into : (p : List ℕ) (f : ℕ) → length p ≤ n → reach ws start total root p ≡ Ok f → inside start total f ≡ true
  pub kept : (p : List ℕ) (f : ℕ) → length p ≤ n → reach ws start total root p ≡ Ok f → marked bits (f - start) ≡ 1

-- so a walk in it stops with 14 alone
pub tree_stop : {ws bits : List ℕ} {start total root n : ℕ} → Tree ws bits start total root n → (p : List ℕ) (a : Refusal) → length p ≤ n
    → reach ws start total root p ≡ Err a → a ≡ NotMapped
tree_stop {ws} {start = start} {total = total} {root = root} w p a lp h =
    let t = reach_halt ws start total p root a h in
    let l : length t.before ≤ length p = omega (arith, ap length t.split, length-append t.before (t.index ∷ t.rest)) in
    entry_stop ws start total t.table t.index a (w.into t.before t.table (omega arith) t.way) t.stop

-- ---- words of a frame that nothing reaches

module _ (ws ws' : List ℕ) (start total root n f : ℕ)
    (rest : (t i : ℕ) → inside start total t ≡ true → i < 512 → (t ≡ f → ⊥) → get_or ws' (place start t i) 0 ≡ get_or ws (place start t i) 0)
    (new : (p : List ℕ) → length p ≤ n → reach ws start total root p ≡ Ok f → ⊥) where
  idle : (p : List ℕ) → length p ≤ n → Same ws ws' start total root p
  idle p lp =
      same_along ws ws' start total (λ t _. t ≡ f) rest p root
      (λ a i r s e h _ _ d. new a (omega (arith, ap length e, length-append a (i ∷ r))) (h ∙ ap Ok d))

  -- no walk sees them
  pub idle_reach : (p : List ℕ) → length p ≤ n → reach ws' start total root p ≡ reach ws start total root p
  idle_reach p lp = same_reach ws ws' start total p root (idle p lp)

  pub idle_leaf : (p : List ℕ) → length p ≤ n → leaf ws' start total root p ≡ leaf ws start total root p
  idle_leaf p lp = same_leaf ws ws' start total p root (idle p lp)

-- ---- one entry: the word e at entry j of table s, which is reached along q

abbrev pub stored : List ℕ → ℕ → ℕ → ℕ → ℕ → List ℕ
stored ws start s j e = set ws (place start s j) e

module _ {ws bits : List ℕ} {start total root n : ℕ} (w : Tree ws bits start total root n) (enough : total * 512 ≤ length ws)
    (q : List ℕ) (s j : ℕ) (lq : length q < n) (hq : reach ws start total root q ≡ Ok s) (small : j < 512) (e : ℕ) where
  pub table_in : inside start total s ≡ true
  table_in = w.into q s (omega arith) hq

  -- the entry is e, and every other is what it was
  pub entry_now : entry_at (stored ws start s j e) start total s j ≡ present e
  entry_now =
      entry_in (stored ws start s j e) start total s j table_in small
      ∙ ap present (get_or-set_same ws (place start s j) e 0 (omega (arith, inside_under start total s table_in)))

  pub entry_kept : (t i : ℕ) → (t ≡ s → i ≡ j → ⊥) → entry_at (stored ws start s j e) start total t i ≡ entry_at ws start total t i
  entry_kept t i d =
      entry_agree ws (stored ws start s j e) start total t i (λ a b.
      let x : start ≤ s = inside_from start total s table_in in
      let y : start ≤ t = inside_from start total t a in
      get_or-set_other ws (place start s j) (place start t i) e 0 (λ z. d (place_table start s j t i x y small b z) (place_index start s j t i x y small b z)))

  -- a path that does not go through the entry reads what it read
  pub apart : (p : List ℕ) → length p ≤ n → ((r : List ℕ) → p ≡ q ++ (j ∷ r) → ⊥) → Same ws (stored ws start s j e) start total root p
  apart p lp off =
      same_along ws (stored ws start s j e) start total (λ t i. place start t i ≡ place start s j)
      (λ t i _ _ d. get_or-set_other ws (place start s j) (place start t i) e 0 d) p root
      (λ a i r t k h ins sm d.
      let x : start ≤ s = inside_from start total s table_in in
      let y : start ≤ t = inside_from start total t ins in
      let ts : t ≡ s = place_table start s j t i x y small sm d in
      let ij : i ≡ j = place_index start s j t i x y small sm d in
      let aq : a ≡ q = w.once a q s (omega (arith, ap length k, length-append a (i ∷ r))) (omega arith) (h ∙ ap Ok ts) hq in
      off r (cc))

  pub other_reach : (p : List ℕ) → length p ≤ n → ((r : List ℕ) → p ≡ q ++ (j ∷ r) → ⊥)
      → reach (stored ws start s j e) start total root p ≡ reach ws start total root p
  other_reach p lp off = same_reach ws (stored ws start s j e) start total p root (apart p lp off)

  pub other_leaf : (p : List ℕ) → length p ≤ n → ((r : List ℕ) → p ≡ q ++ (j ∷ r) → ⊥)
      → leaf (stored ws start s j e) start total root p ≡ leaf ws start total root p
  other_leaf p lp off = same_leaf ws (stored ws start s j e) start total p root (apart p lp off)

  -- the way to the entry itself
  way : Same ws (stored ws start s j e) start total root q
  way = apart q (omega arith) (λ r k. omega (arith, ap length k, length-append q (j ∷ r)))

  pub way_kept : reach (stored ws start s j e) start total root q ≡ Ok s
  way_kept = same_reach ws (stored ws start s j e) start total q root way ∙ hq

  -- what was reached is reached still, where the entry was absent
  pub keeps : entry_at ws start total s j ≡ Err NotMapped → (p : List ℕ) (x : ℕ) → length p ≤ n → reach ws start total root p ≡ Ok x
      → reach (stored ws start s j e) start total root p ≡ Ok x
  keeps none p x lp h =
      ⊎_elim (λ c. absurd (nowhere (sym (reach_stuck ws start total q root s j c.0 NotMapped hq none) ∙ ap (reach ws start total root) (sym c.1) ∙ h)))
      (λ off. other_reach p lp off ∙ h) (through q j p)

  -- ---- the entry leads to f now, which nothing reached, and there is nothing below f yet

  module _ (f : ℕ) (bit : flag 0 e ≡ true) (to : frame_of e ≡ f) (new : (p : List ℕ) → length p ≤ n → reach ws start total root p ≡ Ok f → ⊥)
      (blank : suc (length q) < n → (i : ℕ) → entry_at ws start total f i ≡ Err NotMapped) where
    entry-put : entry_at (stored ws start s j e) start total s j ≡ Ok e
    entry-put = entry_now ∙ present_yes e bit

    blank-still : suc (length q) < n → (i : ℕ) → entry_at (stored ws start s j e) start total f i ≡ Err NotMapped
    blank-still l i = entry_kept f i (λ d _. new q (omega arith) (hq ∙ ap Ok (sym d))) ∙ blank l i

    pub grown_at : reach (stored ws start s j e) start total root (q ++ (j ∷ [])) ≡ Ok f
    unfolding reach
    grown_at = reach_append (stored ws start s j e) start total q (j ∷ []) root ∙ rw (way_kept, entry-put, to)

    -- what is reached now: f, along the new path, and what was reached before
    pub reached : (p : List ℕ) (x : ℕ) → length p ≤ n → reach (stored ws start s j e) start total root p ≡ Ok x
        → ((p ≡ q ++ (j ∷ [])) × (x ≡ f)) ⊎ (reach ws start total root p ≡ Ok x)
    unfolding reach
    reached p x lp h = ⊎_elim (λ t. inl (at t.0 t.1)) (λ off. inr (sym (other_reach p lp off) ∙ h)) (through q j p)
      where
        here : (r : List ℕ) → p ≡ q ++ (j ∷ r) → reach (stored ws start s j e) start total f r ≡ Ok x
        here r t =
            let z : reach (stored ws start s j e) start total root (q ++ (j ∷ r)) ≡ reach (stored ws start s j e) start total f r =
            reach_append (stored ws start s j e) start total q (j ∷ r) root ∙ rw (way_kept, entry-put, to) in
            sym z ∙ ap (reach (stored ws start s j e) start total root) (sym t) ∙ h

        at : (r : List ℕ) → p ≡ q ++ (j ∷ r) → (p ≡ q ++ (j ∷ [])) × (x ≡ f)
        at [] t = let u = here [] t in (t, cc)
        at (i ∷ r) t =
            let b = blank-still (omega (arith, lp, ap length t, length-append q (j ∷ i ∷ r))) i in
            absurd (nowhere (sym (reach_stuck (stored ws start s j e) start total [] f f i r NotMapped refl b) ∙ here (i ∷ r) t))

    -- the tree once f is grown and marked
    pub grown_tree : inside start total f ≡ true → marked bits (f - start) ≡ 1 → Tree (stored ws start s j e) bits start total root n
    grown_tree ins mine = record {
      once = λ p p' x lp lp' h h'. ⊎_elim
          (λ a. ⊎_elim (λ b. cc (a.0, b.0)) (λ b. absurd (new p' lp' (b ∙ ap Ok a.1))) (reached p' x lp' h'))
          (λ a. ⊎_elim (λ b. absurd (new p lp (a ∙ ap Ok b.1))) (λ b. w.once p p' x lp lp' a b) (reached p' x lp' h'))
          (reached p x lp h);
      into = λ p x lp h. ⊎_elim (λ a. rw a.1 ins) (λ a. w.into p x lp a) (reached p x lp h);
      kept = λ p x lp h. ⊎_elim (λ a. rw a.1 mine) (λ a. w.kept p x lp a) (reached p x lp h);
    }

    -- a new table changes no leaf
    pub grown_leaf : entry_at ws start total s j ≡ Err NotMapped → flag 7 e ≡ false → suc (length q) < n → (p : List ℕ) → length p ≡ n
        → leaf (stored ws start s j e) start total root p ≡ leaf ws start total root p
    unfolding leaf
    grown_leaf none plain lt p lp = ⊎_elim (λ t. at t.0 t.1) (λ off. other_leaf p (omega arith) off) (through q j p)
      where
        skip : (i : ℕ) (r : List ℕ) → judge (i ∷ r) e (Err NotMapped) ≡ Err NotMapped
        skip i [] = rw plain
        skip i (k ∷ r) = refl

        below : (i : ℕ) (r : List ℕ) → leaf (stored ws start s j e) start total s (j ∷ i ∷ r) ≡ leaf ws start total s (j ∷ i ∷ r)
        below i r = rw (none, entry-put, to, blank-still lt i) (skip i r)

        at : (r : List ℕ) → p ≡ q ++ (j ∷ r) → leaf (stored ws start s j e) start total root p ≡ leaf ws start total root p
        at [] t = absurd (omega (arith, ap length t, length-append q (j ∷ [])))
        at (i ∷ r) t =
            rw t (same_then ws (stored ws start s j e) start total q (j ∷ i ∷ r) root way
            (λ x h. let xs : x ≡ s = cc in rw xs (below i r)))

  -- ---- the entry leads nowhere now

  module _ (off : flag 0 e ≡ false) where
    pub cut_here : (r : List ℕ) → reach (stored ws start s j e) start total root (q ++ (j ∷ r)) ≡ Err NotMapped
    cut_here r = reach_stuck (stored ws start s j e) start total q root s j r NotMapped way_kept (entry_now ∙ present_no e off)

    -- what is reached now was reached before, and not through the entry
    pub cut_reached : (p : List ℕ) (x : ℕ) → length p ≤ n → reach (stored ws start s j e) start total root p ≡ Ok x
        → (reach ws start total root p ≡ Ok x) × ((r : List ℕ) → p ≡ q ++ (j ∷ r) → ⊥)
    cut_reached p x lp h =
        ⊎_elim (λ c. absurd (nowhere (sym (cut_here c.0) ∙ ap (reach (stored ws start s j e) start total root) (sym c.1) ∙ h)))
        (λ o. (sym (other_reach p lp o) ∙ h, o)) (through q j p)

    -- the tree without what the entry led to, also once the frame f that it named is free
    pub cut_tree : (f : ℕ) (bits' : List ℕ) → reach ws start total root (q ++ (j ∷ [])) ≡ Ok f → ((k : ℕ) → (k ≡ f - start → ⊥) → marked bits' k ≡ marked bits k)
        → Tree (stored ws start s j e) bits' start total root n
    cut_tree f bits' hf others = record {
      once = λ p p' x lp lp' h h'. w.once p p' x lp lp' (cut_reached p x lp h).0 (cut_reached p' x lp' h').0;
      into = λ p x lp h. w.into p x lp (cut_reached p x lp h).0;
      kept = λ p x lp h.
          let o = cut_reached p x lp h in
          others (x - start) (λ d. o.1 [] (w.once p (q ++ (j ∷ [])) x lp lf o.0 (hf ∙ ap Ok (same p x lp o.0 d)))) ∙ w.kept p x lp o.0;
    }
      where
        lf : length (q ++ (j ∷ [])) ≤ n
        lf = omega (arith, length-append q (j ∷ []))

        same : (p : List ℕ) (x : ℕ) → length p ≤ n → reach ws start total root p ≡ Ok x → x - start ≡ f - start → f ≡ x
        same p x lp h d =
            let a : start ≤ x = inside_from start total x (w.into p x lp h) in
            let b : start ≤ f = inside_from start total f (w.into (q ++ (j ∷ [])) f lf hf) in
            omega arith
