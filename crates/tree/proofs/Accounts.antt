-- The account of the frames: every marked frame is reached, as root, table or page, or is one of those lost, which are marked and reached by nothing.
use Prim.Native.Nat.{ℕ, suc, ◌-◌, ◌≤◌}
use mathlib.Core.Path.{◌≡◌, sym, ◌∙◌, ap, subst}
use mathlib.Core.Bool.{true}
use mathlib.Core.HLevel.{⊥_prop}
use mathlib.Core.List.Memᴰ
use mathlib.Core.List.{List, ◌∷◌, Memᴰ, Nodup, Nodup-cons}
use mathlib.Core.Logic.{◌⊎◌, inl, inr, ⊎_elim, ∥∥₁_elim}
use native.Mathlib.Omega.{arith}
use native.Mathlib.Decide.{ℕ_discrete}
use lib.ListN.{length}
use Rattle.std.specs.Prelude.{Ok}
use Rattle.bitmap.proofs.Marks.{marked_cases}
use Rattle.paging.specs.Map.{Memory, start_frame}
use Rattle.tree.proofs.Paths.{leads_length, same_path, length_path, length_upper}
use Rattle.tree.proofs.Walks.{nowhere}
use Rattle.tree.proofs.Ordered.{reach_in, inside_in, mark_in, Ordered}
use Rattle.tree.proofs.Growth.{Grew, Free, None}
use Rattle.tree.proofs.Release.{Cut, cut_away}
use Rattle.tree.proofs.Taken.{Took, Lost}

-- frame f is the root, a table or a page
pub record Reached (m : Memory) (root n f : ℕ) : Type 0 where
  pub path : List ℕ
  pub short : length path ≤ n
  pub comes : reach_in m root path ≡ Ok f

-- every marked frame is reached, is lost, or is one of Held; the lost are marked, reached by nothing, and listed once
pub record Account (m : Memory) (root n : ℕ) (lost : List ℕ) (Held : ℕ → Type 0) : Type 0 where
  pub order : Ordered m root n
  pub found : (f : ℕ) → inside_in m f ≡ true → mark_in m f ≡ 1 → Reached m root n f ⊎ Memᴰ f lost ⊎ Held f
  pub lent : (f : ℕ) → Memᴰ f lost → inside_in m f ≡ true
  pub mine : (f : ℕ) → Memᴰ f lost → mark_in m f ≡ 1
  pub away : (f : ℕ) → Memᴰ f lost → (p : List ℕ) → length p ≤ n → reach_in m root p ≡ Ok f → ⊥
  pub once : Nodup lost

-- the account between steps: no frame is in hand
abbrev pub Accounted : Memory → ℕ → ℕ → List ℕ → Type 0
Accounted m root n lost = Account m root n lost None

-- ---- a frame in hand

module _ {m : Memory} {root n : ℕ} {lost : List ℕ} {f : ℕ} (c : Account m root n lost (λ g. g ≡ f)) where
  -- it is free again
  pub hand_freed : mark_in m f ≡ 0 → Accounted m root n lost
  hand_freed free = record {
    order = c.order;
    found = λ g ins mark. ⊎_elim (λ a. inl a)
        (⊎_elim (λ a. inr (inl a)) (λ e. let z : mark_in m f ≡ 1 = rw e at mark in absurd (omega arith))) (c.found g ins mark);
    lent = c.lent;
    mine = c.mine;
    away = c.away;
    once = c.once;
  }

  -- it is lost
  pub hand_lost : inside_in m f ≡ true → mark_in m f ≡ 1 → ((p : List ℕ) → length p ≤ n → reach_in m root p ≡ Ok f → ⊥) → (Memᴰ f lost → ⊥)
      → Accounted m root n (f ∷ lost)
  hand_lost ins mark off new = record {
    order = c.order;
    found = λ g a b. ⊎_elim (λ x. inl x) (⊎_elim (λ x. inr (inl (Memᴰ.tail x))) (λ e. inr (inl (Memᴰ.head e)))) (c.found g a b);
    lent = λ g x. ⊎_elim (λ e. rw e ins) (c.lent g) (Memᴰ.cases_cons x);
    mine = λ g x. ⊎_elim (λ e. rw e mark) (c.mine g) (Memᴰ.cases_cons x);
    away = λ g x p lp h. ⊎_elim (λ e. off p lp (h ∙ ap Ok e)) (λ y. c.away g y p lp h) (Memᴰ.cases_cons x);
    once = Nodup-cons.1 (λ x. ∥∥₁_elim x ⊥_prop new, c.once);
  }

-- ---- what steps leave of it

module _ {m : Memory} {root n : ℕ} {lost : List ℕ} (c : Accounted m root n lost) where
  -- no frame that was free is lost, and no page's
  pub free_unlost : (f : ℕ) → mark_in m f ≡ 0 → Memᴰ f lost → ⊥
  free_unlost f free x = omega (arith, c.mine f x)

  pub cut_unlost : {m' : Memory} {w : List ℕ} {f : ℕ} → length w ≤ n → Cut m m' root n w f → Memᴰ f lost → ⊥
  cut_unlost {w = w} {f = f} lw d x = c.away f x w lw d.was

  -- growing: what is new and not reached is in hand
  pub grew_account : {m' : Memory} {w : List ℕ} {Held : ℕ → Type 0} → length w ≤ n → Grew m m' root n w (Free m) Held → Account m' root n lost Held
  grew_account {m'} {w} {Held} lw g = record {
    order = g.order;
    found = λ f ins mark. by f (rw (g.start, g.total) at ins) mark (marked_cases m.frames.bits (f - start_frame m));
    lent = λ f x. rw (g.start, g.total) (c.lent f x);
    mine = λ f x. g.more f (c.mine f x);
    away = λ f x p lp h. ⊎_elim (λ a. c.away f x p lp a) (λ a. omega (arith, a.1, c.mine f x)) (g.grew p f lp h);
    once = c.once;
  }
    where
      by : (f : ℕ) → inside_in m f ≡ true → mark_in m' f ≡ 1 → (mark_in m f ≡ 0) ⊎ (mark_in m f ≡ 1) → Reached m' root n f ⊎ Memᴰ f lost ⊎ Held f
      by f ins mark (inl a) =
          ⊎_elim (λ b. inl (record { path = b.path; short = omega (arith, leads_length b.lead); comes = b.comes })) (λ b. inr (inr b)) (g.used f ins a mark)
      by f ins mark (inr a) =
          ⊎_elim (λ b. inl (record { path = b.path; short = b.short; comes = g.stay b.path f b.short b.comes }))
          (⊎_elim (λ b. inr (inl b)) (λ b. absurd b)) (c.found f ins a)

  -- cutting a page: its frame is in hand
  pub cut_account : {m' : Memory} {w : List ℕ} {f : ℕ} → length w ≤ n → Cut m m' root n w f → Account m' root n lost (λ g. g ≡ f)
  cut_account {m'} {w} {f} lw d = record {
    order = d.order;
    found = λ g ins mark. by g (rw (d.start, d.total) at ins) mark (ℕ_discrete g f);
    lent = λ g x. rw (d.start, d.total) (c.lent g x);
    mine = λ g x. d.marks g (c.lent g x) (λ e. cut_unlost lw d (subst (λ (y : ℕ). Memᴰ y lost) e x)) ∙ c.mine g x;
    away = λ g x p lp h. off g x p lp h (same_path p w);
    once = c.once;
  }
    where
      off : (g : ℕ) → Memᴰ g lost → (p : List ℕ) → length p ≤ n → reach_in m' root p ≡ Ok g → Dec (p ≡ w) → ⊥
      off g x p lp h (yes e) = nowhere (sym d.gone ∙ ap (reach_in m' root) (sym e) ∙ h)
      off g x p lp h (no e) = c.away g x p lp (sym (d.rest p lp e) ∙ h)

      other : (g : ℕ) → (g ≡ f → ⊥) → (b : Reached m root n g) → b.path ≡ w → ⊥
      other g e b k =
          let z : reach_in m root w ≡ Ok g = subst (λ (p : List ℕ). reach_in m root p ≡ Ok g) k b.comes in
          let y = d.was in
          e (cc)

      by : (g : ℕ) → inside_in m g ≡ true → mark_in m' g ≡ 1 → Dec (g ≡ f) → Reached m' root n g ⊎ Memᴰ g lost ⊎ (g ≡ f)
      by g ins mark (yes e) = inr (inr e)
      by g ins mark (no e) =
          ⊎_elim (λ b. inl (record {
            path = b.path;
            short = b.short;
            comes = d.rest b.path b.short (other g e b) ∙ b.comes;
          }))
          (⊎_elim (λ b. inr (inl b)) (λ b. absurd b)) (c.found g ins (sym (d.marks g ins e) ∙ mark))

-- ---- what pages leave of it

module _ {m m' : Memory} {root n f : ℕ} {w lost : List ℕ} (c : Accounted m root n lost) (lw : length w ≤ n) (d : Cut m m' root n w f) where
  -- a page cut, and its frame freed: none is lost
  pub freed_accounted : mark_in m' f ≡ 0 → Accounted m' root n lost
  freed_accounted free = hand_freed (cut_account c lw d) free

  -- and its frame kept: that one is
  pub cleared_accounted : mark_in m' f ≡ 1 → Accounted m' root n (f ∷ lost)
  cleared_accounted mark =
      hand_lost (cut_account c lw d) (rw (d.start, d.total) (c.order.tree.into w f lw d.was)) mark (cut_away c.order lw d) (cut_unlost c lw d)

module _ {m m' : Memory} {root up v f : ℕ} {lost : List ℕ} (c : Accounted m root (suc up) lost) where
  -- a page had: none is lost
  pub took_accounted : Took m root up v f m' → Accounted m' root (suc up) lost
  took_accounted t = grew_account c (omega (arith, length_path up v)) t.grew

  -- a page not had though its frame was: that one is
  pub lost_accounted : Lost m root up v f m' → Accounted m' root (suc up) (f ∷ lost)
  lost_accounted t =
      hand_lost (grew_account c (omega (arith, length_upper up v)) t.grew) (rw (t.grew.start, t.grew.total) t.lent) t.mine t.away
      (free_unlost c f t.free)
