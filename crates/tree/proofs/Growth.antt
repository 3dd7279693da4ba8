-- A memory that grew from another: all that was reached stays reached, marks only become more, and what is new is told.
use Prim.Native.Nat.{ℕ, ◌-◌, ◌≤◌}
use mathlib.Core.Path.{◌≡◌, refl, ◌∙◌}
use mathlib.Core.Bool.{true}
use mathlib.Core.List.{List}
use mathlib.Core.Logic.{◌⊎◌, inl, inr, ⊎_elim}
use native.Mathlib.Omega.{arith}
use lib.ListN.{length}
use Rattle.std.specs.Prelude.{Ok}
use Rattle.bitmap.proofs.Marks.{marked_cases, not_marked}
use Rattle.paging.specs.Map.{Memory, start_frame, total_of}
use Rattle.tree.proofs.Paths.{Leads, leads_length, leads_trans}
use Rattle.tree.proofs.Ordered.{reach_in, inside_in, mark_in, PlainIn, Ordered}

-- frame f is reached along a leading run of w
pub record Along (m : Memory) (root : ℕ) (w : List ℕ) (f : ℕ) : Type 0 where
  pub path : List ℕ
  pub lead : Leads path w
  pub comes : reach_in m root path ≡ Ok f

-- m' grew from m along w: what is newly reached is so along leading runs of w, by frames of New; what is newly marked is so reached, or is one of Held
pub record Grew (m m' : Memory) (root n : ℕ) (w : List ℕ) (New Held : ℕ → Type 0) : Type 0 where
  pub order : Ordered m' root n
  pub plain : PlainIn m root n → PlainIn m' root n
  pub start : start_frame m' ≡ start_frame m
  pub total : total_of m' ≡ total_of m
  pub stay : (p : List ℕ) (x : ℕ) → length p ≤ n → reach_in m root p ≡ Ok x → reach_in m' root p ≡ Ok x
  pub grew : (p : List ℕ) (x : ℕ) → length p ≤ n → reach_in m' root p ≡ Ok x → (reach_in m root p ≡ Ok x) ⊎ (Leads p w × New x)
  pub more : (f : ℕ) → mark_in m f ≡ 1 → mark_in m' f ≡ 1
  pub used : (f : ℕ) → inside_in m f ≡ true → mark_in m f ≡ 0 → mark_in m' f ≡ 1 → Along m' root w f ⊎ Held f

-- frames that were free; and none
abbrev pub Free : Memory → ℕ → Type 0
Free m f = mark_in m f ≡ 0

abbrev pub None : ℕ → Type 0
None f = ⊥

pub grew_refl : {m : Memory} {root n : ℕ} (w : List ℕ) (New Held : ℕ → Type 0) → Ordered m root n → Grew m m root n w New Held
grew_refl w New Held o = record {
  order = o;
  plain = λ h. h;
  start = refl;
  total = refl;
  stay = λ p x lp h. h;
  grew = λ p x lp h. inl h;
  more = λ f h. h;
  used = λ f a b c. absurd (omega arith);
}

-- what is free afterwards was free before
pub free_before : {m m' : Memory} {root n : ℕ} {w : List ℕ} {New Held : ℕ → Type 0} → Grew m m' root n w New Held → (f : ℕ) → mark_in m' f ≡ 0 → mark_in m f ≡ 0
free_before {m} g f h = not_marked m.frames.bits (f - start_frame m) (λ k. omega (arith, g.more f k))

-- a longer path, and more that may be new
pub grew_wider : {m m' : Memory} {root n : ℕ} {w w' : List ℕ} {New New' Held : ℕ → Type 0} → Leads w w' → ((x : ℕ) → New x → New' x)
    → Grew m m' root n w New Held → Grew m m' root n w' New' Held
grew_wider l more g = record {
  order = g.order;
  plain = g.plain;
  start = g.start;
  total = g.total;
  stay = g.stay;
  grew = λ p x lp h. ⊎_elim (λ c. inl c) (λ c. inr (leads_trans c.0 l, more x c.1)) (g.grew p x lp h);
  more = g.more;
  used = λ f a b c. ⊎_elim (λ d. inl (record { path = d.path; lead = leads_trans d.lead l; comes = d.comes })) (λ d. inr d) (g.used f a b c);
}

-- one growth after the other
pub grew_trans : {m m₁ m₂ : Memory} {root n : ℕ} {w : List ℕ} {New₁ Held₁ New₂ Held₂ New Held : ℕ → Type 0} → length w ≤ n
    → Grew m m₁ root n w New₁ Held₁ → Grew m₁ m₂ root n w New₂ Held₂ → ((x : ℕ) → New₁ x → New x) → ((x : ℕ) → New₂ x → New x)
    → ((f : ℕ) → Held₁ f → Along m₂ root w f ⊎ Held f) → ((f : ℕ) → Held₂ f → Held f) → Grew m m₂ root n w New Held
grew_trans {m} {m₁} {m₂} {root} {n} {w} {Held = Held} lw a b new₁ new₂ held₁ held₂ = record {
  order = b.order;
  plain = λ h. b.plain (a.plain h);
  start = b.start ∙ a.start;
  total = b.total ∙ a.total;
  stay = λ p x lp h. b.stay p x lp (a.stay p x lp h);
  grew = λ p x lp h. ⊎_elim
      (λ c. ⊎_elim (λ d. inl d) (λ d. inr (d.0, new₁ x d.1)) (a.grew p x lp c))
      (λ c. inr (c.0, new₂ x c.1)) (b.grew p x lp h);
  more = λ f h. b.more f (a.more f h);
  used = λ f ins free done. mid f ins free done (marked_cases m₁.frames.bits (f - start_frame m₁));
}
  where
    further : (f : ℕ) → Along m₁ root w f → Along m₂ root w f
    further f c = record { path = c.path; lead = c.lead; comes = b.stay c.path f (omega (arith, leads_length c.lead)) c.comes }

    mid : (f : ℕ) → inside_in m f ≡ true → mark_in m f ≡ 0 → mark_in m₂ f ≡ 1 → (mark_in m₁ f ≡ 0) ⊎ (mark_in m₁ f ≡ 1) → Along m₂ root w f ⊎ Held f
    mid f ins free done (inl c) =
        ⊎_elim (λ d. inl d) (λ d. inr (held₂ f d)) (b.used f (rw (a.start, a.total) ins) c done)
    mid f ins free done (inr c) = ⊎_elim (λ d. inl (further f d)) (held₁ f) (a.used f ins free c)
