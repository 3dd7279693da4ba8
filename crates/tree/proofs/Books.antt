-- Which pages and tables there are: the pages that are reached are those of a list, and the tables lie on the ways to the pages of a list, as the runs of leading
-- indices of their paths. Kept by taking and cutting pages, on a board of up + 1 levels.
use Prim.Native.Nat.{ℕ, suc, ◌≤◌}
use mathlib.Core.Path.{◌≡◌, refl, sym, ◌∙◌, ap, subst}
use mathlib.Core.Bool.{true}
use mathlib.Core.HLevel.{⊥_prop, Π_prop}
use mathlib.Core.List.{List, [], ◌∷◌, ◌++◌}
use mathlib.Core.List.Memᴰ
use mathlib.Core.List.{Memᴰ}
use mathlib.Core.List.Pairwise
use mathlib.Core.List.{Pairwise, rel_of_Pairwise-cons}
use mathlib.Core.List.Permᴰ
use mathlib.Core.List.{Permᴰ}
use mathlib.Core.Logic.{⊎_elim, ∥∥₁_elim}
use native.Mathlib.Omega.{arith}
use native.Mathlib.Decide.{ℕ_discrete}
use lib.ListN.{length}
use Rattle.std.specs.Prelude.{Ok, Err}
use Rattle.answer.specs.declared.Refusal.TheVariants.{NotMapped}
use Rattle.paging.specs.Map.{Memory}
use Rattle.tree.proofs.Paths.{Leads, leads_trans, leads_length, take_leads, path, upper, length_path, length_upper}
use Rattle.tree.proofs.Walks.{nowhere}
use Rattle.tree.proofs.Ordered.{reach_in, inside_in, mark_in, translate_in, PlainIn, Ordered, no_page_translates}
use Rattle.tree.proofs.Release.{Cut}
use Rattle.tree.proofs.Taken.{Took, took_new, took_lead}
use Rattle.tree.proofs.Accounts.{Reached, Accounted, took_accounted}

-- ---- lists of pages

-- the pages at the addresses of a list are taken, one after the other
pub data Takes (root up : ℕ) : Memory → List ℕ → Memory → Type 0 where
  none : {m : Memory} → Takes root up m [] m
  more : {m m₁ m₂ : Memory} {v f : ℕ} {l : List ℕ} → Took m root up v f m₁ → Takes root up m₁ l m₂ → Takes root up m (v ∷ l) m₂

-- what that keeps: order, no HUGE, and the account of the frames
module _ {root up : ℕ} where
  pub takes_ordered : {m m' : Memory} {l : List ℕ} → Takes root up m l m' → Ordered m root (suc up) → Ordered m' root (suc up)
  takes_ordered none o = o
  takes_ordered (more t r) o = takes_ordered r t.grew.order

  pub takes_plain : {m m' : Memory} {l : List ℕ} → Takes root up m l m' → PlainIn m root (suc up) → PlainIn m' root (suc up)
  takes_plain none o = o
  takes_plain (more t r) o = takes_plain r (t.grew.plain o)

  pub takes_accounted : {m m' : Memory} {l lost : List ℕ} → Takes root up m l m' → Accounted m root (suc up) lost → Accounted m' root (suc up) lost
  takes_accounted none c = c
  takes_accounted (more t r) c = takes_accounted r (took_accounted c t)

pub perm_member : {A : Type 0} {x : A} {l k : List A} → Permᴰ l k → Memᴰ x l → Memᴰ x k
perm_member Permᴰ.nil i = i
perm_member (Permᴰ.cons e d) i = ⊎_elim (λ a. Memᴰ.head (a ∙ e)) (λ j. Memᴰ.tail (perm_member d j)) (Memᴰ.cases_cons i)
perm_member (Permᴰ.swap e e') i =
    ⊎_elim (λ a. Memᴰ.tail (Memᴰ.head (a ∙ e)))
    (λ j. ⊎_elim (λ b. Memᴰ.head (b ∙ e')) (λ k. Memᴰ.tail (Memᴰ.tail k)) (Memᴰ.cases_cons j)) (Memᴰ.cases_cons i)
perm_member (Permᴰ.trans d d') i = perm_member d' (perm_member d i)

-- ---- pages

-- the pages that are reached are those at the addresses of l, each once
pub record Live (m : Memory) (root up : ℕ) (l : List ℕ) : Type 0 where
  pub here : (v : ℕ) → Memᴰ v l → (f : ℕ) × (reach_in m root (path up v) ≡ Ok f)
  pub only : (p : List ℕ) (f : ℕ) → length p ≡ suc up → reach_in m root p ≡ Ok f → (v : ℕ) × Memᴰ v l × (p ≡ path up v)
  pub apart : Pairwise (λ (v v' : ℕ). path up v ≡ path up v' → ⊥) l

-- the list in another order
pub live_perm : {m : Memory} {root up : ℕ} {l k : List ℕ} → Permᴰ l k → Live m root up l → Live m root up k
live_perm r a = record {
  here = λ v i. a.here v (perm_member (Permᴰ.symm r) i);
  only = λ p f lp h. let b = a.only p f lp h in (b.0, perm_member r b.1, b.2);
  apart = Permᴰ.pairwise (λ v v'. Π_prop (λ e. ⊥_prop)) (λ v v' d e. d (sym e)) r a.apart;
}

-- a page taken
pub took_live : {m m' : Memory} {root up v f : ℕ} {l : List ℕ} → Took m root up v f m' → Live m root up l → Live m' root up (v ∷ l)
took_live {m} {m'} {root} {up} {v} {f} t a = record {
  here = λ x i. ⊎_elim (λ e. (f, ap (λ (y : ℕ). reach_in m' root (path up y)) e ∙ t.page))
      (λ j. let b = a.here x j in (b.0, t.grew.stay (path up x) b.0 (omega (arith, length_path up x)) b.1)) (Memᴰ.cases_cons i);
  only = λ p x lp h. ⊎_elim (λ b. let c = a.only p x lp b in (c.0, Memᴰ.tail c.1, c.2))
      (⊎_elim (λ b. (v, Memᴰ.head refl, b.0)) (λ b. absurd (omega (arith, leads_length b.0, length_upper up v)))) (took_new t p x (omega arith) h);
  apart = Pairwise.cons (λ x i e. ∥∥₁_elim i ⊥_prop (λ j. let b = a.here x j in t.off b.0 (ap (reach_in m root) e ∙ b.1))) a.apart;
}

pub takes_live : {root up : ℕ} {m m' : Memory} {l k : List ℕ} → Takes root up m l m' → Live m root up k → Live m' root up (l ++ k)
takes_live none a = a
takes_live {k = k} (more {v = v} {l = l} t r) a = live_perm (Permᴰ.middle v l k) (takes_live r (took_live t a))

-- the first page cut
pub cut_live : {m m' : Memory} {root up v f : ℕ} {l : List ℕ} → Cut m m' root (suc up) (path up v) f → Live m root up (v ∷ l) → Live m' root up l
cut_live {m} {m'} {root} {up} {v} {f} {l} c a = record {
  here = λ x i. let b = a.here x (Memᴰ.tail i) in (b.0, c.rest (path up x) (omega (arith, length_path up x)) (other x i) ∙ b.1);
  only = λ p x lp h.
      let d : p ≡ path up v → ⊥ = λ e. nowhere (sym c.gone ∙ ap (reach_in m' root) (sym e) ∙ h) in
      let b = a.only p x lp (sym (c.rest p (omega arith) d) ∙ h) in
      ⊎_elim (λ e. absurd (d (b.2 ∙ ap (path up) e))) (λ i. (b.0, i, b.2)) (Memᴰ.cases_cons b.1);
  apart = Pairwise.of_cons a.apart;
}
  where
    other : (x : ℕ) → Memᴰ x l → path up x ≡ path up v → ⊥
    other x i e = rel_of_Pairwise-cons a.apart ∣ i ∣₁ (sym e)

-- ---- tables

-- the tables below the root are those on the ways to the pages at the addresses of l
pub record Tabled (m : Memory) (root up : ℕ) (l : List ℕ) : Type 0 where
  pub runs : (v : ℕ) → Memᴰ v l → (p : List ℕ) → Leads p (upper up v) → (t : ℕ) × (reach_in m root p ≡ Ok t)
  pub tables : (p : List ℕ) (t : ℕ) → 1 ≤ length p → length p ≤ up → reach_in m root p ≡ Ok t → (v : ℕ) × Memᴰ v l × Leads p (upper up v)

pub tabled_perm : {m : Memory} {root up : ℕ} {l k : List ℕ} → Permᴰ l k → Tabled m root up l → Tabled m root up k
tabled_perm r a = record {
  runs = λ v i. a.runs v (perm_member (Permᴰ.symm r) i);
  tables = λ p t l1 lp h. let b = a.tables p t l1 lp h in (b.0, perm_member r b.1, b.2);
}

-- a page taken
pub took_tabled : {m m' : Memory} {root up v f : ℕ} {l : List ℕ} → Took m root up v f m' → Tabled m root up l → Tabled m' root up (v ∷ l)
took_tabled {up = up} {v = v} t a = record {
  runs = λ x i p d. ⊎_elim
      (λ e. took_lead t (leads_trans d (subst (λ (y : ℕ). Leads (upper up x) (path up y)) e (take_leads up (path up x)))))
      (λ j. let b = a.runs x j p d in (b.0, t.grew.stay p b.0 (omega (arith, leads_length d, length_upper up x)) b.1)) (Memᴰ.cases_cons i);
  tables = λ p x l1 lp h. ⊎_elim (λ b. let c = a.tables p x l1 lp b in (c.0, Memᴰ.tail c.1, c.2))
      (⊎_elim (λ b. absurd (omega (arith, ap length b.0, length_path up v))) (λ b. (v, Memᴰ.head refl, b.0))) (took_new t p x (omega arith) h);
}

pub takes_tabled : {root up : ℕ} {m m' : Memory} {l k : List ℕ} → Takes root up m l m' → Tabled m root up k → Tabled m' root up (l ++ k)
takes_tabled none a = a
takes_tabled {k = k} (more {v = v} {l = l} t r) a = tabled_perm (Permᴰ.middle v l k) (takes_tabled r (took_tabled t a))

-- a page cut: its tables stay
pub cut_tabled : {m m' : Memory} {root up f : ℕ} {w l : List ℕ} → length w ≡ suc up → Cut m m' root (suc up) w f → Tabled m root up l → Tabled m' root up l
cut_tabled {m} {m'} {root} {up} lw c a = record {
  runs = λ x i p d. let b = a.runs x i p d in (b.0, same p (omega (arith, leads_length d, length_upper up x)) ∙ b.1);
  tables = λ p x l1 lp h. a.tables p x l1 lp (sym (same p lp) ∙ h);
}
  where
    same : (p : List ℕ) → length p ≤ up → reach_in m' root p ≡ reach_in m root p
    same p lp = c.rest p (omega arith) (λ e. omega (arith, ap length e))

-- ---- at the start, and once every page is cut

-- where only the root is reached there are no pages and no tables
module _ {m : Memory} {root up : ℕ} (only : (p : List ℕ) (f : ℕ) → reach_in m root p ≡ Ok f → p ≡ []) where
  pub bare_live : Live m root up []
  bare_live = record {
    here = λ v i. absurd (Memᴰ.not-nil i);
    only = λ p f lp h. absurd (omega (arith, ap length (only p f h)));
    apart = Pairwise.nil;
  }

  pub bare_tabled : Tabled m root up []
  bare_tabled = record {
    runs = λ v i. absurd (Memᴰ.not-nil i);
    tables = λ p t l1 lp h. absurd (omega (arith, ap length (only p t h)));
  }

module _ {m : Memory} {root up : ℕ} (a : Live m root up []) where
  no_page : (p : List ℕ) (f : ℕ) → length p ≡ suc up → reach_in m root p ≡ Ok f → ⊥
  no_page p f lp h = Memᴰ.not-nil (a.only p f lp h).1

  -- no address translates
  pub silent : Ordered m root (suc up) → PlainIn m root (suc up) → (v : ℕ) → translate_in (suc up) m root v ≡ Err NotMapped
  silent o w v = no_page_translates o w v (λ f. no_page (path up v) f (length_path up v))

  -- and, if none is lost, each marked frame is the root or a table
  pub tables_only : Accounted m root (suc up) [] → (f : ℕ) → inside_in m f ≡ true → mark_in m f ≡ 1 → Reached m root up f
  tables_only c f ins mark =
      ⊎_elim (λ r. record { path = r.path; short = above r (ℕ_discrete (length r.path) (suc up)); comes = r.comes })
      (⊎_elim (λ i. absurd (Memᴰ.not-nil i)) (λ z. absurd z)) (c.found f ins mark)
    where
      above : (r : Reached m root (suc up) f) → Dec (length r.path ≡ suc up) → length r.path ≤ up
      above r (yes e) = absurd (no_page r.path f e r.comes)
      above r (no d) = let s = r.short in omega arith
