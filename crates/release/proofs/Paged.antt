-- What holds of the memory at every point of a list of calls, on a board of up levels above the last: which pages are mapped, and which frames are lost.
use Prim.Native.Nat.{ℕ, zero, suc, ◌+◌}
use mathlib.Core.Path.{◌≡◌, refl, sym, ◌∙◌, ap, subst}
use mathlib.Core.Bool.{Bool, true}
use mathlib.Core.Logic.{⊎_elim}
use mathlib.Core.List.{List, ◌∷◌, ◌++◌, Permᴰ}
use native.Mathlib.Omega.{arith}
use Rattle.std.specs.Prelude.{Ok, Err, Result}
use Rattle.answer.specs.declared.Refusal.{Refusal}
use Rattle.answer.specs.declared.Refusal.TheVariants.{NoFreeFrame, MapPageFailed}
use Rattle.frame.specs.Found.{tally}
use Rattle.frame.proofs.Steps.{span_give}
use Rattle.paging.specs.Map.{Memory, start_frame}
use Rattle.paging.specs.Pages.{Ran, map_fresh, map_pages, unmap_leaf, free_page, free_pages, freed}
use Rattle.paging.specs.Found.{pages_found}
use Rattle.frame.specs.Frames.{Frames}
use Rattle.tree.proofs.Ordered.{PlainIn, Ordered}
use Rattle.tree.proofs.Accounts.{Accounted}
use Rattle.tree.proofs.Books.{Takes, none, more, takes_plain, takes_accounted, takes_live, takes_tabled, Live, live_perm, Tabled}
use Rattle.tree.proofs.Taking.{take_met, take_number}
use Rattle.tree.proofs.Runs.{run, map_pages_on, map_pages_stop, map_pages_met, free_all_plain, free_all_accounted, free_all_live, free_all_tabled, free_pages_lem, free_pages_found}
use Rattle.release.specs.Calls.{turned_away}
use Rattle.release.specs.Demand3.{pages_from}

-- the mapped pages are those of one list, the lost frames those of another
pub record Paged (up : ℕ) (m : Memory) (root : ℕ) (pages lost : List ℕ) : Type 0 where
  pub account : Accounted m root (suc up) lost
  pub plain : PlainIn m root (suc up)
  pub live : Live m root up pages

-- the order of the pages makes no difference
pub paged_perm : {up : ℕ} {m : Memory} {root : ℕ} {p q lost : List ℕ} → Permᴰ p q → Paged up m root p lost → Paged up m root q lost
paged_perm d h = record { account = h.account; plain = h.plain; live = live_perm d h.live }

-- ---- pages of a region

pub run_is : (v n : ℕ) → run v n ≡ pages_from v n
unfolding pages_from
run_is v zero = refl
run_is v (suc n) = ap (λ (l : List ℕ). v ∷ l) (run_is (v + 4096) n)

pub takes_start : {root up : ℕ} {m m' : Memory} {l : List ℕ} → Takes root up m l m' → start_frame m' ≡ start_frame m
takes_start none = refl
takes_start (more t r) = takes_start r ∙ t.grew.start

-- n pages from v on are taken
module _ (w u : Bool) {up : ℕ} {m : Memory} {root : ℕ} {pages lost : List ℕ} (h : Paged up m root pages lost) (v n x : ℕ) (e : (map_pages up w u m root v 0 n).walked ≡ Ok x) where
  pub met_takes : Takes root up m (run v n) (map_pages up w u m root v 0 n).mem
  met_takes = map_pages_met w u n h.account.order v 0 x e

  pub paged_take : Paged up (map_pages up w u m root v 0 n).mem root (pages_from v n ++ pages) lost
  paged_take = subst (λ (l : List ℕ). Paged up (map_pages up w u m root v 0 n).mem root (l ++ pages) lost) (run_is v n) (record {
    account = takes_accounted met_takes h.account;
    plain = takes_plain met_takes h.plain;
    live = takes_live met_takes h.live;
  })

  -- with their tables
  pub tabled_take : {ever : List ℕ} → Tabled m root up ever → Tabled (map_pages up w u m root v 0 n).mem root up (pages_from v n ++ ever)
  tabled_take {ever} t = subst (λ (l : List ℕ). Tabled (map_pages up w u m root v 0 n).mem root up (l ++ ever)) (run_is v n) (takes_tabled met_takes t)

  pub take_start : start_frame (map_pages up w u m root v 0 n).mem ≡ start_frame m
  take_start = takes_start met_takes

named : (e : Refusal) (n : Refusal) → e ≡ n → turned_away (Err n) ≡ true → turned_away (Err e) ≡ true
named e n q h = subst (λ (x : Refusal). turned_away (Err x) ≡ true) (sym q) h

-- a run that is not had is turned away with 11 or 13
stop_number : {up : ℕ} (w u : Bool) (n : ℕ) {m : Memory} {root : ℕ} → Ordered m root (suc up) → (v k : ℕ) (e : Refusal) → (map_pages up w u m root v k n).walked ≡ Err e → turned_away (Err e) ≡ true
unfolding map_pages
stop_number w u zero o v k e h = let z : ◌≡◌ {A = ℕ} 0 1 = cc in absurd (omega arith)
stop_number {up} w u (suc n) {m} {root} o v k e h = go (map_fresh up w u m root v).walked refl (λ g. stop_number w u n g (v + 4096) (suc k) e)
  where
    go : (y : Result ℕ Refusal) → (map_fresh up w u m root v).walked ≡ y
        → (Ordered (map_fresh up w u m root v).mem root (suc up) → (map_pages up w u (map_fresh up w u m root v).mem root (v + 4096) (suc k) n).walked ≡ Err e → turned_away (Err e) ≡ true)
        → turned_away (Err e) ≡ true
    go (Ok x) f later = later (take_met o w u v x f).1.grew.order (ap (λ (q : Ran). q.walked) (sym (map_pages_on up w u m root v k n x f)) ∙ h)
    go (Err a) f later =
        let q : ◌≡◌ {A = Result ℕ Refusal} (Err a) (Err e) = ap (λ (q : Ran). q.walked) (sym (map_pages_stop up w u m root v k n a f)) ∙ h in
        let z : a ≡ e = cc in
        ⊎_elim (λ g. named e NoFreeFrame (sym z ∙ g) refl) (λ g. named e MapPageFailed (sym z ∙ g) refl) (take_number o w u v a f)

pub paged_stop : (w u : Bool) {up : ℕ} {m : Memory} {root : ℕ} {pages lost : List ℕ} → Paged up m root pages lost → (v n : ℕ) (e : Refusal) → (map_pages up w u m root v 0 n).walked ≡ Err e
    → turned_away (Err e) ≡ true
paged_stop w u h v n e f = stop_number w u n h.account.order v 0 e f

-- and freed again
free_start : (up : ℕ) (m : Memory) (root v : ℕ) → start_frame (free_page up m root v) ≡ start_frame m
unfolding free_page
free_start up m root v = by (unmap_leaf up m root v).walked m.frames
  where
    by : (w : Result ℕ Refusal) (fr : Frames) → (freed w fr).fa.start ≡ fr.fa.start
    by (Ok f) fr = (span_give fr f).start
    by (Err a) fr = refl

pub give_start : (up : ℕ) (m : Memory) (root v n : ℕ) → start_frame (free_pages up m root v n) ≡ start_frame m
unfolding free_pages
give_start up m root v zero = refl
give_start up m root v (suc n) = give_start up (free_page up m root v) root (v + 4096) n ∙ free_start up m root v

pub paged_give : {up : ℕ} {m : Memory} {root : ℕ} {pages lost : List ℕ} (v n : ℕ) → Paged up m root (pages_from v n ++ pages) lost
    → Paged up (free_pages up m root v n) root pages lost
paged_give {up} {m} {root} {pages} {lost} v n h =
    let g : Paged up m root (run v n ++ pages) lost = rw (run_is v n) h in
    rw (free_pages_lem up root n m v) (record {
      account = free_all_accounted (run v n) g.account;
      plain = free_all_plain (run v n) g.account.order g.plain;
      live = free_all_live (run v n) pages g.account.order g.live;
    })

-- each frame is found marked
pub paged_found : {up : ℕ} {m : Memory} {root : ℕ} {lost : List ℕ} (v n : ℕ) (pages : List ℕ) → Paged up m root (pages_from v n ++ pages) lost → pages_found up m root v n ≡ tally n 0 0
paged_found {up} {m} {root} {lost} v n pages h =
    let g : Paged up m root (run v n ++ pages) lost = rw (run_is v n) h in
    free_pages_found n v pages g.account.order g.live

pub tabled_give : {up : ℕ} {m : Memory} {root : ℕ} {ever : List ℕ} (v n : ℕ) → Ordered m root (suc up) → Tabled m root up ever → Tabled (free_pages up m root v n) root up ever
tabled_give {up} {m} {root} v n o t = rw (free_pages_lem up root n m v) (free_all_tabled (run v n) o t)
