-- Runs of pages: n pages from v on, taken one after the other or freed one after the other.
use Prim.Native.Nat.{ℕ, zero, suc, ◌+◌}
use mathlib.Core.Path.{◌≡◌, refl, sym, ◌∙◌, ap, ap₂}
use mathlib.Core.Bool.{Bool}
use mathlib.Core.List.Memᴰ
use mathlib.Core.List.Permᴰ
use mathlib.Core.List.{List, [], ◌∷◌, ◌++◌, foldl-append}
use native.Mathlib.Omega.{arith}
use Rattle.std.specs.Prelude.{Ok, Err, Result}
use Rattle.answer.specs.declared.Refusal.{Refusal}
use Rattle.frame.specs.Found.{tally, and_found}
use Rattle.paging.specs.Map.{Memory}
use Rattle.paging.specs.Pages.{Ran, map_fresh, map_pages, free_page, free_pages}
use Rattle.paging.specs.Found.{pages_found}
use Rattle.tree.proofs.Walks.{nowhere}
use Rattle.tree.proofs.Ordered.{PlainIn, Ordered}
use Rattle.tree.proofs.Accounts.{Accounted}
use Rattle.tree.proofs.Books.{Takes, none, more, Live, Tabled}
use Rattle.tree.proofs.Taking.{take_met}
use Rattle.tree.proofs.Freeing.{way_to, free_found, free_ordered, free_plain, free_accounted, free_live, free_tabled, free_all, pages_end}

-- the addresses of n pages from v on
abbrev pub run : ℕ → ℕ → List ℕ
run v zero = []
run v (suc n) = v ∷ run (v + 4096) n

-- ---- taken

-- the first page of a run, and what follows
module _ (up : ℕ) (w u : Bool) (m : Memory) (root v k n : ℕ) where
  pub map_pages_on : (x : ℕ) → (map_fresh up w u m root v).walked ≡ Ok x
      → map_pages up w u m root v k (suc n) ≡ map_pages up w u (map_fresh up w u m root v).mem root (v + 4096) (suc k) n
  unfolding map_pages
  map_pages_on x h = rw h

  pub map_pages_stop : (a : Refusal) → (map_fresh up w u m root v).walked ≡ Err a
      → map_pages up w u m root v k (suc n) ≡ record { walked = Err a; done = k; mem = (map_fresh up w u m root v).mem }
  unfolding map_pages
  map_pages_stop a h = rw h

-- a run that is met takes all its pages
pub map_pages_met : {root up : ℕ} (w u : Bool) (n : ℕ) {m : Memory} → Ordered m root (suc up) → (v k x : ℕ) → (map_pages up w u m root v k n).walked ≡ Ok x
    → Takes root up m (run v n) (map_pages up w u m root v k n).mem
unfolding map_pages
map_pages_met w u zero o v k x h = none
map_pages_met {root} {up} w u (suc n) {m} o v k x h = go (map_fresh up w u m root v).walked refl (λ g. map_pages_met w u n g (v + 4096) (suc k) x)
  where
    go : (y : Result ℕ Refusal) → (map_fresh up w u m root v).walked ≡ y
        → (Ordered (map_fresh up w u m root v).mem root (suc up) → (map_pages up w u (map_fresh up w u m root v).mem root (v + 4096) (suc k) n).walked ≡ Ok x
        → Takes root up (map_fresh up w u m root v).mem (run (v + 4096) n) (map_pages up w u (map_fresh up w u m root v).mem root (v + 4096) (suc k) n).mem)
        → Takes root up m (v ∷ run (v + 4096) n) (map_pages up w u m root v k (suc n)).mem
    go (Ok y) e r =
        let t = (take_met o w u v y e).1 in
        let on = map_pages_on up w u m root v k n y e in
        rw on (more t (r t.grew.order (ap (λ (q : Ran). q.walked) (sym on) ∙ h)))
    go (Err a) e r = absurd (nowhere (ap (λ (q : Ran). q.walked) (sym (map_pages_stop up w u m root v k n a e)) ∙ h))

-- ---- freed

-- what freeing pages keeps: no HUGE, the account of the frames, the pages that are left, and the tables
pub free_all_plain : {root up : ℕ} (l : List ℕ) {m : Memory} → Ordered m root (suc up) → PlainIn m root (suc up) → PlainIn (free_all up root m l) root (suc up)
free_all_plain [] o w = w
free_all_plain (v ∷ l) o w = free_all_plain l (free_ordered o v) (free_plain o v w)

pub free_all_accounted : {root up : ℕ} (l : List ℕ) {m : Memory} {lost : List ℕ} → Accounted m root (suc up) lost → Accounted (free_all up root m l) root (suc up) lost
free_all_accounted [] c = c
free_all_accounted (v ∷ l) c = free_all_accounted l (free_accounted c v)

pub free_all_live : {root up : ℕ} (l k : List ℕ) {m : Memory} → Ordered m root (suc up) → Live m root up (l ++ k) → Live (free_all up root m l) root up k
free_all_live [] k o a = a
free_all_live (v ∷ l) k o a = free_all_live l k (free_ordered o v) (free_live o a)

pub free_all_tabled : {root up : ℕ} (l : List ℕ) {k : List ℕ} {m : Memory} → Ordered m root (suc up) → Tabled m root up k → Tabled (free_all up root m l) root up k
free_all_tabled [] o a = a
free_all_tabled (v ∷ l) o a = free_all_tabled l (free_ordered o v) (free_tabled o v a)

-- a run that is freed is its pages freed
pub free_pages_lem : (up root n : ℕ) (m : Memory) (v : ℕ) → free_pages up m root v n ≡ free_all up root m (run v n)
unfolding free_pages
free_pages_lem up root zero m v = refl
free_pages_lem up root (suc n) m v = free_pages_lem up root n (free_page up m root v) (v + 4096)

-- .. and finds each frame of pages that are reached, each once, to be freed
pub free_pages_found : {root up : ℕ} (n : ℕ) {m : Memory} (v : ℕ) (k : List ℕ) → Ordered m root (suc up) → Live m root up (run v n ++ k) → pages_found up m root v n ≡ tally n 0 0
unfolding pages_found
free_pages_found zero v k o a = refl
free_pages_found {root} {up} (suc n) {m} v k o a =
    let b = a.here v (Memᴰ.head refl) in
    let t = way_to up m root v b.0 b.1 in
    let one : 1 + n ≡ suc n = omega arith in
    ap₂ and_found (free_found o v t.0 b.0 t.1 b.1) (free_pages_found n (v + 4096) k (free_ordered o v) (free_live o a)) ∙ ap (λ (x : ℕ). tally x 0 0) one

-- two runs are freed in either order alike
pub free_runs : {m : Memory} {root up : ℕ} → Ordered m root (suc up) → (v n v' n' : ℕ)
    → free_pages up (free_pages up m root v n) root v' n' ≡ free_pages up (free_pages up m root v' n') root v n
free_runs {m} {root} {up} o v n v' n' =
    both v n v' n' ∙ pages_end o (Permᴰ.append_comm (run v n) (run v' n')) ∙ sym (both v' n' v n)
  where
    both : (v n v' n' : ℕ) → free_pages up (free_pages up m root v n) root v' n' ≡ free_all up root m (run v n ++ run v' n')
    both v n v' n' =
        free_pages_lem up root n' (free_pages up m root v n) v' ∙ ap (λ (x : Memory). free_all up root x (run v' n')) (free_pages_lem up root n m v)
        ∙ sym (foldl-append (λ (x : Memory) (v : ℕ). free_page up x root v) m (run v n) (run v' n'))
