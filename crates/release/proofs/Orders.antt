-- All live regions released, in whatever order: each release is met and frees each frame of its region, and every two orders end in one board.
use Prim.Native.Nat.{ℕ, ◌/◌}
use mathlib.Core.Path.{◌≡◌, refl, sym, ◌∙◌, ap, ap₂, subst}
use mathlib.Core.Bool.{Bool, true, false}
use mathlib.Core.List.Memᴰ
use mathlib.Core.List.Permᴰ
use mathlib.Core.List.{List, [], ◌∷◌, map, foldl, foldl-append, Permᴰ}
use Rattle.bits.specs.Bit.{pick}
use Rattle.frame.specs.declared.Tally.{Tally}
use Rattle.paging.specs.Map.{Memory}
use Rattle.paging.specs.Pages.{free_page}
use Rattle.tree.proofs.Orders.{one_end}
use Rattle.tree.proofs.Freeing.{free_all, pages_end}
use Rattle.tree.proofs.Runs.{free_pages_lem, free_all_tabled}
use Rattle.regions.proofs.Tiles.{Apart, apart_merge}
use Rattle.slots.specs.Slots.{every}
use Rattle.regions.specs.declared.VMRegion.{VMRegion}
use Rattle.regions.specs.Regions.{merge}
use Rattle.regions.proofs.Merge.{freed_all, free_then, freed_comm}
use Rattle.mappings.specs.declared.MappedRegion.{MappedRegion}
use Rattle.mappings.specs.Regions.{holds}
use Rattle.mappings.proofs.Rising.{holds_nothing}
use Rattle.board.specs.Board.{Board}
use Rattle.release.specs.Calls.{Call, after, events, is_met}
use Rattle.release.specs.Demand3.{Region, kernel_region, user_region, start_is, size_is, Releases, by_vfree, by_munmap, EachReleased, done, next, Order, pages_of, concat}
use Rattle.release.specs.Found.{each_found, whole_freed}
use Rattle.release.proofs.Lists.{perm_concat, reordered}
use Rattle.release.proofs.Regions.{UserList}
use Rattle.release.proofs.Paged.{run_is}
use Rattle.release.proofs.Invariant.{Leftover, Inv, Tidy, inv_perm}
use Rattle.release.proofs.Ends.{board, memory_after, kernel_after, user_after, Gave, kernel_gave, user_gave}

pub gave : {up : ℕ} {b : Board} {k : List VMRegion} {u : List MappedRegion} {l : List Region} {left : Leftover} {r : Region} {c : Call} → Releases r c → Inv up left b k u (r ∷ l) → Gave up left b k u r l c
gave (by_vfree {a = a} {n = n}) h = kernel_gave a n h
gave (by_munmap {a = a} {n = n} {size = size} q) h = user_gave a n size q h

-- what releases of the regions of a list leave, on a board of up levels above the last
abbrev pub ended : ℕ → Board → List VMRegion → List MappedRegion → List Region → Board
ended up b k u m = board b (foldl (memory_after up b.root) b.mem m) (foldl kernel_after k m) (foldl user_after u m)

pub record Ended (up : ℕ) (left : Leftover) (b : Board) (k : List VMRegion) (u : List MappedRegion) (m : List Region) (cs : List Call) : Type 0 where
  pub met : every (λ e. is_met e.answer) (events b cs) ≡ true
  pub found : each_found b cs ≡ map whole_freed m
  pub leaves : after b cs ≡ ended up b k u m
  pub inv : Inv up left (ended up b k u m) (foldl kernel_after k m) (foldl user_after u m) []

pub end_of : {m : List Region} {cs : List Call} → EachReleased m cs → {up : ℕ} {b : Board} {k : List VMRegion} {u : List MappedRegion} {left : Leftover} → Inv up left b k u m → Ended up left b k u m cs
unfolding after events every each_found
end_of done {up} {b} {k} {u} {left} h =
    let same : b ≡ board b b.mem k u = λ i. record { mem = b.mem; root = b.root; kernel = h.kernel_is i; user = h.user_is i; next = b.next; marked = b.marked } in
    record { met = refl; found = refl; leaves = same; inv = subst (λ (x : Board). Inv up left x k u []) same h }
end_of (next {r = r} {c = c} {cs = cs} x xs) {up} {b} {k} {u} {left} h =
    let g = gave x h in
    let e = end_of xs g.inv in
    record {
      met = rw (g.met, g.leaves) e.met;
      found = ap₂ (λ (t : Tally) (ts : List Tally). t ∷ ts) g.found (ap (λ (y : Board). each_found y cs) g.leaves ∙ e.found);
      leaves = ap (λ (y : Board). after y cs) g.leaves ∙ e.leaves;
      inv = e.inv;
    }

-- ---- the memory

memory_end : (up root : ℕ) (m : List Region) (x : Memory) → foldl (memory_after up root) x m ≡ free_all up root x (concat pages_of m)
unfolding concat
memory_end up root [] x = refl
memory_end up root (r ∷ m) x =
    memory_end up root m (memory_after up root x r)
    ∙ ap (λ (y : Memory). free_all up root y (concat pages_of m)) (free_pages_lem up root (size_is r / 4096) x (start_is r) ∙ ap (free_all up root x) (run_is (start_is r) (size_is r / 4096)))
    ∙ sym (foldl-append (λ (y : Memory) (v : ℕ). free_page up y root v) x (pages_of r) (concat pages_of m))

-- ---- the kernel's list

-- regions freed one after the other, and merged at the end if there was one
abbrev freed_region : Bool × List VMRegion → Region → Bool × List VMRegion
freed_region s (kernel_region a n) = (true, freed_all a s.1)
freed_region s (user_region a n) = s

abbrev merged_if : Bool × List VMRegion → List VMRegion
merged_if s = pick s.0 (merge s.1) s.1

kernel_next : (s : Bool × List VMRegion) (r : Region) → kernel_after (merged_if s) r ≡ merged_if (freed_region s r)
kernel_next s (kernel_region a n) = by s.0
  where
    by : (x : Bool) → merge (freed_all a (pick x (merge s.1) s.1)) ≡ merge (freed_all a s.1)
    by true = free_then a s.1
    by false = refl
kernel_next s (user_region a n) = refl

kernel_end : (m : List Region) (s : Bool × List VMRegion) → foldl kernel_after (merged_if s) m ≡ merged_if (foldl freed_region s m)
kernel_end [] s = refl
kernel_end (r ∷ m) s = ap (λ (x : List VMRegion). foldl kernel_after x m) (kernel_next s r) ∙ kernel_end m (freed_region s r)

regions_commute : (s : Bool × List VMRegion) (r q : Region) → Unit {0} → freed_region (freed_region s r) q ≡ freed_region (freed_region s q) r
regions_commute s (kernel_region a n) (kernel_region c m) _ = λ i. (true, freed_comm c a s.1 i)
regions_commute s (kernel_region a n) (user_region c m) _ = refl
regions_commute s (user_region a n) (kernel_region c m) _ = refl
regions_commute s (user_region a n) (user_region c m) _ = refl

-- two free neighbours that a refused vmalloc left are merged by every order with a release of the kernel's, and by none without
kernels_alike : {m m' : List Region} → Permᴰ m m' → (k : List VMRegion) → foldl kernel_after k m ≡ foldl kernel_after k m'
kernels_alike {m} {m'} d k =
    kernel_end m (false, k) ∙ ap merged_if (one_end freed_region (λ _. Unit {0}) (λ _ _ _. tt) regions_commute d (false, k) tt) ∙ sym (kernel_end m' (false, k))

-- ---- the user's list

pub user_empty : {u : List MappedRegion} → UserList u [] → u ≡ []
user_empty {u} h = holds_nothing u (λ a n. by a n (holds a n u) refl)
  where
    by : (a n : ℕ) (x : Bool) → holds a n u ≡ x → holds a n u ≡ false
    by a n false e = e
    by a n true e = absurd (Memᴰ.not-nil (h.held a n e))

-- ---- every two orders

module _ {up : ℕ} {b : Board} {k : List VMRegion} {u : List MappedRegion} {l : List Region} {left : Leftover} (h : Inv up left b k u l) where
  pub order_end : {cs : List Call} (o : Order l cs) → Ended up left b k u o.0 cs
  order_end o = end_of o.2 (inv_perm (reordered o.1) h)

  pub one_board : {cs cs' : List Call} → Order l cs → Order l cs' → after b cs ≡ after b cs'
  one_board {cs} {cs'} o o' =
      let d = Permᴰ.trans (Permᴰ.symm (reordered o.1)) (reordered o'.1) in
      let e = order_end o in
      let e' = order_end o' in
      let mem = memory_end up b.root o.0 b.mem ∙ pages_end h.paged.account.order (perm_concat pages_of d) ∙ sym (memory_end up b.root o'.0 b.mem) in
      let ker = kernels_alike d k in
      let maps = user_empty e.inv.user_list ∙ sym (user_empty e'.inv.user_list) in
      e.leaves ∙ (λ i. board b (mem i) (ker i) (maps i)) ∙ sym e'.leaves

-- ---- and what holds besides while no call was turned away with 11 or 13

kernels_apart : (m : List Region) (k : List VMRegion) → Apart k → Apart (foldl kernel_after k m)
kernels_apart [] k h = h
kernels_apart (kernel_region a n ∷ m) k h = kernels_apart m (merge (freed_all a k)) (apart_merge (freed_all a k))
kernels_apart (user_region a n ∷ m) k h = kernels_apart m k h

pub ended_tidy : {up : ℕ} {b : Board} {k : List VMRegion} {u : List MappedRegion} {l : List Region} {ever : List ℕ} {left : Leftover} → Inv up left b k u l → Tidy up b k ever → (m : List Region)
    → Tidy up (ended up b k u m) (foldl kernel_after k m) ever
ended_tidy {up} {b} {k} h t m = record {
  apart = kernels_apart m k t.apart;
  tabled = rw (memory_end up b.root m b.mem) (free_all_tabled (concat pages_of m) h.paged.account.order t.tabled);
}
