-- Runs of pages freed: in parts, over pages that are not mapped, over more pages than there are, and by the leaves of one table.
use Prim.Native.Nat.{ℕ, zero, suc, ◌+◌, ◌-◌, ◌*◌, ◌^◌, ◌<◌, ◌≤◌, min}
use mathlib.Core.Path.{◌≡◌, refl, sym, ◌∙◌, ap}
use mathlib.Core.Bool.{true}
use mathlib.Core.List.{List, ◌∷◌, ◌++◌}
use mathlib.Core.Logic.{inl, inr, ⊎_elim}
use native.Mathlib.Nat.{suc-add, zero-add, add-zero}
use native.Mathlib.Numerals.{add-one}
use native.Mathlib.Decide.{dec_le}
use native.Mathlib.Omega.{arith}
use lib.ListN.{get_or}
use lib.Pow.{pow_pos}
use lib.Seq.{get_or-set_other}
use Rattle.answer.specs.declared.Refusal.{Refusal}
use Rattle.std.specs.Prelude.{Ok, Err}
use Rattle.bits.specs.Bit.{flag}
use Rattle.bits.proofs.Choice.{pick_cases}
use Rattle.frame.specs.Frames.{inside}
use Rattle.frame.proofs.Laws.{inside_from}
use Rattle.paging.specs.Walk.{place, reach}
use Rattle.paging.specs.Map.{Memory, memory, start_frame, total_of, Left, take_leaf}
use Rattle.paging.specs.Pages.{freed, free_page, free_pages}
use Rattle.paging.proofs.Map.{unmap_entry_take}
use Rattle.tree.proofs.Paths.{path, upper, last, last_small}
use Rattle.tree.proofs.Walks.{place_table, place_index, same_reach, same_along}
use Rattle.tree.proofs.Ordered.{reach_in, inside_in}
use Rattle.tree.proofs.Freeing.{free_none}
use Rattle.freeing_runs.specs.Freeing.{free_leaf, free_leaves}
use Rattle.spans.specs.Spans.{Off}
use Rattle.spans.proofs.Addresses.{page_again, last_next, upper_next}
use Rattle.freeing_runs.proofs.Less.{Less, less_refl, less_trans, less_reach, less_stop, leaf_less, free_less, free_gone}

-- ---- one part after the other

pub free_pages_add : (up root b a : ℕ) (m : Memory) (v : ℕ) → free_pages up m root v (a + b) ≡ free_pages up (free_pages up m root v a) root (v + a * 4096) b
unfolding free_pages
free_pages_add up root b zero m v =
    let e : v ≡ v + 0 * 4096 = omega arith in
    rw (zero-add b) (ap (λ (x : ℕ). free_pages up m root x b) e)
free_pages_add up root b (suc a) m v =
    let e : (v + 4096) + a * 4096 ≡ v + suc a * 4096 = omega arith in
    rw (suc-add a b)
    (free_pages_add up root b a (free_page up m root v) (v + 4096)
    ∙ ap (λ (x : ℕ). free_pages up (free_pages up (free_page up m root v) root (v + 4096) a) root x b) e)

pub pages_less : (up root n : ℕ) (m : Memory) (v : ℕ) → Less m (free_pages up m root v n)
unfolding free_pages
pages_less up root zero m v = less_refl m
pages_less up root (suc n) m v = less_trans (free_less up m root v) (pages_less up root n (free_page up m root v) (v + 4096))

-- ---- pages that are not mapped

-- none of k pages from v on is
abbrev pub Unmapped : ℕ → Memory → ℕ → ℕ → ℕ → Type 0
Unmapped up m root v k = (j : ℕ) → j < k → (a : Refusal) × (reach_in m root (path up (v + j * 4096)) ≡ Err a)

-- they are passed over
pub pass_over : (up root : ℕ) (m : Memory) (k v : ℕ) → Unmapped up m root v k → free_pages up m root v k ≡ m
unfolding free_pages
pass_over up root m zero v off = refl
pass_over up root m (suc k) v off =
    let e : v + 0 * 4096 ≡ v = omega arith in
    let h = off 0 (omega arith) in
    let same : free_page up m root v ≡ m = free_none up m root v h.0 (rw e at h.1) in
    rw same (pass_over up root m k (v + 4096) (λ j l.
    let s : v + suc j * 4096 ≡ (v + 4096) + j * 4096 = omega arith in
    let g = off (suc j) (omega arith) in (g.0, rw s at g.1)))

-- and those that were freed are not mapped
pub pages_gone : (up root n : ℕ) (m : Memory) (v : ℕ) → Unmapped up (free_pages up m root v n) root v n
unfolding free_pages
pages_gone up root zero m v j l = absurd (omega arith)
pages_gone up root (suc n) m v zero l =
    let e : v + 0 * 4096 ≡ v = omega arith in
    let g = free_gone up m root v in
    less_stop (pages_less up root n (free_page up m root v) (v + 4096)) root (path up (v + 0 * 4096)) g.0
    (ap (λ (x : ℕ). reach_in (free_page up m root v) root (path up x)) e ∙ g.1)
pages_gone up root (suc n) m v (suc j) l =
    let s : (v + 4096) + j * 4096 ≡ v + suc j * 4096 = omega arith in
    let g = pages_gone up root n (free_page up m root v) (v + 4096) j (omega arith) in
    (g.0, rw s at g.1)

-- ---- more pages than there are: the indices come round again

module _ (up root : ℕ) (m : Memory) (v : ℕ) where
  once_more : (n : ℕ) → 2 ^ (9 * suc up) ≤ n → free_pages up m root v (n + 1) ≡ free_pages up m root v n
  once_more n h =
      let w = 2 ^ (9 * suc up) in
      let back : v + n * 4096 ≡ (v + (n - w) * 4096) + w * 4096 = omega arith in
      let g = pages_gone up root n m v (n - w) (omega (arith, pow_pos (9 * suc up))) in
      let same : path up (v + n * 4096) ≡ path up (v + (n - w) * 4096) = ap (path up) back ∙ page_again (suc up) (v + (n - w) * 4096) in
      free_pages_add up root 1 n m v
      ∙ pass_over up root (free_pages up m root v n) 1 (v + n * 4096)
      (λ j l.
      let e : (v + n * 4096) + j * 4096 ≡ v + n * 4096 = omega arith in
      (g.0, ap (reach_in (free_pages up m root v n) root) (ap (path up) e ∙ same) ∙ g.1))

  past_all : (k : ℕ) → free_pages up m root v (2 ^ (9 * suc up) + k) ≡ free_pages up m root v (2 ^ (9 * suc up))
  past_all zero = ap (free_pages up m root v) (add-zero (2 ^ (9 * suc up)))
  past_all (suc k) =
      let e : 2 ^ (9 * suc up) + suc k ≡ 2 ^ (9 * suc up) + k + 1 = omega arith in
      ap (free_pages up m root v) e ∙ once_more (2 ^ (9 * suc up) + k) (omega arith) ∙ past_all k

  pub free_all : (n : ℕ) → free_pages up m root v n ≡ free_pages up m root v (min n (2 ^ (9 * suc up)))
  free_all n = go (dec_le n (2 ^ (9 * suc up)))
    where
      go : Dec (n ≤ 2 ^ (9 * suc up)) → free_pages up m root v n ≡ free_pages up m root v (min n (2 ^ (9 * suc up)))
      go (yes l) = ap (free_pages up m root v) (omega arith)
      go (no l) =
          let e : n ≡ 2 ^ (9 * suc up) + (n - 2 ^ (9 * suc up)) = omega arith in
          let s : 2 ^ (9 * suc up) ≡ min n (2 ^ (9 * suc up)) = omega arith in
          ap (free_pages up m root v) e ∙ past_all (n - 2 ^ (9 * suc up)) ∙ ap (free_pages up m root v) s

-- ---- the leaves of one table

-- a leaf freed changes its own entry alone
leaf_rest : (m : Memory) (t i s j : ℕ) → inside_in m t ≡ true → i < 512 → inside_in m s ≡ true → j < 512 → ((s ≡ t) × (j ≡ i) → ⊥)
    → get_or (free_leaf m t i).words (place (start_frame m) s j) 0 ≡ get_or m.words (place (start_frame m) s j) 0
unfolding free_leaf take_leaf
leaf_rest m t i s j it li is lj d =
    let P : Left → Type 0 = λ l. get_or l.words (place (start_frame m) s j) 0 ≡ get_or m.words (place (start_frame m) s j) 0 in
    pick_cases P (inside (start_frame m) (total_of m) t) _ _
    (λ _. pick_cases P (flag 0 (get_or m.words (place (start_frame m) t i) 0)) _ _
    (λ _. get_or-set_other m.words (place (start_frame m) t i) (place (start_frame m) s j) 0 0 (λ e.
    let a = inside_from (start_frame m) (total_of m) t it in
    let b = inside_from (start_frame m) (total_of m) s is in
    d (place_table (start_frame m) t i s j a b li lj e, place_index (start_frame m) t i s j a b li lj e)))
    (λ _. refl)) (λ _. refl)

-- no entry on the way to page v, but for the last of its k leaves, is one of those that are freed
abbrev pub Apart : ℕ → Memory → ℕ → ℕ → ℕ → ℕ → Type 0
Apart up m root v t k = (a : List ℕ) (i : ℕ) (r : List ℕ) → upper up v ≡ a ++ (i ∷ r) → reach_in m root a ≡ Ok t → Off i (last up v) k

-- then the way to the next page is the same
way_next : (up root : ℕ) (m : Memory) (v t k : ℕ) → reach_in m root (upper up v) ≡ Ok t → inside_in m t ≡ true → Apart up m root v t (suc (suc k))
    → reach_in (free_leaf m t (last up v)) root (upper up v) ≡ Ok t
way_next up root m v t k way ins apart =
    let f = leaf_less m t (last up v) in
    let ws' = (free_leaf m t (last up v)).words in
    let same : reach ws' (start_frame m) (total_of m) root (upper up v) ≡ reach_in m root (upper up v) =
    same_reach m.words ws' (start_frame m) (total_of m) (upper up v) root
    (same_along m.words ws' (start_frame m) (total_of m) (λ s j. (s ≡ t) × (j ≡ last up v))
    (λ s j is lj d. leaf_rest m t (last up v) s j ins (last_small up v) is lj d) (upper up v) root
    (λ a i r s e h _ _ d. ⊎_elim (λ l. omega (arith, d.1)) (λ l. omega (arith, d.1)) (apart a i r e (h ∙ ap Ok d.0)))) in
    rw (f.start, f.total) (same ∙ way)

leaf_is : (up root : ℕ) (m : Memory) (v t : ℕ) → reach_in m root (upper up v) ≡ Ok t → free_page up m root v ≡ free_leaf m t (last up v)
unfolding free_page free_leaf
leaf_is up root m v t way =
    ap (λ (l : Left). memory l.words (freed l.walked m.frames)) (unmap_entry_take m.words (start_frame m) (total_of m) root (upper up v) (last up v) t way)

pub leaves_are : (up root k : ℕ) (m : Memory) (v t : ℕ) → reach_in m root (upper up v) ≡ Ok t → inside_in m t ≡ true → last up v + k ≤ 512 → Apart up m root v t k
    → free_pages up m root v k ≡ free_leaves m t (last up v) k
unfolding free_pages free_leaves
leaves_are up root zero m v t way ins fit apart = refl
leaves_are up root (suc zero) m v t way ins fit apart = leaf_is up root m v t way
leaves_are up root (suc (suc k)) m v t way ins fit apart =
    let m' = free_leaf m t (last up v) in
    let f = leaf_less m t (last up v) in
    let u : upper up (v + 4096) ≡ upper up v = upper_next up v 1 (omega arith) in
    let n : last up (v + 4096) ≡ suc (last up v) = last_next up v 1 (omega arith) ∙ add-one (last up v) in
    rw (leaf_is up root m v t way)
    (leaves_are up root (suc k) m' (v + 4096) t (ap (reach_in m' root) u ∙ way_next up root m v t k way ins apart) (rw (f.start, f.total) ins) (omega arith)
    (λ a i r e h. ⊎_elim (λ l. inl (omega arith)) (λ l. inr (omega arith)) (apart a i r (sym u ∙ e) (less_reach f root a t h)))
    ∙ ap (λ (x : ℕ). free_leaves m' t x (suc k)) n)
