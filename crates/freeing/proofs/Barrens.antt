-- Tables with one level below them, of which the first entries lead to no page: the pages below those are passed over, they stay so, and there is one more of them
-- once the pages below the next entry were freed.
use Prim.Native.Nat.{ℕ, zero, suc, ◌+◌, ◌-◌, ◌*◌, ◌<◌, ◌≤◌}
use mathlib.Core.Path.{◌≡◌, refl, sym, ◌∙◌, ap, ap₂, subst}
use mathlib.Core.Bool.{true}
use mathlib.Core.List.{List, [], ◌∷◌, ◌++◌}
use native.Mathlib.Decide.{ℕ_discrete, dec_lt}
use native.Mathlib.Nat.{suc-add, zero-add}
use native.Mathlib.Omega.{arith}
use lib.ListN.{get_or, set, take}
use lib.Seq.{get_or-set_other}
use Rattle.answer.specs.declared.Refusal.{Refusal}
use Rattle.std.specs.Prelude.{Ok, Err}
use Rattle.packed.proofs.RoundTrip.{zeros}
use Rattle.entry.specs.Entry.{index, indices}
use Rattle.frame.proofs.Laws.{inside_from}
use Rattle.paging.specs.Map.{Memory, start_frame, total_of}
use Rattle.paging.specs.Pages.{free_pages}
use Rattle.tree.proofs.Paths.{path}
use Rattle.tree.proofs.Walks.{reach_append}
use Rattle.tree.proofs.Ordered.{reach_in, inside_in}
use Rattle.spans.specs.Spans.{to_end}
use Rattle.spans.proofs.Addresses.{same_above, span_above}
use Rattle.freeing.specs.Blocks.{Barren}
use Rattle.freeing_runs.proofs.Less.{Less, less_reach, less_stop}
use Rattle.freeing_runs.proofs.Runs.{pass_over, pages_gone, pages_less}

-- ---- the way to a table with d levels below it, and on from there

indices_split : (n v k : ℕ) → take k (indices (k + n) v) ++ indices n v ≡ indices (k + n) v
indices_split n v zero = rw (zero-add n)
indices_split n v (suc k) = rw (suc-add k n) (ap (λ (l : List ℕ). index (k + n) v ∷ l) (indices_split n v k))

path_at : (up d v : ℕ) → d ≤ up → take (up - d) (path up v) ++ indices (suc d) v ≡ path up v
path_at up d v h = let e : (up - d) + suc d ≡ suc up = omega arith in rw e at (indices_split (suc d) v (up - d))

-- the pages before the end of the table's span are on the same way
on_from : (up d : ℕ) → d ≤ up → (m : Memory) (root v t : ℕ) → reach_in m root (take (up - d) (path up v)) ≡ Ok t
    → (j : ℕ) → j < to_end (suc d) v → reach_in m root (path up (v + j * 4096)) ≡ reach_in m t (indices (suc d) (v + j * 4096))
on_from up d low m root v t way j l =
    let w = v + j * 4096 in
    let same : take (up - d) (path up w) ≡ take (up - d) (path up v) = same_above (suc up) (suc d) w v (span_above (suc d) v j l) (up - d) (omega arith) in
    ap (reach_in m root) (sym (path_at up d w low)) ∙ reach_append m.words (start_frame m) (total_of m) (take (up - d) (path up w)) (indices (suc d) w) root
    ∙ rw (same, way)

-- ---- what `barren` counts

abbrev BarrenIn : Memory → List ℕ → Type 0
BarrenIn m ks = Barren m.words (start_frame m) (total_of m) ks

none_counted : (n j : ℕ) → get_or (zeros n) j 0 ≡ 0
none_counted zero j = refl
none_counted (suc n) zero = refl
none_counted (suc n) (suc j) = none_counted n j

pub barren_start : (n : ℕ) (ws : List ℕ) (start total : ℕ) → Barren ws start total (zeros n)
barren_start n ws start total = record { few = λ j. omega (arith, none_counted n j); none = λ j v h. absurd (omega (arith, none_counted n j)) }

barren_less : {m m' : Memory} {ks : List ℕ} → Less m m' → BarrenIn m ks → BarrenIn m' ks
barren_less {m} {m'} f b = record {
  few = b.few;
  none = λ j v h.
      let s = b.none j v h in
      subst (λ (t : ℕ). (a : Refusal) × (reach_in m' (t + j) (indices 2 v) ≡ Err a)) (sym f.start)
      (less_stop f (start_frame m + j) (indices 2 v) s.0 s.1);
}

freed_less : (up : ℕ) (m : Memory) (root v n : ℕ) {m' : Memory} → m' ≡ free_pages up m root v n → Less m m'
freed_less up m root v n e = subst (Less m) (sym e) (pages_less up root n m v)

pub barren_left : (up : ℕ) (m : Memory) (root v n : ℕ) {ks : List ℕ} {m' : Memory} → m' ≡ free_pages up m root v n → BarrenIn m ks → BarrenIn m' ks
barren_left up m root v n e b = barren_less (freed_less up m root v n e) b

set_most : (ks : List ℕ) (p x : ℕ) → get_or (set ks p x) p 0 ≤ x
set_most [] p x = omega arith
set_most (k ∷ ks) zero x = omega arith
set_most (k ∷ ks) (suc p) x = set_most ks p x

-- below the entries that are counted, all pages are passed over
pub counted_fit : (v k : ℕ) → k ≤ 512 → index 1 v < k → (512 - k) * 512 < to_end 2 v
counted_fit v k few h = omega arith

counted : (v k j : ℕ) → k ≤ 512 → j < to_end 2 v - (512 - k) * 512 → index 1 (v + j * 4096) < k
counted v k j few h = omega arith

-- the pages of one entry of a table with one level below it
module _ (v q : ℕ) (first : index 0 v ≡ 0) (small : q < 512) where
  same_entry : index 1 (v + q * 4096) ≡ index 1 v
  same_entry = omega arith

  its_page : index 0 (v + q * 4096) ≡ q
  its_page = omega arith

module _ (up : ℕ) (low : 1 ≤ up) (m : Memory) (root v t : ℕ) {ks : List ℕ} (b : BarrenIn m ks) (ins : inside_in m t ≡ true)
    (way : reach_in m root (take (up - 1) (path up v)) ≡ Ok t) where
  table : start_frame m + (t - start_frame m) ≡ t
  table = omega (arith, inside_from (start_frame m) (total_of m) t ins)

  pub barren_pass : (k : ℕ) → k ≡ get_or ks (t - start_frame m) 0 → (n : ℕ) → n ≤ to_end 2 v - (512 - k) * 512 → m ≡ free_pages up m root v n
  barren_pass k c n l =
      let few : k ≤ 512 = omega (arith, b.few (t - start_frame m)) in
      sym (pass_over up root m n v (λ j x.
      let w = v + j * 4096 in
      let low-k : index 1 w < k = counted v k j few (omega arith) in
      let s = b.none (t - start_frame m) w (omega arith) in
      (s.0, on_from up 1 low m root v t way j (omega arith) ∙ ap (λ (x : ℕ). reach_in m x (indices 2 w)) (sym table) ∙ s.1)))

  -- the next entry is counted once its pages were freed, if the table is still on their way
  pub barren_more : (n : ℕ) {m' : Memory} → m' ≡ free_pages up m root v n → n ≤ to_end 1 v → n ≡ 512 → {s : ℕ} → reach_in m' root (take (up - 1) (path up v)) ≡ Ok s
      → (i : ℕ) → i ≡ index 1 v → i ≡ get_or ks (t - start_frame m) 0 → BarrenIn m' (set ks (t - start_frame m) (i + 1))
  barren_more n {m'} e l w {s} still i at next = record { few = λ j. few j (ℕ_discrete j p); none = λ j a h. none j a h (ℕ_discrete j p) }
    where
      p : ℕ
      p = t - start_frame m

      less : Less m m'
      less = freed_less up m root v n e

      old : BarrenIn m' ks
      old = barren_less less b

      same : s ≡ t
      same = let k = sym (less_reach less root (take (up - 1) (path up v)) s still) ∙ way in cc

      few : (j : ℕ) → Dec (j ≡ p) → get_or (set ks p (i + 1)) j 0 ≤ 512
      few j (yes q) = rw q (omega (arith, set_most ks p (i + 1)))
      few j (no d) = omega (arith, get_or-set_other ks p j (i + 1) 0 d, b.few j)

      gone : (a : ℕ) → index 1 a ≡ i → (c : Refusal) × (reach_in m' t (indices 2 a) ≡ Err c)
      gone a k =
          let q = index 0 a in
          let x = v + q * 4096 in
          let first : index 0 v ≡ 0 = omega arith in
          let small : q < 512 = omega arith in
          let page : indices 2 x ≡ indices 2 a =
          ap₂ (λ (y z : ℕ). y ∷ z ∷ []) (same_entry v q first small ∙ sym at ∙ sym k) (its_page v q first small) in
          let g = subst (λ (y : Memory). (c : Refusal) × (reach_in y root (path up x) ≡ Err c)) (sym e) (pages_gone up root n m v q (omega arith)) in
          (g.0, ap (reach_in m' t) (sym page) ∙ sym (on_from up 1 low m' root v t (still ∙ ap Ok same) q (omega arith)) ∙ g.1)

      none : (j a : ℕ) → index 1 a < get_or (set ks p (i + 1)) j 0 → Dec (j ≡ p) → (c : Refusal) × (reach_in m' (start_frame m' + j) (indices 2 a) ≡ Err c)
      none j a h (no d) = old.none j a (omega (arith, get_or-set_other ks p j (i + 1) 0 d))
      none j a h (yes q) = by (dec_lt (index 1 a) i)
        where
          by : Dec (index 1 a < i) → (c : Refusal) × (reach_in m' (start_frame m' + j) (indices 2 a) ≡ Err c)
          by (yes y) = old.none j a (rw q (omega arith))
          by (no y) =
              let top : index 1 a < i + 1 = omega (arith, rw q at h, set_most ks p (i + 1)) in
              let g = gone a (omega arith) in
              let f : start_frame m' + j ≡ t = omega (arith, inside_from (start_frame m) (total_of m) t ins, less.start) in
              (g.0, ap (λ (x : ℕ). reach_in m' x (indices 2 a)) f ∙ g.1)
