-- What the walks' proofs share: definitions by what code has in its hands.
use Prim.Native.Nat.{ℕ, zero, suc, ◌+◌, ◌-◌, ◌*◌, ◌/◌, ◌%◌, ◌^◌, ◌<◌, ◌≤◌}
use mathlib.Core.Path.{◌≡◌, refl, sym, ◌∙◌, ap, ap₂, subst}
use mathlib.Core.Bool.{true}
use mathlib.Core.List.{List, ◌∷◌, []}
use native.Mathlib.Omega.{arith}
use lib.ListN.{take}
use lib.Pow.{shr-shr}
use Rattle.std.specs.Prelude.{Result}
use Rattle.answer.specs.declared.Refusal.{Refusal}
use Rattle.std.specs.Prelude.{Ok, Err}
use Rattle.entry.specs.Entry.{addr_of, frame_of, index, indices}
use Rattle.entry.proofs.Entry.{frame_of_addr}
use Rattle.frame.specs.Frames.{inside, is_levels}
use Rattle.frame.proofs.Laws.{inside_from, inside_bit, levels_least, levels_most}
use Rattle.paging.specs.Walk.{reach, leaf, entry_at}
use native.Mathlib.Decide.{ℕ_discrete}
use lib.Dec.{lit<}
use Rattle.paging.proofs.Walk.{no_value, reach_end, reach_stop, reach_on, leaf_stop, leaf_above}
use Rattle.paging.proofs.Calls.{walked_cases}

-- what `entry_place` asks of an entry of a lent table
pub place_asks : (start total t i : ℕ) → total ≤ 8192 → inside start total t ≡ true → i < 512 → (start ≤ t) × ((t - start < 8192) × (i < 512))
place_asks start total t i few h k = (inside_from start total t h, (inside_bit start total t few h, k))

-- the frame that an entry names, from its address
pub shifted : (e : ℕ) {a : ℕ} → a ≡ addr_of e → a / 4096 ≡ frame_of e
shifted e h = ap (λ (x : ℕ). x / 4096) h ∙ frame_of_addr e

pub named : (e : ℕ) {a : ℕ} → a ≡ addr_of e → ◌≡◌ {A = Result ℕ Refusal} (Ok (frame_of e)) (Ok (a / 4096))
named e h = ap Ok (sym (shifted e h))

module _ (ws : List ℕ) (start total e : ℕ) {a : ℕ} (h : a ≡ addr_of e) (is : List ℕ) where
  pub reach_shifted : reach ws start total (frame_of e) is ≡ reach ws start total (a / 4096) is
  reach_shifted = ap (λ (f : ℕ). reach ws start total f is) (sym (shifted e h))

  pub leaf_shifted : leaf ws start total (frame_of e) is ≡ leaf ws start total (a / 4096) is
  leaf_shifted = ap (λ (f : ℕ). leaf ws start total f is) (sym (shifted e h))

-- the way by the address without its lowest index
index_above : (d v : ℕ) → index d (v / 2 ^ 9) ≡ index (suc d) v
index_above d v =
    let e : 9 + (12 + 9 * d) ≡ 12 + 9 * suc d = omega arith in
    ap (λ (x : ℕ). x % 512) (shr-shr v 9 (12 + 9 * d) ∙ ap (λ (y : ℕ). v / 2 ^ y) e)

ways_above : (n v k : ℕ) → k ≤ n → take k (indices n (v / 2 ^ 9)) ≡ take k (indices (suc n) v)
ways_above n v zero h = refl
ways_above zero v (suc k) h = absurd (omega arith)
ways_above (suc n) v (suc k) h = ap₂ (λ (i : ℕ) (l : List ℕ). i ∷ l) (index_above n v) (ways_above n v k (omega arith))

pub way_above : (up v : ℕ) → 1 ≤ up → take (up - 1) (indices (suc (up - 1)) (v / 2 ^ 9)) ≡ take (up - 1) (indices (suc up) v)
way_above up v h =
    let e : suc (up - 1) ≡ up = omega arith in
    ap (λ (n : ℕ). take (up - 1) (indices n (v / 2 ^ 9))) e ∙ ways_above up v (up - 1) (omega arith)

-- the same outcome, the same number
value_is : {a b : ℕ} → ◌≡◌ {A = Result ℕ Refusal} (Ok a) (Ok b) → a ≡ b
value_is e = cc

stop_is : {a : Refusal} {b : Refusal} → ◌≡◌ {A = Result ℕ Refusal} (Err a) (Err b) → a ≡ b
stop_is e = cc

-- ---- on a board of four levels or five, from the table of level 4 on

module _ (ws : List ℕ) (start total root v : ℕ) where
  -- the fifth level's entry
  fifth_on : (e : ℕ) → entry_at ws start total root (index 4 v) ≡ Ok e → (reach ws start total root (index 4 v ∷ []) ≡ Ok (frame_of e))
      × (leaf ws start total root (indices 5 v) ≡ leaf ws start total (frame_of e) (indices 4 v))
  fifth_on e h = (reach_on ws start total root refl e h ∙ reach_end ws start total (frame_of e) refl, leaf_above ws start total root refl e h (lit< tt))

  by_levels : (P : ℕ → Type 0) → P 4 → P 5 → (levels : ℕ) → is_levels levels ≡ true → P levels
  by_levels P four five levels h = go (ℕ_discrete levels 4)
    where
      go : Dec (levels ≡ 4) → P levels
      go (yes e) = subst P (sym e) four
      go (no d) = let e : 5 ≡ levels = omega (arith, levels_least levels h, levels_most levels h) in subst P e five

  -- where there is one, and where there is none
  pub fourth_on : (levels : ℕ) → is_levels levels ≡ true → (t : ℕ) → reach ws start total root (take (levels - 4) (indices 5 v)) ≡ Ok t
      → leaf ws start total root (indices levels v) ≡ leaf ws start total t (indices 4 v)
  fourth_on =
      by_levels (λ n. (t : ℕ) → reach ws start total root (take (n - 4) (indices 5 v)) ≡ Ok t → leaf ws start total root (indices n v) ≡ leaf ws start total t (indices 4 v))
      (λ t h. let e : root ≡ t = value_is (sym (reach_end ws start total root refl) ∙ h) in ap (λ f. leaf ws start total f (indices 4 v)) e)
      (λ t h.
      walked_cases (λ w. entry_at ws start total root (index 4 v) ≡ w → leaf ws start total root (indices 5 v) ≡ leaf ws start total t (indices 4 v))
      (entry_at ws start total root (index 4 v))
      (λ e _ q. let f = fifth_on e q in f.1 ∙ ap (λ x. leaf ws start total x (indices 4 v)) (value_is (sym f.0 ∙ h)))
      (λ n _ q. absurd (no_value (sym h ∙ reach_stop ws start total root refl n q))) refl)

  pub fourth_none : (levels : ℕ) → is_levels levels ≡ true → (n : Refusal) → reach ws start total root (take (levels - 4) (indices 5 v)) ≡ Err n
      → leaf ws start total root (indices levels v) ≡ Err n
  fourth_none =
      by_levels (λ k. (n : Refusal) → reach ws start total root (take (k - 4) (indices 5 v)) ≡ Err n → leaf ws start total root (indices k v) ≡ Err n)
      (λ n h. absurd (no_value (sym (reach_end ws start total root refl) ∙ h)))
      (λ n h.
      walked_cases (λ w. entry_at ws start total root (index 4 v) ≡ w → leaf ws start total root (indices 5 v) ≡ Err n)
      (entry_at ws start total root (index 4 v)) (λ e _ q. absurd (no_value (sym (fifth_on e q).0 ∙ h)))
      (λ k _ q. leaf_stop ws start total root refl k q ∙ ap Err (stop_is (sym (reach_stop ws start total root refl k q) ∙ h))) refl)
