-- The outcomes of one entry and of a whole walk, whatever the words are.
use Prim.Native.Nat.{ℕ, suc}
use mathlib.Core.Path.{◌≡◌, refl, ◌∙◌}
use mathlib.Core.Bool.{true, false}
use mathlib.Core.List.{List, [], ◌∷◌}
use mathlib.Core.Logic.{◌⊎◌, inl, inr}
use native.Mathlib.Omega.{arith}
use lib.Dec.{ltb}
use lib.ListN.{get_or}
use Rattle.std.specs.Prelude.{Ok, Err, Result}
use Rattle.answer.specs.declared.Refusal.{Refusal}
use Rattle.answer.specs.declared.Refusal.TheVariants.{NotMapped, TableOutside}
use Rattle.bits.specs.Bit.{flag}
use Rattle.bits.proofs.Choice.{pick_cases}
use Rattle.answer.specs.Outcomes.{and_then}
use Rattle.entry.specs.Entry.{frame_of}
use Rattle.frame.specs.Frames.{inside}
use Rattle.paging.specs.declared.Leaf.{Leaf}
use Rattle.paging.specs.declared.Leaf.TheVariants.{Large}
use Rattle.paging.specs.Walk.{place, present, entry_at, judge, leaf, address}
use Rattle.paging.proofs.Walk.{reach_end, reach_on, leaf_on}
use Rattle.intel.specs.Agreement.{NoHuge}

-- 14 is not 19
pub not_outside : ◌≡◌ {A = Result ℕ Refusal} (Err NotMapped) (Err TableOutside) → ⊥
not_outside e = cc

-- above the last level, an entry that is not HUGE is a table's
pub judge_plain : (j : ℕ) (is : List ℕ) (e : ℕ) (on : Result Leaf Refusal) → flag 7 e ≡ false → judge (j ∷ is) e on ≡ on
judge_plain j [] e on h = rw h
judge_plain j (k ∷ is) e on h = refl

-- an address, 14 or 19
abbrev pub Ending : Result ℕ Refusal → Type 0
Ending w = ((a : ℕ) × (w ≡ Ok a)) ⊎ (w ≡ Err NotMapped) ⊎ (w ≡ Err TableOutside)

module _ (ws : List ℕ) (start total : ℕ) where
  -- every outcome of one entry: its table is outside, it is absent or there is none, or it is present
  pub entry_outcomes : (t i : ℕ) (P : Result ℕ Refusal → Type 0) → (inside start total t ≡ false → P (Err TableOutside))
      → (inside start total t ≡ true → P (Err NotMapped)) → (inside start total t ≡ true → P (Ok (get_or ws (place start t i) 0)))
      → P (entry_at ws start total t i)
  unfolding entry_at present
  entry_outcomes t i P out none there =
      pick_cases P (inside start total t) _ _
      (λ h. pick_cases P (ltb i 512) _ _ (λ _. pick_cases P (flag 0 (get_or ws (place start t i) 0)) _ _ (λ _. there h) (λ _. none h)) (λ _. none h))
      out

  -- no HUGE entry in a table, and none below it
  pub plain_here : {up t : ℕ} (i e : ℕ) → NoHuge ws start total (suc up) t → entry_at ws start total t i ≡ Ok e → flag 7 e ≡ false
  plain_here {up} {t} i e h k = h.plain [] t i e (omega arith) (reach_end ws start total t refl) k

  pub plain_below : {up t : ℕ} (i e : ℕ) → NoHuge ws start total (suc up) t → entry_at ws start total t i ≡ Ok e → NoHuge ws start total up (frame_of e)
  plain_below {up} {t} i e h k = record { plain = λ is s j x l r. h.plain (i ∷ is) s j x (omega arith) (reach_on ws start total t refl e k ∙ r) }

  -- past an entry that is a table's
  pub leaf_plain : (t i j : ℕ) (is : List ℕ) (e : ℕ) → entry_at ws start total t i ≡ Ok e → flag 7 e ≡ false
      → leaf ws start total t (i ∷ j ∷ is) ≡ leaf ws start total (frame_of e) (j ∷ is)
  leaf_plain t i j is e h k = leaf_on ws start total t refl e h ∙ judge_plain j is e _ k

  -- every outcome of a walk
  pub outcomes : (v t : ℕ) (is : List ℕ) → Ending (address v (leaf ws start total t is))
  unfolding leaf
  outcomes v t [] = inr (inl refl)
  outcomes v t (i ∷ is) =
      entry_outcomes t i (λ (w : Result ℕ Refusal). Ending (address v (and_then w Err (λ e. judge is e (leaf ws start total (frame_of e) is)))))
      (λ _. inr (inr refl)) (λ _. inr (inl refl)) (λ _. judged is _ _ (outcomes v (frame_of (get_or ws (place start t i) 0)) is))
    where
      judged : (js : List ℕ) (e : ℕ) (on : Result Leaf Refusal) → Ending (address v on) → Ending (address v (judge js e on))
      judged [] e on o = inl (_, refl)
      judged (j ∷ []) e on o = pick_cases (λ (l : Result Leaf Refusal). Ending (address v l)) (flag 7 e) (Ok (Large e)) on (λ _. inl (_, refl)) (λ _. o)
      judged (j ∷ k ∷ js) e on o = o
