-- No walk reads WRITABLE: over words that differ in bit 1 at most, each walk comes to the same frame, and each address to the same translation. Loops and shared
-- tables make no difference.
use Prim.Native.Nat.{ℕ, suc}
use mathlib.Core.Path.{◌≡◌, refl, sym, ◌∙◌, ap}
use mathlib.Core.Bool.{Bool, true, false}
use mathlib.Core.List.{List, [], ◌∷◌}
use lib.Dec.{ltb}
use lib.ListN.{length, get_or, take}
use Rattle.std.specs.Prelude.{Ok, Err, Result}
use Rattle.answer.specs.declared.Refusal.{Refusal}
use Rattle.answer.specs.declared.Refusal.TheVariants.{BrokenRecord, NotMapped, TableOutside}
use Rattle.bits.specs.Bit.{pick, flag, unless}
use Rattle.answer.specs.Outcomes.{and_then}
use Rattle.entry.specs.Entry.{frame_of, index, indices}
use Rattle.entry.proofs.Writable.{Alike, alike_present, alike_flag, alike_frame}
use Rattle.frame.specs.Frames.{inside}
use Rattle.paging.specs.declared.Leaf.{Leaf}
use Rattle.paging.specs.declared.Leaf.TheVariants.{Large}
use Rattle.paging.specs.Walk.{place, present, entry_at, reach, judge, leaf, address}
use Rattle.paging.specs.Calls.{lent_walk, translate}
use Rattle.paging.specs.Protect.{page_place}

-- the same stop, or words that differ in bit 1 at most
abbrev SameStep : Result ℕ Refusal → Result ℕ Refusal → Type 0
SameStep (Ok e) (Ok e') = Alike e e'
SameStep (Err n) (Err n') = n ≡ n'
SameStep (Ok e) (Err n) = ⊥
SameStep (Err n) (Ok e) = ⊥

-- .. lead to the same, where what follows does
same_on : {A : Type 0} (x x' : Result ℕ Refusal) (stop : Refusal → A) (k k' : ℕ → A) → SameStep x x' → ((e e' : ℕ) → Alike e e' → k' e' ≡ k e) → and_then x' stop k' ≡ and_then x stop k
same_on (Ok e) (Ok e') stop k k' s h = h e e' s
same_on (Err n) (Err n') stop k k' s h = ap stop (sym s)
same_on (Ok e) (Err n) stop k k' s h = absurd s
same_on (Err n) (Ok e) stop k k' s h = absurd s

-- a translation that ends here, or goes on
judge_alike : (v : ℕ) (is : List ℕ) (e e' : ℕ) (on on' : Result Leaf Refusal) → Alike e e' → address v on' ≡ address v on → address v (judge is e' on') ≡ address v (judge is e on)
judge_alike v [] e e' on on' a k = rw (alike_frame a)
judge_alike v (j ∷ []) e e' on on' a k = rw (alike_flag a 5) (go (flag 7 e))
  where
    go : (b : Bool) → address v (pick b (Ok (Large e')) on') ≡ address v (pick b (Ok (Large e)) on)
    go true = rw (alike_frame a)
    go false = k
judge_alike v (j ∷ l ∷ is) e e' on on' a k = k

-- words that differ in bit 1 at most, each of them
pub record AlikeWords (ws ws' : List ℕ) : Type 0 where
  pub word : (x : ℕ) → Alike (get_or ws x 0) (get_or ws' x 0)

module _ {ws ws' : List ℕ} (h : AlikeWords ws ws') (start total : ℕ) where
  step_alike : (t i : ℕ) → SameStep (entry_at ws start total t i) (entry_at ws' start total t i)
  unfolding entry_at present
  step_alike t i = by-table (inside start total t)
    where
      by_word : (b : Bool) → flag 0 (get_or ws (place start t i) 0) ≡ b
          → SameStep (pick b (Ok (get_or ws (place start t i) 0)) (Err NotMapped)) (pick (flag 0 (get_or ws' (place start t i) 0)) (Ok (get_or ws' (place start t i) 0)) (Err NotMapped))
      by_word true e = rw (alike_present (h.word (place start t i)) ∙ e) (h.word (place start t i))
      by_word false e = rw (alike_present (h.word (place start t i)) ∙ e) refl

      by_index : (b : Bool) → SameStep (pick b (pick (flag 0 (get_or ws (place start t i) 0)) (Ok (get_or ws (place start t i) 0)) (Err NotMapped)) (Err NotMapped))
          (pick b (pick (flag 0 (get_or ws' (place start t i) 0)) (Ok (get_or ws' (place start t i) 0)) (Err NotMapped)) (Err NotMapped))
      by_index true = by_word (flag 0 (get_or ws (place start t i) 0)) refl
      by_index false = refl

      by-table : (b : Bool)
          → SameStep (pick b (pick (ltb i 512) (pick (flag 0 (get_or ws (place start t i) 0)) (Ok (get_or ws (place start t i) 0)) (Err NotMapped)) (Err NotMapped)) (Err TableOutside))
          (pick b (pick (ltb i 512) (pick (flag 0 (get_or ws' (place start t i) 0)) (Ok (get_or ws' (place start t i) 0)) (Err NotMapped)) (Err NotMapped)) (Err TableOutside))
      by-table true = by_index (ltb i 512)
      by-table false = refl

  pub reach_alike : (p : List ℕ) (t : ℕ) → reach ws' start total t p ≡ reach ws start total t p
  unfolding reach
  reach_alike [] t = refl
  reach_alike (i ∷ is) t =
      same_on (entry_at ws start total t i) (entry_at ws' start total t i) Err (λ e. reach ws start total (frame_of e) is) (λ e. reach ws' start total (frame_of e) is)
      (step_alike t i) (λ e e' a. ap (λ (f : ℕ). reach ws' start total f is) (alike_frame a) ∙ reach_alike is (frame_of e))

  -- the page's last entry stands at the same place
  pub place_alike : (up root v : ℕ) → page_place up ws' start total root v ≡ page_place up ws start total root v
  unfolding page_place
  place_alike up root v = rw (reach_alike (take up (indices (suc up) v)) root) (go (reach ws start total root (take up (indices (suc up) v))))
    where
      go : (x : Result ℕ Refusal)
          → and_then {A = Result ℕ Refusal} x Err (λ t. and_then (entry_at ws' start total t (index 0 v)) Err (λ _. Ok (place start t (index 0 v))))
          ≡ and_then {A = Result ℕ Refusal} x Err (λ t. and_then (entry_at ws start total t (index 0 v)) Err (λ _. Ok (place start t (index 0 v))))
      go (Ok t) =
          same_on (entry_at ws start total t (index 0 v)) (entry_at ws' start total t (index 0 v)) Err (λ _. Ok (place start t (index 0 v)))
          (λ _. Ok (place start t (index 0 v))) (step_alike t (index 0 v)) (λ _ _ _. refl)
      go (Err n) = refl

  leaf_alike : (v : ℕ) (p : List ℕ) (t : ℕ) → address v (leaf ws' start total t p) ≡ address v (leaf ws start total t p)
  unfolding leaf
  leaf_alike v [] t = refl
  leaf_alike v (i ∷ is) t =
      go (entry_at ws start total t i) (entry_at ws' start total t i) (step_alike t i) (λ f. leaf_alike v is f)
    where
      go : (x x' : Result ℕ Refusal) → SameStep x x' → ((f : ℕ) → address v (leaf ws' start total f is) ≡ address v (leaf ws start total f is))
          → address v (and_then x' Err (λ e. judge is e (leaf ws' start total (frame_of e) is))) ≡ address v (and_then x Err (λ e. judge is e (leaf ws start total (frame_of e) is)))
      go (Ok e) (Ok e') a r =
          judge_alike v is e e' _ _ a (ap (λ (f : ℕ). address v (leaf ws' start total f is)) (alike_frame a) ∙ r (frame_of e))
      go (Err n) (Err n') a r = rw a
      go (Ok e) (Err n) a r = absurd a
      go (Err n) (Ok e) a r = absurd a

  pub translate_alike : length ws' ≡ length ws → (levels root v : ℕ) → translate levels ws' start total root v ≡ translate levels ws start total root v
  unfolding translate
  translate_alike n levels root v =
      rw n (ap (λ (o : Result ℕ Refusal). unless (lent_walk levels (length ws) start total root) (Err BrokenRecord) o) (leaf_alike v (indices levels v) root))
