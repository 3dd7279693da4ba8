-- Tables with no large page: no entry above the last level has HUGE. Then a leaf is found just where a page is reached.
use Prim.Native.Nat.{ℕ, suc, ◌*◌, ◌<◌, ◌≤◌}
use mathlib.Core.Path.{◌≡◌, refl, sym, ◌∙◌, ap}
use mathlib.Core.Bool.{Bool, true, false, true≢false}
use mathlib.Core.List.{List, [], ◌∷◌, ◌++◌, append_assoc}
use mathlib.Core.Logic.{⊎_elim}
use native.Mathlib.Omega.{arith}
use native.Mathlib.Decide.{ℕ_discrete}
use lib.ListN.{length, get_or, length-append}
use Rattle.std.specs.Prelude.{Ok, Err, Result}
use Rattle.answer.specs.declared.Refusal.{Refusal}
use Rattle.answer.specs.declared.Refusal.TheVariants.{NotMapped}
use Rattle.bits.specs.Bit.{flag}
use Rattle.answer.specs.Outcomes.{and_then}
use Rattle.entry.specs.Entry.{frame_of}
use Rattle.frame.specs.Frames.{inside}
use Rattle.paging.specs.declared.Leaf.{Leaf}
use Rattle.paging.specs.declared.Leaf.TheVariants.{Page}
use Rattle.paging.specs.Walk.{place, present, entry_at, reach, judge, leaf, address}
use Rattle.paging.proofs.Walk.{present_yes, present_no}
use Rattle.tree.proofs.Walks.{nowhere, reach_step, entry_agree}
use Rattle.tree.proofs.Tree.{Tree, idle_reach, stored, entry_now, entry_kept, reached, cut_reached}

pub record Plain (ws : List ℕ) (start total root n : ℕ) : Type 0 where
  pub plain : (p : List ℕ) (t i e : ℕ) → suc (length p) < n → reach ws start total root p ≡ Ok t → entry_at ws start total t i ≡ Ok e → flag 7 e ≡ false

-- ---- leaves are pages that are reached

-- what a path of n indices ends at: a page's entry, where its frame is reached, or the number that both stop with
pub data Ends : Result ℕ Refusal → Result Leaf Refusal → Type 0 where
  at_page : {f e : ℕ} → frame_of e ≡ f → Ends (Ok f) (Ok (Page e))
  at_none : {n : Refusal} → Ends (Err n) (Err n)

module _ {ws : List ℕ} {start total root n : ℕ} (w : Plain ws start total root n) where
  ends_below : (i : ℕ) (p a : List ℕ) (t : ℕ) → reach ws start total root a ≡ Ok t → length (a ++ (i ∷ p)) ≡ n
      → Ends (reach ws start total t (i ∷ p)) (leaf ws start total t (i ∷ p))
  unfolding leaf reach
  ends_below i [] a t ha la = go (entry_at ws start total t i)
    where
      go : (x : Result ℕ Refusal) → Ends (and_then x Err (λ e. Ok (frame_of e))) (and_then x Err (λ e. Ok (Page e)))
      go (Ok e) = at_page refl
      go (Err b) = at_none
  ends_below i (j ∷ p) a t ha la =
      go (entry_at ws start total t i) refl
      (λ e k. ends_below j p (a ++ (i ∷ [])) (frame_of e) (reach_step ws start total a root t i e ha k) (ap length (append_assoc a (i ∷ []) (j ∷ p)) ∙ la))
    where
      skip : (p : List ℕ) (e : ℕ) (on : Result Leaf Refusal) → flag 7 e ≡ false → judge (j ∷ p) e on ≡ on
      skip [] e on h = rw h
      skip (k ∷ p) e on h = refl

      go : (x : Result ℕ Refusal) → entry_at ws start total t i ≡ x
          → ((e : ℕ) → entry_at ws start total t i ≡ Ok e → Ends (reach ws start total (frame_of e) (j ∷ p)) (leaf ws start total (frame_of e) (j ∷ p)))
          → Ends (and_then x Err (λ e. reach ws start total (frame_of e) (j ∷ p))) (and_then x Err (λ e. judge (j ∷ p) e (leaf ws start total (frame_of e) (j ∷ p))))
      go (Ok e) k r = rw (skip p e _ (w.plain a t i e (omega (arith, la, length-append a (i ∷ j ∷ p))) ha k)) (r e k)
      go (Err b) k r = at_none

  pub leaf_ends : (p : List ℕ) → 0 < n → length p ≡ n → Ends (reach ws start total root p) (leaf ws start total root p)
  unfolding reach
  leaf_ends [] l h = absurd (omega arith)
  leaf_ends (i ∷ p) l h = ends_below i p [] root refl h

  -- what translates is reached
  pub leaf_reached : (p : List ℕ) (v y : ℕ) → 0 < n → length p ≡ n → address v (leaf ws start total root p) ≡ Ok y → (f : ℕ) × (reach ws start total root p ≡ Ok f)
  leaf_reached p v y l h k = go (leaf_ends p l h) refl k
    where
      go : {x : Result ℕ Refusal} {o : Result Leaf Refusal} → Ends x o → reach ws start total root p ≡ x → address v o ≡ Ok y → (f : ℕ) × (reach ws start total root p ≡ Ok f)
      go (at_page {f = f} g) a b = (f, a)
      go at_none a b = absurd (nowhere b)

  -- where no page is reached, nothing translates
  pub leaf_none : ((p : List ℕ) (f : ℕ) → length p ≡ n → reach ws start total root p ≡ Ok f → ⊥) → 0 < n → (p : List ℕ) → length p ≡ n
      → (a : Refusal) × (leaf ws start total root p ≡ Err a)
  leaf_none none l p h = go (leaf_ends p l h) refl refl
    where
      go : {x : Result ℕ Refusal} {o : Result Leaf Refusal} → Ends x o → reach ws start total root p ≡ x → leaf ws start total root p ≡ o → (a : Refusal) × (leaf ws start total root p ≡ Err a)
      go (at_page {f = f} g) a b = absurd (none p f h a)
      go (at_none {n = a}) c d = (a, d)

-- ---- what keeps tables plain

-- words of a frame that nothing reaches
pub idle_plain : (ws ws' : List ℕ) (start total root n f : ℕ)
    (rest : (t i : ℕ) → inside start total t ≡ true → i < 512 → (t ≡ f → ⊥) → get_or ws' (place start t i) 0 ≡ get_or ws (place start t i) 0)
    (new : (p : List ℕ) → length p ≤ n → reach ws start total root p ≡ Ok f → ⊥) → Plain ws start total root n → Plain ws' start total root n
idle_plain ws ws' start total root n f rest new w = record {
  plain = λ p t i e lp h k.
      let l : length p ≤ n = omega arith in
      let h' : reach ws start total root p ≡ Ok t = sym (idle_reach ws ws' start total root n f rest new p l) ∙ h in
      w.plain p t i e lp h' (sym (entry_agree ws ws' start total t i (λ a b. rest t i a b (λ d. new p l (h' ∙ ap Ok d)))) ∙ k);
}

-- the word e at entry j of table s, which is reached along q
module _ {ws bits : List ℕ} {start total root n : ℕ} (w : Tree ws bits start total root n) (enough : total * 512 ≤ length ws)
    (q : List ℕ) (s j : ℕ) (lq : length q < n) (hq : reach ws start total root q ≡ Ok s) (small : j < 512) (e : ℕ) (o : Plain ws start total root n) where
  -- an entry of a table that was reached: the one, or one that was there
  stored_entry : (low : flag 0 e ≡ true → suc (length q) < n → flag 7 e ≡ false) (p : List ℕ) (t i x : ℕ) → suc (length p) < n → reach ws start total root p ≡ Ok t
      → entry_at (stored ws start s j e) start total t i ≡ Ok x → flag 7 x ≡ false
  stored_entry low p t i x lp h k = go (ℕ_discrete t s) (ℕ_discrete i j)
    where
      other : (t ≡ s → i ≡ j → ⊥) → flag 7 x ≡ false
      other d = o.plain p t i x lp h (sym (entry_kept w enough q s j lq hq small e t i d) ∙ k)

      go : Dec (t ≡ s) → Dec (i ≡ j) → flag 7 x ≡ false
      go (no a) b = other (λ c _. a c)
      go (yes a) (no b) = other (λ _ c. b c)
      go (yes a) (yes b) =
          let pq : p ≡ q = w.once p q s (omega arith) (omega arith) (h ∙ ap Ok a) hq in
          let k' : present e ≡ Ok x = sym (entry_now w enough q s j lq hq small e) ∙ rw (a, b) at k in
          here pq k' (flag 0 e) refl
        where
          here : p ≡ q → present e ≡ Ok x → (y : Bool) → flag 0 e ≡ y → flag 7 x ≡ false
          here pq g true f =
              let z = present_yes e f in
              let xe : x ≡ e = cc in
              rw xe (low f (omega (arith, ap length pq)))
          here pq g false f = absurd (nowhere (sym (present_no e f) ∙ g))

  -- a new entry that leads to a frame with nothing below it
  pub grown_plain : (f : ℕ) (bit : flag 0 e ≡ true) (to : frame_of e ≡ f) (new : (p : List ℕ) → length p ≤ n → reach ws start total root p ≡ Ok f → ⊥)
      (blank : suc (length q) < n → (i : ℕ) → entry_at ws start total f i ≡ Err NotMapped) → (suc (length q) < n → flag 7 e ≡ false)
      → Plain (stored ws start s j e) start total root n
  grown_plain f bit to new blank low = record {
    plain = λ p t i x lp h k. ⊎_elim
        (λ c.
        let b : entry_at ws start total f i ≡ Err NotMapped = blank (omega (arith, ap length c.0, length-append q (j ∷ []), lp)) i in
        let u : entry_at (stored ws start s j e) start total f i ≡ entry_at ws start total f i =
        entry_kept w enough q s j lq hq small e f i (λ d _. new q (omega arith) (hq ∙ ap Ok (sym d))) in
        absurd (nowhere (sym b ∙ sym u ∙ ap (λ (y : ℕ). entry_at (stored ws start s j e) start total y i) (sym c.1) ∙ k)))
        (λ c. stored_entry (λ _ l. low l) p t i x lp c k)
        (reached w enough q s j lq hq small e f bit to new blank p t (omega arith) h);
  }

  -- an entry that is cleared
  pub cut_plain : flag 0 e ≡ false → Plain (stored ws start s j e) start total root n
  cut_plain off = record {
    plain = λ p t i x lp h k.
        stored_entry (λ b _. absurd (true≢false (sym b ∙ off))) p t i x lp (cut_reached w enough q s j lq hq small e off p t (omega arith) h).0 k;
  }
