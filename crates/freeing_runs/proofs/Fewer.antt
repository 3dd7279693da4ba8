-- Words with fewer present entries than others, as they are once entries are set to 0: what they reach was reached before.
use Prim.Native.Nat.{ℕ, zero, suc}
use mathlib.Core.Path.{◌≡◌, refl, sym, ◌∙◌, ap, subst}
use mathlib.Core.Bool.{true, false≢true}
use mathlib.Core.List.{List, [], ◌∷◌}
use mathlib.Core.Logic.{◌⊎◌, inl, inr, ⊎_elim}
use lib.ListN.{get_or, set}
use Rattle.std.specs.Prelude.{Ok, Err, Result}
use Rattle.answer.specs.declared.Refusal.{Refusal}
use Rattle.bits.specs.Bit.{flag}
use Rattle.entry.specs.Entry.{frame_of}
use Rattle.entry.proofs.Entry.{flag_zero}
use Rattle.answer.specs.Outcomes.{and_then}
use Rattle.paging.specs.Walk.{place, entry_at, reach}
use Rattle.tree.proofs.Walks.{nowhere, entry_cases, entry_there}

-- each present entry of ws' is one of ws
pub record Fewer (ws ws' : List ℕ) : Type 0 where
  pub from : (x : ℕ) → flag 0 (get_or ws' x 0) ≡ true → get_or ws' x 0 ≡ get_or ws x 0

pub fewer_refl : (ws : List ℕ) → Fewer ws ws
fewer_refl ws = record { from = λ x h. refl }

pub fewer_trans : {a b c : List ℕ} → Fewer a b → Fewer b c → Fewer a c
fewer_trans f g = record { from = λ x h. g.from x h ∙ f.from x (subst (λ (n : ℕ). flag 0 n ≡ true) (g.from x h) h) }

-- a word set to 0
set_zero : (ws : List ℕ) (p x : ℕ) → (get_or (set ws p 0) x 0 ≡ 0) ⊎ (get_or (set ws p 0) x 0 ≡ get_or ws x 0)
set_zero [] p x = inr refl
set_zero (w ∷ ws) zero zero = inl refl
set_zero (w ∷ ws) zero (suc x) = inr refl
set_zero (w ∷ ws) (suc p) zero = inr refl
set_zero (w ∷ ws) (suc p) (suc x) = set_zero ws p x

pub fewer_set : (ws : List ℕ) (p : ℕ) → Fewer ws (set ws p 0)
fewer_set ws p =
    record { from = λ x h. ⊎_elim (λ e. absurd (false≢true (sym (flag_zero 0) ∙ ap (flag 0) (sym e) ∙ h))) (λ e. e) (set_zero ws p x) }

-- ---- walks

module _ {ws ws' : List ℕ} (f : Fewer ws ws') (start total : ℕ) where
  pub fewer_entry : (t i e : ℕ) → entry_at ws' start total t i ≡ Ok e → entry_at ws start total t i ≡ Ok e
  fewer_entry t i e h =
      let c = entry_cases ws' start total t i e h in
      let w : e ≡ get_or ws (place start t i) 0 = sym c.word ∙ f.from _ (rw c.word c.bit) in
      entry_there ws start total t i c.table c.small (rw w at c.bit) ∙ ap Ok (sym w)

  pub fewer_reach : (p : List ℕ) (t g : ℕ) → reach ws' start total t p ≡ Ok g → reach ws start total t p ≡ Ok g
  unfolding reach
  fewer_reach [] t g h = h
  fewer_reach (i ∷ is) t g h = go (entry_at ws' start total t i) refl h (λ e. fewer_reach is (frame_of e) g)
    where
      go : (x : Result ℕ Refusal) → entry_at ws' start total t i ≡ x → and_then x Err (λ e. reach ws' start total (frame_of e) is) ≡ Ok g
          → ((e : ℕ) → reach ws' start total (frame_of e) is ≡ Ok g → reach ws start total (frame_of e) is ≡ Ok g)
          → and_then (entry_at ws start total t i) Err (λ e. reach ws start total (frame_of e) is) ≡ Ok g
      go (Ok e) k q r = rw (fewer_entry t i e k) (r e q)
      go (Err n) k q r = absurd (nowhere q)

  -- so what was not reached is so still
  pub fewer_stop : (p : List ℕ) (t : ℕ) (a : Refusal) → reach ws start total t p ≡ Err a → (b : Refusal) × (reach ws' start total t p ≡ Err b)
  fewer_stop p t a h = go (reach ws' start total t p) refl
    where
      go : (x : Result ℕ Refusal) → reach ws' start total t p ≡ x → (b : Refusal) × (reach ws' start total t p ≡ Err b)
      go (Ok g) k = absurd (nowhere (sym h ∙ fewer_reach p t g k))
      go (Err b) k = (b, k)
