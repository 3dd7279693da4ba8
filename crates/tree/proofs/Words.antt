-- The words of a frame that is set to 0.
use Prim.Native.Nat.{ℕ, zero, suc, ◌+◌, ◌*◌, ◌-◌, ◌<◌, ◌≤◌}
use mathlib.Core.Path.{◌≡◌, refl, ◌∙◌}
use mathlib.Core.Bool.{true}
use mathlib.Core.List.{List}
use native.Mathlib.Omega.{arith}
use native.Mathlib.Decide.{ℕ_discrete}
use lib.Arith.{lt_of_le-ne}
use lib.ListN.{length, get_or, set}
use lib.Seq.{get_or-set_same, get_or-set_other}
use Rattle.std.specs.Prelude.{Err}
use Rattle.answer.specs.declared.Refusal.TheVariants.{NotMapped}
use Rattle.frame.specs.Frames.{inside}
use Rattle.frame.proofs.Laws.{inside_from, inside_under}
use Rattle.paging.specs.Walk.{place, entry_at}
use Rattle.paging.specs.Map.{clear, zero_frame}
use Rattle.paging.proofs.Map.{length_clear}
use Rattle.tree.proofs.Walks.{place_table, entry_zero}

-- a word that is not among those set to 0 stays
pub clear_other : (ws : List ℕ) (at n x : ℕ) → ((k : ℕ) → k < n → x ≡ at + k → ⊥) → get_or (clear ws at n) x 0 ≡ get_or ws x 0
unfolding clear
clear_other ws at zero x h = refl
clear_other ws at (suc n) x h =
    get_or-set_other (clear ws at n) (at + n) x 0 0 (λ e. h n (omega arith) e) ∙ clear_other ws at n x (λ k l e. h k (omega arith) e)

-- and the others are 0
pub clear_own : (ws : List ℕ) (at n k : ℕ) → k < n → at + n ≤ length ws → get_or (clear ws at n) (at + k) 0 ≡ 0
unfolding clear
clear_own ws at zero k h l = absurd (omega arith)
clear_own ws at (suc n) k h l = go (ℕ_discrete k n) (λ lt. clear_own ws at n k lt (omega arith))
  where
    go : Dec (k ≡ n) → (k < n → get_or (clear ws at n) (at + k) 0 ≡ 0) → get_or (set (clear ws at n) (at + n) 0) (at + k) 0 ≡ 0
    go (yes e) r = rw e (get_or-set_same (clear ws at n) (at + n) 0 0 (omega (arith, length_clear ws at n)))
    go (no d) r = get_or-set_other (clear ws at n) (at + n) (at + k) 0 0 (λ e. d (omega arith)) ∙ r (lt_of_le-ne (omega arith) d)

module _ (ws : List ℕ) (start total f : ℕ) (inf : inside start total f ≡ true) where
  -- the entries of other tables stay
  pub zero_other : (t i : ℕ) → inside start total t ≡ true → i < 512 → (t ≡ f → ⊥) → get_or (zero_frame ws start f) (place start t i) 0 ≡ get_or ws (place start t i) 0
  zero_other t i ins sm d =
      clear_other ws ((f - start) * 512) 512 (place start t i)
      (λ k l e. d (place_table start f k t i (inside_from start total f inf) (inside_from start total t ins) l sm e))

  -- and the frame has no entry
  pub zero_blank : total * 512 ≤ length ws → (i : ℕ) → entry_at (zero_frame ws start f) start total f i ≡ Err NotMapped
  zero_blank enough i =
      entry_zero (zero_frame ws start f) start total f i inf
      (λ sm. clear_own ws ((f - start) * 512) 512 i sm (omega (arith, inside_under start total f inf)))
