-- The memory of a fresh board: the lowest frame is the root, zeroed, and the one frame marked. It is in order, and nothing but the root is reached.
use Prim.Native.Nat.{ℕ, ◌+◌, ◌*◌, ◌-◌, ◌^◌, ◌<◌, ◌≤◌}
use mathlib.Core.Path.{◌≡◌, refl, sym, ◌∙◌, ap}
use mathlib.Core.Bool.{true}
use mathlib.Core.List.Memᴰ
use mathlib.Core.List.{List, [], ◌∷◌, Memᴰ, Nodup-nil}
use mathlib.Core.Logic.{◌⊎◌, inl}
use native.Mathlib.Omega.{arith}
use native.Mathlib.Decide.{ℕ_discrete}
use lib.ListN.{length, replicate, length-replicate}
use Rattle.std.specs.Prelude.{Ok}
use Rattle.answer.specs.declared.Refusal.TheVariants.{NotMapped}
use Rattle.bitmap.proofs.Marks.{mark_own, mark_other, mark_words, length_mark, count_mark, marked_replicate, replicate_words, count_replicate}
use Rattle.frame.specs.Frames.{Frames, frames, is_levels, inside, with_mark, unused, with_levels}
use Rattle.frame.proofs.Laws.{inside_yes, inside_from}
use Rattle.paging.specs.Walk.{entry_at, reach}
use Rattle.paging.specs.Map.{Memory, memory, zero_frame}
use Rattle.paging.proofs.Map.{length_clear}
use Rattle.tree.proofs.Walks.{nowhere, reach_stuck}
use Rattle.tree.proofs.Words.{zero_blank}
use Rattle.tree.proofs.Ordered.{reach_in, inside_in, mark_in, PlainIn, Ordered}
use Rattle.tree.proofs.Growth.{None}
use Rattle.tree.proofs.Accounts.{Reached, Accounted}

-- an allocator that `init` made, of a board of n levels, and the memory that a start leaves with it
abbrev pub untaken : ℕ → ℕ → ℕ → Frames
untaken start total n = frames (replicate 128 0) (with_levels (unused start total) n)

abbrev pub fresh : List ℕ → ℕ → ℕ → ℕ → Memory
fresh ws start total n = memory (zero_frame ws start start) (with_mark (untaken start total n) 0)

module _ (ws : List ℕ) (start total n : ℕ) (some : 0 < total) (few : total ≤ 8192) (enough : total * 512 ≤ length ws) (low : start + total ≤ 2 ^ 40)
    (may : is_levels n ≡ true) where
  root_in : inside start total start ≡ true
  root_in = inside_yes start total start (omega arith) (omega arith)

  -- nothing but the root is reached
  pub fresh_only : (p : List ℕ) (f : ℕ) → reach_in (fresh ws start total n) start p ≡ Ok f → (p ≡ []) × (f ≡ start)
  unfolding reach with_mark
  fresh_only [] f h = (refl, cc)
  fresh_only (i ∷ p) f h =
      absurd (nowhere (sym (reach_stuck (zero_frame ws start start) start total [] start start i p NotMapped refl (zero_blank ws start total start root_in enough i)) ∙ h))

  -- nothing but the root is marked
  pub fresh_root : mark_in (fresh ws start total n) start ≡ 1
  unfolding with_mark
  fresh_root =
      let e : start - start ≡ 0 = omega arith in
      rw e (mark_own (replicate 128 0) 0 (marked_replicate 128 0) (omega (arith, length-replicate {A = ℕ} 128 0)))

  pub fresh_ordered : Ordered (fresh ws start total n) start n
  unfolding with_mark
  fresh_ordered = record {
    tree = record {
      once = λ p q f lp lq h k. (fresh_only p f h).0 ∙ sym (fresh_only q f k).0;
      into = λ p f lp h. rw (fresh_only p f h).1 root_in;
      kept = λ p f lp h. rw (fresh_only p f h).1 fresh_root;
    };
    sizes = record { few = few; enough = rw length_clear enough; low = low };
    wide = length_mark (replicate 128 0) 0 ∙ length-replicate {A = ℕ} 128 0;
    small = mark_words (replicate 128 0) 0 (marked_replicate 128 0) (replicate_words 128);
    counted = sym (count_mark (replicate 128 0) 0 total (marked_replicate 128 0) some (omega (arith, length-replicate {A = ℕ} 128 0)) ∙ ap (λ (x : ℕ). x + 1) (count_replicate 128 total));
    levels = refl;
    board = may;
  }

  pub fresh_plain : PlainIn (fresh ws start total n) start n
  unfolding with_mark
  fresh_plain = record {
    plain = λ p t i e lp h k.
        let ts = (fresh_only p t h).1 in
        absurd (nowhere (sym (zero_blank ws start total start root_in enough i) ∙ ap (λ (x : ℕ). entry_at (zero_frame ws start start) start total x i) (sym ts) ∙ k));
  }

  pub fresh_accounted : Accounted (fresh ws start total n) start n []
  unfolding reach with_mark
  fresh_accounted = record {
    order = fresh_ordered;
    found = λ f ins done. by f ins done (ℕ_discrete f start);
    lent = λ f i. absurd (Memᴰ.not-nil i);
    mine = λ f i. absurd (Memᴰ.not-nil i);
    away = λ f i. absurd (Memᴰ.not-nil i);
    once = Nodup-nil;
  }
    where
      by : (f : ℕ) → inside_in (fresh ws start total n) f ≡ true → mark_in (fresh ws start total n) f ≡ 1 → Dec (f ≡ start)
          → Reached (fresh ws start total n) start n f ⊎ Memᴰ f [] ⊎ None f
      by f ins done (yes e) = inl (record { path = []; short = omega arith; comes = ap Ok (sym e) })
      by f ins done (no d) =
          let far : f - start ≡ 0 → ⊥ = λ z. d (omega (arith, inside_from start total f ins)) in
          absurd (omega (arith, mark_other (replicate 128 0) 0 (marked_replicate 128 0) (f - start) far, marked_replicate 128 (f - start), done))
