-- Leaves of one table freed, by what code has in its hands.
use Prim.Native.Nat.{ℕ, suc, ◌+◌, ◌-◌, ◌*◌, ◌<◌, ◌≤◌}
use mathlib.Core.Path.{◌≡◌, sym, subst}
use mathlib.Core.List.{List}
use native.Mathlib.Omega.{arith}
use Rattle.std.specs.Prelude.{Ok, Err, Result}
use Rattle.answer.specs.declared.Refusal.{Refusal}
use Rattle.frame.specs.declared.Tally.{Tally}
use Rattle.frame.specs.Frames.{Frames, give_frame}
use Rattle.frame.specs.Found.{none_found, one_found}
use Rattle.paging.specs.Map.{Memory, memory, start_frame, total_of, left, take_leaf, RoomToTake}
use Rattle.paging.specs.Pages.{freed}
use Rattle.paging.specs.Found.{Tells}
use Rattle.paging.proofs.Map.{take_leaf_length}
use Rattle.paging.proofs.Pages.{give_roomy}
use Rattle.paging.proofs.Found.{take_tells}
use Rattle.freeing_runs.specs.Freeing.{free_leaf, free_leaves}

-- after `take_leaf`
module _ (m : Memory) (t i : ℕ) (ws : List ℕ) where
  pub leaf_none : (n : Refusal) → take_leaf m.words (start_frame m) (total_of m) t i ≡ left (Err n) ws → free_leaf m t i ≡ memory ws m.frames
  unfolding free_leaf
  leaf_none n e = rw e

  pub leaf_freed : (f : ℕ) → take_leaf m.words (start_frame m) (total_of m) t i ≡ left (Ok f) ws → free_leaf m t i ≡ memory ws (give_frame m.frames f).frames
  unfolding free_leaf
  leaf_freed f e = rw e

-- .. and what it tells
module _ (m : Memory) (t i : ℕ) (small : i < 512) (ws : List ℕ) where
  pub leaf_told_none : (n : Refusal) → take_leaf m.words (start_frame m) (total_of m) t i ≡ left (Err n) ws → {u : Tally} → u ≡ none_found
      → Tells m (memory ws m.frames) u
  leaf_told_none n e h = rw h (rw e at (take_tells m t i small))

  pub leaf_told : (f : ℕ) → take_leaf m.words (start_frame m) (total_of m) t i ≡ left (Ok f) ws → {fr : Frames} {u : Tally}
      → fr ≡ (give_frame m.frames f).frames → u ≡ one_found (give_frame m.frames f).answer → Tells m (memory ws fr) u
  leaf_told f e g h = rw (g, h) (rw e at (take_tells m t i small))

-- the room that is left
leaf_roomy : (m : Memory) (t i n : ℕ) → RoomToTake m n → RoomToTake (free_leaf m t i) n
unfolding free_leaf
leaf_roomy m t i n r = go (take_leaf m.words (start_frame m) (total_of m) t i).walked
  where
    ws : List ℕ
    ws = (take_leaf m.words (start_frame m) (total_of m) t i).words

    same : RoomToTake (memory ws m.frames) n
    same = record { enough = subst (λ (x : ℕ). total_of m * 512 ≤ x) (sym (take_leaf_length m.words (start_frame m) (total_of m) t i)) r.enough; held = r.held }

    go : (x : Result ℕ Refusal) → RoomToTake (memory ws (freed x m.frames)) n
    go (Ok f) = give_roomy ws m.frames f n same
    go (Err a) = same

pub leaf_left : {m' : Memory} (m : Memory) (t i : ℕ) → m' ≡ free_leaf m t i → RoomToTake m 0 → RoomToTake m' 0
leaf_left m t i e r = subst (λ (x : Memory). RoomToTake x 0) (sym e) (leaf_roomy m t i 0 r)

-- turn j of n, and after the last
pub leaves_on : (t i j n : ℕ) → j < n → (m m' : Memory) → m' ≡ free_leaf m t (i + j) → free_leaves m t (i + j) (n - j) ≡ free_leaves m' t (i + (j + 1)) (n - (j + 1))
unfolding free_leaves
leaves_on t i j n lt m m' e =
    let s : n - j ≡ suc (n - (j + 1)) = omega arith in
    let a : i + (j + 1) ≡ suc (i + j) = omega arith in
    rw (s, a, e)

pub leaves_end : (t i j n : ℕ) → n ≤ j → (m : Memory) → free_leaves m t i (n - j) ≡ m
unfolding free_leaves
leaves_end t i j n over m = let s : n - j ≡ 0 = omega arith in rw s
