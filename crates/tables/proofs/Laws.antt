-- What the functions' proofs share: definitions by what code has in its hands.
-- Large arguments (memories, tables, counters) are explicit and the proofs write them down: to fill them in takes antt up to ten times as long.
use Prim.Native.Nat.{ℕ, ◌+◌, ◌*◌, ◌-◌, ◌/◌, ◌%◌, ◌^◌, ◌<◌, ◌≤◌}
use mathlib.Core.Path.{◌≡◌, sym, ◌∙◌, ap, subst}
use mathlib.Core.Bool.{Bool, true, false}
use mathlib.Core.List.{List, ◌∷◌}
use native.Mathlib.Nat.{mod-eq_of_lt}
use native.Mathlib.Omega.{arith}
use lib.ListN.{length, get_or, set}
use Rattle.std.specs.Prelude.{Ok, Err, Result}
use Rattle.answer.specs.declared.Refusal.{Refusal}
use Rattle.address.specs.declared.Frame.{Frame}
use Rattle.bits.specs.Bit.{flag}
use Rattle.entry.specs.Entry.{entry_of, addr_of, frame_of}
use Rattle.frame.specs.Frames.{Frames, frames, inside, take_frame}
use Rattle.frame.proofs.Laws.{inside_under}
use Rattle.paging.specs.Walk.{place}
use Rattle.paging.specs.Map.{Memory, memory, start_frame, total_of, Out, out, clear, create, enter, make, RoomToTake}
use Rattle.paging.proofs.Map.{roomy_less, taken_inside, create_new, create_full, enter_there, enter_absent, enter_roomy, make_stop, make_on, make_roomy}
use Rattle.walk.proofs.Laws.{shifted}

-- in `enter`: the table that is there, or a new one
module _ (u : Bool) (m : Memory) (t i : ℕ) {p : ℕ} (q : p ≡ place (start_frame m) t i) (h : inside (start_frame m) (total_of m) t ≡ true) where
  pub entered_there : {a : ℕ} → a ≡ addr_of (get_or m.words p 0) → flag 0 (get_or m.words p 0) ≡ true → out (Ok (a / 4096)) m ≡ enter u m t i
  entered_there g k =
      ap (λ (x : ℕ). out (Ok x) m) (shifted (get_or m.words p 0) g ∙ ap (λ (x : ℕ). frame_of (get_or m.words x 0)) q)
      ∙ sym (enter_there u m t i h (subst (λ (x : ℕ). flag 0 (get_or m.words x 0) ≡ true) q k))

  pub entered_new : flag 0 (get_or m.words p 0) ≡ false → {o : Out} → o ≡ create u m p → o ≡ enter u m t i
  entered_new k c = c ∙ ap (create u m) q ∙ sym (enter_absent u m t i h (subst (λ (x : ℕ). flag 0 (get_or m.words x 0) ≡ false) q k))

-- after `enter`: where it came, and the room that is left
pub stepped : {w w' : Result ℕ Refusal} {m : Memory} {o : Out} → out w m ≡ o → w ≡ w' → o ≡ out w' m
stepped {m = m} e h = sym e ∙ ap (λ (x : Result ℕ Refusal). out x m) h

pub entered_roomy : (u : Bool) (m : Memory) (t i : ℕ) {w : Result ℕ Refusal} {m' : Memory} → out w m' ≡ enter u m t i → (n : ℕ) → RoomToTake m (n + 1) → RoomToTake m' n
entered_roomy u m t i e n r = subst (λ (x : Memory). RoomToTake x n) (sym (ap (λ (o : Out). o.mem) e)) (enter_roomy u m t i n r)

-- the same in the loop over the indices i ∷ q that are left, of which l were passed
module _ (u : Bool) (m : Memory) (t i : ℕ) (w : Result ℕ Refusal) (m' : Memory) (e : out w m' ≡ enter u m t i) where
  pub entered_left : (l k : ℕ) → l < k → k ≤ 4 → RoomToTake m (4 - l) → RoomToTake m' (4 - (l + 1))
  entered_left l k h s r = entered_roomy u m t i e (4 - (l + 1)) (roomy_less (4 - (l + 1) + 1) (omega arith) r)

  pub made_stop : {o : Out} (p q : List ℕ) → o ≡ make u m t p → p ≡ i ∷ q → (n : Refusal) → w ≡ Err n → out (Err n) m' ≡ o
  made_stop p q a b n h = sym (a ∙ make_stop u m t b m' n (stepped e h))

  pub made_on : {o : Out} (p q : List ℕ) → o ≡ make u m t p → p ≡ i ∷ q → (f : ℕ) → w ≡ Ok f → o ≡ make u m' f q
  made_on p q a b f h = a ∙ make_on u m t b m' f (stepped e h)

-- after `make_tables`: the room that is left
pub made_roomy : (u : Bool) (m : Memory) (t : ℕ) (p : List ℕ) {w : Result ℕ Refusal} {m' : Memory} → out w m' ≡ make u m t p → (n : ℕ) → RoomToTake m (n + length p) → RoomToTake m' n
made_roomy u m t p e n r = subst (λ (x : Memory). RoomToTake x n) (sym (ap (λ (o : Out). o.mem) e)) (make_roomy u n p m t r)
