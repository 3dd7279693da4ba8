-- Slots stored one at a time, turn by turn: shifts by one of slots that are read and written where they stand.
use Prim.Native.Nat.{ℕ, ◌+◌, ◌-◌, ◌<◌, ◌≤◌}
use mathlib.Core.Path.{◌≡◌, ◌∙◌, ap}
use mathlib.Core.List.{List}
use native.Mathlib.Omega.{arith}
use lib.ListN.{length, get_or, set, take}
use Rattle.slots.specs.Slots.{Slots, slotted, listed, store}
use Rattle.slots.specs.Shifts.{put_in, taken_out, shifted_up, shifted_down}
use Rattle.slots.proofs.Slices.{up_start, up_on, down_to, down_start, down_on, down_end}
use Rattle.slots.proofs.Stored.{stored_in, stored_out}

-- a slot stored, where the slots before it are known
pub stored : {A : Type 0} {l m : List A} {n : ℕ} (s t : Slots A) (i : ℕ) (a : A) → s ≡ slotted l n → t ≡ slotted (set s.slots i a) s.count
    → set s.slots i a ≡ m → t ≡ slotted m n
stored s t i a e z h = z ∙ (λ k. slotted (h k) (e k).count)

-- d is the slot that stands for none, s₀ the slots before the first turn
module _ {A : Type 0} (d : A) (s₀ : Slots A) where
  abbrev l : List A
  l = s₀.slots

  abbrev n : ℕ
  n = s₀.count

  -- ---- up, from the end: slots from j on are moved

  pub up_first : (end : ℕ) → s₀ ≡ slotted (shifted_up l end end) n
  up_first end = λ k. slotted (up_start d l end k) n

  pub up_turn : (j end : ℕ) → 0 < j → j ≤ end → end < length l → (s t : Slots A) (a : A) → s ≡ slotted (shifted_up l j end) n
      → a ≡ get_or s.slots (j - 1) d → t ≡ slotted (set s.slots j a) s.count → t ≡ slotted (shifted_up l (j - 1) end) n
  up_turn j end g b c s t a e f z = stored s t j a e z (ap (set s.slots j) f ∙ up_on d l j end g b c (ap (λ (x : Slots A). x.slots) e))

  -- .. and one is stored in the slot that is free then
  pub up_last : (j at end : ℕ) → j ≡ at → (s t : Slots A) (a : A) → s ≡ slotted (shifted_up l j end) n
      → t ≡ slotted (set s.slots at a) s.count → t ≡ slotted (set (shifted_up l at end) at a) n
  up_last j at end h s t a e z = stored s t at a e z (ap (λ (x : Slots A). set x.slots at a) e ∙ ap (λ (i : ℕ). set (shifted_up l i end) at a) h)

  -- ---- down, from the front: slots up to j are moved

  pub down_first : (at : ℕ) → s₀ ≡ slotted (down_to d l at at) n
  down_first at = λ k. slotted (down_start d l at k) n

  pub down_turn : (at j : ℕ) → at ≤ j → j + 1 < length l → (s t : Slots A) (a : A) → s ≡ slotted (down_to d l at j) n
      → a ≡ get_or s.slots (j + 1) d → t ≡ slotted (set s.slots j a) s.count → t ≡ slotted (down_to d l at (j + 1)) n
  down_turn at j g b s t a e f z =
      stored s t j a e z (ap (set s.slots j) f ∙ down_on d l at j g (omega arith) b (ap (λ (x : Slots A). x.slots) e))

  -- .. and the last one is blank
  pub down_last : (at j end : ℕ) → at ≤ j → end ≡ j + 1 → end ≤ length l → (s t : Slots A) → s ≡ slotted (down_to d l at j) n
      → t ≡ slotted (set s.slots (end - 1) d) s.count → t ≡ slotted (shifted_down d l at end) n
  down_last at j end g h b s t e z = stored s t (end - 1) d e z (down_end d l at j g (omega arith) d end h (ap (λ (x : Slots A). x.slots) e))

  -- ---- the count stored last: one is put in, or taken out

  module _ (m i at : ℕ) (e : m ≡ n) {s t u : Slots A} where
    pub up_stored : (a : A) → i ≡ at → at ≤ m → m < length l → s ≡ slotted (shifted_up l i m) n → t ≡ slotted (set s.slots at a) s.count
        → u ≡ slotted t.slots (m + 1) → u ≡ store d (put_in at a (listed s₀)) s₀
    up_stored a g h k x y z =
        z ∙ ap (λ (w : Slots A). slotted w.slots (m + 1)) y
        ∙ stored_in d l m at a h k (ap (λ (w : Slots A). w.slots) x ∙ ap (λ (j : ℕ). shifted_up l j m) g)
        ∙ ap (λ (k : ℕ). store d (put_in at a (take k l)) (slotted l k)) e

    pub down_stored : i ≡ m - 1 → at < m → m ≤ length l → s ≡ slotted (down_to d l at i) n → t ≡ slotted (set s.slots (m - 1) d) s.count
        → u ≡ slotted t.slots (m - 1) → u ≡ store d (taken_out at (listed s₀)) s₀
    down_stored g h k x y z =
        z ∙ ap (λ (w : Slots A). slotted w.slots (m - 1)) y
        ∙ stored_out d l m at h k (ap (λ (w : Slots A). w.slots) x ∙ ap (λ (j : ℕ). down_to d l at j) g)
        ∙ ap (λ (k : ℕ). store d (taken_out at (take k l)) (slotted l k)) e
