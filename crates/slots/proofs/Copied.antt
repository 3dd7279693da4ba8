-- Slots shifted by one with `copy_within`.
use Prim.Native.Nat.{ℕ, ◌+◌, ◌-◌, ◌<◌, ◌≤◌}
use mathlib.Core.Path.{◌≡◌, sym, ◌∙◌, ap}
use mathlib.Core.List.{List, append_assoc}
use native.Mathlib.Omega.{arith}
use lib.ListN.{length, set, take, drop}
use lib.Seq.{slice}
use Rattle.std.specs.List.{copy_within}
use Rattle.std.proofs.lemmas.List.{drop-take}
use Rattle.slots.specs.Shifts.{shifted_up, shifted_down}
use Rattle.slots.proofs.Slices.{down_to, down_end}

module _ {A : Type 0} (d : A) (l : List A) (at end : ℕ) where
  cut : at ≤ end → take (end - at) (drop at l) ≡ slice at end l
  cut h = let e : at + (end - at) ≡ end = omega arith in sym (drop-take at (end - at) l) ∙ ap (λ (k : ℕ). drop at (take k l)) e

  pub copied_up : at ≤ end → copy_within l at end (at + 1) ≡ shifted_up l at end
  unfolding shifted_up
  copied_up h =
      let e : at + 1 + (end - at) ≡ end + 1 = omega arith in
      rw (e, cut h) (append_assoc (take (at + 1) l) (slice at end l) (drop (end + 1) l))

  -- .. and a blank slot where the last one stood
  pub copied_down : at < end → end ≤ length l → {ys : List A} → ys ≡ copy_within l (at + 1) end at → set ys (end - 1) d ≡ shifted_down d l at end
  copied_down h k e =
      let f : at + (end - (at + 1)) ≡ end - 1 = omega arith in
      let g : at + 1 + (end - (at + 1)) ≡ end = omega arith in
      let n : end ≡ end - 1 + 1 = omega arith in
      let cut : take (end - (at + 1)) (drop (at + 1) l) ≡ slice (at + 1) (end - 1 + 1) l = sym (drop-take (at + 1) (end - (at + 1)) l) ∙ ap (λ (k : ℕ). drop (at + 1) (take k l)) (g ∙ n) in
      let moved : copy_within l (at + 1) end at ≡ down_to d l at (end - 1) = rw (cut, f) (append_assoc (take at l) (slice (at + 1) (end - 1 + 1) l) (drop (end - 1) l)) in
      down_end d l at (end - 1) (omega arith) (omega arith) d end n (e ∙ moved)
