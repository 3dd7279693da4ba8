-- One put into a list or taken out of it, and what that comes to in slots: those behind it shifted by one.
use Rattle.std.specs.Prelude.{ℕ, suc, ◌+◌, List, ◌∷◌, ◌++◌, take, drop}
use Rattle.std.proofs.Math.Seq.{slice}

-- one put in at index k, and the one at index k taken out
abbrev pub put_in : {A : Type 0} → ℕ → A → List A → List A
put_in k a l = take k l ++ a ∷ drop k l

abbrev pub taken_out : {A : Type 0} → ℕ → List A → List A
taken_out k l = take k l ++ drop (suc k) l

-- slots `at` up to `end` moved up by one; slot `at` still holds what it held
unfoldable pub shifted_up : {A : Type 0} → List A → ℕ → ℕ → List A
shifted_up l at end = take (at + 1) l ++ (slice at end l ++ drop (end + 1) l)

-- slot `at` struck out: those behind it, up to `end`, moved down by one, and a blank slot where the last one stood
unfoldable pub shifted_down : {A : Type 0} → A → List A → ℕ → ℕ → List A
shifted_down blank l at end = take at l ++ (slice (at + 1) end l ++ (blank ∷ drop end l))
