-- Records of 24 bytes, one behind the other.
use Rattle.std.specs.Prelude.{ℕ, zero, suc, List, [], ◌∷◌, ◌++◌, drop}

-- n records from the front, each read by f from its bytes on
unfoldable pub records : {A : Type 0} → (List ℕ → A) → ℕ → List ℕ → List A
records f zero bs = []
records f (suc n) bs = f bs ∷ records f n (drop 24 bs)

-- the bytes of records, each written by g
unfoldable pub packed : {A : Type 0} → (A → List ℕ) → List A → List ℕ
packed g [] = []
packed g (a ∷ l) = g a ++ packed g l
