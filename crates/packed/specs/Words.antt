-- Packed bytes: a list of 64-bit numbers, each as eight bytes, the lowest first. The one pair `pack`, `unpack` serves every part of the state.
use Rattle.std.specs.Prelude.{ℕ, zero, suc, ◌+◌, ◌*◌, ◌/◌, ◌%◌, List, [], ◌∷◌, ◌++◌, drop}

-- the number that the first k bytes make
unfoldable pub number : ℕ → List ℕ → ℕ
number zero bs = 0
number (suc k) [] = 0
number (suc k) (b ∷ bs) = b + 256 * number k bs

-- the low k bytes of a number
unfoldable pub bytes : ℕ → ℕ → List ℕ
bytes zero x = []
bytes (suc k) x = x % 256 ∷ bytes k (x / 256)

unfoldable pub pack : List ℕ → List ℕ
pack [] = []
pack (w ∷ ws) = bytes 8 w ++ pack ws

-- n numbers from the front
unfoldable pub unpack : ℕ → List ℕ → List ℕ
unpack zero bs = []
unpack (suc n) bs = number 8 bs ∷ unpack n (drop 8 bs)
