-- Leaves of one table freed one after the other, and tables without a present entry.
use Rattle.std.specs.Prelude.{ℕ, zero, suc, ◌+◌, ◌*◌, ◌<◌, ◌≡◌, false, List, get_or}
use Rattle.bits.specs.Bit.{flag}
use Rattle.bitmap.specs.Bitmap.{marked}
use Rattle.paging.specs.Map.{Memory, memory, start_frame, total_of, take_leaf}
use Rattle.paging.specs.Pages.{freed}

-- the leaf at entry i of table t, cleared, and its frame freed
unfoldable pub free_leaf : Memory → ℕ → ℕ → Memory
free_leaf m t i =
    memory (take_leaf m.words (start_frame m) (total_of m) t i).words (freed (take_leaf m.words (start_frame m) (total_of m) t i).walked m.frames)

-- n leaves from entry i on, one after the other
unfoldable pub free_leaves : Memory → ℕ → ℕ → ℕ → Memory
free_leaves m t i zero = m
free_leaves m t i (suc n) = free_leaves (free_leaf m t i) t (suc i) n

-- of the frames that bm marks, by their place among those lent, no word is a present entry
pub record Blank (ws bm : List ℕ) : Type 0 where
  pub absent : (j : ℕ) → marked bm j ≡ 1 → (x : ℕ) → x < 512 → flag 0 (get_or ws (j * 512 + x) 0) ≡ false
