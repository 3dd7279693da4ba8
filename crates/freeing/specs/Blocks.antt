-- Entries that lead to no page, by the tables with one level below them.
use Rattle.answer.specs.declared.Refusal.{Refusal}
use Rattle.std.specs.Prelude.{Err}
use Rattle.std.specs.Prelude.{ℕ, ◌+◌, ◌<◌, ◌≤◌, ◌≡◌, List, get_or}
use Rattle.entry.specs.Entry.{index, indices}
use Rattle.paging.specs.Walk.{reach}

-- of each frame lent, as a table with one level below it: how many of its first entries are known to lead to no page
pub record Barren (ws : List ℕ) (start total : ℕ) (ks : List ℕ) : Type 0 where
  pub few : (j : ℕ) → get_or ks j 0 ≤ 512
  pub none : (j v : ℕ) → index 1 v < get_or ks j 0 → (a : Refusal) × (reach ws start total (start + j) (indices 2 v) ≡ Err a)
