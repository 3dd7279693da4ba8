-- Boards have 4 or 5 levels of tables, counted from the bottom: level 1 is the last. `up` is the number of those above it.
use Rattle.std.specs.Prelude.{ℕ, ◌-◌}
use Rattle.paging.specs.Map.{Memory}

-- the levels of a board, and those above its last
abbrev pub levels_of : Memory → ℕ
levels_of m = m.frames.fa.levels

abbrev pub above_last : Memory → ℕ
above_last m = levels_of m - 1

-- the most that a board has of either
abbrev pub most_levels : ℕ
most_levels = 5

abbrev pub most_above : ℕ
most_above = 4
