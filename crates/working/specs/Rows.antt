-- The working of a translation as numbers, as code hands it back: the count, then five numbers a row, then 0 up to the room of five rows.
use Rattle.std.specs.Prelude.{ℕ, ◌-◌, ◌*◌, List, [], ◌∷◌, ◌++◌, length, replicate}
use Rattle.paging.specs.declared.Verdict.{Verdict}
use Rattle.paging.specs.declared.Verdict.TheVariants.{Absent, Outside, Followed, LargePage, Last}
use Rattle.paging.specs.declared.Row.{Row}

-- 'absent, outside, followed, large page .. or last'
abbrev pub verdict_number : Verdict → ℕ
verdict_number Absent = 0
verdict_number Outside = 1
verdict_number Followed = 2
verdict_number LargePage = 3
verdict_number Last = 4

-- 'the level, the frame and index, the word, and the verdict'
abbrev pub row_numbers : Row → List ℕ
row_numbers r = r.level ∷ r.frame.0 ∷ r.index ∷ r.word ∷ verdict_number r.verdict ∷ []

unfoldable pub rows_numbers : List Row → List ℕ
rows_numbers [] = []
rows_numbers (r ∷ rs) = row_numbers r ++ rows_numbers rs

abbrev pub shown_numbers : List Row → List ℕ
shown_numbers rows = length rows ∷ (rows_numbers rows ++ replicate (25 - length rows * 5) 0)
