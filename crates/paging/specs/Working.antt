-- The working of a translation, document 02's slip 4: 'The result lists the entries read .. For each it gives the level, the frame and index, the word, and the verdict:
-- absent, outside, followed, large page .. or last'. Levels count from the bottom, 1 the last.
use Rattle.std.specs.Prelude.{Ok}
use Rattle.std.specs.Prelude.{Err, Result}
use Rattle.answer.specs.Numbers.{same_refusal}
use Rattle.answer.specs.declared.Refusal.{Refusal}
use Rattle.answer.specs.declared.Refusal.TheVariants.{BrokenRecord, NotMapped, TableOutside}
use Rattle.std.specs.Prelude.{ℕ, zero, suc, ◌-◌, ◌≤◌, ◌≡◌, Bool, true, false, List, [], ◌∷◌, ◌++◌, map, eqb, ltb, length, get_or, take, replicate}
use Rattle.bits.specs.Bit.{pick, unless, both, flag}
use Rattle.answer.specs.Outcomes.{and_then}
use Rattle.entry.specs.Entry.{frame_of, indices}
use Rattle.frame.specs.Frames.{inside}
use Rattle.paging.specs.declared.Leaf.{Leaf}
use Rattle.paging.specs.declared.Leaf.TheVariants.{Page, Large}
use Rattle.paging.specs.declared.Verdict.{Verdict}
use Rattle.paging.specs.declared.Verdict.TheVariants.{Absent, Outside, Followed, LargePage, Last}
use Rattle.paging.specs.declared.Row.{Row}
use Rattle.paging.specs.Walk.{place, present, leaf, address}
use Rattle.paging.specs.Calls.{lent_walk, translate}

-- ---- the rows

-- the verdict on a word with so many levels below it: absent first; at the last level always last, wherever its page lies; a large page, at the last level but one
-- alone, wherever it lies; else by the frame that it names, which is the next table
unfoldable pub verdict_of : ℕ → ℕ → ℕ → ℕ → Verdict
verdict_of start total below e =
    unless (flag 0 e) Absent
    (pick (eqb below 0) Last
    (pick (both (eqb below 1) (flag 7 e)) LargePage
    (pick (inside start total (frame_of e)) Followed Outside)))

-- the row of the word e, which stands at entry i of table t
abbrev pub row_of : ℕ → ℕ → ℕ → ℕ → ℕ → ℕ → Row
row_of start total below t i e =
    record { level = suc below; frame = record { 0 = t }; index = i; word = e; verdict = verdict_of start total below e }

abbrev pub goes_on : Verdict → Bool
goes_on Absent = false
goes_on Outside = false
goes_on Followed = true
goes_on LargePage = false
goes_on Last = false

-- the entries read below a lent table t along a path
unfoldable pub rows_below : List ℕ → ℕ → ℕ → ℕ → List ℕ → List Row
rows_below ws start total t [] = []
rows_below ws start total t (i ∷ is) =
    let e = get_or ws (place start t i) 0 in
    let r = row_of start total (length is) t i e in
    r ∷ pick (goes_on r.verdict) (rows_below ws start total (frame_of e) is) []

-- ---- the rule that gave the result

-- what a translation ends at whose last row has this verdict and word; none ends at a row that is followed
abbrev pub by_verdict : Verdict → ℕ → Result Leaf Refusal
by_verdict Absent e = Err NotMapped
by_verdict Outside e = Err TableOutside
by_verdict Followed e = Err NotMapped
by_verdict LargePage e = Ok (Large e)
by_verdict Last e = Ok (Page e)

-- by the last row alone; no walk has no row (`least`)
abbrev pub end_of : List Row → Result Leaf Refusal
end_of [] = Err NotMapped
end_of (r ∷ []) = by_verdict r.verdict r.word
end_of (r ∷ s ∷ rs) = end_of (s ∷ rs)

pub record Working : Type 0 where
  pub answer : Result ℕ Refusal
  pub rows : List Row

abbrev pub by_rows : ℕ → List Row → Working
by_rows v rows = record { answer = address v (end_of rows); rows = rows }

-- .. and 10 has none
abbrev pub no_working : Working
no_working = record { answer = Err BrokenRecord; rows = [] }

unfoldable pub show_translate : ℕ → List ℕ → ℕ → ℕ → ℕ → ℕ → Working
show_translate levels ws start total root v =
    unless (lent_walk levels (length ws) start total root) no_working
    (by_rows v (rows_below ws start total root (indices levels v)))

-- ---- 'The list is exactly the reads of the definition's walk': the walk that `translate` has, clause for clause, with a log of the words that it reads

pub record Read : Type 0 where
  pub table : ℕ
  pub index : ℕ
  pub word : ℕ

pub record Logged (A : Type 0) : Type 0 where
  pub walked : A
  pub reads : List Read

abbrev pub logged : {A : Type 0} → A → List Read → Logged A
logged a rs = record { walked = a; reads = rs }

-- `entry_at`: the word is read where the table is lent and the index is below 512
unfoldable pub entry_logged : List ℕ → ℕ → ℕ → ℕ → ℕ → Logged (Result ℕ Refusal)
entry_logged ws start total t i =
    pick (inside start total t)
    (pick (ltb i 512)
    (let e = get_or ws (place start t i) 0 in logged (present e) (record { table = t; index = i; word = e } ∷ []))
    (logged (Err NotMapped) []))
    (logged (Err TableOutside) [])

-- `judge`
abbrev pub judge_logged : List ℕ → ℕ → Logged (Result Leaf Refusal) → Logged (Result Leaf Refusal)
judge_logged [] e on = logged (Ok (Page e)) []
judge_logged (j ∷ []) e on = pick (flag 7 e) (logged (Ok (Large e)) []) on
judge_logged (j ∷ k ∷ is) e on = on

-- what was read before, then what is read after it
abbrev pub read_first : {A : Type 0} → List Read → Logged A → Logged A
read_first rs l = logged l.walked (rs ++ l.reads)

-- `leaf`
unfoldable pub leaf_logged : List ℕ → ℕ → ℕ → ℕ → List ℕ → Logged (Result Leaf Refusal)
leaf_logged ws start total t [] = logged (Err NotMapped) []
leaf_logged ws start total t (i ∷ is) =
    let l = entry_logged ws start total t i in
    read_first l.reads (and_then l.walked (λ n. logged (Err n) []) (λ e. judge_logged is e (leaf_logged ws start total (frame_of e) is)))

-- what a row says was read
abbrev pub read_of : Row → Read
read_of r = record { table = r.frame.0; index = r.index; word = r.word }

-- ---- the statement, for every address and board, whatever its words hold, loops included

-- the levels from n down to the last
abbrev pub countdown : ℕ → List ℕ
countdown zero = []
countdown (suc n) = suc n ∷ countdown n

-- the verdict on the entry that a walk ends at
abbrev pub end_verdict : Result Leaf Refusal → Verdict
end_verdict (Ok (Page e)) = Last
end_verdict (Ok (Large e)) = LargePage
end_verdict (Err n) = pick (same_refusal n TableOutside) Outside Absent

pub record Shows : Type 0 where
  -- 'The address and number equal translate's for every address and board'
  pub same : (levels : ℕ) (ws : List ℕ) (start total root v : ℕ) → (show_translate levels ws start total root v).answer ≡ translate levels ws start total root v
  -- with its log the walk comes where it comes without
  pub walk : (ws : List ℕ) (start total t : ℕ) (path : List ℕ) → (leaf_logged ws start total t path).walked ≡ leaf ws start total t path
  -- 'The list is exactly the reads of the definition's walk'
  pub reads : (levels : ℕ) (ws : List ℕ) (start total root v : ℕ) → lent_walk levels (length ws) start total root ≡ true
      → map read_of (show_translate levels ws start total root v).rows ≡ (leaf_logged ws start total root (indices levels v)).reads
  -- from the root's level down, one after the other
  pub down : (levels : ℕ) (ws : List ℕ) (start total root v : ℕ) → let rows = (show_translate levels ws start total root v).rows in
      map (λ (r : Row). r.level) rows ≡ take (length rows) (countdown levels)
  -- 'with the rule that gave it': every row but the last is followed, and the last tells what the walk comes to
  pub verdicts : (levels : ℕ) (ws : List ℕ) (start total root v : ℕ) → lent_walk levels (length ws) start total root ≡ true
      → let rows = (show_translate levels ws start total root v).rows in
      map (λ (r : Row). r.verdict) rows ≡ replicate (length rows - 1) Followed ++ end_verdict (leaf ws start total root (indices levels v)) ∷ []
  -- 'The result lists the entries read, at most' as many as the board has levels; and the root's at least
  pub most : (levels : ℕ) (ws : List ℕ) (start total root v : ℕ) → length (show_translate levels ws start total root v).rows ≤ levels
  pub least : (levels : ℕ) (ws : List ℕ) (start total root v : ℕ) → lent_walk levels (length ws) start total root ≡ true
      → 1 ≤ length (show_translate levels ws start total root v).rows
  -- a broken record, 10 by `same`: no word is read
  pub none : (levels : ℕ) (ws : List ℕ) (start total root v : ℕ) → lent_walk levels (length ws) start total root ≡ false
      → (show_translate levels ws start total root v).rows ≡ []
