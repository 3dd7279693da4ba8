-- The rows as the loop writes them: those before `at` stand there as numbers, behind them 0, and what is left to walk gives the rest.
use Prim.Native.Nat.{ℕ, suc, ◌+◌, ◌-◌, ◌*◌, ◌<◌, ◌≤◌}
use mathlib.Core.Path.{◌≡◌, refl, sym, ◌∙◌, ap}
use mathlib.Core.Bool.{true, false}
use mathlib.Core.List.{List, [], ◌∷◌, ◌++◌}
use native.Mathlib.Omega.{arith}
use lib.ListN.{length, get_or, set, length-append}
use lib.Seq.{sets, append_snoc}
use Rattle.entry.specs.Entry.{frame_of, index, indices}
use Rattle.entry.proofs.Entry.{indices_next, length_indices}
use Rattle.frame.specs.Frames.{inside}
use Rattle.paging.specs.declared.Row.{Row}
use Rattle.paging.specs.declared.Verdict.{Verdict}
use Rattle.paging.specs.Walk.{place}
use Rattle.paging.specs.Working.{verdict_of, row_of, goes_on, rows_below, by_verdict, end_of}
use Rattle.paging.proofs.Working.{rows_end, rows_on, end_more, followed}
use Rattle.working.specs.Rows.{row_numbers, shown_numbers}
use Rattle.working.proofs.RowNumbers.{unfinished, row_put, count_put}

-- the last row of a list, by which it ends
end_last : (rs : List Row) (r : Row) → end_of (rs ++ r ∷ []) ≡ by_verdict r.verdict r.word
end_last [] r = refl
end_last (s ∷ rs) r = end_more s (rs ++ r ∷ []) (omega (arith, length-append rs (r ∷ []))) ∙ end_last rs r

-- `at` rows are written, and `level` levels are left below table t
pub record Written (ws : List ℕ) (start total root v levels : ℕ) (out : List ℕ) (t level at : ℕ) : Type 0 where
  pub lent : inside start total t ≡ true
  pub some : 0 < level
  pub sum : at + level ≡ levels
  pub done : List Row
  pub count : length done ≡ at
  pub numbers : out ≡ unfinished done
  pub rest : done ++ rows_below ws start total t (indices level v) ≡ rows_below ws start total root (indices levels v)

-- none yet
pub written_none : (ws : List ℕ) (start total root v levels : ℕ) (out : List ℕ) → out ≡ shown_numbers [] → inside start total root ≡ true → 0 < levels
    → Written ws start total root v levels out root levels 0
written_none ws start total root v levels out h k l =
    record { lent = k; some = l; sum = omega arith; done = []; count = refl; numbers = h; rest = refl }

module _ {ws : List ℕ} {start total root v levels : ℕ} {out : List ℕ} {t level at : ℕ} (u : Written ws start total root v levels out t level at) (few : levels ≤ 5) where
  -- the entry of this turn, its word and its row
  abbrev entry_here : ℕ
  entry_here = index (level - 1) v

  abbrev word_here : ℕ
  word_here = get_or ws (place start t entry_here) 0

  abbrev row_here : Row
  row_here = row_of start total (level - 1) t entry_here word_here

  below_here : length (indices (level - 1) v) ≡ level - 1
  below_here = length_indices (level - 1) v

  ends_here : goes_on (verdict_of start total (level - 1) word_here) ≡ false → rows_below ws start total t (indices level v) ≡ row_here ∷ []
  ends_here h =
      rows_end ws start total t (indices_next level v u.some) (ap (λ n. goes_on (verdict_of start total n word_here)) below_here ∙ h)
      ∙ ap (λ n. row_of start total n t entry_here word_here ∷ []) below_here

  on_here : goes_on (verdict_of start total (level - 1) word_here) ≡ true
      → rows_below ws start total t (indices level v) ≡ row_here ∷ rows_below ws start total (frame_of word_here) (indices (level - 1) v)
  on_here h =
      rows_on ws start total t (indices_next level v u.some) (ap (λ n. goes_on (verdict_of start total n word_here)) below_here ∙ h)
      ∙ ap (λ n. row_of start total n t entry_here word_here ∷ rows_below ws start total (frame_of word_here) (indices (level - 1) v)) below_here

  -- what code has read, the index, the word's number and the verdict, and what it has written
  module _ {i p : ℕ} {d : Verdict} {o : List ℕ} (index_is : i ≡ entry_here) (place_is : p ≡ place start t i) (verdict-is : d ≡ verdict_of start total (level - 1) (get_or ws p 0))
      (put : o ≡ sets out (1 + at * 5) (row_numbers (record { level = level; frame = record { 0 = t }; index = i; word = get_or ws p 0; verdict = d }))) where
    abbrev rowRead : Row
    rowRead = record { level = level; frame = record { 0 = t }; index = i; word = get_or ws p 0; verdict = d }

    abbrev more : List Row
    more = u.done ++ row_here ∷ []

    word-is : get_or ws p 0 ≡ word_here
    word-is = ap (λ n. get_or ws n 0) (place_is ∙ ap (place start t) index_is)

    verdict-here : d ≡ verdict_of start total (level - 1) word_here
    verdict-here = verdict-is ∙ ap (verdict_of start total (level - 1)) word-is

    row_is : rowRead ≡ row_here
    row_is = let e : level ≡ suc (level - 1) = omega (arith, u.some) in cc

    stands : o ≡ unfinished more
    stands =
        put
        ∙ ap (λ (r : Row). sets out (1 + at * 5) (row_numbers r)) row_is
        ∙ ap (λ ns. sets ns (1 + at * 5) (row_numbers row_here)) u.numbers
        ∙ row_put u.done row_here at u.count (omega (arith, u.sum, u.some, few))

    -- the walk ends here
    module _ (g : goes_on d ≡ false) where
      whole : rows_below ws start total root (indices levels v) ≡ more
      whole = sym u.rest ∙ ap (λ r. u.done ++ r) (ends_here (ap goes_on (sym verdict-here) ∙ g))

      pub end_answer : by_verdict d (get_or ws p 0) ≡ end_of (rows_below ws start total root (indices levels v))
      end_answer = ap (λ (r : Row). by_verdict r.verdict r.word) row_is ∙ sym (end_last u.done row_here) ∙ ap end_of (sym whole)

      pub end_numbers : set o 0 (at + 1) ≡ shown_numbers (rows_below ws start total root (indices levels v))
      end_numbers =
          ap (λ ns. set ns 0 (at + 1)) stands
          ∙ count_put more (at + 1) (length-append u.done (row_here ∷ []) ∙ ap (λ n. n + 1) u.count)
          ∙ ap shown_numbers (sym whole)

    -- the walk goes on
    pub written_more : goes_on d ≡ true → {f : ℕ} → f ≡ frame_of (get_or ws p 0) → Written ws start total root v levels o f (level - 1) (at + 1)
    written_more g {f = f} h =
        let on = ap goes_on (sym verdict-here) ∙ g in
        let n = followed start total (level - 1) word_here on in
        let next : f ≡ frame_of word_here = h ∙ ap frame_of word-is in
        record {
          lent = ap (inside start total) next ∙ n.1;
          some = n.0.1;
          sum = omega (arith, u.sum, u.some);
          done = more;
          count = length-append u.done (row_here ∷ []) ∙ ap (λ k. k + 1) u.count;
          numbers = stands;
          rest =
              ap (λ x. more ++ rows_below ws start total x (indices (level - 1) v)) next
              ∙ append_snoc u.done row_here (rows_below ws start total (frame_of word_here) (indices (level - 1) v))
              ∙ ap (λ r. u.done ++ r) (sym (on_here on))
              ∙ u.rest;
        }
