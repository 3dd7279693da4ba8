-- The rows as numbers, one after the other: each is stored behind those before it, and the count at the end.
use Prim.Native.Nat.{ℕ, suc, ◌+◌, ◌-◌, ◌*◌, ◌<◌}
use mathlib.Core.Path.{◌≡◌, refl, sym, ◌∙◌, ap}
use mathlib.Core.List.{List, [], ◌∷◌, ◌++◌}
use native.Mathlib.Omega.{arith}
use lib.ListN.{length, set, drop, replicate, length-append, replicate-append-replicate}
use lib.Seq.{sets, sets-eq, take-append_seam, drop-append-add}
use Rattle.paging.specs.declared.Row.{Row}
use Rattle.working.specs.Rows.{row_numbers, rows_numbers, shown_numbers}

-- five stores in a row
pub five_stores : (l : List ℕ) (i a b c d e : ℕ) → set (set (set (set (set l i a) (i + 1) b) (i + 2) c) (i + 3) d) (i + 4) e ≡ sets l i (a ∷ b ∷ c ∷ d ∷ e ∷ [])
five_stores l i a b c d e =
    let one : i + 1 ≡ suc i = omega arith in
    let two : i + 2 ≡ suc (suc i) = omega arith in
    let three : i + 3 ≡ suc (suc (suc i)) = omega arith in
    let four : i + 4 ≡ suc (suc (suc (suc i))) = omega arith in
    rw (one, two, three, four)

-- the rows that stand there while their count does not
abbrev pub unfinished : List Row → List ℕ
unfinished rows = 0 ∷ (rows_numbers rows ++ replicate (25 - length rows * 5) 0)

numbers_append : (xs ys : List Row) → rows_numbers (xs ++ ys) ≡ rows_numbers xs ++ rows_numbers ys
unfolding rows_numbers
numbers_append [] ys = refl
numbers_append (x ∷ xs) ys = ap (λ ns. row_numbers x ++ ns) (numbers_append xs ys)

numbers_one : (r : Row) → rows_numbers (r ∷ []) ≡ row_numbers r
unfolding rows_numbers
numbers_one r = refl

numbers_length : (rows : List Row) → length (rows_numbers rows) ≡ length rows * 5
unfolding rows_numbers
numbers_length [] = refl
numbers_length (r ∷ rows) = omega (arith, numbers_length rows)

-- five numbers stored where five zeros stood
stored : (p q vs : List ℕ) → length vs ≡ 5 → sets (p ++ (replicate 5 0 ++ q)) (length p) vs ≡ p ++ vs ++ q
stored p q vs h =
    let l : List ℕ = p ++ (replicate 5 0 ++ q) in
    sets-eq vs l (length p) (omega (arith, h, length-append p (replicate 5 0 ++ q)))
    ∙ ap (λ x. x ++ vs ++ drop (length p + length vs) l) (take-append_seam p (replicate 5 0 ++ q))
    ∙ ap (λ x. p ++ vs ++ x) (ap (λ n. drop (length p + n) l) h ∙ drop-append-add p (replicate 5 0 ++ q) 5)

pub row_put : (rows : List Row) (r : Row) (at : ℕ) → length rows ≡ at → at < 5 → sets (unfinished rows) (1 + at * 5) (row_numbers r) ≡ unfinished (rows ++ r ∷ [])
row_put rows r at l h =
    let p : List ℕ = 0 ∷ rows_numbers rows in
    let q : List ℕ = replicate (20 - at * 5) 0 in
    let place : 1 + at * 5 ≡ length p = omega (arith, numbers_length rows, l) in
    let room : 25 - length rows * 5 ≡ 5 + (20 - at * 5) = omega (arith, l, h) in
    let less : 20 - at * 5 ≡ 25 - length (rows ++ r ∷ []) * 5 = omega (arith, l, length-append rows (r ∷ [])) in
    let zeros : replicate (25 - length rows * 5) 0 ≡ replicate 5 0 ++ q = ap (λ n. replicate n 0) room ∙ sym (replicate-append-replicate 5 (20 - at * 5) 0) in
    ap (λ n. sets (unfinished rows) n (row_numbers r)) place
    ∙ ap (λ ns. sets (p ++ ns) (length p) (row_numbers r)) zeros
    ∙ stored p q (row_numbers r) refl
    ∙ ap (λ ns. 0 ∷ (ns ++ q)) (ap (λ ns. rows_numbers rows ++ ns) (sym (numbers_one r)) ∙ sym (numbers_append rows (r ∷ [])))
    ∙ ap (λ n. 0 ∷ (rows_numbers (rows ++ r ∷ []) ++ replicate n 0)) less

-- the count, once all stand there
pub count_put : (rows : List Row) (n : ℕ) → length rows ≡ n → set (unfinished rows) 0 n ≡ shown_numbers rows
count_put rows n h = ap (λ k. k ∷ (rows_numbers rows ++ replicate (25 - length rows * 5) 0)) (sym h)

-- no row: 26 zeros
pub none_shown : replicate 26 0 ≡ shown_numbers []
unfolding rows_numbers
none_shown = refl
