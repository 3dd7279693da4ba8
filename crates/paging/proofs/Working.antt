-- The working of a translation: the verdict case by case, the rows one after the other, and the statement.
use Prim.Native.Nat.{ℕ, zero, suc, ◌-◌, ◌<◌, ◌≤◌}
use mathlib.Core.Path.{◌≡◌, refl, sym, ◌∙◌, ap}
use mathlib.Core.Bool.{Bool, true, false, false≢true}
use mathlib.Core.List.{List, [], ◌∷◌, ◌++◌, map, append-nil}
use native.Mathlib.Omega.{arith}
use lib.Dec.{eqb, ltb, lit≤}
use lib.ListN.{length, get_or, take, replicate}
use borrow.Author.Tests.{ne_eqb, lt-ltb}
use Rattle.std.specs.Prelude.{Ok, Err, Result}
use Rattle.answer.specs.declared.Refusal.{Refusal}
use Rattle.answer.specs.declared.Refusal.TheVariants.{NotMapped, TableOutside}
use Rattle.bits.specs.Bit.{pick, both, flag}
use Rattle.bits.proofs.Choice.{pick_cases}
use Rattle.answer.specs.Outcomes.{and_then}
use Rattle.entry.specs.Entry.{frame_of, index, indices}
use Rattle.entry.proofs.Entry.{length_indices}
use Rattle.frame.specs.Frames.{inside}
use Rattle.frame.proofs.Laws.{levels_least}
use Rattle.paging.specs.declared.Leaf.{Leaf}
use Rattle.paging.specs.declared.Leaf.TheVariants.{Page, Large}
use Rattle.paging.specs.declared.Verdict.{Verdict}
use Rattle.paging.specs.declared.Verdict.TheVariants.{Absent, Outside, Followed, LargePage, Last}
use Rattle.paging.specs.declared.Row.{Row}
use Rattle.paging.specs.Walk.{place, present, entry_at, judge, leaf, address}
use Rattle.paging.specs.Calls.{lent_walk, translate}
use Rattle.paging.specs.Working.{verdict_of, row_of, goes_on, rows_below, by_verdict, end_of, Working, by_rows, no_working, show_translate}
use Rattle.paging.specs.Working.{Read, Logged, logged, entry_logged, judge_logged, leaf_logged, read_of, countdown, end_verdict, Shows}
use Rattle.paging.proofs.Walk.{present_yes, present_no, entry_out, entry_in, lent_root, leaf_stop, leaf_on, judge_last, judge_one}
use Rattle.paging.proofs.Calls.{walk_levels, walk_lent, translate_broken, translate_is}

-- ---- the verdict, by the tests that code makes

-- a present word above the last level that is no large page
abbrev pub NamesTable : ℕ → ℕ → Type 0
NamesTable below e = (flag 0 e ≡ true) × (0 < below) × (both (eqb below 1) (flag 7 e) ≡ false)

module _ (start total below e : ℕ) where
  pub verdict_absent : flag 0 e ≡ false → verdict_of start total below e ≡ Absent
  unfolding verdict_of
  verdict_absent h = rw h

  pub verdict_last : flag 0 e ≡ true → below ≡ 0 → verdict_of start total below e ≡ Last
  unfolding verdict_of
  verdict_last h z = rw (h, z)

  pub verdict_large : flag 0 e ≡ true → below ≡ 1 → flag 7 e ≡ true → verdict_of start total below e ≡ LargePage
  unfolding verdict_of
  verdict_large h o k = rw (h, o, k)

  pub verdict_followed : NamesTable below e → inside start total (frame_of e) ≡ true → verdict_of start total below e ≡ Followed
  unfolding verdict_of
  verdict_followed n j = rw (n.0, ne_eqb below 0 (λ z. omega (arith, n.1)), n.2, j)

  pub verdict_outside : NamesTable below e → inside start total (frame_of e) ≡ false → verdict_of start total below e ≡ Outside
  unfolding verdict_of
  verdict_outside n j = rw (n.0, ne_eqb below 0 (λ z. omega (arith, n.1)), n.2, j)

-- the four cases of a word
pub data Case (below e : ℕ) : Type 0 where
  absent : flag 0 e ≡ false → Case below e
  last : flag 0 e ≡ true → below ≡ 0 → Case below e
  large : flag 0 e ≡ true → below ≡ 1 → flag 7 e ≡ true → Case below e
  names : NamesTable below e → Case below e

pub case : (below e : ℕ) → Case below e
case below e = by (flag 0 e) refl
  where
    tested : (b : Bool) → flag 7 e ≡ b → (d : ℕ) → below ≡ d → flag 0 e ≡ true → Case below e
    tested b k zero z h = last h z
    tested true k (suc zero) o h = large h o k
    tested false k (suc zero) o h = names (h, rw o (lit≤ tt), rw (o, k))
    tested b k (suc (suc d)) o h = names (h, omega (arith, o), rw (ne_eqb below 1 (λ z. omega (arith, o))))

    by : (b : Bool) → flag 0 e ≡ b → Case below e
    by false h = absent h
    by true h = tested (flag 7 e) refl below refl h

-- a word that is followed names a lent table, and stands above the last level
pub followed : (start total below e : ℕ) → goes_on (verdict_of start total below e) ≡ true → NamesTable below e × (inside start total (frame_of e) ≡ true)
followed start total below e h = by (case below e)
  where
    no : (v : Verdict) → verdict_of start total below e ≡ v → goes_on v ≡ false → ⊥
    no v j g = false≢true (sym g ∙ ap goes_on (sym j) ∙ h)

    lent : NamesTable below e → (b : Bool) → inside start total (frame_of e) ≡ b → inside start total (frame_of e) ≡ true
    lent n true j = j
    lent n false j = absurd (no Outside (verdict_outside start total below e n j) refl)

    by : Case below e → NamesTable below e × (inside start total (frame_of e) ≡ true)
    by (absent f) = absurd (no Absent (verdict_absent start total below e f) refl)
    by (last f z) = absurd (no Last (verdict_last start total below e f z) refl)
    by (large f o g) = absurd (no LargePage (verdict_large start total below e f o g) refl)
    by (names n) = (n, lent n (inside start total (frame_of e)) refl)

-- ---- the rows, one after the other. Paths by an equation, as the laws of walks take them

-- the word at entry i of table t
abbrev word_at : List ℕ → ℕ → ℕ → ℕ → ℕ
word_at ws start t i = get_or ws (place start t i) 0

module _ (ws : List ℕ) (start total t : ℕ) {p : List ℕ} {i : ℕ} {is : List ℕ} (c : p ≡ i ∷ is) where
  pub rows_end : goes_on (verdict_of start total (length is) (word_at ws start t i)) ≡ false
      → rows_below ws start total t p ≡ row_of start total (length is) t i (word_at ws start t i) ∷ []
  unfolding rows_below
  rows_end h = rw (c, h)

  pub rows_on : goes_on (verdict_of start total (length is) (word_at ws start t i)) ≡ true
      → rows_below ws start total t p ≡ row_of start total (length is) t i (word_at ws start t i) ∷ rows_below ws start total (frame_of (word_at ws start t i)) is
  unfolding rows_below
  rows_on h = rw (c, h)

-- what the last row says is what the whole says
pub end_more : (r : Row) (rs : List Row) → 1 ≤ length rs → end_of (r ∷ rs) ≡ end_of rs
end_more r [] h = absurd (omega arith)
end_more r (s ∷ rs) h = refl

-- the verdict at a walk's end tells the end
end_verdict_lem : (v : Verdict) (e : ℕ) → goes_on v ≡ false → end_verdict (by_verdict v e) ≡ v
end_verdict_lem Absent e g = refl
end_verdict_lem Outside e g = refl
end_verdict_lem Followed e g = absurd (false≢true (sym g))
end_verdict_lem LargePage e g = refl
end_verdict_lem Last e g = refl

-- one that is followed before others
one_more : (n : ℕ) → 1 ≤ n → (x : Verdict) (rs : List Verdict) → x ∷ replicate (n - 1) x ++ rs ≡ replicate n x ++ rs
one_more zero h x rs = absurd (omega arith)
one_more (suc n) h x rs = let e : suc n - 1 ≡ n = omega arith in rw e

-- ---- a word that names a table: the walk goes on, with its log and without

judge_names : (is : List ℕ) (e : ℕ) (on : Result Leaf Refusal) → NamesTable (length is) e → judge is e on ≡ on
judge_names [] e on n = absurd (omega (arith, n.1))
judge_names (j ∷ []) e on n = let k : flag 7 e ≡ false = n.2 in rw k
judge_names (j ∷ k ∷ is) e on n = refl

judge_logged_names : (is : List ℕ) (e : ℕ) (on : Logged (Result Leaf Refusal)) → NamesTable (length is) e → judge_logged is e on ≡ on
judge_logged_names [] e on n = absurd (omega (arith, n.1))
judge_logged_names (j ∷ []) e on n = let k : flag 7 e ≡ false = n.2 in rw k
judge_logged_names (j ∷ k ∷ is) e on n = refl

judge_logged_last : (is : List ℕ) (e : ℕ) (on : Logged (Result Leaf Refusal)) → length is ≡ 0 → judge_logged is e on ≡ logged (Ok (Page e)) []
judge_logged_last [] e on h = refl
judge_logged_last (i ∷ is) e on h = absurd (omega arith)

judge_logged_large : (is : List ℕ) (e : ℕ) (on : Logged (Result Leaf Refusal)) → length is ≡ 1 → flag 7 e ≡ true → judge_logged is e on ≡ logged (Ok (Large e)) []
judge_logged_large [] e on h k = absurd (omega arith)
judge_logged_large (i ∷ []) e on h k = rw k
judge_logged_large (i ∷ j ∷ is) e on h k = absurd (omega arith)

-- ---- the walk with its log

-- it comes where the walk comes
pick_walked : {A : Type 0} (b : Bool) (x y : Logged A) → (pick b x y).walked ≡ pick b x.walked y.walked
pick_walked true x y = refl
pick_walked false x y = refl

judge_walked : (is : List ℕ) (e : ℕ) (on : Logged (Result Leaf Refusal)) → (judge_logged is e on).walked ≡ judge is e on.walked
judge_walked [] e on = refl
judge_walked (j ∷ []) e on = pick_walked (flag 7 e) (logged (Ok (Large e)) []) on
judge_walked (j ∷ k ∷ is) e on = refl

then_walked : (o : Result ℕ Refusal) (k : ℕ → Logged (Result Leaf Refusal)) (j : ℕ → Result Leaf Refusal) → ((e : ℕ) → (k e).walked ≡ j e) → (and_then o (λ n. logged (Err n) []) k).walked ≡ and_then o Err j
then_walked (Ok e) k j h = h e
then_walked (Err n) k j h = refl

module _ (ws : List ℕ) (start total t i : ℕ) where
  -- what was read of an entry
  abbrev read_at : Read
  read_at = record { table = t; index = i; word = word_at ws start t i }

  entry_logged_in : inside start total t ≡ true → i < 512 → entry_logged ws start total t i ≡ logged (present (word_at ws start t i)) (read_at ∷ [])
  unfolding entry_logged
  entry_logged_in h k = rw (h, lt-ltb i 512 k)

  entry_logged_out : inside start total t ≡ false → entry_logged ws start total t i ≡ logged (Err TableOutside) []
  unfolding entry_logged
  entry_logged_out h = rw h

  entry_walked : (entry_logged ws start total t i).walked ≡ entry_at ws start total t i
  unfolding entry_logged entry_at
  entry_walked =
      let read : Logged (Result ℕ Refusal) = logged (present (word_at ws start t i)) (read_at ∷ []) in
      pick_walked (inside start total t) (pick (ltb i 512) read (logged (Err NotMapped) [])) (logged (Err TableOutside) [])
      ∙ ap (λ (o : Result ℕ Refusal). pick (inside start total t) o (Err TableOutside)) (pick_walked (ltb i 512) read (logged (Err NotMapped) []))

pub walk_logged : (ws : List ℕ) (start total t : ℕ) (path : List ℕ) → (leaf_logged ws start total t path).walked ≡ leaf ws start total t path
unfolding leaf_logged leaf
walk_logged ws start total t [] = refl
walk_logged ws start total t (i ∷ is) =
    let l = entry_logged ws start total t i in
    then_walked l.walked (λ e. judge_logged is e (leaf_logged ws start total (frame_of e) is)) (λ e. judge is e (leaf ws start total (frame_of e) is))
    (λ e. judge_walked is e (leaf_logged ws start total (frame_of e) is) ∙ ap (judge is e) (walk_logged ws start total (frame_of e) is))
    ∙ ap (λ (o : Result ℕ Refusal). and_then o Err (λ e. judge is e (leaf ws start total (frame_of e) is))) (entry_walked ws start total t i)

module _ (ws : List ℕ) (start total t : ℕ) {p : List ℕ} {i : ℕ} {is : List ℕ} (c : p ≡ i ∷ is) {rs : List Read} where
  logged_stop : (n : Refusal) → entry_logged ws start total t i ≡ logged (Err n) rs → (leaf_logged ws start total t p).reads ≡ rs
  unfolding leaf_logged
  logged_stop n h = rw (c, h) (append-nil rs)

  logged_on : (e : ℕ) → entry_logged ws start total t i ≡ logged (Ok e) rs
      → (leaf_logged ws start total t p).reads ≡ rs ++ (judge_logged is e (leaf_logged ws start total (frame_of e) is)).reads
  unfolding leaf_logged
  logged_on e h = rw (c, h)

-- a table that is not lent: nothing is read, and 19
module _ (ws : List ℕ) (start total f : ℕ) (h : inside start total f ≡ false) where
  leaf_out : (is : List ℕ) → 0 < length is → leaf ws start total f is ≡ Err TableOutside
  leaf_out [] k = absurd (omega arith)
  leaf_out (i ∷ is) k = leaf_stop ws start total f refl TableOutside (entry_out ws start total f i h)

  logged_out : (is : List ℕ) → 0 < length is → (leaf_logged ws start total f is).reads ≡ []
  logged_out [] k = absurd (omega arith)
  logged_out (i ∷ is) k = logged_stop ws start total f refl TableOutside (entry_logged_out ws start total f i h)

-- ---- the rows are right: they end where the walk ends, and are its reads

pub record Right (ws : List ℕ) (start total t : ℕ) (p : List ℕ) : Type 0 where
  pub ends : end_of (rows_below ws start total t p) ≡ leaf ws start total t p
  pub reads : map read_of (rows_below ws start total t p) ≡ (leaf_logged ws start total t p).reads
  pub down : map (λ (r : Row). r.level) (rows_below ws start total t p) ≡ take (length (rows_below ws start total t p)) (countdown (length p))
  pub verdicts : map (λ (r : Row). r.verdict) (rows_below ws start total t p)
      ≡ replicate (length (rows_below ws start total t p) - 1) Followed ++ end_verdict (leaf ws start total t p) ∷ []
  pub most : length (rows_below ws start total t p) ≤ length p
  pub least : 1 ≤ length (rows_below ws start total t p)

module _ (ws : List ℕ) (start total t i : ℕ) (is : List ℕ) (h : inside start total t ≡ true) (k : i < 512) where
  abbrev here : ℕ
  here = word_at ws start t i

  abbrev below : ℕ
  below = length is

  -- what is read there
  value : flag 0 here ≡ true → entry_at ws start total t i ≡ Ok here
  value f = entry_in ws start total t i h k ∙ present_yes here f

  value_logged : flag 0 here ≡ true → entry_logged ws start total t i ≡ logged (Ok here) (read_at ws start total t i ∷ [])
  value_logged f = entry_logged_in ws start total t i h k ∙ ap (λ o. logged o (read_at ws start total t i ∷ [])) (present_yes here f)

  -- a row that is the last of all
  right_end : (v : Verdict) → verdict_of start total below here ≡ v → goes_on v ≡ false → by_verdict v here ≡ leaf ws start total t (i ∷ is)
      → (leaf_logged ws start total t (i ∷ is)).reads ≡ read_at ws start total t i ∷ [] → Right ws start total t (i ∷ is)
  right_end v j g l r =
      let w = rows_end ws start total t refl (ap goes_on j ∙ g) in
      record {
        ends = ap end_of w ∙ ap (λ (x : Verdict). by_verdict x here) j ∙ l;
        reads = ap (map read_of) w ∙ sym r;
        down = rw w;
        verdicts = rw w (ap (λ (x : Verdict). x ∷ []) (j ∙ sym (ap end_verdict (sym l) ∙ end_verdict_lem v here g)));
        most = rw w (omega arith);
        least = rw w (lit≤ tt);
      }

  -- a row that is followed, where what follows is right
  right_on : NamesTable below here → inside start total (frame_of here) ≡ true → Right ws start total (frame_of here) is → Right ws start total t (i ∷ is)
  right_on n j r =
      let g = ap goes_on (verdict_followed start total below here n j) in
      let w = rows_on ws start total t refl g in
      let row : Row = row_of start total below t i here in
      let rest : List Row = rows_below ws start total (frame_of here) is in
      let less : length rest ≡ length (row ∷ rest) - 1 = omega arith in
      record {
        ends = ap end_of w ∙ end_more row rest r.least ∙ r.ends ∙ sym (leaf_on ws start total t refl here (value n.0) ∙ judge_names is here _ n);
        reads =
            ap (map read_of) w ∙ ap (λ rs. read_at ws start total t i ∷ rs) r.reads
            ∙ sym (logged_on ws start total t refl here (value_logged n.0) ∙ ap (λ (l : Logged (Result Leaf Refusal)). read_at ws start total t i ∷ l.reads) (judge_logged_names is here _ n));
        down = rw w (ap (λ ls. suc below ∷ ls) r.down);
        verdicts =
            rw w
            (ap (λ (x : Verdict). x ∷ map (λ (q : Row). q.verdict) rest) (verdict_followed start total below here n j)
            ∙ ap (λ vs. Followed ∷ vs) r.verdicts
            ∙ one_more (length rest) r.least Followed (end_verdict (leaf ws start total (frame_of here) is) ∷ [])
            ∙ ap (λ k. replicate k Followed ++ end_verdict (leaf ws start total (frame_of here) is) ∷ []) less
            ∙ ap (λ (l : Result Leaf Refusal). replicate (length (row ∷ rest) - 1) Followed ++ end_verdict l ∷ []) (sym (leaf_on ws start total t refl here (value n.0) ∙ judge_names is here _ n)));
        most = rw w (omega (arith, r.most));
        least = rw w (omega arith);
      }

  -- .. or names no lent table
  right_out : NamesTable below here → inside start total (frame_of here) ≡ false → Right ws start total t (i ∷ is)
  right_out n j =
      right_end Outside (verdict_outside start total below here n j) refl
      (sym (leaf_on ws start total t refl here (value n.0) ∙ judge_names is here _ n ∙ leaf_out ws start total (frame_of here) j is n.1))
      (logged_on ws start total t refl here (value_logged n.0)
      ∙ ap (λ (l : Logged (Result Leaf Refusal)). read_at ws start total t i ∷ l.reads) (judge_logged_names is here _ n)
      ∙ ap (λ rs. read_at ws start total t i ∷ rs) (logged_out ws start total (frame_of here) j is n.1))

  right_by : (0 < below → inside start total (frame_of here) ≡ true → Right ws start total (frame_of here) is) → Right ws start total t (i ∷ is)
  right_by on = by (case below here)
    where
      follow : NamesTable below here → (b : Bool) → inside start total (frame_of here) ≡ b → Right ws start total t (i ∷ is)
      follow n true j = right_on n j (on n.1 j)
      follow n false j = right_out n j

      by : Case below here → Right ws start total t (i ∷ is)
      by (absent f) =
          right_end Absent (verdict_absent start total below here f) refl
          (sym (leaf_stop ws start total t refl NotMapped (entry_in ws start total t i h k ∙ present_no here f)))
          (logged_stop ws start total t refl NotMapped (entry_logged_in ws start total t i h k ∙ ap (λ o. logged o (read_at ws start total t i ∷ [])) (present_no here f)))
      by (last f z) =
          right_end Last (verdict_last start total below here f z) refl (sym (leaf_on ws start total t refl here (value f) ∙ judge_last is here _ z))
          (logged_on ws start total t refl here (value_logged f) ∙ ap (λ (l : Logged (Result Leaf Refusal)). read_at ws start total t i ∷ l.reads) (judge_logged_last is here _ z))
      by (large f o g) =
          right_end LargePage (verdict_large start total below here f o g) refl (sym (leaf_on ws start total t refl here (value f) ∙ judge_one is here _ o ∙ rw g))
          (logged_on ws start total t refl here (value_logged f) ∙ ap (λ (l : Logged (Result Leaf Refusal)). read_at ws start total t i ∷ l.reads) (judge_logged_large is here _ o g))
      by (names n) = follow n (inside start total (frame_of here)) refl

pub right : (ws : List ℕ) (start total v n t : ℕ) → inside start total t ≡ true → Right ws start total t (indices (suc n) v)
right ws start total v zero t h = right_by ws start total t (index 0 v) [] h (omega arith) (λ z _. absurd (omega (arith, z)))
right ws start total v (suc n) t h = right_by ws start total t (index (suc n) v) (indices (suc n) v) h (omega arith) (λ _ j. right ws start total v n _ j)

-- ---- the statement

module _ (levels : ℕ) (ws : List ℕ) (start total root v : ℕ) where
  pub show_broken : lent_walk levels (length ws) start total root ≡ false → show_translate levels ws start total root v ≡ no_working
  unfolding show_translate
  show_broken h = rw h

  pub show_is : lent_walk levels (length ws) start total root ≡ true
      → show_translate levels ws start total root v ≡ by_rows v (rows_below ws start total root (indices levels v))
  unfolding show_translate
  show_is h = rw h

  -- the rows of a record that is not broken
  pub right_lent : lent_walk levels (length ws) start total root ≡ true → Right ws start total root (indices levels v)
  right_lent h = by levels (levels_least levels (walk_levels _ _ _ _ _ h)) (lent_root _ _ _ _ (walk_lent _ _ _ _ _ h))
    where
      by : (n : ℕ) → 4 ≤ n → inside start total root ≡ true → Right ws start total root (indices n v)
      by zero l k = absurd (omega arith)
      by (suc n) l k = right ws start total v n root k

  -- by the test of the record
  tested : (P : Working → Type 0) → (lent_walk levels (length ws) start total root ≡ true → P (by_rows v (rows_below ws start total root (indices levels v))))
      → (lent_walk levels (length ws) start total root ≡ false → P no_working) → P (show_translate levels ws start total root v)
  unfolding show_translate
  tested P met broken = pick_cases P (lent_walk levels (length ws) start total root) _ _ met broken

  same_as : (show_translate levels ws start total root v).answer ≡ translate levels ws start total root v
  same_as =
      tested (λ w. w.answer ≡ translate levels ws start total root v)
      (λ h. ap (address v) (right_lent h).ends ∙ sym (translate_is levels ws start total root v h))
      (λ h. sym (translate_broken levels ws start total root v h))

  pub show_most : length (show_translate levels ws start total root v).rows ≤ levels
  show_most =
      tested (λ w. length w.rows ≤ levels) (λ h. omega (arith, (right_lent h).most, length_indices levels v)) (λ h. omega arith)

  show_down : let rows = (show_translate levels ws start total root v).rows in map (λ (r : Row). r.level) rows ≡ take (length rows) (countdown levels)
  show_down =
      tested (λ w. map (λ (r : Row). r.level) w.rows ≡ take (length w.rows) (countdown levels))
      (λ h. (right_lent h).down ∙ ap (λ n. take (length (rows_below ws start total root (indices levels v))) (countdown n)) (length_indices levels v)) (λ h. refl)

pub shows : Shows
shows =
    record {
      same = same_as;
      walk = walk_logged;
      reads = λ levels ws start total root v h. ap (λ (w : Working). map read_of w.rows) (show_is levels ws start total root v h) ∙ (right_lent levels ws start total root v h).reads;
      down = show_down;
      verdicts = λ levels ws start total root v h. rw (show_is levels ws start total root v h) (right_lent levels ws start total root v h).verdicts;
      most = show_most;
      least = λ levels ws start total root v h. rw (show_is levels ws start total root v h) (right_lent levels ws start total root v h).least;
      none = λ levels ws start total root v h. ap (λ (w : Working). w.rows) (show_broken levels ws start total root v h);
    }
