-- The user question: one entry after the other, and the statement.
use Prim.Native.Nat.{ℕ, suc, ◌<◌, ◌≤◌}
use mathlib.Core.Path.{◌≡◌, refl, sym, ◌∙◌, ap, subst}
use mathlib.Core.Bool.{Bool, true, false, false≢true}
use mathlib.Core.List.Memᴰ
use mathlib.Core.List.{List, [], ◌∷◌, Memᴰ}
use mathlib.Core.Logic.{◌⊎◌, inl, inr, ◌↔◌, ⊎_elim}
use native.Mathlib.Omega.{arith}
use lib.ListN.{length, get_or}
use Rattle.std.specs.Prelude.{Ok, Err, Result}
use Rattle.answer.specs.declared.Refusal.{Refusal}
use Rattle.answer.specs.declared.Refusal.TheVariants.{BrokenRecord}
use Rattle.bits.specs.Bit.{both, flag}
use Rattle.bits.proofs.Choice.{both_true, both_false}
use Rattle.entry.specs.Entry.{frame_of, indices}
use Rattle.entry.proofs.Entry.{length_indices}
use Rattle.frame.specs.Frames.{inside}
use Rattle.paging.specs.declared.Leaf.{Leaf}
use Rattle.paging.specs.declared.Leaf.TheVariants.{Page, Large}
use Rattle.paging.specs.declared.Verdict.{Verdict}
use Rattle.paging.specs.declared.Verdict.TheVariants.{Absent, Outside, LargePage, Last}
use Rattle.paging.specs.declared.Row.{Row}
use Rattle.paging.specs.Walk.{place, leaf}
use Rattle.paging.specs.Calls.{lent_walk}
use Rattle.paging.specs.Working.{verdict_of, row_of, goes_on, rows_below, by_verdict, end_of, Working, show_translate}
use Rattle.paging.specs.User.{user_entry, all_user, is_page, user_rows, user_may, UserRule}
use Rattle.paging.proofs.Working.{NamesTable, verdict_absent, verdict_last, verdict_large, verdict_followed, verdict_outside, Case, absent, last, large, names, case, followed}
use Rattle.paging.proofs.Working.{rows_end, rows_on, end_more, show_is, right_lent}

-- two tests before a third, in either order
swap : (a b c : Bool) → both a (both b c) ≡ both b (both a c)
swap true true c = refl
swap true false c = refl
swap false true c = refl
swap false false c = refl

-- ---- one entry after the other

-- the rows of a path are some
rows_some : (ws : List ℕ) (start total t : ℕ) (is : List ℕ) → 0 < length is → 1 ≤ length (rows_below ws start total t is)
unfolding rows_below
rows_some ws start total t [] h = absurd (omega arith)
rows_some ws start total t (i ∷ is) h = omega arith

-- no path, no page
pub user_end_none : (write : Bool) (ws : List ℕ) (start total t : ℕ) {p : List ℕ} → p ≡ [] → user_rows write (rows_below ws start total t p) ≡ false
unfolding user_rows rows_below
user_end_none write ws start total t c = rw c

-- at entry i of table t, which is word k
module _ (write : Bool) (ws : List ℕ) (start total t : ℕ) {p : List ℕ} {i k : ℕ} {is : List ℕ} (c : p ≡ i ∷ is) (at : k ≡ place start t i) where
  abbrev here : ℕ
  here = get_or ws k 0

  -- the entry's verdict, by its place
  placed : verdict_of start total (length is) (get_or ws (place start t i) 0) ≡ verdict_of start total (length is) here
  placed = ap (λ (x : ℕ). verdict_of start total (length is) (get_or ws x 0)) (sym at)

  -- an entry that is followed
  user_followed : goes_on (verdict_of start total (length is) here) ≡ true
      → user_rows write (rows_below ws start total t p) ≡ both (user_entry write here) (user_rows write (rows_below ws start total (frame_of here) is))
  unfolding user_rows
  user_followed g =
      let w = rows_on ws start total t c (ap goes_on placed ∙ g) in
      let rest : List Row = rows_below ws start total (frame_of here) is in
      let e = end_more (row_of start total (length is) t i here) rest (rows_some ws start total (frame_of here) is (followed start total (length is) here g).0.1) in
      rw (w, sym at, e) (swap (is_page (end_of rest)) (user_entry write here) (all_user write rest))

  -- one where the walk ends
  user_end_lem : (v : Verdict) → verdict_of start total (length is) here ≡ v → goes_on v ≡ false
      → user_rows write (rows_below ws start total t p) ≡ both (is_page (by_verdict v here)) (both (user_entry write here) true)
  unfolding user_rows
  user_end_lem v j g = let w = rows_end ws start total t c (ap goes_on (placed ∙ j) ∙ g) in rw (w, placed, j, sym at)

  -- no, by the tests that code makes
  pub user_absent : flag 0 here ≡ false → user_rows write (rows_below ws start total t p) ≡ false
  user_absent h = user_end_lem Absent (verdict_absent start total (length is) here h) refl

  pub user_large : flag 0 here ≡ true → length is ≡ 1 → flag 7 here ≡ true → user_rows write (rows_below ws start total t p) ≡ false
  user_large h o k = user_end_lem LargePage (verdict_large start total (length is) here h o k) refl

  pub user_outside : NamesTable (length is) here → inside start total (frame_of here) ≡ false → user_rows write (rows_below ws start total t p) ≡ false
  user_outside n j = user_end_lem Outside (verdict_outside start total (length is) here n j) refl

  pub user_none : user_entry write here ≡ false → user_rows write (rows_below ws start total t p) ≡ false
  user_none h = by (goes_on (verdict_of start total (length is) here)) refl
    where
      by : (b : Bool) → goes_on (verdict_of start total (length is) here) ≡ b → user_rows write (rows_below ws start total t p) ≡ false
      by true g = user_followed g ∙ rw h
      by false g = user_end_lem (verdict_of start total (length is) here) refl g ∙ rw h (both_false (is_page (by_verdict (verdict_of start total (length is) here) here)))

  -- yes, and on
  pub user_last : flag 0 here ≡ true → length is ≡ 0 → user_entry write here ≡ true → user_rows write (rows_below ws start total t p) ≡ true
  user_last h z u = user_end_lem Last (verdict_last start total (length is) here h z) refl ∙ ap (λ (b : Bool). both b true) u

  pub user_on : NamesTable (length is) here → inside start total (frame_of here) ≡ true → user_entry write here ≡ true
      → user_rows write (rows_below ws start total t p) ≡ user_rows write (rows_below ws start total (frame_of here) is)
  user_on n j u = user_followed (ap goes_on (verdict_followed start total (length is) here n j)) ∙ rw u

-- ---- an entry of each level, where a walk comes to a 4 KiB page

page_last : (start total below e : ℕ) → goes_on (verdict_of start total below e) ≡ false → is_page (by_verdict (verdict_of start total below e) e) ≡ true → below ≡ 0
page_last start total below e g h = by (case below e)
  where
    no : (v : Verdict) → verdict_of start total below e ≡ v → is_page (by_verdict v e) ≡ false → ⊥
    no v j k = false≢true (sym k ∙ ap (λ (x : Verdict). is_page (by_verdict x e)) (sym j) ∙ h)

    named : NamesTable below e → (b : Bool) → inside start total (frame_of e) ≡ b → below ≡ 0
    named n true j = absurd (false≢true (sym g ∙ ap goes_on (verdict_followed start total below e n j)))
    named n false j = absurd (no Outside (verdict_outside start total below e n j) refl)

    by : Case below e → below ≡ 0
    by (absent f) = absurd (no Absent (verdict_absent start total below e f) refl)
    by (last f z) = z
    by (large f o k) = absurd (no LargePage (verdict_large start total below e f o k) refl)
    by (names n) = named n (inside start total (frame_of e)) refl

rows_all : (ws : List ℕ) (start total t : ℕ) (path : List ℕ) → is_page (end_of (rows_below ws start total t path)) ≡ true
    → length (rows_below ws start total t path) ≡ length path
unfolding rows_below
rows_all ws start total t [] h = refl
rows_all ws start total t (i ∷ is) h =
    by (goes_on (verdict_of start total (length is) (get_or ws (place start t i) 0))) refl (rows_all ws start total (frame_of (get_or ws (place start t i) 0)) is)
  where
    e : ℕ
    e = get_or ws (place start t i) 0

    by : (b : Bool) → goes_on (verdict_of start total (length is) e) ≡ b
        → (is_page (end_of (rows_below ws start total (frame_of e) is)) ≡ true → length (rows_below ws start total (frame_of e) is) ≡ length is)
        → length (rows_below ws start total t (i ∷ is)) ≡ suc (length is)
    by true g more =
        let w = rows_on ws start total t {is = is} refl g in
        let some = rows_some ws start total (frame_of e) is (followed start total (length is) e g).0.1 in
        ap length w ∙ ap suc (more (ap is_page (sym (ap end_of w ∙ end_more (row_of start total (length is) t i e) (rows_below ws start total (frame_of e) is) some)) ∙ h))
    by false g more =
        let w = rows_end ws start total t {is = is} refl g in
        ap length w ∙ ap suc (sym (page_last start total (length is) e g (ap is_page (sym (ap end_of w)) ∙ h)))

-- ---- the rule

-- all rows are the user's exactly where each is
all_user_lem : (write : Bool) (rows : List Row) → (all_user write rows ≡ true) ↔ ((r : Row) → Memᴰ r rows → user_entry write r.word ≡ true)
all_user_lem write [] = (λ _ r m. absurd (Memᴰ.not-nil m), λ _. refl)
all_user_lem write (s ∷ rows) =
    let next = all_user_lem write rows in (
      λ h r m. let both = both_true (user_entry write s.word) _ h in
          ⊎_elim (λ (e : r ≡ s). ap (λ (x : Row). user_entry write x.word) e ∙ both.0) (λ m'. next.0 both.1 r m') (Memᴰ.cases_cons m),
      λ h. rw (h s (Memᴰ.head refl)) (next.1 (λ r m. h r (Memᴰ.tail m))),
    )

module _ (levels : ℕ) (ws : List ℕ) (start total root v : ℕ) where
  pub may_broken : (write : Bool) → lent_walk levels (length ws) start total root ≡ false → user_may levels ws start total root v write ≡ Err BrokenRecord
  unfolding user_may
  may_broken write h = rw h

  pub may_is : (write : Bool) → lent_walk levels (length ws) start total root ≡ true
      → user_may levels ws start total root v write ≡ Ok (user_rows write (rows_below ws start total root (indices levels v)))
  unfolding user_may
  may_is write h = rw h

  -- yes is yes
  same_flag : {a b : Bool} → ◌≡◌ {A = Result Bool Refusal} (Ok a) (Ok b) → a ≡ b
  same_flag e = cc

  module _ (h : lent_walk levels (length ws) start total root ≡ true) where
    abbrev rows : List Row
    rows = rows_below ws start total root (indices levels v)

    shown : (show_translate levels ws start total root v).rows ≡ rows
    shown = ap (λ (w : Working). w.rows) (show_is levels ws start total root v h)

    -- the walk ends where its rows end
    ends : is_page (end_of rows) ≡ is_page (leaf ws start total root (indices levels v))
    ends = ap is_page (right_lent levels ws start total root v h).ends

    -- each of some rows lets user code
    abbrev Each : Bool → List Row → Type 0
    Each write l = (r : Row) → Memᴰ r l → user_entry write r.word ≡ true

    -- yes, where it comes to a 4 KiB page and each entry lets
    yes-is : (write : Bool) → (user_may levels ws start total root v write ≡ Ok true)
        ↔ ((is_page (leaf ws start total root (indices levels v)) ≡ true) × Each write (show_translate levels ws start total root v).rows)
    unfolding user_rows
    yes-is write = (
      λ e. let parts = both_true (is_page (end_of rows)) _ (same_flag (sym (may_is write h) ∙ e)) in
          (sym ends ∙ parts.0, subst (Each write) (sym shown) ((all_user_lem write rows).0 parts.1)),
      λ y. may_is write h ∙ ap Ok (rw (ends ∙ y.0) ((all_user_lem write rows).1 (subst (Each write) shown y.1))),
    )

-- what one entry asks
reads_is : (e : ℕ) → user_entry false e ≡ flag 2 e
reads_is e = by (flag 2 e)
  where
    by : (b : Bool) → both b true ≡ b
    by true = refl
    by false = refl

-- a page is one with an entry
page_of_lem : (l : Result Leaf Refusal) → is_page l ≡ true → (e : ℕ) × (l ≡ Ok (Page e))
page_of_lem (Ok (Page e)) h = (e, refl)
page_of_lem (Ok (Large e)) h = absurd (false≢true h)
page_of_lem (Err n) h = absurd (false≢true h)

pub user_rule : UserRule
user_rule =
    record {
      read = λ levels ws start total root v h. let y = yes-is levels ws start total root v h false in (
        λ e. (page_of_lem (leaf ws start total root (indices levels v)) (y.0 e).0, λ r m. sym (reads_is r.word) ∙ (y.0 e).1 r m),
        λ q. y.1 (ap is_page q.0.1, λ r m. reads_is r.word ∙ q.1 r m),
      );
      write = λ levels ws start total root v h. let y = yes-is levels ws start total root v h true in let n = yes-is levels ws start total root v h false in (
        λ e. (
          n.1 ((y.0 e).0, λ r m. reads_is r.word ∙ (both_true (flag 2 r.word) _ ((y.0 e).1 r m)).0),
          λ r m. (both_true (flag 2 r.word) _ ((y.0 e).1 r m)).1,
        ),
        λ q. y.1 ((n.0 q.0).0, λ r m. rw (sym (reads_is r.word) ∙ (n.0 q.0).1 r m) (q.1 r m)),
      );
      all = λ levels ws start total root v h e p. ap length (shown levels ws start total root v h)
          ∙ rows_all ws start total root (indices levels v) (ends levels ws start total root v h ∙ ap is_page p) ∙ length_indices levels v;
      answered = λ levels ws start total root v write h. told (user_rows write (rows_below ws start total root (indices levels v))) (may_is levels ws start total root v write h);
      broken = may_broken;
    }
  where
    told : {a : Result Bool Refusal} (b : Bool) → a ≡ Ok b → (a ≡ Ok true) ⊎ (a ≡ Ok false)
    told true e = inl e
    told false e = inr e
