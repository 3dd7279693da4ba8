-- A page below its last table, by the tests that code makes, and runs of pages at their start and end.
use Prim.Native.Nat.{ℕ, ◌+◌, ◌-◌, ◌*◌, ◌<◌, ◌≤◌, min}
use mathlib.Core.Path.{◌≡◌, refl, sym, ◌∙◌, ap}
use mathlib.Core.Bool.{Bool, true, false}
use mathlib.Core.List.{List}
use native.Mathlib.Omega.{arith}
use lib.ListN.{length, get_or, set}
use Rattle.answer.specs.declared.Refusal.TheVariants.{NotMapped, TableOutside}
use Rattle.bits.specs.Bit.{flag}
use Rattle.entry.specs.Entry.{index, with_writable}
use Rattle.frame.specs.Frames.{inside}
use Rattle.paging.specs.Walk.{place, reach, WordsLent}
use Rattle.paging.specs.Protect.{page_place, protect_page, protect_pages}
use Rattle.spans.specs.Spans.{to_end}
use Rattle.spans.proofs.Addresses.{to_end_some}
use Rattle.paging.proofs.Walk.{entry_out, entry_in, present_yes, present_no, lent_still}
use Rattle.paging.proofs.Protect.{protect_none, protect_at, protect_pages_add, pages_toward}

module _ (w : Bool) (ws : List ℕ) (start total : ℕ) where
  module _ (t v : ℕ) where
    -- a table that is not lent, an absent entry, and a present one
    pub leaf_outside : inside start total t ≡ false → protect_page 0 w ws start total t v ≡ ws
    unfolding page_place reach
    leaf_outside h = protect_none ws start total w 0 t v TableOutside (rw (entry_out ws start total t (index 0 v) h))

    module _ (h : inside start total t ≡ true) (at : ℕ) (here : at ≡ place start t (index 0 v)) where
      pub leaf_absent : flag 0 (get_or ws at 0) ≡ false → protect_page 0 w ws start total t v ≡ ws
      unfolding page_place reach
      leaf_absent k =
          protect_none ws start total w 0 t v NotMapped
          (rw (entry_in ws start total t (index 0 v) h (omega arith) ∙ present_no _ (ap (λ (x : ℕ). flag 0 (get_or ws x 0)) (sym here) ∙ k)))

      pub leaf_present : flag 0 (get_or ws at 0) ≡ true → protect_page 0 w ws start total t v ≡ set ws at (with_writable w (get_or ws at 0))
      unfolding page_place reach
      leaf_present k =
          protect_at ws start total w 0 t v (place start t (index 0 v))
          (rw (entry_in ws start total t (index 0 v) h (omega arith) ∙ present_yes _ (ap (λ (x : ℕ). flag 0 (get_or ws x 0)) (sym here) ∙ k)))
          ∙ ap (λ (x : ℕ). set ws x (with_writable w (get_or ws x 0))) (sym here)

-- ---- a run, page by page

module _ (up : ℕ) (w : Bool) (ws : List ℕ) (start total root v : ℕ) where
  pub run_none : protect_pages up w ws start total root v 0 ≡ ws
  unfolding protect_pages
  run_none = refl

  -- after i pages k more
  pub run_part : (i k : ℕ) {ws₁ ws₂ : List ℕ} → ws₁ ≡ protect_pages up w ws start total root v i → ws₂ ≡ protect_pages up w ws₁ start total root (v + i * 4096) k
      → ws₂ ≡ protect_pages up w ws start total root v (i + k)
  run_part i k e f =
      f ∙ ap (λ (s : List ℕ). protect_pages up w s start total root (v + i * 4096) k) e ∙ sym (protect_pages_add up w start total root k i ws v)

  -- .. and one
  pub run_next : (i : ℕ) {ws₁ ws₂ : List ℕ} → ws₁ ≡ protect_pages up w ws start total root v i → ws₂ ≡ protect_page up w ws₁ start total root (v + i * 4096)
      → ws₂ ≡ protect_pages up w ws start total root v (i + 1)
  unfolding protect_pages
  run_next i e f = run_part i 1 e f

  -- there are as many words, so that what was lent is lent
  pub run_length : (n : ℕ) {ws' : List ℕ} → ws' ≡ protect_pages up w ws start total root v n → length ws' ≡ length ws
  run_length n e = ap length e ∙ (pages_toward up w start total root n ws v).number

  pub run_lent : (n : ℕ) {ws' : List ℕ} → ws' ≡ protect_pages up w ws start total root v n → WordsLent ws start total → WordsLent ws' start total
  run_lent n e l = lent_still (run_length n e) l

-- how many pages of a run are gone through at once: those up to the end of one entry's span, and no more than are left
pub record Part (done n all k : ℕ) : Type 0 where
  pub some : 0 < k
  pub span : k ≤ all
  pub fit : done + k ≤ n

pub part_of : (d v done n : ℕ) {e k : ℕ} → done < n → e ≡ to_end d v → k ≡ min e (n - done) → Part done n (to_end d v) k
part_of d v done n l e f =
    let p = to_end_some d v in
    record { some = omega (arith, e, f, p, l); span = omega (arith, e, f); fit = omega (arith, f, l) }
