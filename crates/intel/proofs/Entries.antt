-- The walk leaves the board exactly where the manual's translation reads an entry outside: `ReadsOff` of specs/Agreement.antt.
use Prim.Native.Nat.{ℕ, suc, ◌+◌, ◌-◌, ◌*◌, ◌/◌, ◌^◌, ◌<◌}
use mathlib.Core.Path.{◌≡◌, refl, sym, ◌∙◌, ap, subst}
use mathlib.Core.Bool.{Bool, true, false, true≢false}
use mathlib.Core.List.Memᴰ
use mathlib.Core.List.{List, [], ◌∷◌, Memᴰ}
use mathlib.Core.Logic.{◌↔◌, ⊎_elim}
use native.Mathlib.Omega.{arith}
use lib.ListN.{length, get_or}
use Rattle.std.specs.Prelude.{Ok, Err}
use Rattle.answer.specs.declared.Refusal.TheVariants.{NotMapped, TableOutside}
use Rattle.bits.specs.Bit.{flag}
use Rattle.entry.specs.Entry.{frame_of, index, indices}
use Rattle.frame.specs.Frames.{inside, is_levels}
use Rattle.paging.specs.Walk.{place, entry_at, judge, leaf, address, may_walk}
use Rattle.paging.specs.Calls.{lent_walk, translate}
use Rattle.paging.proofs.Walk.{no_value, present_yes, present_no, entry_out, entry_in, leaf_stop, leaf_on}
use Rattle.paging.proofs.Calls.{walk_by_lent, translate_is}
use Rattle.intel.specs.Sdm.{Paging, four_level, five_level, bits, Memory, choose, p, ps, table_of, reading, read_pte, read_pde, read_pdpte, read_pml4e, read_pml5e, read_cr3, entries_read}
use Rattle.intel.specs.Agreement.{paging_levels, Holds, NoHuge, ReadsOff}
use Rattle.intel.proofs.Steps.{not_outside, judge_plain, plain_here, plain_below}

-- the table that an entry references is the frame that we walk to
pub same_table : (e : ℕ) → table_of e ≡ frame_of e
same_table e = omega arith

-- a record that is not broken may be walked: both numbers of levels are a board's
pub lent_is : (paging : Paging) (ws : List ℕ) (start total root : ℕ) → may_walk (length ws) start total root ≡ true
    → lent_walk (paging_levels paging) (length ws) start total root ≡ true
lent_is paging ws start total root h = walk_by_lent (paging_levels paging) (length ws) start total root (known paging) ∙ h
  where
    known : (p : Paging) → is_levels (paging_levels p) ≡ true
    known four_level = refl
    known five_level = refl

-- the walk that a translation is there
pub walk_is : (paging : Paging) (ws : List ℕ) (start total root v : ℕ) → may_walk (length ws) start total root ≡ true
    → translate (paging_levels paging) ws start total root v ≡ address v (leaf ws start total root (indices (paging_levels paging) v))
walk_is paging ws start total root v h = translate_is (paging_levels paging) ws start total root v (lent_is paging ws start total root h)

-- the address of entry i of table t
abbrev pub at : ℕ → ℕ → ℕ
at t i = t * 2 ^ 12 + i * 2 ^ 3

module _ (mem : Memory) (ws : List ℕ) (start total v : ℕ) (holds : Holds mem ws start total) where
  -- one of the addresses lies outside
  abbrev Off : List ℕ → Type 0
  Off rs = (a : ℕ) × Memᴰ a rs × (inside start total (a / 2 ^ 12) ≡ false)

  -- the walk of a path below table t leaves the board exactly where one of the addresses lies outside
  abbrev Leaves : ℕ → List ℕ → List ℕ → Type 0
  Leaves t is rs = (address v (leaf ws start total t is) ≡ Err TableOutside) ↔ Off rs

  off_none : Off [] → ⊥
  off_none (a, m, o) = Memᴰ.not-nil m

  off_behind : {b : ℕ} {rs : List ℕ} → Off rs → Off (b ∷ rs)
  off_behind (a, m, o) = (a, Memᴰ.tail m, o)

  -- it is not the first if that is inside
  off_past : (b : ℕ) (rs : List ℕ) → inside start total (b / 2 ^ 12) ≡ true → Off (b ∷ rs) → Off rs
  off_past b rs h (a, m, o) =
      ⊎_elim (λ (e : a ≡ b). absurd (true≢false (sym h ∙ ap (λ (x : ℕ). inside start total (x / 2 ^ 12)) (sym e) ∙ o))) (λ m'. (a, m', o)) (Memᴰ.cases_cons m)

  -- At entry i of table t. `behind e` are the addresses that are read behind an entry e where it is present.
  step : (t i : ℕ) (is : List ℕ) (behind : ℕ → List ℕ) → i < 512
      → ((e : ℕ) → entry_at ws start total t i ≡ Ok e → (address v (judge is e (leaf ws start total (frame_of e) is)) ≡ Err TableOutside) ↔ Off (behind e))
      → Leaves t (i ∷ is) (at t i ∷ choose (p (mem (at t i))) (behind (mem (at t i))) [])
  step t i is behind small next = by-table (inside start total t) refl
    where
      a : ℕ
      a = at t i

      w : ℕ
      w = get_or ws (place start t i) 0

      frame : a / 2 ^ 12 ≡ t
      frame = omega arith

      by_flag : inside start total t ≡ true → (x : Bool) → flag 0 w ≡ x → Leaves t (i ∷ is) (a ∷ choose x (behind w) [])
      by_flag h true k =
          let e : entry_at ws start total t i ≡ Ok w = entry_in ws start total t i h small ∙ present_yes w k in
          let l : address v (leaf ws start total t (i ∷ is)) ≡ address v (judge is w (leaf ws start total (frame_of w) is)) = ap (address v) (leaf_on ws start total t refl w e) in
          (λ z. off_behind ((next w e).0 (sym l ∙ z)), λ o. l ∙ (next w e).1 (off_past a _ (ap (inside start total) frame ∙ h) o))
      by_flag h false k =
          let l = ap (address v) (leaf_stop ws start total t {is = is} refl NotMapped (entry_in ws start total t i h small ∙ present_no w k)) in
          (λ z. absurd (not_outside (sym l ∙ z)), λ o. absurd (off_none (off_past a [] (ap (inside start total) frame ∙ h) o)))

      by-table : (x : Bool) → inside start total t ≡ x → Leaves t (i ∷ is) (a ∷ choose (p (mem a)) (behind (mem a)) [])
      by-table true h = rw (holds.word t i h small) (by_flag h (flag 0 w) refl)
      by-table false h =
          (λ _. (a, Memᴰ.head refl, ap (inside start total) frame ∙ h), λ _. ap (address v) (leaf_stop ws start total t refl TableOutside (entry_out ws start total t i h)))

  -- a page table: nothing is read behind its entries
  page_table : (t : ℕ) → Leaves t (indices 1 v) (read_pte (at t (bits 20 12 v)))
  unfolding read_pte
  page_table t =
      subst (λ (l : List ℕ). Leaves t (indices 1 v) (at t (bits 20 12 v) ∷ l)) (nothing (p (mem (at t (bits 20 12 v)))))
      (step t (index 0 v) [] (λ _. []) (omega arith) (λ e _. (λ z. absurd (no_value z), λ o. absurd (off_none o))))
    where
      nothing : (x : Bool) → choose {A = List ℕ} x [] [] ≡ []
      nothing true = refl
      nothing false = refl

  -- a table above, n levels over a page table: an entry with bit 7 references none, and any other one names a table below
  above : (behind : ℕ → List ℕ) (n t : ℕ) → ((s : ℕ) → NoHuge ws start total n s → Leaves s (indices (suc n) v) (behind s)) → NoHuge ws start total (suc n) t
      → Leaves t (indices (suc (suc n)) v) (reading mem (at t (index (suc n) v)) (λ e. behind (table_of e)))
  above behind n t below h =
      step t (index (suc n) v) (indices (suc n) v) (λ e. choose (ps e) [] (behind (table_of e))) (omega arith) (λ e k.
      let plain : ps e ≡ false = plain_here ws start total _ e h k in
      rw (plain, same_table e, judge_plain (index n v) (indices n v) e _ plain) (below (frame_of e) (plain_below ws start total _ e h k)))

  directory : (t : ℕ) → NoHuge ws start total 1 t → Leaves t (indices 2 v) (read_pde mem v (at t (bits 29 21 v)))
  unfolding read_pde
  directory t = above (λ s. read_pte (at s (bits 20 12 v))) 0 t (λ s _. page_table s)

  pointers : (t : ℕ) → NoHuge ws start total 2 t → Leaves t (indices 3 v) (read_pdpte mem v (at t (bits 38 30 v)))
  unfolding read_pdpte
  pointers t = above (λ s. read_pde mem v (at s (bits 29 21 v))) 1 t directory

  pml4 : (t : ℕ) → NoHuge ws start total 3 t → Leaves t (indices 4 v) (read_pml4e mem v (at t (bits 47 39 v)))
  unfolding read_pml4e
  pml4 t = above (λ s. read_pdpte mem v (at s (bits 38 30 v))) 2 t pointers

  pml5 : (t : ℕ) → NoHuge ws start total 4 t → Leaves t (indices 5 v) (read_pml5e mem v (at t (bits 56 48 v)))
  unfolding read_pml5e
  pml5 t = above (λ s. read_pml4e mem v (at s (bits 47 39 v))) 3 t pml4

  -- the table that CR3 names
  first : (paging : Paging) (cr3 t : ℕ) → table_of cr3 ≡ t → NoHuge ws start total (paging_levels paging - 1) t
      → Leaves t (indices (paging_levels paging) v) (read_cr3 paging mem v cr3)
  first four_level cr3 t e = rw e (pml4 t)
  first five_level cr3 t e = rw e (pml5 t)

pub reads_off : ReadsOff
unfolding entries_read
reads_off paging mem cr3 ws start total root v h =
    rw (h.form, walk_is paging ws start total root v h.whole) (first mem ws start total v h.holds paging cr3 root h.base h.no_huge)
