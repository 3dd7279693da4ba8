-- The statements of specs/Agreement.antt hold, but for the last two, which are in Entries.antt and Rights.antt.
use Prim.Native.Nat.{ℕ, zero, suc, ◌+◌, ◌-◌, ◌*◌, ◌%◌, ◌^◌, ◌<◌}
use mathlib.Core.Path.{◌≡◌, refl, sym, ◌∙◌, ap}
use mathlib.Core.Bool.{Bool, true, false, true≢false}
use mathlib.Core.List.{List, [], ◌∷◌}
use mathlib.Core.Logic.{◌↔◌, ⊎_elim}
use native.Mathlib.Omega.{arith}
use lib.ListN.{length, get_or, take}
use Rattle.std.specs.Prelude.{Ok, Err, Result}
use Rattle.answer.specs.declared.Refusal.{Refusal}
use Rattle.answer.specs.declared.Refusal.TheVariants.{NotMapped, TableOutside}
use Rattle.bits.specs.Bit.{flag}
use Rattle.entry.specs.Entry.{frame_of, addr_of, index, indices}
use Rattle.frame.specs.Frames.{inside}
use Rattle.paging.specs.declared.Leaf.{Leaf}
use Rattle.paging.specs.Walk.{place, entry_at, reach, judge, leaf, address}
use Rattle.paging.specs.Calls.{translate}
use Rattle.paging.proofs.Walk.{no_value, present_yes, present_no, entry_out, entry_in, reach_end, reach_stop, reach_on, leaf_stop, leaf_on}
use Rattle.intel.specs.Sdm.{Paging, four_level, five_level, bits, Memory, Translation, physical, not_present, reserved, large, choose, p, ps, table_of, page_at, through_pte, through_pde, through_pdpte, through_pml4e, through_pml5e, through_cr3, linear}
use Rattle.intel.specs.Agreement.{paging_levels, Holds, NoHuge, as_translation, Agrees, SamePages, SameAbsent, ThreeOutcomes, OffBoard}
use Rattle.intel.proofs.Steps.{not_outside, judge_plain, entry_outcomes, leaf_plain, plain_here, plain_below, outcomes}
use Rattle.intel.proofs.Entries.{same_table, walk_is}

-- ---- one table after the other, from the last level up

-- an outcome of the manual's is one of ours, unless ours is off the board
abbrev Same : Translation → Result ℕ Refusal → Type 0
Same m w = (w ≡ Err TableOutside → ⊥) → m ≡ as_translation w

module _ (mem : Memory) (ws : List ℕ) (start total v : ℕ) (holds : Holds mem ws start total) where
  -- At entry i of table t. `through e` is the manual's outcome from an entry e on, and `on e` the one behind it where it is present.
  step : (through on : ℕ → Translation) (t i : ℕ) (is : List ℕ) → ((e : ℕ) → through e ≡ choose (p e) (on e) not_present) → i < 512
      → ((e : ℕ) → entry_at ws start total t i ≡ Ok e → Same (on e) (address v (judge is e (leaf ws start total (frame_of e) is))))
      → Same (through (mem (t * 2 ^ 12 + i * 2 ^ 3))) (address v (leaf ws start total t (i ∷ is)))
  step through on t i is law small behind stays = by-table (inside start total t) refl
    where
      w : ℕ
      w = get_or ws (place start t i) 0

      by_flag : inside start total t ≡ true → (x : Bool) → flag 0 w ≡ x → choose x (on w) not_present ≡ as_translation (address v (leaf ws start total t (i ∷ is)))
      by_flag h true k =
          let e : entry_at ws start total t i ≡ Ok w = entry_in ws start total t i h small ∙ present_yes w k in
          let l : leaf ws start total t (i ∷ is) ≡ judge is w (leaf ws start total (frame_of w) is) = leaf_on ws start total t refl w e in
          behind w e (λ z. stays (ap (address v) l ∙ z)) ∙ ap (λ (x : Result Leaf Refusal). as_translation (address v x)) (sym l)
      by_flag h false k = rw (leaf_stop ws start total t {is = is} refl NotMapped (entry_in ws start total t i h small ∙ present_no w k))

      by-table : (x : Bool) → inside start total t ≡ x → through (mem (t * 2 ^ 12 + i * 2 ^ 3)) ≡ as_translation (address v (leaf ws start total t (i ∷ is)))
      by-table true h = ap through (holds.word t i h small) ∙ law w ∙ by_flag h (flag 0 w) refl
      by-table false h = absurd (stays (ap (address v) (leaf_stop ws start total t refl TableOutside (entry_out ws start total t i h))))

  -- a page table, whose entries map pages
  page_table : (t : ℕ) → Same (through_pte v (mem (t * 2 ^ 12 + bits 20 12 v * 2 ^ 3))) (address v (leaf ws start total t (indices 1 v)))
  unfolding through_pte
  page_table t =
      step (through_pte v) _ t (index 0 v) [] (λ e. refl) (omega arith)
      (λ e _ _. let same : page_at e v ≡ addr_of e + v % 2 ^ 12 = omega arith in ap physical same)

  -- a table above, n levels over a page table: an entry with bit 7 is `other`, and any other one names a table below, for which the two are the same
  above : (through below : ℕ → Translation) (other : Translation) (n t : ℕ)
      → ((e : ℕ) → through e ≡ choose (p e) (choose (ps e) other (below (table_of e))) not_present)
      → ((s : ℕ) → NoHuge ws start total n s → Same (below s) (address v (leaf ws start total s (indices (suc n) v))))
      → NoHuge ws start total (suc n) t
      → Same (through (mem (t * 2 ^ 12 + index (suc n) v * 2 ^ 3))) (address v (leaf ws start total t (indices (suc (suc n)) v)))
  above through below other n t law behind h =
      step through _ t (index (suc n) v) (indices (suc n) v) law (omega arith) (λ e k.
      let plain : ps e ≡ false = plain_here ws start total _ e h k in
      rw (plain, same_table e, judge_plain (index n v) (indices n v) e _ plain) (behind (frame_of e) (plain_below ws start total _ e h k)))

  directory : (t : ℕ) → NoHuge ws start total 1 t → Same (through_pde mem v (mem (t * 2 ^ 12 + bits 29 21 v * 2 ^ 3))) (address v (leaf ws start total t (indices 2 v)))
  unfolding through_pde
  directory t = above (through_pde mem v) (λ s. through_pte v (mem (s * 2 ^ 12 + bits 20 12 v * 2 ^ 3))) large 0 t (λ e. refl) (λ s _. page_table s)

  pointers : (t : ℕ) → NoHuge ws start total 2 t → Same (through_pdpte mem v (mem (t * 2 ^ 12 + bits 38 30 v * 2 ^ 3))) (address v (leaf ws start total t (indices 3 v)))
  unfolding through_pdpte
  pointers t = above (through_pdpte mem v) (λ s. through_pde mem v (mem (s * 2 ^ 12 + bits 29 21 v * 2 ^ 3))) large 1 t (λ e. refl) directory

  pml4 : (t : ℕ) → NoHuge ws start total 3 t → Same (through_pml4e mem v (mem (t * 2 ^ 12 + bits 47 39 v * 2 ^ 3))) (address v (leaf ws start total t (indices 4 v)))
  unfolding through_pml4e
  pml4 t = above (through_pml4e mem v) (λ s. through_pdpte mem v (mem (s * 2 ^ 12 + bits 38 30 v * 2 ^ 3))) reserved 2 t (λ e. refl) pointers

  pml5 : (t : ℕ) → NoHuge ws start total 4 t
      → Same (through_pml5e mem v (mem (t * 2 ^ 12 + bits 56 48 v * 2 ^ 3))) (address v (leaf ws start total t (indices 5 v)))
  unfolding through_pml5e
  pml5 t = above (through_pml5e mem v) (λ s. through_pml4e mem v (mem (s * 2 ^ 12 + bits 47 39 v * 2 ^ 3))) reserved 3 t (λ e. refl) pml4

  -- the table that CR3 names
  first : (paging : Paging) (cr3 t : ℕ) → table_of cr3 ≡ t → NoHuge ws start total (paging_levels paging - 1) t
      → Same (through_cr3 paging mem v cr3) (address v (leaf ws start total t (indices (paging_levels paging) v)))
  first four_level cr3 t e = rw e (pml4 t)
  first five_level cr3 t e = rw e (pml5 t)

-- ---- a walk that leaves the board

module _ (ws : List ℕ) (start total v : ℕ) where
  -- a table outside, along a path
  abbrev Off : ℕ → List ℕ → Type 0
  Off t is = (k : ℕ) × (s : ℕ) × (k < length is) × (reach ws start total t (take k is) ≡ Ok s) × (inside start total s ≡ false)

  abbrev Leaves : ℕ → List ℕ → Type 0
  Leaves t is = (address v (leaf ws start total t is) ≡ Err TableOutside) ↔ Off t is

  -- it is not the first table if that is inside
  off_past : (t i : ℕ) (is : List ℕ) → inside start total t ≡ true → Off t (i ∷ is)
      → (k : ℕ) × (s : ℕ) × (k < length is) × (reach ws start total t (i ∷ take k is) ≡ Ok s) × (inside start total s ≡ false)
  off_past t i is h (zero, s, l, r, o) =
      let e : ◌≡◌ {A = Result ℕ Refusal} (Ok t) (Ok s) = sym (reach_end ws start total t refl) ∙ r in
      let same : t ≡ s = cc in
      absurd (true≢false (sym h ∙ ap (inside start total) same ∙ o))
  off_past t i is h (suc k, s, l, r, o) = (k, s, omega arith, r, o)

  -- by the first entry, given the case that it is present
  off_entry : (t i : ℕ) (is : List ℕ) → (inside start total t ≡ true → (w : ℕ) → entry_at ws start total t i ≡ Ok w → Leaves t (i ∷ is)) → Leaves t (i ∷ is)
  off_entry t i is there =
      entry_outcomes ws start total t i (λ (w : Result ℕ Refusal). entry_at ws start total t i ≡ w → Leaves t (i ∷ is))
      (λ h e. (λ _. (0, t, omega arith, reach_end ws start total t refl, h), λ _. ap (address v) (leaf_stop ws start total t refl TableOutside e)))
      (λ h e. (
        λ z. absurd (not_outside (sym (ap (address v) (leaf_stop ws start total t refl NotMapped e)) ∙ z)),
        λ o. let q = off_past t i is h o in absurd (no_value (sym q.3 ∙ reach_stop ws start total t refl NotMapped e)),
      ))
      (λ h. there h (get_or ws (place start t i) 0))
      refl

  off : (i : ℕ) (is : List ℕ) (t : ℕ) → NoHuge ws start total (length is) t → Leaves t (i ∷ is)
  off i [] t _ =
      off_entry t i [] (λ h w e. (
        λ z. absurd (no_value (sym (ap (address v) (leaf_on ws start total t refl w e)) ∙ z)),
        λ o. let q = off_past t i [] h o in absurd (omega (arith, q.2)),
      ))
  off i (j ∷ js) t n =
      off_entry t i (j ∷ js) (λ h w e.
      let same : address v (leaf ws start total t (i ∷ j ∷ js)) ≡ _ = ap (address v) (leaf_plain ws start total t i j js w e (plain_here ws start total i w n e)) in
      let next : Leaves (frame_of w) (j ∷ js) = off j js (frame_of w) (plain_below ws start total i w n e) in (
        λ z. let q = next.0 (sym same ∙ z) in (suc q.0, q.1, omega (arith, q.2), reach_on ws start total t refl w e ∙ q.3, q.4),
        λ o. let q = off_past t i (j ∷ js) h o in same ∙ next.1 (q.0, q.1, q.2, sym (reach_on ws start total t refl w e) ∙ q.3, q.4),
      ))

-- ---- the proofs

pub agrees : Agrees
unfolding linear
agrees paging mem cr3 ws start total root v h stays =
    let ours : translate (paging_levels paging) ws start total root v ≡ address v (leaf ws start total root (indices (paging_levels paging) v)) =
    walk_is paging ws start total root v h.whole in
    rw (h.form, ours) (first mem ws start total v h.holds paging cr3 root h.base h.no_huge (λ z. stays (ours ∙ z)))

pub three_outcomes : ThreeOutcomes
three_outcomes paging ws start total root v h = rw (walk_is paging ws start total root v h) (outcomes ws start total v root (indices (paging_levels paging) v))

pub same_pages : SamePages
same_pages paging mem cr3 ws start total root v h stays a =
    let same : linear paging mem cr3 v ≡ as_translation (translate (paging_levels paging) ws start total root v) = agrees paging mem cr3 ws start total root v h stays in
    (λ e. same ∙ ap as_translation e, λ e. back (translate (paging_levels paging) ws start total root v) (sym same ∙ e))
  where
    back : (w : Result ℕ Refusal) → as_translation w ≡ physical a → w ≡ Ok a
    back (Ok b) e = let x : b ≡ a = cc in ap Ok x
    back (Err n) e = let z : ◌≡◌ {A = ℕ} 0 1 = cc in absurd (omega arith)

pub same_absent : SameAbsent
same_absent paging mem cr3 ws start total root v h stays =
    let same : linear paging mem cr3 v ≡ as_translation (translate (paging_levels paging) ws start total root v) = agrees paging mem cr3 ws start total root v h stays in (
      λ e. same ∙ ap as_translation e,
      λ e. ⊎_elim (λ (x : (a : ℕ) × (translate (paging_levels paging) ws start total root v ≡ Ok a)). absurd (mapped x.0 (sym (ap as_translation x.1) ∙ sym same ∙ e)))
          (⊎_elim (λ x. x) (λ x. absurd (stays x))) (three_outcomes paging ws start total root v h.whole),
    )
  where
    mapped : (a : ℕ) → physical a ≡ not_present → ⊥
    mapped a e = let z : ◌≡◌ {A = ℕ} 0 1 = cc in omega arith

pub off_board : OffBoard
off_board paging ws start total root v h n = rw (walk_is paging ws start total root v h) (exactly paging n)
  where
    exactly : (paging : Paging) → NoHuge ws start total (paging_levels paging - 1) root
        → (address v (leaf ws start total root (indices (paging_levels paging) v)) ≡ Err TableOutside)
        ↔ ((k : ℕ) × (t : ℕ) × (k < paging_levels paging) × (reach ws start total root (take k (indices (paging_levels paging) v)) ≡ Ok t) × (inside start total t ≡ false))
    exactly four_level = off ws start total v (index 3 v) (indices 3 v) root
    exactly five_level = off ws start total v (index 4 v) (indices 4 v) root
