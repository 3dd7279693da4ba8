-- The user question is the manual's access rights, while the walk stays in lent frames, and a yes is one everywhere: `UserAgrees` and `UserYes` of specs/Agreement.antt.
use Prim.Native.Nat.{ℕ, suc, ◌-◌, ◌<◌}
use mathlib.Core.Path.{◌≡◌, refl, sym, ◌∙◌, ap}
use mathlib.Core.Bool.{Bool, true, false, false≢true}
use mathlib.Core.List.{List, [], ◌∷◌, map}
use native.Mathlib.Omega.{arith}
use lib.Dec.{eqb}
use lib.ListN.{length, get_or}
use Rattle.std.specs.Prelude.{Ok, Err}
use Rattle.answer.specs.declared.Refusal.TheVariants.{TableOutside}
use Rattle.bits.specs.Bit.{both, flag}
use Rattle.bits.proofs.Choice.{both_false}
use Rattle.entry.specs.Entry.{frame_of, index, indices}
use Rattle.frame.specs.Frames.{inside}
use Rattle.paging.specs.Walk.{place, entry_at, leaf, address, may_walk}
use Rattle.paging.specs.Calls.{translate}
use Rattle.paging.specs.Working.{rows_below}
use Rattle.paging.specs.User.{user_entry, user_rows, user_may}
use Rattle.paging.proofs.Walk.{no_value, present_yes, entry_out, entry_in, leaf_stop}
use Rattle.paging.proofs.User.{user_absent, user_none, user_last, user_on, may_is, user_rule}
use Rattle.intel.specs.Sdm.{Paging, four_level, five_level, bits, Memory, Translation, physical, not_present, reserved, large, not_canonical, choose, p, ps, table_of}
use Rattle.intel.specs.Sdm.{through_pte, through_pde, through_pdpte, through_pml4e, through_pml5e, through_cr3, linear}
use Rattle.intel.specs.Sdm.{reading, read_pte, read_pde, read_pdpte, read_pml4e, read_pml5e, read_cr3, entries_read}
use Rattle.intel.specs.Sdm.{Access, data_read, data_write, user_supervisor, read_write, in_every, permits, Accessed, permitted, page_fault, general_protection, large_page, access_to, user_access}
use Rattle.intel.specs.Agreement.{paging_levels, Holds, NoHuge, asks_write, is_permitted, UserAgrees, UserYes}
use Rattle.intel.proofs.Steps.{leaf_plain, plain_here, plain_below}
use Rattle.intel.proofs.Entries.{same_table, lent_is, walk_is, at}

-- ---- the rights, one entry before others

-- the manual asks for one flag in every entry and then for the other, and we ask each entry for both
permits_more : (access : Access) (e : ℕ) (es : List ℕ) → permits access (e ∷ es) ≡ both (user_entry (asks_write access) e) (permits access es)
permits_more data_read e es = one (user_supervisor e)
  where
    one : (u : Bool) → choose u (in_every user_supervisor es) false ≡ both (both u true) (in_every user_supervisor es)
    one true = refl
    one false = refl
permits_more data_write e es = two (user_supervisor e) (read_write e) (in_every user_supervisor es) (in_every read_write es)
  where
    two : (u w us ws : Bool) → choose (choose u us false) (choose w ws false) false ≡ both (both u w) (choose us ws false)
    two true true us ws = refl
    two true false true ws = refl
    two true false false ws = refl
    two false w us ws = refl

permits_none : (access : Access) → permits access [] ≡ true
permits_none data_read = refl
permits_none data_write = refl

-- no translation permits what one of its entries does not
may_both : (m : Translation) (a b : Bool) → is_permitted (access_to m (both a b)) ≡ both a (is_permitted (access_to m b))
may_both m true b = refl
may_both (physical x) false b = refl
may_both not_present false b = refl
may_both reserved false b = refl
may_both large false b = refl
may_both not_canonical false b = refl

-- ---- one table after the other, from the last level up

module _ (access : Access) (mem : Memory) (ws : List ℕ) (start total v : ℕ) (holds : Holds mem ws start total) where
  -- what the manual says, with a translation and the entries that it reads
  abbrev May : Translation → List ℕ → Bool
  May m rs = is_permitted (access_to m (permits access (map mem rs)))

  -- what we say, along a path below table t
  abbrev Ours : ℕ → List ℕ → Bool
  Ours t is = user_rows (asks_write access) (rows_below ws start total t is)

  -- the walk there stays in lent frames
  abbrev Stays : ℕ → List ℕ → Type 0
  Stays t is = address v (leaf ws start total t is) ≡ Err TableOutside → ⊥

  -- .. so it begins in one
  lent : (t i : ℕ) (is : List ℕ) → Stays t (i ∷ is) → inside start total t ≡ true
  lent t i is stays = by (inside start total t) refl
    where
      by : (x : Bool) → inside start total t ≡ x → inside start total t ≡ true
      by true h = h
      by false h = absurd (stays (ap (address v) (leaf_stop ws start total t {is = is} refl TableOutside (entry_out ws start total t i h))))

  -- the word at entry i of table t
  abbrev word : ℕ → ℕ → ℕ
  word t i = get_or ws (place start t i) 0

  -- At entry i of table t. `through e` is the manual's outcome from an entry e on, and `rest e` the addresses that are read behind it. `next` is the case of an entry
  -- that is present and permits the access.
  step : (through : ℕ → Translation) (rest : ℕ → List ℕ) (t i : ℕ) (is : List ℕ) → i < 512 → ((e : ℕ) → p e ≡ false → through e ≡ not_present)
      → (flag 0 (word t i) ≡ true → entry_at ws start total t i ≡ Ok (word t i) → user_entry (asks_write access) (word t i) ≡ true
      → Ours t (i ∷ is) ≡ May (through (word t i)) (rest (word t i)))
      → Stays t (i ∷ is) → Ours t (i ∷ is) ≡ May (through (mem (at t i))) (at t i ∷ rest (mem (at t i)))
  step through rest t i is small none next stays = rw (holds.word t i h small) (by_flag (flag 0 w) refl)
    where
      w : ℕ
      w = word t i

      h : inside start total t ≡ true
      h = lent t i is stays

      by_right : flag 0 w ≡ true → (x : Bool) → user_entry (asks_write access) w ≡ x → Ours t (i ∷ is) ≡ both x (May (through w) (rest w))
      by_right k true u = next k (entry_in ws start total t i h small ∙ present_yes w k) u
      by_right k false u = user_none (asks_write access) ws start total t {is = is} refl refl u

      by_flag : (x : Bool) → flag 0 w ≡ x → Ours t (i ∷ is) ≡ is_permitted (access_to (through w) (permits access (w ∷ map mem (rest w))))
      by_flag true k =
          rw (permits_more access w (map mem (rest w)), may_both (through w) (user_entry (asks_write access) w) (permits access (map mem (rest w)))) (by_right k _ refl)
      by_flag false k = rw (none w k) (user_absent (asks_write access) ws start total t {is = is} refl refl k)

  -- a page table, whose entries map pages
  page_table : (t : ℕ) → Stays t (indices 1 v) → Ours t (indices 1 v) ≡ May (through_pte v (mem (at t (bits 20 12 v)))) (read_pte (at t (bits 20 12 v)))
  unfolding through_pte read_pte
  page_table t =
      step (through_pte v) (λ _. []) t (index 0 v) [] (omega arith) (λ e k. rw k)
      (λ k _ u. rw (k, permits_none access) (user_last (asks_write access) ws start total t refl refl k refl u))

  -- a table above, n levels over a page table: an entry with bit 7 is `other`, and any other one names a table below, where the two are the same
  above : (through below : ℕ → Translation) (other : Translation) (behind : ℕ → List ℕ) (n t : ℕ)
      → ((e : ℕ) → through e ≡ choose (p e) (choose (ps e) other (below (table_of e))) not_present)
      → ((s : ℕ) → NoHuge ws start total n s → Stays s (indices (suc n) v) → Ours s (indices (suc n) v) ≡ May (below s) (behind s))
      → NoHuge ws start total (suc n) t → Stays t (indices (suc (suc n)) v)
      → Ours t (indices (suc (suc n)) v)
      ≡ May (through (mem (at t (index (suc n) v)))) (reading mem (at t (index (suc n) v)) (λ e. behind (table_of e)))
  above through below other behind n t law next h stays =
      step through (λ e. choose (p e) (choose (ps e) [] (behind (table_of e))) []) t (index (suc n) v) (indices (suc n) v) (omega arith) (λ e k. law e ∙ rw k)
      (λ k e u.
      let w : ℕ = word t (index (suc n) v) in
      let plain : ps w ≡ false = plain_here ws start total _ w h e in
      let on : Stays (frame_of w) (indices (suc n) v) = λ z. stays (ap (address v) (leaf_plain ws start total t _ _ (indices n v) w e plain) ∙ z) in
      rw (law w, k, plain, same_table w)
      (user_on (asks_write access) ws start total t refl refl (k, omega arith, rw plain (both_false (eqb (length (indices (suc n) v)) 1))) (lent (frame_of w) _ _ on) u
      ∙ next (frame_of w) (plain_below ws start total _ w h e) on))
      stays

  directory : (t : ℕ) → NoHuge ws start total 1 t → Stays t (indices 2 v)
      → Ours t (indices 2 v) ≡ May (through_pde mem v (mem (at t (bits 29 21 v)))) (read_pde mem v (at t (bits 29 21 v)))
  unfolding through_pde read_pde
  directory t =
      above (through_pde mem v) (λ s. through_pte v (mem (at s (bits 20 12 v)))) large (λ s. read_pte (at s (bits 20 12 v))) 0 t (λ e. refl) (λ s _. page_table s)

  pointers : (t : ℕ) → NoHuge ws start total 2 t → Stays t (indices 3 v)
      → Ours t (indices 3 v) ≡ May (through_pdpte mem v (mem (at t (bits 38 30 v)))) (read_pdpte mem v (at t (bits 38 30 v)))
  unfolding through_pdpte read_pdpte
  pointers t =
      above (through_pdpte mem v) (λ s. through_pde mem v (mem (at s (bits 29 21 v)))) large (λ s. read_pde mem v (at s (bits 29 21 v))) 1 t (λ e. refl) directory

  pml4 : (t : ℕ) → NoHuge ws start total 3 t → Stays t (indices 4 v)
      → Ours t (indices 4 v) ≡ May (through_pml4e mem v (mem (at t (bits 47 39 v)))) (read_pml4e mem v (at t (bits 47 39 v)))
  unfolding through_pml4e read_pml4e
  pml4 t =
      above (through_pml4e mem v) (λ s. through_pdpte mem v (mem (at s (bits 38 30 v)))) reserved (λ s. read_pdpte mem v (at s (bits 38 30 v))) 2 t (λ e. refl) pointers

  pml5 : (t : ℕ) → NoHuge ws start total 4 t → Stays t (indices 5 v)
      → Ours t (indices 5 v) ≡ May (through_pml5e mem v (mem (at t (bits 56 48 v)))) (read_pml5e mem v (at t (bits 56 48 v)))
  unfolding through_pml5e read_pml5e
  pml5 t =
      above (through_pml5e mem v) (λ s. through_pml4e mem v (mem (at s (bits 47 39 v)))) reserved (λ s. read_pml4e mem v (at s (bits 47 39 v))) 3 t (λ e. refl) pml4

  -- the table that CR3 names
  first : (paging : Paging) (cr3 t : ℕ) → table_of cr3 ≡ t → NoHuge ws start total (paging_levels paging - 1) t → Stays t (indices (paging_levels paging) v)
      → Ours t (indices (paging_levels paging) v) ≡ May (through_cr3 paging mem v cr3) (read_cr3 paging mem v cr3)
  first four_level cr3 t e = rw e (pml4 t)
  first five_level cr3 t e = rw e (pml5 t)

pub user_agrees : UserAgrees
unfolding user_access linear entries_read
user_agrees access paging mem cr3 ws start total root v h stays =
    may_is (paging_levels paging) ws start total root v (asks_write access) (lent_is paging ws start total root h.whole)
    ∙ ap Ok (rw h.form
    (first access mem ws start total v h.holds paging cr3 root h.base h.no_huge (λ z. stays (walk_is paging ws start total root v h.whole ∙ z))))

-- a yes is one of a walk that comes to a page
yes_stays : (access : Access) (paging : Paging) (ws : List ℕ) (start total root v : ℕ) → may_walk (length ws) start total root ≡ true
    → user_may (paging_levels paging) ws start total root v (asks_write access) ≡ Ok true → translate (paging_levels paging) ws start total root v ≡ Err TableOutside → ⊥
yes_stays access paging ws start total root v h may z =
    let l = lent_is paging ws start total root h in
    let page = ((user_rule.read (paging_levels paging) ws start total root v l).0 (reads access may)).0 in
    no_value (sym (walk_is paging ws start total root v h ∙ ap (address v) page.1) ∙ z)
  where
    reads : (a : Access) → user_may (paging_levels paging) ws start total root v (asks_write a) ≡ Ok true → user_may (paging_levels paging) ws start total root v false ≡ Ok true
    reads data_read e = e
    reads data_write e = ((user_rule.write (paging_levels paging) ws start total root v (lent_is paging ws start total root h)).0 e).0

pub user_yes : UserYes
user_yes access paging mem cr3 ws start total root v h may =
    let same : Ok true ≡ Ok (is_permitted (user_access access paging mem cr3 v)) =
    sym may ∙ user_agrees access paging mem cr3 ws start total root v h (yes_stays access paging ws start total root v h.whole may) in
    only (user_access access paging mem cr3 v) cc
  where
    only : (x : Accessed) → is_permitted x ≡ true → x ≡ permitted
    only permitted e = refl
    only page_fault e = absurd (false≢true e)
    only general_protection e = absurd (false≢true e)
    only large_page e = absurd (false≢true e)
