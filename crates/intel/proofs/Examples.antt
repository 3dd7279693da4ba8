-- The statements of specs/Agreement.antt are not empty. Any lent words can stand in physical memory, and words without bit 7 have no HUGE entry. The canonical addresses
-- are the lowest and the highest 2^47 with four levels, 2^56 with five. On a board of one frame, of either kind, both sides map an address, to the same one, and both find
-- another absent; by the flags of its entry the user may write the page, only read it, or neither.
use Prim.Native.Nat.{ℕ, zero, suc, ◌+◌, ◌-◌, ◌*◌, ◌/◌, ◌%◌, ◌^◌, ◌<◌, ◌≤◌}
use mathlib.Core.Path.{◌≡◌, refl, sym, ap₂, subst}
use mathlib.Core.Bool.{Bool, true, false}
use mathlib.Core.List.{List, [], ◌∷◌}
use mathlib.Core.Logic.{◌⊎◌, inl, inr, ⊎_elim}
use native.Mathlib.Omega.{arith}
use lib.Dec.{eqb}
use lib.ListN.{get_or, replicate}
use borrow.Author.Tests.{eqb-true, eq-eqb, ne_eqb}
use Rattle.std.specs.Prelude.{Ok, Result}
use Rattle.answer.specs.declared.Refusal.{Refusal}
use Rattle.bits.specs.Bit.{flag}
use Rattle.entry.specs.Entry.{entry_of, huge_entry_of}
use Rattle.paging.specs.Walk.{place, present, entry_at, leaf, may_walk}
use Rattle.paging.specs.Calls.{lent_walk, translate}
use Rattle.paging.specs.Working.{verdict_of, rows_below}
use Rattle.paging.specs.User.{user_rows, user_may}
use Rattle.paging.proofs.Walk.{no_value}
use Rattle.intel.specs.Sdm.{Paging, four_level, five_level, bits, Memory, physical, not_present, not_canonical, width_of, or, canonical, linear}
use Rattle.intel.specs.Sdm.{through_pte, through_pde, through_pdpte, through_pml4e, through_pml5e, read_pte, read_pde, read_pdpte, read_pml4e, read_pml5e, entries_read}
use Rattle.intel.specs.Sdm.{Access, data_read, data_write, permitted, page_fault, general_protection, large_page, user_access}
use Rattle.intel.proofs.Steps.{not_outside, entry_outcomes}
use Rattle.intel.specs.Agreement.{paging_levels, Holds, NoHuge, Setting}
use Rattle.intel.proofs.Agree.{same_pages, same_absent}
use Rattle.intel.proofs.Rights.{user_yes}

-- a physical memory that holds the words from frame `start` on
abbrev pub memory_of : List ℕ → ℕ → Memory
memory_of ws start a = get_or ws (place start (a / 2 ^ 12) (a % 2 ^ 12 / 2 ^ 3)) 0

pub memory_holds : (ws : List ℕ) (start total : ℕ) → Holds (memory_of ws start) ws start total
memory_holds ws start total = record {
  word = λ t i _ small.
      let frame : (t * 2 ^ 12 + i * 2 ^ 3) / 2 ^ 12 ≡ t = omega arith in
      let entry : (t * 2 ^ 12 + i * 2 ^ 3) % 2 ^ 12 / 2 ^ 3 ≡ i = omega arith in
      ap₂ (λ (s j : ℕ). get_or ws (place start s j) 0) frame entry;
}

pub no_bit_7 : (ws : List ℕ) (start total up root : ℕ) → ((n : ℕ) → flag 7 (get_or ws n 0) ≡ false) → NoHuge ws start total up root
no_bit_7 ws start total up root h = record {
  plain = λ is t i e _ _.
      entry_outcomes ws start total t i (λ (w : Result ℕ Refusal). w ≡ Ok e → flag 7 e ≡ false) (λ _ x. absurd (no_value (sym x))) (λ _ x. absurd (no_value (sym x)))
      (λ _ x. let word : get_or ws (place start t i) 0 ≡ e = cc in subst (λ (n : ℕ). flag 7 n ≡ false) word (h (place start t i)));
}

-- ---- canonical addresses

either : (x a b : ℕ) → or (eqb x a) (eqb x b) ≡ true → (x ≡ a) ⊎ (x ≡ b)
either x a b = go (eqb x a) refl
  where
    go : (t : Bool) → eqb x a ≡ t → or t (eqb x b) ≡ true → (x ≡ a) ⊎ (x ≡ b)
    go true e _ = inl (eqb-true x a e)
    go false _ e = inr (eqb-true x b e)

-- half of them
abbrev pub half : Paging → ℕ
half four_level = 2 ^ 47
half five_level = 2 ^ 56

pub canonical_only : (paging : Paging) (v : ℕ) → v < 2 ^ 64 → canonical (width_of paging) v ≡ true → (v < half paging) ⊎ (2 ^ 64 - half paging ≤ v)
canonical_only four_level v h c = ⊎_elim (λ (e : bits 63 47 v ≡ 0). inl (omega arith)) (λ e. inr (omega arith)) (either (bits 63 47 v) 0 (2 ^ 17 - 1) c)
canonical_only five_level v h c = ⊎_elim (λ (e : bits 63 56 v ≡ 0). inl (omega arith)) (λ e. inr (omega arith)) (either (bits 63 56 v) 0 (2 ^ 8 - 1) c)

pub canonical_low : (paging : Paging) (v : ℕ) → v < half paging → canonical (width_of paging) v ≡ true
canonical_low four_level v h = rw (eq-eqb (bits 63 47 v) 0 (omega arith))
canonical_low five_level v h = rw (eq-eqb (bits 63 56 v) 0 (omega arith))

pub canonical_high : (paging : Paging) (v : ℕ) → 2 ^ 64 - half paging ≤ v → v < 2 ^ 64 → canonical (width_of paging) v ≡ true
canonical_high four_level v l h = rw (ne_eqb (bits 63 47 v) 0 (λ e. omega arith), eq-eqb (bits 63 47 v) (2 ^ 17 - 1) (omega arith))
canonical_high five_level v l h = rw (ne_eqb (bits 63 56 v) 0 (λ e. omega arith), eq-eqb (bits 63 56 v) (2 ^ 8 - 1) (omega arith))

-- ---- a board of one frame, 0x100, which is its own table at every level: entry 0 names the frame itself

-- its words, by WRITABLE and USER of that entry
abbrev words_of : Bool → Bool → List ℕ
words_of w u = entry_of 0x10_0000 w u ∷ replicate 511 0

-- a supervisor's
abbrev words : List ℕ
words = words_of true false

alike : (n i a : ℕ) → get_or (replicate n a) i a ≡ a
alike zero i a = refl
alike (suc n) zero a = refl
alike (suc n) (suc i) a = alike n i a

words_plain : (w u : Bool) (n : ℕ) → flag 7 (get_or (words_of w u) n 0) ≡ false
words_plain true true zero = refl
words_plain true false zero = refl
words_plain false true zero = refl
words_plain false false zero = refl
words_plain w u (suc n) = rw (alike 511 n 0)

setting : (w u : Bool) (paging : Paging) (v : ℕ) → canonical (width_of paging) v ≡ true
    → Setting paging (memory_of (words_of w u) 0x100) 0x10_0000 (words_of w u) 0x100 1 0x100 v
unfolding may_walk
setting w u paging v h = record {
  whole = refl;
  base = refl;
  holds = memory_holds (words_of w u) 0x100 1;
  no_huge = no_bit_7 (words_of w u) 0x100 1 (paging_levels paging - 1) 0x100 (words_plain w u);
  form = h;
}

pub mapped : (paging : Paging) → linear paging (memory_of words 0x100) 0x10_0000 0x123 ≡ physical 0x10_0123
unfolding translate lent_walk leaf entry_at present may_walk
mapped four_level = (same_pages four_level _ _ _ _ _ _ _ (setting true false four_level 0x123 refl) no_value 0x10_0123).0 refl
mapped five_level = (same_pages five_level _ _ _ _ _ _ _ (setting true false five_level 0x123 refl) no_value 0x10_0123).0 refl

pub absent : (paging : Paging) → linear paging (memory_of words 0x100) 0x10_0000 0x1123 ≡ not_present
unfolding translate lent_walk leaf entry_at present may_walk
absent four_level = (same_absent four_level _ _ _ _ _ _ _ (setting true false four_level 0x1123 refl) not_outside).0 refl
absent five_level = (same_absent five_level _ _ _ _ _ _ _ (setting true false five_level 0x1123 refl) not_outside).0 refl

-- the entries that the first reads are one and the same, four times or five; the second's last is another one
abbrev firsts : Paging → List ℕ → List ℕ
firsts four_level last = 0x10_0000 ∷ 0x10_0000 ∷ 0x10_0000 ∷ last
firsts five_level last = 0x10_0000 ∷ 0x10_0000 ∷ 0x10_0000 ∷ 0x10_0000 ∷ last

pub one_read : (paging : Paging) → entries_read paging (memory_of words 0x100) 0x10_0000 0x123 ≡ firsts paging (0x10_0000 ∷ [])
unfolding entries_read read_pml5e read_pml4e read_pdpte read_pde read_pte
one_read four_level = refl
one_read five_level = refl

pub last_other : (paging : Paging) → entries_read paging (memory_of words 0x100) 0x10_0000 0x1123 ≡ firsts paging (0x10_0008 ∷ [])
unfolding entries_read read_pml5e read_pml4e read_pdpte read_pde read_pte
last_other four_level = refl
last_other five_level = refl

-- bit 48 chooses among the entries of the first table with five levels; with four it makes an address that is not canonical
pub first_other :
    (entries_read five_level (memory_of words 0x100) 0x10_0000 (2 ^ 48) ≡ 0x10_0008 ∷ [])
    × (linear four_level (memory_of words 0x100) 0x10_0000 (2 ^ 48) ≡ not_canonical)
unfolding entries_read read_pml5e linear
first_other = (refl, refl)

-- ---- access rights of that page

-- the user's, and writable: permitted where our answer is yes
pub writable : (access : Access) (paging : Paging) → user_access access paging (memory_of (words_of true true) 0x100) 0x10_0000 0x123 ≡ permitted
unfolding lent_walk may_walk user_may user_rows rows_below verdict_of
writable data_read four_level = user_yes data_read four_level _ _ _ _ _ _ _ (setting true true four_level 0x123 refl) refl
writable data_read five_level = user_yes data_read five_level _ _ _ _ _ _ _ (setting true true five_level 0x123 refl) refl
writable data_write four_level = user_yes data_write four_level _ _ _ _ _ _ _ (setting true true four_level 0x123 refl) refl
writable data_write five_level = user_yes data_write five_level _ _ _ _ _ _ _ (setting true true five_level 0x123 refl) refl

-- the user's, and not writable
pub read_only : (paging : Paging) → let mem = memory_of (words_of false true) 0x100 in
    (user_access data_read paging mem 0x10_0000 0x123 ≡ permitted) × (user_access data_write paging mem 0x10_0000 0x123 ≡ page_fault)
unfolding user_access linear through_pml5e through_pml4e through_pdpte through_pde through_pte entries_read read_pml5e read_pml4e read_pdpte read_pde read_pte
read_only four_level = (refl, refl)
read_only five_level = (refl, refl)

-- a supervisor's
pub supervisor : (access : Access) (paging : Paging) → user_access access paging (memory_of words 0x100) 0x10_0000 0x123 ≡ page_fault
unfolding user_access linear through_pml5e through_pml4e through_pdpte through_pde through_pte entries_read read_pml5e read_pml4e read_pdpte read_pde read_pte
supervisor data_read four_level = refl
supervisor data_read five_level = refl
supervisor data_write four_level = refl
supervisor data_write five_level = refl

-- and the next page, which no entry maps
pub unmapped : (access : Access) (paging : Paging) → user_access access paging (memory_of (words_of true true) 0x100) 0x10_0000 0x1123 ≡ page_fault
unfolding user_access linear through_pml5e through_pml4e through_pdpte through_pde through_pte
unmapped access four_level = refl
unmapped access five_level = refl

-- and what the statements leave aside: an address that is not canonical, and a large page, by the second entry
pub not_canonical_lem : (access : Access) → user_access access four_level (memory_of words 0x100) 0x10_0000 (2 ^ 48) ≡ general_protection
unfolding user_access linear
not_canonical_lem access = refl

pub large_page_lem : (access : Access) (paging : Paging)
    → user_access access paging (memory_of (entry_of 0x10_0000 true true ∷ huge_entry_of 0x10_0000 true true ∷ replicate 510 0) 0x100) 0x10_0000 (2 ^ 21) ≡ large_page
unfolding user_access linear through_pml5e through_pml4e through_pdpte through_pde
large_page_lem access four_level = refl
large_page_lem access five_level = refl
