-- What freed pages were found to be: a tally tells what is gone, whatever the words hold, and that decides it.
use Prim.Native.Nat.{ℕ, zero, suc, ◌+◌, ◌-◌, ◌*◌, ◌^◌, ◌<◌, ◌≤◌}
use mathlib.Core.Path.{◌≡◌, refl, sym, ◌∙◌, ap, ap₂, subst}
use mathlib.Core.Bool.{Bool, true, false}
use mathlib.Core.List.{List}
use native.Mathlib.Decide.{ℕ_discrete}
use native.Mathlib.Omega.{arith}
use lib.Arith.{lt_of_le-ne}
use lib.ListN.{get_or, set, take}
use lib.Seq.{get_or-set_other}
use Rattle.std.specs.Prelude.{Ok, Err, Result}
use Rattle.answer.specs.declared.Refusal.{Refusal}
use Rattle.bits.specs.Bit.{one, flag}
use Rattle.bits.proofs.Choice.{pick_cases}
use Rattle.bitmap.proofs.Marks.{count_unmark}
use Rattle.entry.specs.Entry.{frame_of, indices}
use Rattle.entry.proofs.Entry.{flag_zero, indices_lt}
use Rattle.frame.specs.declared.Found.{Found}
use Rattle.frame.specs.declared.Found.TheVariants.{Freed, AlreadyFree, NotHere}
use Rattle.frame.specs.declared.Tally.{Tally}
use Rattle.frame.specs.Frames.{FramesDid, inside, without_mark, give_frame}
use Rattle.frame.specs.Found.{tally, none_found, one_found, and_found, all_found}
use Rattle.frame.proofs.Laws.{inside_under, give_cases}
use Rattle.answer.specs.Outcomes.{and_then}
use Rattle.paging.specs.Walk.{place, reach}
use Rattle.paging.specs.Map.{Memory, memory, start_frame, total_of, Left, left, take_leaf, unmap_entry}
use Rattle.paging.specs.Pages.{unmap_leaf, freed, free_page, free_pages}
use Rattle.paging.specs.Found.{frame_found, page_found, pages_found, unmapped_of, passing, present_entries, names_off, Tells}
use Rattle.paging.proofs.Map.{set_own}
use Rattle.paging.proofs.Past.{stays_free_page}

-- ---- words that pass a test

pub passing_few : (test : ℕ → Bool) (ws : List ℕ) (n : ℕ) → passing test ws n ≤ n
unfolding passing
passing_few test ws zero = omega arith
passing_few test ws (suc n) = by (test (get_or ws n 0)) (passing_few test ws n)
  where
    by : (b : Bool) → passing test ws n ≤ n → passing test ws n + one b ≤ suc n
    by true h = omega arith
    by false h = omega arith

-- a word set to 0, past those that are counted and among them
module _ (test : ℕ → Bool) (none : test 0 ≡ false) (ws : List ℕ) (p : ℕ) where
  passing_past : (n : ℕ) → n ≤ p → passing test (set ws p 0) n ≡ passing test ws n
  unfolding passing
  passing_past zero h = refl
  passing_past (suc n) h =
      ap₂ (λ (a b : ℕ). a + b) (passing_past n (omega arith)) (ap (λ (e : ℕ). one (test e)) (get_or-set_other ws p n 0 0 (λ e. omega arith)))

  passing_set : (n : ℕ) → p < n → passing test ws n ≡ passing test (set ws p 0) n + one (test (get_or ws p 0))
  unfolding passing
  passing_set zero h = absurd (omega arith)
  passing_set (suc n) h = by (ℕ_discrete p n) (passing_set n)
    where
      by : Dec (p ≡ n) → (p < n → passing test ws n ≡ passing test (set ws p 0) n + one (test (get_or ws p 0)))
          → passing test ws n + one (test (get_or ws n 0)) ≡ passing test (set ws p 0) n + one (test (get_or (set ws p 0) n 0)) + one (test (get_or ws p 0))
      by (yes e) _ =
          let own : one (test (get_or (set ws p 0) n 0)) ≡ 0 = ap (λ (x : ℕ). one (test (get_or (set ws p 0) x 0))) (sym e) ∙ ap (λ (x : ℕ). one (test x)) (set_own ws p) ∙ ap one none in
          let same : one (test (get_or ws p 0)) ≡ one (test (get_or ws n 0)) = ap (λ (x : ℕ). one (test (get_or ws x 0))) e in
          omega (arith, passing_past n (omega arith), own, same)
      by (no d) on =
          let other : one (test (get_or (set ws p 0) n 0)) ≡ one (test (get_or ws n 0)) = ap (λ (x : ℕ). one (test x)) (get_or-set_other ws p n 0 0 (λ e. d (sym e))) in
          omega (arith, on (lt_of_le-ne (omega arith) d), other)

-- ---- tallies that tell

pub tells_none : (m : Memory) → Tells m m none_found
tells_none m = record { all = omega arith; freed = omega arith; off = omega arith }

pub tells_then : {m₀ m₁ m₂ : Memory} {s t : Tally} → Tells m₀ m₁ s → Tells m₁ m₂ t → Tells m₀ m₂ (and_found s t)
tells_then a b = record { all = omega (arith, a.all, b.all); freed = omega (arith, a.freed, b.freed); off = omega (arith, a.off, b.off) }

-- .. by what code has in its hands
pub tells_same : (m : Memory) {t : Tally} → t ≡ none_found → Tells m m t
tells_same m e = rw e (tells_none m)

pub tells_on : {m₀ m₁ m₂ : Memory} {s t u : Tally} → Tells m₀ m₁ s → Tells m₁ m₂ t → u ≡ and_found s t → Tells m₀ m₂ u
tells_on a b e = rw e (tells_then a b)

-- they decide it
pub tells_one : {m m' : Memory} {s t : Tally} → Tells m m' s → Tells m m' t → s ≡ t
tells_one {s = s} {t = t} a b =
    let x : s.freed ≡ t.freed = omega (arith, a.freed, b.freed) in
    let z : s.not_here ≡ t.not_here = omega (arith, a.off, b.off) in
    let y : s.already_free ≡ t.already_free = omega (arith, a.all, b.all) in
    λ i. tally (x i) (y i) (z i)

-- and there are no more than entries
pub tells_few : {m m' : Memory} {t : Tally} → Tells m m' t → total_of m ≤ 8192 → all_found t ≤ 2 ^ 22
tells_few {m} a few = omega (arith, a.all, passing_few (flag 0) m.words (total_of m * 512))

-- ---- a leaf, a page and a run of pages

-- a present entry cleared, and its frame given back
module _ (m : Memory) (t i : ℕ) (ins : inside (start_frame m) (total_of m) t ≡ true) (small : i < 512) where
  abbrev p : ℕ
  p = place (start_frame m) t i

  abbrev e : ℕ
  e = get_or m.words p 0

  within : p < total_of m * 512
  within = omega (arith, inside_under (start_frame m) (total_of m) t ins)

  cleared_tells : flag 0 e ≡ true → Tells m (memory (set m.words p 0) (give_frame m.frames (frame_of e)).frames) (one_found (give_frame m.frames (frame_of e)).answer)
  unfolding without_mark
  cleared_tells bit =
      let k = total_of m * 512 in
      let present : present_entries m ≡ passing (flag 0) (set m.words p 0) k + 1 = passing_set (flag 0) (flag_zero 0) m.words p k within ∙ rw bit in
      let at : passing (names_off (start_frame m) (total_of m)) m.words k
      ≡ passing (names_off (start_frame m) (total_of m)) (set m.words p 0) k + one (names_off (start_frame m) (total_of m) e) =
      passing_set (names_off (start_frame m) (total_of m)) (rw (flag_zero 0)) m.words p k within in
      give_cases m.frames (frame_of e) (λ (d : FramesDid Found). Tells m (memory (set m.words p 0) d.frames) (one_found d.answer))
      (λ out. record { all = present; freed = omega arith; off = at ∙ rw (bit, out) })
      (λ there free. record { all = present; freed = omega arith; off = at ∙ rw (bit, there) })
      (λ there held. record {
        all = present;
        freed = count_unmark m.frames.bits (frame_of e - start_frame m) (total_of m) held (inside_under (start_frame m) (total_of m) (frame_of e) there);
        off = at ∙ rw (bit, there);
      })

-- .. by what the leaf's clearing gave
module _ (up : ℕ) (m : Memory) (root v : ℕ) where
  pub page_found_none : (n : Refusal) (ws : List ℕ) → unmap_leaf up m root v ≡ left (Err n) ws → page_found up m root v ≡ none_found
  unfolding page_found
  page_found_none n ws e = rw e

  pub page_found_lem : (f : ℕ) (ws : List ℕ) → unmap_leaf up m root v ≡ left (Ok f) ws → page_found up m root v ≡ one_found (give_frame m.frames f).answer
  unfolding page_found
  page_found_lem f ws e = rw e

-- the leaf at entry i of table t, as it is taken
pub take_tells : (m : Memory) (t i : ℕ) → i < 512
    → let l = take_leaf m.words (start_frame m) (total_of m) t i in Tells m (memory l.words (freed l.walked m.frames)) (frame_found l.walked m.frames)
unfolding take_leaf
take_tells m t i small =
    let P : Left → Type 0 = λ l. Tells m (memory l.words (freed l.walked m.frames)) (frame_found l.walked m.frames) in
    pick_cases P (inside (start_frame m) (total_of m) t) _ _
    (λ ins. pick_cases P (flag 0 (get_or m.words (place (start_frame m) t i) 0)) _ _ (cleared_tells m t i ins small) (λ _. tells_none m)) (λ _. tells_none m)

pub page_tells : (up : ℕ) (m : Memory) (root v : ℕ) → Tells m (free_page up m root v) (page_found up m root v)
unfolding free_page page_found unmap_entry
page_tells up m root v = by (reach m.words (start_frame m) (total_of m) root (take up (indices (suc up) v)))
  where
    by : (w : Result ℕ Refusal) → let l = and_then w (λ n. left (Err n) m.words) (λ t. take_leaf m.words (start_frame m) (total_of m) t (get_or (indices (suc up) v) up 0)) in
        Tells m (memory l.words (freed l.walked m.frames)) (frame_found l.walked m.frames)
    by (Ok t) = take_tells m t (get_or (indices (suc up) v) up 0) (indices_lt (suc up) v up)
    by (Err n) = tells_none m

-- whatever frees the page and finds the same tells
pub page_told : (up : ℕ) (m : Memory) (root v : ℕ) {m' : Memory} {t : Tally} → m' ≡ free_page up m root v → t ≡ page_found up m root v → Tells m m' t
page_told up m root v e h = rw (e, h) (page_tells up m root v)

pub pages_tell : (up root n : ℕ) (m : Memory) (v : ℕ) → Tells m (free_pages up m root v n) (pages_found up m root v n)
unfolding free_pages pages_found
pages_tell up root zero m v = tells_none m
pages_tell up root (suc n) m v = tells_then (page_tells up m root v) (pages_tell up root n (free_page up m root v) (v + 4096))

-- whatever frees n pages and tells what is gone has the tally of the definition
pub pages_found_lem : (up root n : ℕ) (m : Memory) (v : ℕ) {m' : Memory} {t : Tally} → m' ≡ free_pages up m root v n → Tells m m' t → t ≡ pages_found up m root v n
pages_found_lem up root n m v {t = t} e h = tells_one (subst (λ (x : Memory). Tells m x t) e h) (pages_tell up root n m v)

-- ---- the pages that were unmapped

one_all : (f : Found) → all_found (one_found f) ≡ 1
one_all Freed = refl
one_all AlreadyFree = refl
one_all NotHere = refl

module _ (up : ℕ) (m : Memory) (root v : ℕ) where
  page_unmapped : all_found (page_found up m root v) ≡ and_then (unmap_leaf up m root v).walked (λ _. 0) (λ _. 1)
  unfolding page_found
  page_unmapped = by (unmap_leaf up m root v).walked
    where
      by : (w : Result ℕ Refusal) → all_found (frame_found w m.frames) ≡ and_then w (λ _. 0) (λ _. 1)
      by (Ok f) = one_all (give_frame m.frames f).answer
      by (Err a) = refl

  -- the words do not hang on the frames
  words_freed : (free_page up m root v).words ≡ (unmap_leaf up m root v).words
  unfolding free_page
  words_freed = refl

pub found_unmapped : (up root n : ℕ) (m : Memory) (v : ℕ) → all_found (pages_found up m root v n) ≡ unmapped_of up m.words (start_frame m) (total_of m) root v n
unfolding pages_found unmapped_of
found_unmapped up root zero m v = refl
found_unmapped up root (suc n) m v =
    let s = stays_free_page up m root v in
    let m' = free_page up m root v in
    let on : unmapped_of up m'.words (start_frame m') (total_of m') root (v + 4096) n
    ≡ unmapped_of up (unmap_leaf up m root v).words (start_frame m) (total_of m) root (v + 4096) n = rw (s.start, s.total, words_freed up m root v) in
    omega (arith, page_unmapped up m root v, found_unmapped up root n m' (v + 4096), on)
