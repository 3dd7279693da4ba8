-- The examiner's case holds: both pages are mapped, but the first entry of the walk was made for the kernel, and stays so.
use Prim.Native.Nat.{ℕ, zero, suc, ◌*◌, ◌/◌, ◌^◌, ◌<◌}
use mathlib.Core.Path.{◌≡◌, refl, sym, ◌∙◌, ap, subst}
use mathlib.Core.Bool.{Bool, true, false, false≢true}
use mathlib.Core.List.Memᴰ
use mathlib.Core.List.{[], ◌∷◌}
use native.Mathlib.Omega.{arith}
use lib.ListN.{length, get_or, take}
use Rattle.std.specs.Prelude.{Ok}
use Rattle.bits.specs.Bit.{flag}
use Rattle.bits.proofs.Choice.{pick_cases}
use Rattle.entry.specs.Entry.{entry_of, frame_of, index, indices}
use Rattle.entry.proofs.Entry.{maps_entry}
use Rattle.frame.specs.Frames.{is_levels}
use Rattle.paging.specs.Walk.{place}
use Rattle.paging.specs.Map.{Memory, start_frame, total_of, Out}
use Rattle.paging.specs.Calls.{whole, lent_walk, map_page}
use Rattle.paging.specs.Levels.{above_last}
use Rattle.paging.specs.User.{user_may}
use Rattle.paging.proofs.Walk.{no_value, present_yes, entry_in, reach_end, reach_on}
use Rattle.paging.proofs.Map.{KeptSpan, map_entry_kept}
use Rattle.paging.proofs.Calls.{whole_lent, walk_by_lent, map_is}
use Rattle.paging.proofs.User.{user_none, may_is}
use Rattle.tree.proofs.Ordered.{Ordered, reach_in, root_inside}
use Rattle.tree.proofs.Books.{Tabled}
use Rattle.board.specs.Board.{Board, board_did, start}
use Rattle.release.proofs.Run.{fresh_inv, fresh_tidy, met_levels, some_levels}
use Rattle.cases.specs.UserCase.{kernel_page, then_user_page, UserCase}
use Rattle.cases.proofs.Entered.{Entered, page_stays, MadeFor, map_makes}
use Rattle.cases.proofs.Mapped.{same_index, fresh_mapped}

-- a call keeps the frames lent and the number of words
page_kept : (up : ℕ) (m : Memory) (root v p : ℕ) (w u : Bool) → KeptSpan m (map_page up m root v p w u).mem
unfolding map_page
page_kept up m root v p w u =
    pick_cases (λ (o : Out). KeptSpan m o.mem) (whole m root) _ _ (λ _. map_entry_kept u m root _ _ _) (λ _. record { start = refl; total = refl; words = refl })

-- a record that is not broken, of a call that is met
page_whole : (up : ℕ) (m : Memory) (root v p : ℕ) (w u : Bool) (x : ℕ) → (map_page up m root v p w u).walked ≡ Ok x → whole m root ≡ true
unfolding map_page
page_whole up m root v p w u x = pick_cases (λ (o : Out). o.walked ≡ Ok x → whole m root ≡ true) (whole m root) _ _ (λ h _. h) (λ _ e. absurd (no_value (sym e)))

-- ---- a memory in which nothing is reached but the root

module _ {m : Memory} {root k : ℕ} (o : Ordered m root (suc (suc k))) (bare : Tabled m root (suc k) []) where
  -- it has no entry
  none_entered : (i : ℕ) → i < 512 → flag 0 (get_or m.words (place (start_frame m) root i) 0) ≡ false
  none_entered i small = by (flag 0 (get_or m.words (place (start_frame m) root i) 0)) refl
    where
      by : (b : Bool) → flag 0 (get_or m.words (place (start_frame m) root i) 0) ≡ b → flag 0 (get_or m.words (place (start_frame m) root i) 0) ≡ false
      by false e = e
      by true e =
          let w = get_or m.words (place (start_frame m) root i) 0 in
          let there : reach_in m root (i ∷ []) ≡ Ok (frame_of w) =
          reach_on m.words (start_frame m) (total_of m) root refl w (entry_in _ _ _ root i (root_inside o) small ∙ present_yes w e)
          ∙ reach_end m.words (start_frame m) (total_of m) (frame_of w) refl in
          absurd (Memᴰ.not-nil (bare.tables (i ∷ []) (frame_of w) (omega arith) (omega arith) there).1)

  -- a page that is mapped for the kernel makes its first entry the kernel's
  first_made : (v p : ℕ) (w : Bool) (x : ℕ) → (map_page (suc k) m root v p w false).walked ≡ Ok x → MadeFor false (map_page (suc k) m root v p w false).mem root (index (suc k) v)
  first_made v p w x h =
      let e = map_is (suc k) m root v p w false (page_whole (suc k) m root v p w false x h) in
      subst (λ (q : Out). MadeFor false q.mem root (index (suc k) v)) (sym e)
      (map_makes false m root (index (suc k) v) (root_inside o) (o.tree.kept [] root (omega arith) (reach_end _ _ _ root refl)) o.sizes (omega arith)
      (none_entered (index (suc k) v) (omega arith))
      (take k (indices (suc k) v)) _ _ x (ap (λ (q : Out). q.walked) (sym e) ∙ h))

-- ---- the question

-- the answer is no where the first entry of the walk is the kernel's
no_by_first : (up : ℕ) (m : Memory) (root v e : ℕ) (write : Bool) → lent_walk (suc up) (length m.words) (start_frame m) (total_of m) root ≡ true
    → Entered m root (index up v) e → flag 2 e ≡ false → user_may (suc up) m.words (start_frame m) (total_of m) root v write ≡ Ok false
no_by_first up m root v e write h first kernel =
    may_is (suc up) m.words (start_frame m) (total_of m) root v write h
    ∙ ap Ok (user_none write m.words (start_frame m) (total_of m) root refl refl (rw (first.word, kernel)))

module _ (old fresh : Board) (from to k : ℕ) (h : start old from to (suc (suc k)) ≡ board_did (Ok 0) fresh) (v p : ℕ) (w : Bool) (v' p' : ℕ) (w' : Bool)
    (same : v / 2 ^ 21 ≡ v' / 2 ^ 21) (met : (kernel_page fresh v p w).walked ≡ Ok 0) where
  -- the memory that each call leaves
  abbrev one : Memory
  one = (kernel_page fresh v p w).mem

  abbrev two : Memory
  two = (then_user_page (kernel_page fresh v p w) fresh.root v' p' w').mem

  known : is_levels (suc (suc k)) ≡ true
  known = met_levels old fresh from to (suc (suc k)) h

  made : MadeFor false one fresh.root (index (suc k) v)
  made =
      let o = (fresh_inv old fresh from to (suc k) h).paged.account.order in
      let top : suc k ≡ above_last fresh.mem = omega (arith, o.levels) in
      subst (λ n. (map_page n fresh.mem fresh.root v p w false).walked ≡ Ok 0 → MadeFor false (map_page n fresh.mem fresh.root v p w false).mem fresh.root (index (suc k) v))
      top (first_made o (fresh_tidy old fresh from to (suc k) h).tabled v p w 0) met

  kernel_first : Entered two fresh.root (index (suc k) v') (entry_of (made.names * 2 ^ 12) true false)
  kernel_first =
      subst (λ i. Entered two fresh.root i (entry_of (made.names * 2 ^ 12) true false)) (same_index k v v' same)
      (page_stays fresh.root (index (suc k) v) _ (omega arith) (maps_entry (made.names * 2 ^ 12) true false).present (above_last one) one fresh.root v' p' w' true made.there)

  two_lent : lent_walk (suc (suc k)) (length two.words) (start_frame two) (total_of two) fresh.root ≡ true
  two_lent =
      let a = page_kept (above_last fresh.mem) fresh.mem fresh.root v p w false in
      let b = page_kept (above_last one) one fresh.root v' p' w' true in
      walk_by_lent _ _ _ _ _ known
      ∙ rw (b.words ∙ a.words, b.start ∙ a.start, b.total ∙ a.total)
      (whole_lent fresh.mem fresh.root (page_whole (above_last fresh.mem) fresh.mem fresh.root v p w false 0 met))

  unreached_by : (write : Bool) → user_may (suc (suc k)) two.words (start_frame two) (total_of two) fresh.root v' write ≡ Ok false
  unreached_by write = no_by_first (suc k) two fresh.root v' _ write two_lent kernel_first (maps_entry (made.names * 2 ^ 12) true false).user

pub user_case : UserCase
user_case = record {
  mapped = λ old fresh from to levels h enough v p w. fresh_mapped old fresh from to levels h enough v p w _;
  unreached = λ old fresh from to levels. by old fresh from to levels;
}
  where
    few : (old fresh : Board) (from to : ℕ) → start old from to 1 ≡ board_did (Ok 0) fresh → ⊥
    few old fresh from to h = false≢true (met_levels old fresh from to 1 h)

    by : (old fresh : Board) (from to levels : ℕ) → start old from to levels ≡ board_did (Ok 0) fresh
        → (v p : ℕ) (w : Bool) (v' p' : ℕ) (w' : Bool) → v / 2 ^ 21 ≡ v' / 2 ^ 21 → (kernel_page fresh v p w).walked ≡ Ok 0
        → let m = (then_user_page (kernel_page fresh v p w) fresh.root v' p' w').mem in
        (write : Bool) → user_may levels m.words (start_frame m) (total_of m) fresh.root v' write ≡ Ok false
    by old fresh from to zero h = absurd (some_levels old fresh from to h)
    by old fresh from to (suc zero) h = absurd (few old fresh from to h)
    by old fresh from to (suc (suc k)) h = unreached_by old fresh from to k h
