-- Two pages of the same 2 MiB on a fresh board: the first finds a frame for each table on its way, the second finds the tables, and it translates.
use Prim.Native.Nat.{ℕ, zero, suc, ◌+◌, ◌*◌, ◌/◌, ◌%◌, ◌^◌, ◌<◌, ◌≤◌}
use mathlib.Core.Path.{◌≡◌, refl, sym, ◌∙◌, ap, ap₂, subst}
use mathlib.Core.Bool.{Bool, true, false, true≢false}
use mathlib.Core.List.Memᴰ
use mathlib.Core.List.{List, [], ◌∷◌, ◌++◌}
use mathlib.Core.Logic.{⊎_elim}
use native.Mathlib.Omega.{arith}
use lib.ListN.{length, get_or, length-append, length-set}
use lib.Pow.{shr-shr}
use lib.Seq.{get_or-set_same, get_or-set_other}
use Rattle.std.specs.Prelude.{Ok, Result}
use Rattle.answer.specs.declared.Refusal.{Refusal}
use Rattle.bits.specs.Bit.{flag}
use Rattle.bitmap.proofs.Marks.{count_all}
use Rattle.entry.specs.Entry.{frame_of, addr_of, entry_of, index}
use Rattle.entry.proofs.Entry.{maps_entry, index_last}
use Rattle.frame.specs.Frames.{inside, with_mark}
use Rattle.frame.proofs.Laws.{inside_from}
use Rattle.paging.specs.declared.Leaf.{Leaf}
use Rattle.paging.specs.Walk.{place, present, entry_at, reach, leaf, address}
use Rattle.paging.specs.Map.{Memory, start_frame, total_of, Out, out, enter, make, with_words}
use Rattle.paging.specs.Calls.{whole, lent_walk, map_page, map_page_of}
use Rattle.paging.specs.Levels.{above_last}
use Rattle.paging.proofs.Walk.{present_yes, entry_in, place_lent, reach_end}
use Rattle.paging.proofs.Map.{go_on_cases, enter_cases, make_there, put_free, map_entry_put}
use Rattle.paging.proofs.Calls.{translate_is, map_is}
use Rattle.tree.proofs.Paths.{Small, leads_refl, leads_length, upper, last, length_upper, upper_small, last_small, path_split}
use Rattle.tree.proofs.Walks.{nowhere, place_table, entry_there, entry_agree, reach_step, same_reach, same_along}
use Rattle.tree.proofs.Tree.{stored, way_kept}
use Rattle.tree.proofs.Plain.{Plain, Ends, at_page, at_none, leaf_ends}
use Rattle.tree.proofs.Ordered.{Ordered, reach_in, inside_in, translate_in, PlainIn, ordered_whole, ordered_walk}
use Rattle.tree.proofs.Books.{Live}
use Rattle.tree.proofs.Steps.{written}
use Rattle.tree.proofs.Make.{Made, enter_made, make_made}
use Rattle.board.specs.Board.{Board, BoardDid, board_did, start}
use Rattle.board.proofs.Outcomes.{start_cases}
use Rattle.release.proofs.Run.{fresh_inv, some_levels}
use Rattle.cases.specs.UserCase.{then_user_page}

-- ---- frames enough

-- at least k frames are free
abbrev FreeAtLeast : ℕ → Memory → Type 0
FreeAtLeast k m = m.frames.fa.allocated + k ≤ total_of m

-- a step that came somewhere and left so many
record Arrived (k : ℕ) (o : Out) : Type 0 where
  pub table : ℕ
  pub comes : o.walked ≡ Ok table
  pub room : FreeAtLeast k o.mem

-- a table that is entered is there or finds a frame
enter_met : {m : Memory} {root n : ℕ} → Ordered m root n → (u : Bool) (q : List ℕ) (t i k : ℕ) → length q ≤ n → reach_in m root q ≡ Ok t → FreeAtLeast (suc k) m
    → Arrived k (enter u m t i)
unfolding with_mark
enter_met {m} {root} {n} o u q t i k lq hq r =
    enter_cases u m t i (Arrived k) (λ out. absurd (true≢false (sym (o.tree.into q t lq hq) ∙ out)))
    (λ _ _. record { table = _; comes = refl; room = omega arith })
    (λ _ _ j _ _ _. record { table = start_frame m + j; comes = refl; room = omega arith })
    (λ _ _ all. absurd (omega (arith, o.counted, count_all m.frames.bits (total_of m) all)))

-- and so are all the tables along a path
make_met : {root n : ℕ} (u : Bool) (is : List ℕ) {m : Memory} → Ordered m root n → (q : List ℕ) (t : ℕ) → reach_in m root q ≡ Ok t → length q + length is < n → Small is
    → FreeAtLeast (length is) m → Arrived 0 (make u m t is)
unfolding make
make_met u [] {m} o q t hq l small r = record { table = t; comes = refl; room = r }
make_met u (i ∷ is) {m} o q t hq l small r =
    let a = enter_met o u q t i (length is) (omega arith) hq r in
    let long = length-append q (i ∷ []) in
    let b = enter_made o (omega (arith, long)) u q t i hq (omega arith) (small 0) (leads_refl (q ++ (i ∷ []))) in
    go_on_cases (Arrived 0) (enter u m t i) (λ f m'. make u m' f is) (λ _ e. absurd (nowhere (sym e ∙ a.comes)))
    (λ f e. make_met u is b.grew.order (q ++ (i ∷ [])) f (b.there f e) (omega (arith, long)) (λ k. small (suc k)) a.room)

-- ---- one table of the last level

module _ {m : Memory} {root up : ℕ} (o : Ordered m root (suc up)) (q : List ℕ) (t : ℕ) (lq : length q ≡ up) (hq : reach_in m root q ≡ Ok t) where
  -- no shorter path comes to it
  not_above : (a : List ℕ) (s : ℕ) → length a < up → reach_in m root a ≡ Ok s → s ≡ t → ⊥
  not_above a s la h e = let same = o.tree.once a q t (omega arith) (omega arith) (h ∙ ap Ok e) hq in omega (arith, ap length same)

  -- words that differ from those of m in this table alone
  module _ (ws : List ℕ)
      (rest : (s i : ℕ) → inside_in m s ≡ true → i < 512 → (s ≡ t → ⊥) → get_or ws (place (start_frame m) s i) 0 ≡ get_or m.words (place (start_frame m) s i) 0) where
    -- the ways to tables are what they were
    way : (p : List ℕ) → length p ≤ up → reach ws (start_frame m) (total_of m) root p ≡ reach_in m root p
    way p lp =
        same_reach m.words ws (start_frame m) (total_of m) p root
        (same_along m.words ws (start_frame m) (total_of m) (λ s _. s ≡ t) rest p root
        (λ a i r s e h _ _. not_above a s (omega (arith, ap length e, length-append a (i ∷ r))) h))

    -- and have no HUGE, if they had none
    still-plain : PlainIn m root (suc up) → Plain ws (start_frame m) (total_of m) root (suc up)
    still-plain w = record {
      plain = λ p s i e lp h k.
          let h' = sym (way p (omega arith)) ∙ h in
          w.plain p s i e lp h' (sym (entry_agree m.words ws (start_frame m) (total_of m) s i (λ a b. rest s i a b (not_above p s (omega arith) h'))) ∙ k);
    }

    -- so an address translates by the entry that it has there
    translates : PlainIn m root (suc up) → (v j e : ℕ) → entry_at ws (start_frame m) (total_of m) t j ≡ Ok e
        → address v (leaf ws (start_frame m) (total_of m) root (q ++ (j ∷ []))) ≡ Ok (addr_of e + v % 2 ^ 12)
    translates w v j e k =
        at (leaf_ends (still-plain w) (q ++ (j ∷ [])) (omega arith) (omega (arith, length-append q (j ∷ []))))
        (reach_step ws (start_frame m) (total_of m) q root t j e (way q (omega arith) ∙ hq) k)
      where
        at : {x : Result ℕ Refusal} {l : Result Leaf Refusal} → Ends x l → x ≡ Ok (frame_of e) → address v l ≡ Ok (addr_of e + v % 2 ^ 12)
        at (at_page {f = f} g) h = let k : f ≡ frame_of e = cc in ap (λ (y : ℕ). Ok (y * 2 ^ 12 + v % 2 ^ 12)) (g ∙ k)
        at at_none h = absurd (nowhere h)

-- a word that is set in one table leaves the others
set_other : (ws : List ℕ) (start total t j e : ℕ) → inside start total t ≡ true → j < 512
    → (s i : ℕ) → inside start total s ≡ true → i < 512 → (s ≡ t → ⊥) → get_or (stored ws start t j e) (place start s i) 0 ≡ get_or ws (place start s i) 0
set_other ws start total t j e ins small s i ins' small' d =
    get_or-set_other ws (place start t j) (place start s i) e 0
    (λ z. d (place_table start t j s i (inside_from start total t ins) (inside_from start total s ins') small small' z))

-- ---- one page

-- a call that comes to a lent table with no entry for the page puts one there
page_put : (up : ℕ) (m m' : Memory) (root v p : ℕ) (w u : Bool) (t : ℕ) → whole m root ≡ true → make u m root (upper up v) ≡ out (Ok t) m' → inside_in m' t ≡ true
    → flag 0 (get_or m'.words (place (start_frame m') t (last up v)) 0) ≡ false → map_page up m root v p w u ≡ out (Ok 0) (written m' t (last up v) (entry_of p w u))
page_put up m m' root v p w u t h k ins free =
    map_is up m root v p w u h ∙ map_entry_put u m root (upper up v) (last up v) (entry_of p w u) t m' k
    ∙ ap (with_words m') (put_free m'.words (start_frame m') (total_of m') t (last up v) (entry_of p w u) ins free)

-- ---- pages of the same 2 MiB

-- have the same index at each level above the last
pub same_index : (d v v' : ℕ) → v / 2 ^ 21 ≡ v' / 2 ^ 21 → index (suc d) v ≡ index (suc d) v'
same_index d v v' same =
    let width : 12 + 9 * suc d ≡ 21 + 9 * d = omega arith in
    rw width (ap (λ (x : ℕ). x % 512) (sym (shr-shr v 21 (9 * d)) ∙ ap (λ (x : ℕ). x / 2 ^ (9 * d)) same ∙ shr-shr v' 21 (9 * d)))

-- so the same way to the last table
same_upper : (up v v' : ℕ) → v / 2 ^ 21 ≡ v' / 2 ^ 21 → upper up v ≡ upper up v'
same_upper zero v v' same = refl
same_upper (suc up) v v' same = ap₂ (λ (i : ℕ) (l : List ℕ). i ∷ l) (same_index up v v' same) (same_upper up v v' same)

-- and two of them have two indices there
other_last : (up v v' : ℕ) → v / 2 ^ 21 ≡ v' / 2 ^ 21 → (v / 2 ^ 12 ≡ v' / 2 ^ 12 → ⊥) → last up v' ≡ last up v → ⊥
other_last up v v' same differ e =
    let i : v' / 2 ^ 12 % 512 ≡ v / 2 ^ 12 % 512 = sym (index_last up v') ∙ e ∙ index_last up v in
    differ (omega arith)

module _ {m : Memory} {root up : ℕ} (o : Ordered m root (suc up)) (plain : PlainIn m root (suc up)) (bare : Live m root up []) (room : FreeAtLeast up m)
    (v p : ℕ) (w u : Bool) (v' p' : ℕ) (w' : Bool) (same : v / 2 ^ 21 ≡ v' / 2 ^ 21) (differ : v / 2 ^ 12 ≡ v' / 2 ^ 12 → ⊥) where
  -- the tables on the way are made, down to one of the last level
  met : Arrived 0 (make u m root (upper up v))
  met =
      make_met u (upper up v) o [] root (reach_end _ _ _ root refl) (omega (arith, length_upper up v)) (upper_small up v)
      (omega (arith, length_upper up v))

  made : Made m root (suc up) (upper up v) (upper up v) (make u m root (upper up v))
  made =
      make_made (omega (arith, length_upper up v)) u (upper up v) o [] root (reach_end _ _ _ root refl) (omega (arith, length_upper up v)) (upper_small up v)
      (leads_refl (upper up v))

  -- the memory then, which is in order, and that table
  abbrev mid : Memory
  mid = (make u m root (upper up v)).mem

  abbrev t : ℕ
  t = met.table

  order : Ordered mid root (suc up)
  order = made.grew.order

  there : reach_in mid root (upper up v) ≡ Ok t
  there = made.there t met.comes

  lent : inside_in mid t ≡ true
  lent = order.tree.into (upper up v) t (omega (arith, length_upper up v)) there

  -- which has no entry: nothing was reached below it
  empty : (j : ℕ) → j < 512 → flag 0 (get_or mid.words (place (start_frame mid) t j) 0) ≡ false
  empty j small = by (flag 0 (get_or mid.words (place (start_frame mid) t j) 0)) refl
    where
      by : (b : Bool) → flag 0 (get_or mid.words (place (start_frame mid) t j) 0) ≡ b
          → flag 0 (get_or mid.words (place (start_frame mid) t j) 0) ≡ false
      by false e = e
      by true e =
          let long = length-append (upper up v) (j ∷ []) in
          let lu = length_upper up v in
          let k = entry_there mid.words (start_frame mid) (total_of mid) t j lent small e in
          let g = reach_step mid.words (start_frame mid) (total_of mid) (upper up v) root t j _ there k in
          ⊎_elim (λ c. absurd (Memᴰ.not-nil (bare.only (upper up v ++ (j ∷ [])) _ (omega arith) c).1))
          (λ c. absurd (omega (arith, leads_length c.0)))
          (made.grew.grew (upper up v ++ (j ∷ [])) _ (omega arith) g)

  -- the first page is put there
  abbrev one : Memory
  one = written mid t (last up v) (entry_of p w u)

  one_put : map_page up m root v p w u ≡ out (Ok 0) one
  one_put =
      page_put up m mid root v p w u t (ordered_whole o) (ap (λ (x : Result ℕ Refusal). out x mid) met.comes) lent (empty (last up v) (last_small up v))

  -- no record is broken by it
  one_whole : whole one root ≡ true
  one_whole = rw length-set (ordered_whole order)

  -- the second page has the same way, and its index is free still
  one_there : reach_in one root (upper up v') ≡ Ok t
  one_there =
      subst (λ (l : List ℕ). reach_in one root l ≡ Ok t) (same_upper up v v' same)
      (way_kept order.tree order.sizes.enough (upper up v) t (last up v) (omega (arith, length_upper up v)) there (last_small up v) (entry_of p w u))

  one_empty : flag 0 (get_or one.words (place (start_frame mid) t (last up v')) 0) ≡ false
  one_empty =
      ap (flag 0) (get_or-set_other mid.words (place (start_frame mid) t (last up v)) (place (start_frame mid) t (last up v')) _ 0
      (λ z. other_last up v v' same differ (omega arith)))
      ∙ empty (last up v') (last_small up v')

  -- so the second page is put beside it
  abbrev two : Memory
  two = written one t (last up v') (entry_of p' w' true)

  two_put : map_page up one root v' p' w' true ≡ out (Ok 0) two
  two_put = page_put up one one root v' p' w' true t one_whole (make_there true one root t (upper up v') one_there) lent one_empty

  -- two words set leave a walk's sizes
  two_lent : lent_walk (suc up) (length two.words) (start_frame two) (total_of two) root ≡ true
  two_lent = rw (length-set one.words _ _, length-set mid.words _ _) (ordered_walk order)

  -- its entry is the one that was put
  two_entry : entry_at two.words (start_frame mid) (total_of mid) t (last up v') ≡ Ok (entry_of p' w' true)
  two_entry =
      let same_long = length-set mid.words (place (start_frame mid) t (last up v)) (entry_of p w u) in
      let within = place_lent t (last up v') order.sizes lent (last_small up v') in
      entry_in two.words (start_frame mid) (total_of mid) t (last up v') lent (last_small up v')
      ∙ ap present (get_or-set_same one.words (place (start_frame mid) t (last up v')) _ 0 (omega arith)) ∙ present_yes _ (maps_entry p' w' true).present

  -- and every other table's are as they were made
  two_rest : (s i : ℕ) → inside_in mid s ≡ true → i < 512 → (s ≡ t → ⊥)
      → get_or two.words (place (start_frame mid) s i) 0 ≡ get_or mid.words (place (start_frame mid) s i) 0
  two_rest s i ins small d =
      set_other one.words (start_frame mid) (total_of mid) t (last up v') _ lent (last_small up v') s i ins small d
      ∙ set_other mid.words (start_frame mid) (total_of mid) t (last up v) _ lent (last_small up v) s i ins small d

  -- so the page translates
  two_translates : translate_in (suc up) two root v' ≡ Ok (addr_of p' + v' % 2 ^ 12)
  two_translates =
      let way = ap (λ (l : List ℕ). l ++ (last up v' ∷ [])) (same_upper up v v' same) ∙ path_split up v' in
      translate_is (suc up) two.words (start_frame two) (total_of two) root v' two_lent
      ∙ ap (λ (l : List ℕ). address v' (leaf two.words (start_frame mid) (total_of mid) root l)) (sym way)
      ∙ translates order (upper up v) t (length_upper up v) there two.words two_rest (made.grew.plain plain) v' (last up v') _ two_entry
      ∙ ap (λ (f : ℕ). Ok (f * 2 ^ 12 + v' % 2 ^ 12)) (maps_entry p' w' true).frame

  -- the two calls, by the levels that the memory's record says,
  first : map_page_of m root v p w u ≡ out (Ok 0) one
  first = let top : above_last m ≡ up = omega (arith, o.levels) in rw top one_put

  second : map_page_of one root v' p' w' true ≡ out (Ok 0) two
  second = let top : above_last one ≡ up = omega (arith, order.levels) in rw top two_put

  -- are both met, and the second page translates
  both_mapped : let a = map_page_of m root v p w u in let b = map_page_of a.mem root v' p' w' true in
      (a.walked ≡ Ok 0) × (b.walked ≡ Ok 0) × (translate_in (suc up) b.mem root v' ≡ Ok (addr_of p' + v' % 2 ^ 12))
  both_mapped = rw (first, second) (refl, refl, two_translates)

-- ---- the fresh board

-- it has one frame taken
one_taken : (old fresh : Board) (from to levels : ℕ) → start old from to levels ≡ board_did (Ok 0) fresh → fresh.mem.frames.fa.allocated ≡ 1
unfolding with_mark
one_taken old fresh from to levels =
    start_cases old from to levels (λ (d : BoardDid). d ≡ board_did (Ok 0) fresh → fresh.mem.frames.fa.allocated ≡ 1)
    (λ _ _ _ _ _ e. ap (λ (d : BoardDid). d.board.mem.frames.fa.allocated) (sym e)) (λ e. absurd (nowhere (ap (λ (d : BoardDid). d.answer) e)))
    (λ e. absurd (nowhere (ap (λ (d : BoardDid). d.answer) e)))

-- so it has room for the tables of one way, whoever the first page is for
pub fresh_mapped : (old fresh : Board) (from to levels : ℕ) → start old from to levels ≡ board_did (Ok 0) fresh → levels ≤ total_of fresh.mem
    → (v p : ℕ) (w u : Bool) (v' p' : ℕ) (w' : Bool) → v / 2 ^ 21 ≡ v' / 2 ^ 21 → (v / 2 ^ 12 ≡ v' / 2 ^ 12 → ⊥)
    → let one = map_page_of fresh.mem fresh.root v p w u in let two = then_user_page one fresh.root v' p' w' in
    (one.walked ≡ Ok 0) × (two.walked ≡ Ok 0) × (translate_in levels two.mem fresh.root v' ≡ Ok (addr_of p' + v' % 2 ^ 12))
fresh_mapped old fresh from to zero h enough = absurd (some_levels old fresh from to h)
fresh_mapped old fresh from to (suc up) h enough =
    let i = (fresh_inv old fresh from to up h).paged in
    both_mapped i.account.order i.plain i.live (omega (arith, one_taken old fresh from to (suc up) h))
