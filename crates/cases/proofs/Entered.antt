-- A present entry of a marked table stays as it is, whatever is mapped: 'Present tables keep their bits'. And an entry that was absent, on the way of a page that is mapped
-- for the kernel, is the kernel's afterwards.
use Prim.Native.Nat.{ℕ, ◌+◌, ◌-◌, ◌*◌, ◌^◌, ◌<◌}
use mathlib.Core.Path.{◌≡◌, sym, ◌∙◌, ap}
use mathlib.Core.Bool.{Bool, true, false, true≢false}
use mathlib.Core.List.{List, [], ◌∷◌}
use native.Mathlib.Omega.{arith}
use lib.ListN.{get_or}
use lib.Seq.{get_or-set_same, get_or-set_other}
use Rattle.std.specs.Prelude.{Ok}
use Rattle.bits.specs.Bit.{flag}
use Rattle.bits.proofs.Choice.{pick_cases}
use Rattle.bitmap.proofs.Marks.{mark_more}
use Rattle.entry.specs.Entry.{entry_of}
use Rattle.entry.proofs.Entry.{maps_entry}
use Rattle.frame.specs.Frames.{inside, with_mark}
use Rattle.frame.proofs.Laws.{inside_yes}
use Rattle.paging.specs.Walk.{place, WordsLent}
use Rattle.paging.specs.Map.{Memory, start_frame, total_of, Out, zero_frame, enter, make, Left, put_entry, map_entry}
use Rattle.paging.specs.Calls.{whole, map_page}
use Rattle.paging.proofs.Walk.{no_value, place_lent}
use Rattle.paging.proofs.Map.{go_on_cases, length_zero, enter_cases}
use Rattle.tree.proofs.Words.{zero_other}
use Rattle.tree.proofs.Ordered.{inside_in, mark_in}

-- entry i of the marked table r has the word e
pub record Entered (m : Memory) (r i e : ℕ) : Type 0 where
  pub lent : inside_in m r ≡ true
  pub mine : mark_in m r ≡ 1
  pub word : get_or m.words (place (start_frame m) r i) 0 ≡ e

-- ---- it stays

module _ (r i e : ℕ) (small : i < 512) (there : flag 0 e ≡ true) where
  -- a present word is no absent one
  apart : (ws : List ℕ) (x y : ℕ) → get_or ws x 0 ≡ e → flag 0 (get_or ws y 0) ≡ false → x ≡ y → ⊥
  apart ws x y h gone same = true≢false (sym there ∙ ap (flag 0) (sym h ∙ ap (λ (k : ℕ). get_or ws k 0) same) ∙ gone)

  enter_stays : (u : Bool) (m : Memory) (t k : ℕ) → Entered m r i e → Entered (enter u m t k).mem r i e
  unfolding with_mark
  enter_stays u m t k h =
      enter_cases u m t k (λ (o : Out). Entered o.mem r i e) (λ _. h) (λ _ _. h)
      (λ _ gone j lt free _.
      let f = start_frame m in
      let lent : inside_in m (f + j) ≡ true = inside_yes f (total_of m) (f + j) (omega arith) (omega arith) in
      let same : (f + j) - f ≡ j = omega arith in
      let other : r ≡ f + j → ⊥ = λ q. let z : mark_in m r ≡ 0 = rw (q, same) free in omega (arith, h.mine) in
      record {
        lent = h.lent;
        mine = mark_more m.frames.bits j free (r - f) h.mine;
        word =
            get_or-set_other (zero_frame m.words f (f + j)) (place f t k) (place f r i) _ 0 (apart m.words (place f r i) (place f t k) h.word gone)
            ∙ zero_other m.words f (total_of m) (f + j) lent r i h.lent small other ∙ h.word;
      })
      (λ _ _ _. h)

  make_stays : (u : Bool) (is : List ℕ) (m : Memory) (t : ℕ) → Entered m r i e → Entered (make u m t is).mem r i e
  unfolding make
  make_stays u [] m t h = h
  make_stays u (k ∷ is) m t h =
      let next = enter_stays u m t k h in
      go_on_cases (λ (o : Out). Entered o.mem r i e) (enter u m t k) (λ f m'. make u m' f is) (λ _ _. next) (λ f _. make_stays u is (enter u m t k).mem f next)

  put_stays : (ws : List ℕ) (start total t k x : ℕ) → get_or ws (place start r i) 0 ≡ e → get_or (put_entry ws start total t k x).words (place start r i) 0 ≡ e
  unfolding put_entry
  put_stays ws start total t k x h =
      pick_cases P (inside start total t) _ _
      (λ _. pick_cases P (flag 0 (get_or ws (place start t k) 0)) _ _ (λ _. h)
      (λ gone. get_or-set_other ws (place start t k) (place start r i) x 0 (apart ws (place start r i) (place start t k) h gone) ∙ h)) (λ _. h)
    where
      P : Left → Type 0
      P l = get_or l.words (place start r i) 0 ≡ e

  map_stays : (u : Bool) (m : Memory) (root : ℕ) (path : List ℕ) (j x : ℕ) → Entered m r i e → Entered (map_entry u m root path j x).mem r i e
  unfolding map_entry
  map_stays u m root path j x h =
      let a = make_stays u path m root h in
      go_on_cases (λ (o : Out). Entered o.mem r i e) (make u m root path) _ (λ _ _. a)
      (λ t _. record { lent = a.lent; mine = a.mine; word = put_stays _ _ _ t j x a.word })

  -- so it does in a call, met or refused
  pub page_stays : (up : ℕ) (m : Memory) (root v p : ℕ) (w u : Bool) → Entered m r i e → Entered (map_page up m root v p w u).mem r i e
  unfolding map_page
  page_stays up m root v p w u h = pick_cases (λ (o : Out). Entered o.mem r i e) (whole m root) _ _ (λ _. map_stays u m root _ _ _ h) (λ _. h)

-- ---- it is made

-- the entry of a table made for a caller with that user bit
pub record MadeFor (u : Bool) (m : Memory) (r i : ℕ) : Type 0 where
  pub names : ℕ
  pub there : Entered m r i (entry_of (names * 2 ^ 12) true u)

module _ (u : Bool) (m : Memory) (root i : ℕ) (lent : inside_in m root ≡ true) (mine : mark_in m root ≡ 1) (sizes : WordsLent m.words (start_frame m) (total_of m)) (small : i < 512)
    (absent : flag 0 (get_or m.words (place (start_frame m) root i) 0) ≡ false) where
  enter_makes : (x : ℕ) → (enter u m root i).walked ≡ Ok x → MadeFor u (enter u m root i).mem root i
  unfolding with_mark
  enter_makes =
      enter_cases u m root i (λ (o : Out). (x : ℕ) → o.walked ≡ Ok x → MadeFor u o.mem root i) (λ out. absurd (true≢false (sym lent ∙ out)))
      (λ _ present. absurd (true≢false (sym present ∙ absent)))
      (λ _ _ j _ free _ x e. record {
        names = start_frame m + j;
        there = record {
          lent = lent;
          mine = mark_more m.frames.bits j free (root - start_frame m) mine;
          word =
              get_or-set_same (zero_frame m.words (start_frame m) (start_frame m + j)) (place (start_frame m) root i) _ 0
              (omega (arith, place_lent root i sizes lent small, length_zero m.words (start_frame m) (start_frame m + j)));
        };
      })
      (λ _ _ _ x e. absurd (no_value (sym e)))

  -- and stays while the page is mapped
  make_makes : (is : List ℕ) (x : ℕ) → (make u m root (i ∷ is)).walked ≡ Ok x → MadeFor u (make u m root (i ∷ is)).mem root i
  unfolding make
  make_makes is =
      go_on_cases (λ (o : Out). (x : ℕ) → o.walked ≡ Ok x → MadeFor u o.mem root i) (enter u m root i) (λ f m'. make u m' f is) (λ _ _ x e. absurd (no_value (sym e)))
      (λ f h x _.
      let a = enter_makes f h in
      record { names = a.names; there = make_stays root i _ small (maps_entry (a.names * 2 ^ 12) true u).present u is (enter u m root i).mem f a.there })

  pub map_makes : (is : List ℕ) (j e x : ℕ) → (map_entry u m root (i ∷ is) j e).walked ≡ Ok x → MadeFor u (map_entry u m root (i ∷ is) j e).mem root i
  unfolding map_entry
  map_makes is j e =
      go_on_cases (λ (o : Out). (x : ℕ) → o.walked ≡ Ok x → MadeFor u o.mem root i) (make u m root (i ∷ is)) _ (λ _ _ x z. absurd (no_value (sym z)))
      (λ t h x _.
      let a = make_makes is t h in
      let b = a.there in
      record {
        names = a.names;
        there = record { lent = b.lent; mine = b.mine; word = put_stays root i _ small (maps_entry (a.names * 2 ^ 12) true u).present _ _ _ t j e b.word };
      })
