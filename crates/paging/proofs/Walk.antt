-- What the definitions of a walk come to, by the tests that code makes.
use Prim.Native.Nat.{ℕ, ◌+◌, ◌*◌, ◌^◌, ◌<◌, ◌≤◌}
use mathlib.Core.Path.{◌≡◌, refl, ◌∙◌}
use mathlib.Core.Bool.{true, false}
use mathlib.Core.List.{List, [], ◌∷◌}
use native.Mathlib.Omega.{arith}
use lib.Dec.{leb}
use lib.ListN.{length, get_or}
use borrow.Author.Tests.{le-leb, lt-leb, lt-ltb, le-ltb, leb-true}
use Rattle.std.specs.Prelude.{Result}
use Rattle.answer.specs.declared.Refusal.{Refusal}
use Rattle.std.specs.Prelude.{Ok, Err}
use Rattle.answer.specs.declared.Refusal.TheVariants.{NotMapped, TableOutside}
use Rattle.bits.specs.Bit.{pick, flag}
use Rattle.bits.proofs.Choice.{both_true}
use Rattle.entry.specs.Entry.{frame_of}
use Rattle.frame.specs.Frames.{inside}
use Rattle.frame.proofs.Laws.{inside_from, inside_under}
use Rattle.paging.specs.declared.Leaf.{Leaf}
use Rattle.paging.specs.declared.Leaf.TheVariants.{Page, Large}
use Rattle.paging.specs.Walk.{place, present, entry_at, reach, judge, leaf, may_walk, WordsLent}

-- a value is no stop
pub no_value : {a : ℕ} {n : Refusal} → Ok a ≡ Err n → ⊥
no_value e = let z : ◌≡◌ {A = ℕ} 0 1 = cc in omega arith

-- ---- one entry

pub present_yes : (e : ℕ) → flag 0 e ≡ true → present e ≡ Ok e
unfolding present
present_yes e h = rw h

pub present_no : (e : ℕ) → flag 0 e ≡ false → present e ≡ Err NotMapped
unfolding present
present_no e h = rw h

module _ (ws : List ℕ) (start total t i : ℕ) where
  pub entry_out : inside start total t ≡ false → entry_at ws start total t i ≡ Err TableOutside
  unfolding entry_at
  entry_out h = rw h

  pub entry_past : inside start total t ≡ true → 512 ≤ i → entry_at ws start total t i ≡ Err NotMapped
  unfolding entry_at
  entry_past h k = rw (h, le-ltb i 512 k)

  pub entry_in : inside start total t ≡ true → i < 512 → entry_at ws start total t i ≡ present (get_or ws (place start t i) 0)
  unfolding entry_at
  entry_in h k = rw (h, lt-ltb i 512 k)

-- the entries of a lent table are lent words
pub place_lent : {ws : List ℕ} {start total : ℕ} (t i : ℕ) → WordsLent ws start total → inside start total t ≡ true → i < 512 → place start t i < length ws
place_lent {start = start} {total = total} t i l h k = omega (arith, l.enough, inside_from start total t h, inside_under start total t h)

-- and so are all 512 words of a lent frame
pub frame_lent : {ws : List ℕ} {start total : ℕ} (f : ℕ) → WordsLent ws start total → inside start total f ≡ true → place start f 0 + 512 ≤ length ws
frame_lent {start = start} {total = total} f l h = omega (arith, l.enough, inside_from start total f h, inside_under start total f h)

-- words of the same number are lent still
pub lent_still : {ws ws' : List ℕ} {start total : ℕ} → length ws' ≡ length ws → WordsLent ws start total → WordsLent ws' start total
lent_still e l = record { few = l.few; enough = omega (arith, e, l.enough); low = l.low }

-- ---- the frame at the end of a path. The laws of walks take a path by an equation, so that they serve one that is written out, by `refl`, and a loop's turn

module _ (ws : List ℕ) (start total t : ℕ) {p : List ℕ} where
  pub reach_end : p ≡ [] → reach ws start total t p ≡ Ok t
  unfolding reach
  reach_end c = rw c

  module _ {i : ℕ} {is : List ℕ} (c : p ≡ i ∷ is) where
    pub reach_stop : (n : Refusal) → entry_at ws start total t i ≡ Err n → reach ws start total t p ≡ Err n
    unfolding reach
    reach_stop n h = rw (c, h)

    pub reach_on : (e : ℕ) → entry_at ws start total t i ≡ Ok e → reach ws start total t p ≡ reach ws start total (frame_of e) is
    unfolding reach
    reach_on e h = rw (c, h)

-- ---- the entry that a translation ends at, by the number of indices that are left: 0 at the last level, 1 at the last but one

pub judge_last : (is : List ℕ) (e : ℕ) (on : Result Leaf Refusal) → length is ≡ 0 → judge is e on ≡ Ok (Page e)
judge_last [] e on h = refl
judge_last (i ∷ is) e on h = absurd (omega arith)

pub judge_one : (is : List ℕ) (e : ℕ) (on : Result Leaf Refusal) → length is ≡ 1 → judge is e on ≡ pick (flag 7 e) (Ok (Large e)) on
judge_one [] e on h = absurd (omega arith)
judge_one (i ∷ []) e on h = refl
judge_one (i ∷ j ∷ is) e on h = absurd (omega arith)

pub judge_above : (is : List ℕ) (e : ℕ) (on : Result Leaf Refusal) → 1 < length is → judge is e on ≡ on
judge_above [] e on h = absurd (omega arith)
judge_above (i ∷ []) e on h = absurd (omega arith)
judge_above (i ∷ j ∷ is) e on h = refl

module _ (ws : List ℕ) (start total t : ℕ) {p : List ℕ} where
  pub leaf_end : p ≡ [] → leaf ws start total t p ≡ Err NotMapped
  unfolding leaf
  leaf_end c = rw c

  module _ {i : ℕ} {is : List ℕ} (c : p ≡ i ∷ is) where
    pub leaf_stop : (n : Refusal) → entry_at ws start total t i ≡ Err n → leaf ws start total t p ≡ Err n
    unfolding leaf
    leaf_stop n h = rw (c, h)

    pub leaf_on : (e : ℕ) → entry_at ws start total t i ≡ Ok e → leaf ws start total t p ≡ judge is e (leaf ws start total (frame_of e) is)
    unfolding leaf
    leaf_on e h = rw (c, h)

    -- the same by level
    module _ (e : ℕ) (h : entry_at ws start total t i ≡ Ok e) where
      pub leaf_page : length is ≡ 0 → leaf ws start total t p ≡ Ok (Page e)
      leaf_page l = leaf_on e h ∙ judge_last is e _ l

      pub leaf_large : length is ≡ 1 → flag 7 e ≡ true → leaf ws start total t p ≡ Ok (Large e)
      leaf_large l k = leaf_on e h ∙ judge_one is e _ l ∙ rw k

      pub leaf_small : length is ≡ 1 → flag 7 e ≡ false → leaf ws start total t p ≡ leaf ws start total (frame_of e) is
      leaf_small l k = leaf_on e h ∙ judge_one is e _ l ∙ rw k

      pub leaf_above : 1 < length is → leaf ws start total t p ≡ leaf ws start total (frame_of e) is
      leaf_above l = leaf_on e h ∙ judge_above is e _ l

-- ---- the test for a broken record, one comparison after the other

module _ (len start total root : ℕ) where
  pub lent_many : 8192 < total → may_walk len start total root ≡ false
  unfolding may_walk
  lent_many a = rw (lt-leb _ _ a)

  pub lent_short : total ≤ 8192 → len < total * 512 → may_walk len start total root ≡ false
  unfolding may_walk
  lent_short a b = rw (le-leb _ _ a, lt-leb _ _ b)

  pub lent_high : total ≤ 8192 → total * 512 ≤ len → 2 ^ 40 < start + total → may_walk len start total root ≡ false
  unfolding may_walk
  lent_high a b c = rw (le-leb _ _ a, le-leb _ _ b, lt-leb _ _ c)

  pub lent_rooted : total ≤ 8192 → total * 512 ≤ len → start + total ≤ 2 ^ 40 → may_walk len start total root ≡ inside start total root
  unfolding may_walk
  lent_rooted a b c = rw (le-leb _ _ a, le-leb _ _ b, le-leb _ _ c)

-- what a record that passes it says
module _ (len start total root : ℕ) (h : may_walk len start total root ≡ true) where
  lent_parts : (leb total 8192 ≡ true) × (leb (total * 512) len ≡ true) × (leb (start + total) (2 ^ 40) ≡ true) × (inside start total root ≡ true)
  unfolding may_walk
  lent_parts =
      let a = both_true (leb total 8192) _ h in
      let b = both_true (leb (total * 512) len) _ a.1 in
      let c = both_true (leb (start + total) (2 ^ 40)) _ b.1 in
      (a.0, b.0, c.0, c.1)

  pub lent_few : total ≤ 8192
  lent_few = leb-true _ _ lent_parts.0

  pub lent_enough : total * 512 ≤ len
  lent_enough = leb-true _ _ lent_parts.1

  pub lent_low : start + total ≤ 2 ^ 40
  lent_low = leb-true _ _ lent_parts.2

  pub lent_root : inside start total root ≡ true
  lent_root = lent_parts.3

pub lent_words : (ws : List ℕ) (start total root : ℕ) → may_walk (length ws) start total root ≡ true → WordsLent ws start total
lent_words ws start total root h = record { few = lent_few _ _ _ _ h; enough = lent_enough _ _ _ _ h; low = lent_low _ _ _ _ h }
