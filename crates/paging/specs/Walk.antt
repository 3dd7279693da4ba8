-- Walks down a page-table tree. The lent words are a list; 'frame number n sits at word (n − start_frame) × 512'. A path is the list of the indices that are still
-- to be taken, top level first, so that boards of any number of levels share the definitions.
use Rattle.std.specs.Prelude.{Ok, Err, Result}
use Rattle.answer.specs.declared.Refusal.{Refusal}
use Rattle.answer.specs.declared.Refusal.TheVariants.{NotMapped, TableOutside}
use Rattle.std.specs.Prelude.{ℕ, ◌+◌, ◌-◌, ◌*◌, ◌%◌, ◌^◌, ◌≤◌, Bool, List, [], ◌∷◌, leb, ltb, length, get_or}
use Rattle.bits.specs.Bit.{pick, both, flag}
use Rattle.answer.specs.Outcomes.{and_then}
use Rattle.entry.specs.Entry.{frame_of, addr_of}
use Rattle.frame.specs.Frames.{inside, frames_end}
use Rattle.paging.specs.declared.Leaf.{Leaf}
use Rattle.paging.specs.declared.Leaf.TheVariants.{Page, Large}

-- the word number of entry i of table t
abbrev pub place : ℕ → ℕ → ℕ → ℕ
place start t i = (t - start) * 512 + i

-- a present entry's word; 14 for an absent one
unfoldable pub present : ℕ → Result ℕ Refusal
present e = pick (flag 0 e) (Ok e) (Err NotMapped)

-- the present word at entry i of table t; 19 where 'a walk meets a table outside the lent frames', 14 for 'an index of 512 or more'
unfoldable pub entry_at : List ℕ → ℕ → ℕ → ℕ → ℕ → Result ℕ Refusal
entry_at ws start total t i =
    pick (inside start total t) (pick (ltb i 512) (present (get_or ws (place start t i) 0)) (Err NotMapped)) (Err TableOutside)

-- the frame at the end of a path below table t: the root's is [], a table's is shorter than a page's. No such walk looks at HUGE
unfoldable pub reach : List ℕ → ℕ → ℕ → ℕ → List ℕ → Result ℕ Refusal
reach ws start total t [] = Ok t
reach ws start total t (i ∷ is) = and_then (entry_at ws start total t i) Err (λ e. reach ws start total (frame_of e) is)

-- a present entry, with the indices that are left below it: the last level's, a large page's one level above, or a table's
abbrev pub judge : List ℕ → ℕ → Result Leaf Refusal → Result Leaf Refusal
judge [] e on = Ok (Page e)
judge (j ∷ []) e on = pick (flag 7 e) (Ok (Large e)) on
judge (j ∷ k ∷ is) e on = on

-- the entry that a translation ends at, below table t along a path
unfoldable pub leaf : List ℕ → ℕ → ℕ → ℕ → List ℕ → Result Leaf Refusal
leaf ws start total t [] = Err NotMapped
leaf ws start total t (i ∷ is) = and_then (entry_at ws start total t i) Err (λ e. judge is e (leaf ws start total (frame_of e) is))

-- '`translate` at the' last level but one 'with HUGE set adds the low 21 address bits, and at the last level the low 12'
abbrev pub address : ℕ → Result Leaf Refusal → Result ℕ Refusal
address v (Ok (Page e)) = Ok (addr_of e + v % 2 ^ 12)
address v (Ok (Large e)) = Ok (addr_of e + v % 2 ^ 21)
address v (Err n) = Err n

-- not broken, as far as a walk goes: total at most 8192, lent words enough, frames that end at most at 2^52, and the root among them
unfoldable pub may_walk : ℕ → ℕ → ℕ → ℕ → Bool
may_walk len start total root =
    both (leb total 8192)
    (both (leb (total * 512) len) (both (leb (start + total) frames_end) (inside start total root)))

-- what the inner functions over lent words ask
pub record WordsLent (ws : List ℕ) (start total : ℕ) : Type 0 where
  pub few : total ≤ 8192
  pub enough : total * 512 ≤ length ws
  pub low : start + total ≤ frames_end
