-- What there is at a page below `up` levels: leaves of one table, or pages that are not mapped.
use Rattle.answer.specs.declared.Refusal.{Refusal}
use Rattle.std.specs.Prelude.{Ok, Err}
use Rattle.std.specs.Prelude.{ℕ, suc, ◌+◌, ◌-◌, ◌*◌, ◌/◌, ◌%◌, ◌^◌, ◌<◌, ◌≤◌, ◌≡◌, true, List, ◌⊎◌, take}
use Rattle.entry.specs.Entry.{index, indices}
use Rattle.frame.specs.Frames.{inside}
use Rattle.paging.specs.Walk.{reach}
use Rattle.spans.specs.declared.Span.{Span}
use Rattle.spans.specs.declared.Span.TheVariants.{Leaves, Gap}

-- the pages from address v on to the end of the span of an entry that has d levels below it
abbrev pub to_end : ℕ → ℕ → ℕ
to_end d v = 2 ^ (9 * d) - v / 2 ^ 12 % 2 ^ (9 * d)

-- entry x is not among the entries from i on of which k are taken, or it is the last of them
abbrev pub Off : ℕ → ℕ → ℕ → Type 0
Off x i k = (x < i) ⊎ (i + k ≤ suc x)

-- k pages from v on, none of them mapped
pub record IsGap (ws : List ℕ) (start total up root v k : ℕ) : Type 0 where
  pub some : 0 < k
  pub off : (j : ℕ) → j < k → (a : Refusal) × (reach ws start total root (indices (suc up) (v + j * 4096)) ≡ Err a)

-- k pages from v on, all with table t as their last. No leaf of theirs but the last is an entry on the way to t
pub record IsLeaves (ws : List ℕ) (start total up root v t k : ℕ) : Type 0 where
  pub some : 0 < k
  pub fit : index 0 v + k ≤ 512
  pub lent : inside start total t ≡ true
  pub way : reach ws start total root (take up (indices (suc up) v)) ≡ Ok t
  pub apart : (l : ℕ) → l < up → reach ws start total root (take l (indices (suc up) v)) ≡ Ok t → Off (index (up - l) v) (index 0 v) k

abbrev pub IsSpan : List ℕ → ℕ → ℕ → ℕ → ℕ → ℕ → Span → Type 0
IsSpan ws start total up root v (Leaves t k) = IsLeaves ws start total up root v t k
IsSpan ws start total up root v (Gap k) = IsGap ws start total up root v k
