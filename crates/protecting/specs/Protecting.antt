-- Tables below which every page follows w already, and what code remembers of them.
use Rattle.std.specs.Prelude.{Ok}
use Rattle.std.specs.Prelude.{ℕ, ◌+◌, ◌-◌, ◌≡◌, Bool, true, List, ◌⊎◌, get_or}
use Rattle.bits.specs.Bit.{pick, flag}
use Rattle.frame.specs.Frames.{inside}
use Rattle.paging.specs.Protect.{page_place}

-- every page below table t, which has d levels below it, has WRITABLE as w
pub record Follows (d : ℕ) (w : Bool) (ws : List ℕ) (start total t : ℕ) : Type 0 where
  pub page : (v x : ℕ) → page_place d ws start total t v ≡ Ok x → flag 1 (get_or ws x 0) ≡ w

-- of each frame lent a byte: bit d is set where it was gone through whole, as a table with d levels below it
pub record Remembered (w : Bool) (ws : List ℕ) (start total : ℕ) (gone : List ℕ) : Type 0 where
  pub whole : (j d : ℕ) → flag d (get_or gone j 0) ≡ true → Follows d w ws start total (start + j)

-- one table more: no bit is set but those that were, and bit d of byte j
pub record Noted (gone gone' : List ℕ) (j d : ℕ) : Type 0 where
  pub each : (i b : ℕ) → flag b (get_or gone' i 0) ≡ true → (flag b (get_or gone i 0) ≡ true) ⊎ ((i ≡ j) × (b ≡ d))

-- whether nothing is left to do below table t: it is not lent, or was gone through whole
abbrev pub is_done : List ℕ → ℕ → ℕ → ℕ → ℕ → Bool
is_done gone start total d t = pick (inside start total t) (flag d (get_or gone (t - start) 0)) true
