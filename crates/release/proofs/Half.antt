-- Ranges of demand 3 lie in the lower half of the top table, and all of that half is theirs.
use Prim.Native.Nat.{ℕ, ◌+◌, ◌*◌, ◌/◌, ◌^◌, ◌<◌, ◌≤◌}
use mathlib.Core.Path.{◌≡◌, sym, subst}
use native.Mathlib.Omega.{arith}
use native.Mathlib.Decide.{dec_le}
use Rattle.frame.proofs.Laws.{levels_least, levels_most}
use Rattle.release.specs.Demand3.{top_of, LowHalf}

pub low_half : LowHalf
low_half levels v may = by (dec_le levels 4)
  where
    Half : ℕ → Type 0
    Half n = (v < top_of n → v / 2 ^ (9 * n + 3) < 256) × (v / 2 ^ (9 * n + 3) < 256 → v < top_of n)

    by : Dec (levels ≤ 4) → Half levels
    by (yes l) = let e : levels ≡ 4 = omega (arith, levels_least levels may) in subst Half (sym e) ((λ h. omega arith), (λ h. omega arith))
    by (no l) = let e : levels ≡ 5 = omega (arith, levels_most levels may) in subst Half (sym e) ((λ h. omega arith), (λ h. omega arith))
