-- A loop's counter i below n: the next one, what is left, and the place in bytes of an index.
use Prim.Native.Nat.{ℕ, ◌+◌, ◌*◌, ◌-◌, ◌<◌, ◌≤◌}
use native.Mathlib.Omega.{arith}
use mir.Syntax.{w64}
use mir.Val.{Fits}

module _ (i n : ℕ) (h : i < n) where
  pub onward : i + 1 ≤ n
  onward = omega arith

  pub fewer : n - (i + 1) < n - i
  fewer = omega arith

  pub next_fits : Fits w64 n → Fits w64 (i + 1)
  next_fits f = record { fits = omega (arith, f.fits) }

  -- where n is a number of levels
  pub level_fits : n ≤ 4 → Fits w64 (i + 1)
  level_fits k = record { fits = omega arith }

  pub slot_fits : n ≤ 4 → Fits w64 (i * 8)
  slot_fits k = record { fits = omega arith }
