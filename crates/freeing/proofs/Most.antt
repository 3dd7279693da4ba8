-- Of a run, no more pages than there are.
use Prim.Native.Nat.{ℕ, zero, suc, ◌+◌, ◌*◌, ◌^◌, ◌<◌, ◌≤◌, min}
use mathlib.Core.Path.{◌≡◌, sym, ◌∙◌, ap}
use native.Mathlib.Omega.{arith}
use Rattle.paging.specs.Map.{Memory}
use Rattle.paging.specs.Pages.{free_pages}
use Rattle.freeing_runs.proofs.Runs.{free_all}

-- they come to all n
pub most_are : (up root v n : ℕ) (m : Memory) {all most : ℕ} → all ≡ 2 ^ (9 * suc up) → most ≡ min n all → free_pages up m root v most ≡ free_pages up m root v n
most_are up root v n m {most = most} w e =
    let s : min n (2 ^ (9 * suc up)) ≡ most = omega arith in
    sym (free_all up root m v n ∙ ap (free_pages up m root v) s)

pub most_fit : (v n all : ℕ) {most : ℕ} → most ≡ min n all → v + n * 4096 < 2 ^ 64 → v + most * 4096 < 2 ^ 64
most_fit v n all e h = omega arith

-- where they are a block or more, there is a level above the last
pub block_above : (up n : ℕ) {all most : ℕ} → all ≡ 2 ^ (9 * suc up) → most ≡ min n all → 2 ^ 18 ≤ most → 1 ≤ up
block_above zero n w e h = absurd (omega arith)
block_above (suc up) n w e h = omega arith
