-- `align_up` tests that the exact sum has 64 bits, by a difference that does not wrap, and rounds it down.
use Rattle.std.proofs.Common.{◌-◌, ◌+◌, ◌<◌, ◌≤◌}
use Rattle.allocator.specs.Round.{align_up}
use Prim.Native.Nat.{◌^◌}
use native.Mathlib.Omega.{arith}
use borrow.Author.Tests.{le-leb, lt-leb}
use Rattle.allocator.proofs.align_up.Goals as goal

pub returns-then-addr-low : goal.returns-then-addr-low
unfolding align_up
returns-then-addr-low c =
    let a = c.args in
    let sum : 2 ^ 64 - 1 < a.addr + (a.align - 1) = omega (arith, c.low_bits-low.ensures) in
    simp (lt-leb _ _ sum)

pub returns : goal.returns
unfolding align_up
returns c =
    let a = c.args in
    let e = c.low_bits-low.ensures in
    let sum : a.addr + (a.align - 1) ≤ 2 ^ 64 - 1 = omega (arith, e) in
    simp (le-leb _ _ sum, c.align_down.ensures, e)
