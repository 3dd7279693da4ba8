-- `take`: what stands behind the call is left.
use Rattle.std.proofs.Common.{◌+◌, ◌-◌, ◌≤◌, List, ℕ, length, drop, ◌∙◌, ap, arith}
use Rattle.std.proofs.Math.ListN.{length-take}
use Rattle.streams.specs.Streams.{Left, taken}
use Rattle.streams.proofs.Buffers.{left_behind}
use Rattle.streams.proofs.reading.Input.take.Goals as goal

pub returns : goal.returns
returns c =
    let i = c.self.inside in
    let k = c.args.size in
    let there = ap (λ (l : Left). length l.bytes) c.self.view_is in
    let h : k ≤ i.place.filled - i.place.at = omega (arith, there, c.requires.size_bound, length-take (i.place.filled - i.place.at) (drop i.place.at i.bytes)) in
    ap (λ (b : List ℕ). record { bytes = b; offset = i.place.offset + k; source = i.place.source }) (left_behind i.bytes i.place.at i.place.filled k h) ∙ ap (taken k) c.self.view_is
