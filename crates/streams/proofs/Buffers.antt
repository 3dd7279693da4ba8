-- What a tape's source is not, and the bytes behind a call.
use Rattle.std.proofs.Common.{◌≡◌, ℕ, ◌+◌, ◌-◌, ◌≤◌, List, take, drop, sym, ap, ◌∙◌, arith}
use Rattle.std.proofs.lemmas.List.{drop-take}
use Rattle.std.proofs.Math.Seq.{drop-drop}
use Rattle.streams.specs.declared.Source.TheVariants.{Open, Closed, Failed}

pub shut : Closed ≡ Open → ⊥
shut e = cc

pub broken : Failed ≡ Open → ⊥
broken e = cc

-- the bytes behind a call that stands in front
pub left_behind : (buf : List ℕ) (at filled size : ℕ) → size ≤ filled - at → take (filled - (at + size)) (drop (at + size) buf) ≡ drop size (take (filled - at) (drop at buf))
left_behind buf at filled size h =
    let e : filled - at ≡ size + (filled - (at + size)) = omega arith in
    ap (take (filled - (at + size))) (sym (drop-drop size at buf)) ∙ sym (drop-take size (filled - (at + size)) (drop at buf)) ∙ sym (ap (λ (n : ℕ). drop size (take n (drop at buf))) e)
