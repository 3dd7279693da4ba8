-- `read_call`: nothing, no call, or the call of a known kind.
use Rattle.std.proofs.Common.{◌∷◌, ◌≤◌, ◌<◌, length, ℕ, sym, ◌∙◌, ap, subst}
use Rattle.tape.specs.Tape.{body_size}
use Rattle.tape.proofs.Reading.{next_none, next_unknown, next_short, next_whole, handed_on}
use Rattle.tape.proofs.read.read_call.Goals as goal

pub returns-in_default : goal.returns-in_default
returns-in_default c = next_none _ c.in_default.ensures.cases

pub returns-in_err-kind : goal.returns-in_err-kind
returns-in_err-kind c =
    sym (handed_on _ c.from_residual.ensures.0) ∙ next_unknown _ c.in-Some.body.now c.in-Some.first.now c.in-Some.ensures.cases.0 c.in_err-kind.ensures

pub returns-then-body-body_size : goal.returns-then-body-body_size
returns-then-body-body_size c =
    next_short _ c.in-Some.body.now c.in-Some.first.now c.in-Some.ensures.cases.0
    (subst (λ (n : ℕ). length c.in-Some.body.now < n) (c.body_size.ensures ∙ ap body_size c.in_ok-kind.ensures) c.if-body-body_size.true)

pub returns : goal.returns
returns c =
    let e = c.in_ok-kind.ensures in
    c.read_body.ensures
    ∙ next_whole _ c.in-Some.body.now c.in_ok-kind.kind (c.in-Some.ensures.cases.0 ∙ ap (λ (k : ℕ). k ∷ c.in-Some.body.now) (sym e))
    (subst (λ (n : ℕ). n ≤ length c.in-Some.body.now) c.body_size.ensures c.if-body-body_size.false)
