-- What follows an outcome.
use Rattle.std.specs.Prelude.{ℕ, Result, Ok, Err, ⊤}
use Rattle.answer.specs.declared.Refusal.{Refusal}

-- k after a value, and `stop` after a refusal
abbrev pub and_then : {A : Type 0} → Result ℕ Refusal → (Refusal → A) → (ℕ → A) → A
and_then (Ok x) stop k = k x
and_then (Err n) stop k = stop n

-- where a call or a step came, as the answer of a call that hands back nothing
abbrev pub as_answer : Result ℕ Refusal → Result ⊤ Refusal
as_answer (Ok x) = Ok tt
as_answer (Err n) = Err n
