-- An answer as where a step came: 0 if it was met.
use Rattle.std.specs.Prelude.{Ok, Err, Result, ℕ, ⊤}
use Rattle.answer.specs.declared.Refusal.{Refusal}

abbrev pub as_outcome : Result ⊤ Refusal → Result ℕ Refusal
as_outcome (Ok tt) = Ok 0
as_outcome (Err n) = Err n
