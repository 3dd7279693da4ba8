-- Choices by a test, and the bits of a word by division and remainder.
use Rattle.std.specs.Prelude.{ℕ, ◌/◌, ◌%◌, ◌^◌, Bool, true, false, eqb}

-- the one choice between two values by a test
abbrev pub pick : {A : Type 0} → Bool → A → A → A
pick true a b = a
pick false a b = b

-- a check of a call: a refusal unless it holds, then the rest
abbrev pub unless : {A : Type 0} → Bool → A → A → A
unless ok refusal rest = pick ok rest refusal

abbrev pub both : Bool → Bool → Bool
both true b = b
both false b = false

-- 1 for true and 0 for false
abbrev pub one : Bool → ℕ
one true = 1
one false = 0

-- bit k of a word, 0 or 1
abbrev pub bit : ℕ → ℕ → ℕ
bit k w = w / 2 ^ k % 2

-- bit k of a word, as a truth value
abbrev pub flag : ℕ → ℕ → Bool
flag k w = eqb (bit k w) 1
