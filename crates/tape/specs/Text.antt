-- The lines of the key: 'kind, answer (0 if met), value in 16 lower-case hexadecimal digits', 'all but the value in decimal'.
use Rattle.std.specs.Prelude.{ℕ, zero, suc, ◌/◌, ◌%◌, List, [], ◌∷◌, ◌++◌, ltb}
use Rattle.io.specs.Digits.{hex_digit_ascii, last_digits}
use Rattle.bits.specs.Bit.{pick}
use Rattle.answer.specs.declared.Line.{Line}

-- a number's decimal digits, of which a 64-bit number has at most 20
abbrev pub decimal_of : ℕ → ℕ → List ℕ
decimal_of zero n = []
decimal_of (suc k) n = pick (ltb n 10) (hex_digit_ascii n ∷ []) (decimal_of k (n / 10) ++ (hex_digit_ascii (n % 10) ∷ []))

abbrev pub decimal : ℕ → List ℕ
decimal n = decimal_of 20 n

-- a call's line; 32 is a space, 10 ends a line
abbrev pub line_text : ℕ → Line → List ℕ
line_text kind l = decimal kind ++ (32 ∷ decimal l.number ++ (32 ∷ last_digits 16 16 l.value ++ (10 ∷ [])))

-- a word and a number, as the last lines have them
abbrev pub count_text : List ℕ → ℕ → List ℕ
count_text word n = word ++ (32 ∷ decimal n ++ (10 ∷ []))
