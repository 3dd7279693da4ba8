-- The kinds of calls as code has them, and their numbers.
use Rattle.std.specs.Prelude.{ℕ, ◌≡◌, Result, MatchResult}
use Rattle.tape.specs.declared.Kind.{Kind}
use Rattle.tape.specs.declared.Kind.TheVariants.{Vmalloc, Vfree, Mmap, Munmap, Fault, Translate}
use Rattle.tape.specs.declared.Malformed.{Malformed}
use Rattle.tape.specs.Tape.{body_size}

abbrev pub number_of : Kind → ℕ
number_of Vmalloc = 1
number_of Vfree = 2
number_of Mmap = 3
number_of Munmap = 4
number_of Fault = 5
number_of Translate = 6

-- the kind of a kind byte, or none where the byte is of no kind
abbrev pub Decodes : ℕ → Result Kind Malformed → Type 0
Decodes byte r = MatchResult r (λ k. number_of k ≡ byte) (λ _. body_size byte ≡ 0)
