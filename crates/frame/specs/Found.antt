-- What freeing found, document 02's slip 5: '`deallocate_frame` answers one of three: freed, already free, not on this board. munmap and vfree return how many frames
-- fell in each.'
use Rattle.std.specs.Prelude.{Result, ⊤}
use Rattle.answer.specs.declared.Refusal.{Refusal}
use Rattle.std.specs.Prelude.{ℕ, ◌+◌}
use Rattle.answer.specs.Numbers.{answer_line, line_of}
use Rattle.answer.specs.declared.Line.{Line}
use Rattle.frame.specs.declared.Found.{Found}
use Rattle.frame.specs.declared.Found.TheVariants.{Freed, AlreadyFree, NotHere}
use Rattle.frame.specs.declared.Tally.{Tally}
use Rattle.frame.specs.declared.TallyLine.{TallyLine}

-- the value of each of the three, and the line of a frame that was given back
abbrev pub found_value : Found → ℕ
found_value Freed = 0
found_value AlreadyFree = 1
found_value NotHere = 2

abbrev pub found_line : Result Found Refusal → Line
found_line = line_of found_value

-- ---- how many fell in each

abbrev pub tally : ℕ → ℕ → ℕ → Tally
tally a b c = record { freed = a; already_free = b; not_here = c }

abbrev pub none_found : Tally
none_found = tally 0 0 0

abbrev pub one_found : Found → Tally
one_found Freed = tally 1 0 0
one_found AlreadyFree = tally 0 1 0
one_found NotHere = tally 0 0 1

abbrev pub and_found : Tally → Tally → Tally
and_found s t = tally (s.freed + t.freed) (s.already_free + t.already_free) (s.not_here + t.not_here)

-- 'the three numbers add up'
abbrev pub all_found : Tally → ℕ
all_found t = t.freed + t.already_free + t.not_here

-- a call's number beside its tally, and each of them by itself: 'The key program still prints value 0'
abbrev pub tally_line : Result ⊤ Refusal → Tally → TallyLine
tally_line a t = record { number = (answer_line a).number; freed = t.freed; already_free = t.already_free; not_here = t.not_here }

abbrev pub key_line : TallyLine → Line
key_line r = record { number = r.number; value = 0 }

abbrev pub tally_of : TallyLine → Tally
tally_of r = tally r.freed r.already_free r.not_here
