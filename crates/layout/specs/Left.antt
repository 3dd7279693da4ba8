-- What a C function leaves: its line and every part that it was lent. 'Also 10 .. before every other check': 10 and nothing changed where a part does not fit its
-- layout. And what of it a refusal may change.
use Rattle.std.specs.Prelude.{Err}
use Rattle.answer.specs.declared.Refusal.{Refusal}
use Rattle.answer.specs.declared.Refusal.TheVariants.{BrokenRecord, NoFreeFrame, AlreadyMapped, MapPageFailed, PageTableError, TableOutside}
use Rattle.std.specs.Prelude.{ℕ, ◌≡◌, Bool, List, [], ◌∷◌}
use Rattle.bits.specs.Bit.{unless}
use Rattle.answer.specs.Numbers.{number_of, answer_line}
use Rattle.answer.specs.declared.Line.{Line}

-- a line, and the parts afterwards
pub record Left (Parts : Type 0) : Type 0 where
  pub line : Line
  pub parts : Parts

abbrev pub left : {Parts : Type 0} → Line → Parts → Left Parts
left l p = record { line = l; parts = p }

-- what is told of parts that do not fit
abbrev pub broken_line : Line
broken_line = answer_line (Err BrokenRecord)

-- 10 and nothing changed, unless the parts fit
abbrev pub unless_fit : {Parts : Type 0} → Bool → Parts → Left Parts → Left Parts
unless_fit fit p did = unless fit (left broken_line p) did

-- ---- 'Leftovers; otherwise a refusal changes nothing'

-- a refusal, by the number of another than those with which the call may leave something
abbrev pub IsRefusal : List Refusal → ℕ → Type 0
IsRefusal [] n = n ≡ 0 → ⊥
IsRefusal (k ∷ leftovers) n = (n ≡ number_of k → ⊥) × IsRefusal leftovers n

-- every part as it was, at such a number
abbrev pub Unchanged : {Parts : Type 0} → List Refusal → Parts → Left Parts → Type 0
Unchanged leftovers p d = IsRefusal leftovers d.line.number → d.parts ≡ p

-- no refusal of init, the start, mark_allocated, allocate_frame, deallocate_frame, unmap_page, vfree, munmap, mprotect, mark_cow and unmark_cow is listed under the leftovers
abbrev pub no_leftovers : List Refusal
no_leftovers = []

-- map_page, map_huge_page: 'Tables made before 11, 12, .. stay'. 19 leaves something on odd boards alone, 'Where a frame marked free serves as root, table or page, one
-- is reached twice as root, table or page': elsewhere a table that the walk has made is empty, and leads nowhere
abbrev pub table_leftovers : List Refusal
table_leftovers = NoFreeFrame ∷ AlreadyMapped ∷ TableOutside ∷ []

-- 'vmalloc with 11 or 13', 'mmap with 11', 'mmap with 13'
abbrev pub region_leftovers : List Refusal
region_leftovers = NoFreeFrame ∷ MapPageFailed ∷ []

-- the first fault path: '18 ..: the frame taken stays marked'. Its 11 says that there was no frame to take
abbrev pub fault_leftovers : List Refusal
fault_leftovers = PageTableError ∷ []

-- 'the second path's 11 or 19 for a table: the frame taken stays marked'
abbrev pub second_leftovers : List Refusal
second_leftovers = NoFreeFrame ∷ TableOutside ∷ []
