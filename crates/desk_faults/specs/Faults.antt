-- What the C functions of the marked pages and of both fault paths answer and leave: a call on the parts unpacked, and what it leaves packed again.
use Rattle.std.specs.Prelude.{ℕ, Bool, List}
use Rattle.bits.specs.Bit.{unless, both}
use Rattle.answer.specs.Numbers.{answer_line, flag_line}
use Rattle.answer.specs.declared.Line.{Line}
use Rattle.frame.specs.declared.Tally.{Tally}
use Rattle.frame.specs.Found.{none_found}
use Rattle.paging.specs.Map.{Memory}
use Rattle.slots.specs.Slots.{Slots}
use Rattle.cow.specs.Marked.{MarkedDid, mark_cow, unmark_cow, is_cow}
use Rattle.cow.specs.Packed.{marked_in, marked_out, marked_fit}
use Rattle.fault.specs.Faults.{Faulting, faulting, FaultDid, handle_fault_of, fault_found_of}
use Rattle.handler.specs.Handler.{handle_fault_second_of}
use Rattle.layout.specs.Parts.{fields_fit}
use Rattle.layout.specs.Left.{Left, left, broken_line, unless_fit}
use Rattle.layout.specs.Memory.{plain_line, MemoryParts, ListParts, list_memory, list_packed, on_memory}

-- ---- the marked pages alone

unfoldable pub left_marked : (Slots ℕ → MarkedDid) → List ℕ → Left (List ℕ)
left_marked call marked = unless_fit (marked_fit marked) marked (left (answer_line (call (marked_in marked)).answer) (marked_out (call (marked_in marked)).marked))

abbrev pub packed_mark_cow : List ℕ → ℕ → Left (List ℕ)
packed_mark_cow marked addr = left_marked (λ (s : Slots ℕ). mark_cow s addr) marked

abbrev pub packed_unmark_cow : List ℕ → ℕ → Left (List ℕ)
packed_unmark_cow marked addr = left_marked (λ (s : Slots ℕ). unmark_cow s addr) marked

abbrev pub packed_is_cow : List ℕ → ℕ → Line
packed_is_cow marked addr = unless (marked_fit marked) broken_line (flag_line (is_cow (marked_in marked) addr))

-- ---- the first fault path: the list is that of the marked pages

abbrev pub fault_fit : ListParts → Bool
fault_fit p = both (fields_fit p.fields) (marked_fit p.list)

abbrev pub faulting_in : ListParts → Faulting
faulting_in p = faulting (list_memory p) (marked_in p.list)

abbrev pub fault_packed : Faulting → ListParts
fault_packed s = list_packed s.mem (marked_out s.marked)

unfoldable pub on_fault : (Faulting → FaultDid) → ListParts → Left ListParts
on_fault call p = unless_fit (fault_fit p) p (left (plain_line (call (faulting_in p)).answer) (fault_packed (call (faulting_in p)).state))

abbrev pub packed_fault : ListParts → ℕ → ℕ → ℕ → Left ListParts
packed_fault p root addr code = on_fault (λ (s : Faulting). handle_fault_of s root addr code) p

-- what it found; none where the parts do not fit
unfoldable pub packed_fault_found : ListParts → ℕ → ℕ → ℕ → Tally
packed_fault_found p root addr code = unless (fault_fit p) none_found (fault_found_of (faulting_in p) root addr code)

-- the second path: no marked pages
abbrev pub packed_fault_second : MemoryParts → ℕ → ℕ → ℕ → Left MemoryParts
packed_fault_second p root addr code = on_memory (λ (m : Memory). handle_fault_second_of m root addr code) p
