-- The first path where the marked pages are packed bytes, and what code returns of it.
use Rattle.std.specs.Prelude.{Err, Result, ⊤}
use Rattle.answer.specs.declared.Refusal.{Refusal}
use Rattle.answer.specs.declared.Refusal.TheVariants.{BrokenRecord}
use Rattle.std.specs.Prelude.{ℕ, ◌≡◌, true, List}
use Rattle.bits.specs.Bit.{unless}
use Rattle.answer.specs.Outcomes.{as_answer}
use Rattle.frame.specs.declared.Tally.{Tally}
use Rattle.frame.specs.Found.{none_found}
use Rattle.paging.specs.Map.{Memory}
use Rattle.paging.specs.Kept.{Kept, kept, lent_memory}
use Rattle.cow.specs.Packed.{marked_in, marked_out, marked_fit}
use Rattle.fault.specs.declared.Faulted.{Faulted}
use Rattle.fault.specs.Faults.{Faulting, faulting, FaultDid, handle_fault_of, fault_found_of}

-- a call on the pages that packed bytes stand for, and what it leaves packed again; 10 and nothing changed where they stand for none
unfoldable pub on_pages : (Faulting → FaultDid) → Memory → List ℕ → Kept (Result ⊤ Refusal)
on_pages call m list =
    unless (marked_fit list) (kept (Err BrokenRecord) m list)
    (let d = call (faulting m (marked_in list)) in kept (as_answer d.answer) d.state.mem (marked_out d.state.marked))

abbrev pub fault_on : Memory → List ℕ → ℕ → ℕ → ℕ → Kept (Result ⊤ Refusal)
fault_on m list root a code = on_pages (λ (s : Faulting). handle_fault_of s root a code) m list

-- what a call finds on the pages that packed bytes stand for
unfoldable pub found_on_pages : (Faulting → Tally) → Memory → List ℕ → Tally
found_on_pages found m list = unless (marked_fit list) none_found (found (faulting m (marked_in list)))

abbrev pub fault_found_on : Memory → List ℕ → ℕ → ℕ → ℕ → Tally
fault_found_on m list root a code = found_on_pages (λ (s : Faulting). fault_found_of s root a code) m list

-- bytes that stood for pages stand for those that the call leaves
abbrev pub FaultReads : (Faulting → FaultDid) → Memory → List ℕ → List ℕ → Type 0
FaultReads call m list left = marked_fit list ≡ true → (marked_fit left ≡ true) × (marked_in left ≡ (call (faulting m (marked_in list))).state.marked)

-- what code returns, beside the words, bitmap and list that it was lent
abbrev pub faulted : Faulted → List ℕ → List ℕ → List ℕ → Kept (Result ⊤ Refusal)
faulted r words bitmap list = kept r.answer (lent_memory words bitmap r.frames) list
