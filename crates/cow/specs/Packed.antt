-- The marked pages as packed bytes (docs/LAYOUT.md), and the calls on them.
use Rattle.std.specs.Prelude.{Err, Result, ⊤}
use Rattle.answer.specs.declared.Refusal.{Refusal}
use Rattle.answer.specs.declared.Refusal.TheVariants.{BrokenRecord}
use Rattle.std.specs.Prelude.{ℕ, ◌≡◌, Bool, true, List, ◌++◌, eqb, length, drop}
use Rattle.bits.specs.Bit.{unless}
use Rattle.packed.specs.Words.{number, bytes, pack, unpack}
use Rattle.slots.specs.Slots.{Slots, slotted}
use Rattle.cow.specs.Marked.{MarkedDid}

-- the count, and 256 addresses
abbrev pub marked_size : ℕ
marked_size = 2056

abbrev pub marked_in : List ℕ → Slots ℕ
marked_in bs = slotted (unpack 256 (drop 8 bs)) (number 8 bs)

abbrev pub marked_out : Slots ℕ → List ℕ
marked_out s = bytes 8 s.count ++ pack s.slots

-- bytes of another length stand for no pages
abbrev pub marked_fit : List ℕ → Bool
marked_fit bs = eqb (length bs) marked_size

-- ---- the calls

-- an answer, and the bytes afterwards
pub record MarkedBytes : Type 0 where
  pub answer : Result ⊤ Refusal
  pub list : List ℕ

abbrev pub marked_bytes : Result ⊤ Refusal → List ℕ → MarkedBytes
marked_bytes a l = record { answer = a; list = l }

-- a call on the pages that packed bytes stand for, and what it leaves packed again; 10 and nothing changed where they stand for none
unfoldable pub on_marked : (Slots ℕ → MarkedDid) → List ℕ → MarkedBytes
on_marked call list =
    unless (marked_fit list) (marked_bytes (Err BrokenRecord) list)
    (let d = call (marked_in list) in marked_bytes d.answer (marked_out d.marked))

-- bytes that stood for pages stand for those that the call leaves
abbrev pub MarkedReads : (Slots ℕ → MarkedDid) → List ℕ → List ℕ → Type 0
MarkedReads call list left = marked_fit list ≡ true → (marked_fit left ≡ true) × (marked_in left ≡ (call (marked_in list)).marked)
