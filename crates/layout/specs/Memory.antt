-- The parts that calls on the board's memory are lent, and what such a call leaves of them.
use Rattle.std.specs.Prelude.{Result}
use Rattle.answer.specs.declared.Refusal.{Refusal}
use Rattle.std.specs.Prelude.{ℕ, List}
use Rattle.answer.specs.Numbers.{answer_line}
use Rattle.answer.specs.Outcomes.{as_answer}
use Rattle.answer.specs.declared.Line.{Line}
use Rattle.bitmap.specs.Bitmap.{marks_in}
use Rattle.paging.specs.Map.{Memory, memory, Out}
use Rattle.layout.specs.Parts.{frames_in, fields_fit, fields_out}
use Rattle.layout.specs.Left.{Left, left, unless_fit}

-- the number and value of a walk's answer, for a call that hands back nothing
abbrev pub plain_line : Result ℕ Refusal → Line
plain_line a = answer_line (as_answer a)

-- the words, the bytes of the frame record, and the words that its bitmap's 1024 bytes stand for
pub record MemoryParts : Type 0 where
  pub words : List ℕ
  pub fields : List ℕ
  pub marks : List ℕ

abbrev pub memory_parts : List ℕ → List ℕ → List ℕ → MemoryParts
memory_parts w f b = record { words = w; fields = f; marks = marks_in b }

abbrev pub memory_in : MemoryParts → Memory
memory_in p = memory p.words (frames_in p.fields p.marks)

abbrev pub memory_packed : Memory → MemoryParts
memory_packed m = record { words = m.words; fields = fields_out m.frames.fa; marks = m.frames.bits }

-- .. and the bytes of a list, for the calls that are lent one
pub record ListParts : Type 0 where
  pub words : List ℕ
  pub fields : List ℕ
  pub marks : List ℕ
  pub list : List ℕ

abbrev pub list_parts : List ℕ → List ℕ → List ℕ → List ℕ → ListParts
list_parts w f b l = record { words = w; fields = f; marks = marks_in b; list = l }

abbrev pub list_memory : ListParts → Memory
list_memory p = memory p.words (frames_in p.fields p.marks)

abbrev pub list_packed : Memory → List ℕ → ListParts
list_packed m l = record { words = m.words; fields = fields_out m.frames.fa; marks = m.frames.bits; list = l }

-- a call on the parts unpacked, and what it leaves packed again
unfoldable pub on_memory : (Memory → Out) → MemoryParts → Left MemoryParts
on_memory call p = unless_fit (fields_fit p.fields) p (left (plain_line (call (memory_in p)).walked) (memory_packed (call (memory_in p)).mem))
