-- mprotect on the list as packed bytes: what code is lent and what it leaves.
use Rattle.std.specs.Prelude.{Err, Result, ⊤}
use Rattle.answer.specs.declared.Refusal.{Refusal}
use Rattle.answer.specs.declared.Refusal.TheVariants.{BrokenRecord}
use Rattle.std.specs.Prelude.{ℕ, List, ℤ}
use Rattle.bits.specs.Bit.{unless}
use Rattle.answer.specs.Outcomes.{as_answer}
use Rattle.mappings.specs.Packed.{mmap_in, next_in, mmap_out, mmap_fit}
use Rattle.mprotect.specs.Calls.{ProtectDid, mprotect}

-- the answer, beside the words and the list's bytes
pub record ProtectKept : Type 0 where
  pub answer : Result ⊤ Refusal
  pub words : List ℕ
  pub list : List ℕ

abbrev pub protect_kept : Result ⊤ Refusal → List ℕ → List ℕ → ProtectKept
protect_kept a ws l = record { answer = a; words = ws; list = l }

-- the list packed again, with the next_addr that it had
abbrev pub kept_protected : ProtectDid → ℕ → ProtectKept
kept_protected d next = protect_kept (as_answer d.answer) d.words (mmap_out d.regions next)

-- 10 and nothing changed where the bytes stand for no list
unfoldable pub mprotect_on : ℕ → List ℕ → ℕ → ℕ → ℕ → List ℕ → ℕ → ℕ → ℤ → ProtectKept
mprotect_on levels ws start total root list a size prot =
    unless (mmap_fit list) (protect_kept (as_answer (Err BrokenRecord)) ws list)
    (kept_protected (mprotect levels ws start total root (mmap_in list) (next_in list) a size prot) (next_in list))
