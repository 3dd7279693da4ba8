-- munmap on the list as packed bytes: what code is lent and what it leaves.
use Rattle.std.specs.Prelude.{Result, ⊤}
use Rattle.answer.specs.declared.Refusal.{Refusal}
use Rattle.std.specs.Prelude.{ℕ, List}
use Rattle.bits.specs.Bit.{unless}
use Rattle.answer.specs.Outcomes.{as_answer}
use Rattle.frame.specs.declared.Tally.{Tally}
use Rattle.frame.specs.Found.{none_found}
use Rattle.paging.specs.Map.{Memory}
use Rattle.paging.specs.Kept.{Kept, kept, lent_memory}
use Rattle.mappings.specs.Packed.{mmap_fit}
use Rattle.user_space.specs.Packed.{user_in, on_mmap_list}
use Rattle.munmap.specs.declared.Munmapped.{Munmapped}
use Rattle.munmap.specs.Calls.{munmap_of, munmap_found_of}

abbrev pub munmap_on : Memory → List ℕ → ℕ → ℕ → ℕ → Kept (Result ⊤ Refusal)
munmap_on m list root a size = on_mmap_list as_answer (λ s. munmap_of s root a size) m list

-- what a munmap finds on the list that packed bytes stand for
unfoldable pub munmap_found_on : Memory → List ℕ → ℕ → ℕ → ℕ → Tally
munmap_found_on m list root a size = unless (mmap_fit list) none_found (munmap_found_of (user_in m list) root a size)

-- what code returns, beside the words, bitmap and list that it was lent
abbrev pub munmapped : Munmapped → List ℕ → List ℕ → List ℕ → Kept (Result ⊤ Refusal)
munmapped r words bitmap list = kept r.answer (lent_memory words bitmap r.frames) list
