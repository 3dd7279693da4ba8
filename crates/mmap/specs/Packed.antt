-- mmap on the list as packed bytes: what code is lent and what it leaves.
use Rattle.std.specs.Prelude.{Result, Option, None, Some}
use Rattle.answer.specs.declared.Refusal.{Refusal}
use Rattle.address.specs.declared.VirtAddr.{VirtAddr}
use Rattle.std.specs.Prelude.{ℕ, Bool, true, false, List, ℤ}
use Rattle.address.specs.Address.{as_virt}
use Rattle.paging.specs.Map.{Memory}
use Rattle.paging.specs.Kept.{Kept, kept, lent_memory}
use Rattle.user_space.specs.Packed.{on_mmap_list}
use Rattle.mmap.specs.declared.Mmapped.{Mmapped}
use Rattle.mmap.specs.Calls.{mmap_of}

-- the address where one is given
abbrev pub opt_addr : Bool → ℕ → Option ℕ
opt_addr true a = Some a
opt_addr false a = None

abbrev pub mmap_on : Memory → List ℕ → ℕ → Option ℕ → ℕ → ℤ → ℤ → Kept (Result VirtAddr Refusal)
mmap_on m list root hint size prot flags = on_mmap_list as_virt (λ s. mmap_of s root hint size prot flags) m list

-- what code returns, beside the words, bitmap and list that it was lent
abbrev pub mmapped : Mmapped → List ℕ → List ℕ → List ℕ → Kept (Result VirtAddr Refusal)
mmapped r words bitmap list = kept r.answer (lent_memory words bitmap r.frames) list
