-- The calls on a list that packed bytes stand for.
use Rattle.std.specs.Prelude.{Err, Result, ⊤}
use Rattle.answer.specs.declared.Refusal.{Refusal}
use Rattle.answer.specs.declared.Refusal.TheVariants.{BrokenRecord}
use Rattle.address.specs.declared.VirtAddr.{VirtAddr}
use Rattle.std.specs.Prelude.{ℕ, ◌≡◌, Bool, true, List}
use Rattle.bits.specs.Bit.{unless, both}
use Rattle.answer.specs.Outcomes.{as_answer}
use Rattle.frame.specs.declared.Tally.{Tally}
use Rattle.frame.specs.Found.{none_found}
use Rattle.paging.specs.Levels.{above_last}
use Rattle.paging.specs.Map.{Memory}
use Rattle.address.specs.Address.{as_virt}
use Rattle.paging.specs.Kept.{Kept, kept, lent_memory}
use Rattle.slots.specs.Slots.{listed}
use Rattle.regions.specs.Regions.{first_fit, used_size}
use Rattle.vm_list.specs.Packed.{vm_in, vm_out, vm_fit}
use Rattle.vmalloc.specs.declared.Vmalloced.{Vmalloced}
use Rattle.vmalloc.specs.declared.Vfreed.{Vfreed}
use Rattle.vmalloc.specs.Calls.{Kernel, kernel, KernelDid, sound_kernel, kernel_placed, released, released_found, vmalloc_of, vfree_of, vfree_found_of}

-- what a call leaves, its list packed again
abbrev pub kept_kernel : {A : Type 0} → ((Result ℕ Refusal) → A) → KernelDid → Kept A
kept_kernel form d = kept (form d.answer) d.kernel.mem (vm_out d.kernel.regions)

-- a call on the list that bytes stand for; 10 and nothing changed where they stand for none
unfoldable pub on_vm_list : {A : Type 0} → ((Result ℕ Refusal) → A) → (Kernel → KernelDid) → Memory → List ℕ → Kept A
on_vm_list form call m list = unless (vm_fit list) (kept (form (Err BrokenRecord)) m list) (kept_kernel form (call (kernel m (vm_in list))))

abbrev pub vmalloc_on : Memory → List ℕ → ℕ → ℕ → Kept (Result VirtAddr Refusal)
vmalloc_on m list root size = on_vm_list as_virt (λ (k : Kernel). vmalloc_of k root size) m list

abbrev pub vfree_on : Memory → List ℕ → ℕ → ℕ → Kept (Result ⊤ Refusal)
vfree_on m list root a = on_vm_list as_answer (λ (k : Kernel). vfree_of k root a) m list

-- what a vfree finds on the list that bytes stand for
unfoldable pub vfree_found_on : Memory → List ℕ → ℕ → ℕ → Tally
vfree_found_on m list root a = unless (vm_fit list) none_found (vfree_found_of (kernel m (vm_in list)) root a)

-- what code returns, beside the words, bitmap and list that it was lent
abbrev pub vmalloced : Vmalloced → List ℕ → List ℕ → List ℕ → Kept (Result VirtAddr Refusal)
vmalloced r words bitmap list = kept r.answer (lent_memory words bitmap r.frames) list

abbrev pub vfreed : Vfreed → List ℕ → List ℕ → List ℕ → Kept (Result ⊤ Refusal)
vfreed r words bitmap list = kept r.answer (lent_memory words bitmap r.frames) list

-- bytes stand for the list that a call leaves
abbrev pub KernelStands : KernelDid → List ℕ → Type 0
KernelStands d left = (vm_fit left ≡ true) × (vm_in left ≡ d.kernel.regions)

-- .. where they stood for one before it
abbrev pub KernelReads : (Kernel → KernelDid) → Memory → List ℕ → List ℕ → Type 0
KernelReads call m list left = vm_fit list ≡ true → KernelStands (call (kernel m (vm_in list))) left

-- whether the bytes stand for a list, and nothing is broken
abbrev pub sound_lent : Memory → List ℕ → ℕ → Bool
sound_lent m list root = both (vm_fit list) (sound_kernel (kernel m (vm_in list)) root)

-- the calls once all of that is tested
abbrev pub placed_on : Memory → List ℕ → ℕ → ℕ → KernelDid
placed_on m list root n = kernel_placed (above_last m) (kernel m (vm_in list)) root n (first_fit n (listed (vm_in list)))

abbrev pub released_on : Memory → List ℕ → ℕ → ℕ → KernelDid
released_on m list root a = released (above_last m) (kernel m (vm_in list)) root a (used_size a (listed (vm_in list)))

abbrev pub released_found_on : Memory → List ℕ → ℕ → ℕ → Tally
released_found_on m list root a = released_found (above_last m) (kernel m (vm_in list)) root a (used_size a (listed (vm_in list)))
