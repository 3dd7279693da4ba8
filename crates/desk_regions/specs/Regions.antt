-- What the C functions of vmalloc and mmap leave: a call on the parts unpacked, and what it leaves packed again.
use Rattle.std.specs.Prelude.{Result, Option}
use Rattle.answer.specs.declared.Refusal.{Refusal}
use Rattle.answer.specs.declared.Refusal.TheVariants.{NoRegion}
use Rattle.std.specs.Prelude.{ℕ, Bool, List, [], ◌∷◌, ℤ}
use Rattle.bits.specs.Bit.{unless, both}
use Rattle.answer.specs.Numbers.{count_line}
use Rattle.answer.specs.declared.Line.{Line}
use Rattle.address.specs.Address.{virt_line, as_virt}
use Rattle.frame.specs.declared.Tally.{Tally}
use Rattle.frame.specs.Found.{none_found}
use Rattle.vm_list.specs.Packed.{vm_in, vm_out, vm_fit}
use Rattle.slots.specs.Slots.{listed}
use Rattle.free_range.specs.Search.{find_free}
use Rattle.free_range.specs.Compared.{compared}
use Rattle.mappings.specs.Packed.{mmap_in, next_in, mmap_out, mmap_fit, sound_list}
use Rattle.vmalloc.specs.Calls.{Kernel, kernel, KernelDid, vmalloc_of, vfree_of, vfree_found_of}
use Rattle.user_space.specs.User.{User, user, UserDid}
use Rattle.mmap.specs.Calls.{mmap_of}
use Rattle.munmap.specs.Calls.{munmap_of, munmap_found_of}
use Rattle.mprotect.specs.Calls.{ProtectDid, mprotect}
use Rattle.layout.specs.Parts.{fields_fit}
use Rattle.layout.specs.Left.{Left, left, unless_fit}
use Rattle.layout.specs.Memory.{plain_line, ListParts, list_memory, list_packed}

-- the number and value of a walk's answer, for a call that hands back an address
abbrev pub address_line : Result ℕ Refusal → Line
address_line a = virt_line (as_virt a)

-- ---- vmalloc and vfree: the list is the kernel's

abbrev pub kernel_fit : ListParts → Bool
kernel_fit p = both (fields_fit p.fields) (vm_fit p.list)

abbrev pub kernel_in : ListParts → Kernel
kernel_in p = kernel (list_memory p) (vm_in p.list)

abbrev pub kernel_packed : Kernel → ListParts
kernel_packed k = list_packed k.mem (vm_out k.regions)

unfoldable pub on_kernel : ((Result ℕ Refusal) → Line) → (Kernel → KernelDid) → ListParts → Left ListParts
on_kernel line call p = unless_fit (kernel_fit p) p (left (line (call (kernel_in p)).answer) (kernel_packed (call (kernel_in p)).kernel))

abbrev pub packed_vmalloc : ListParts → ℕ → ℕ → Left ListParts
packed_vmalloc p root size = on_kernel address_line (λ (k : Kernel). vmalloc_of k root size) p

abbrev pub packed_vfree : ListParts → ℕ → ℕ → Left ListParts
packed_vfree p root addr = on_kernel plain_line (λ (k : Kernel). vfree_of k root addr) p

-- what it finds (document 02, slip 5); none where the parts do not fit
unfoldable pub packed_vfree_found : ListParts → ℕ → ℕ → Tally
packed_vfree_found p root addr = unless (kernel_fit p) none_found (vfree_found_of (kernel_in p) root addr)

-- ---- mmap and munmap: the list is the user's, with next_addr

abbrev pub user_fit : ListParts → Bool
user_fit p = both (fields_fit p.fields) (mmap_fit p.list)

abbrev pub user_in : ListParts → User
user_in p = user (list_memory p) (mmap_in p.list) (next_in p.list)

abbrev pub user_packed : User → ListParts
user_packed u = list_packed u.mem (mmap_out u.regions u.next)

unfoldable pub on_user : ((Result ℕ Refusal) → Line) → (User → UserDid) → ListParts → Left ListParts
on_user line call p = unless_fit (user_fit p) p (left (line (call (user_in p)).answer) (user_packed (call (user_in p)).user))

abbrev pub packed_mmap : ListParts → ℕ → Option ℕ → ℕ → ℤ → ℤ → Left ListParts
packed_mmap p root hint size prot flags = on_user address_line (λ (u : User). mmap_of u root hint size prot flags) p

abbrev pub packed_munmap : ListParts → ℕ → ℕ → ℕ → Left ListParts
packed_munmap p root addr size = on_user plain_line (λ (u : User). munmap_of u root addr size) p

unfoldable pub packed_munmap_found : ListParts → ℕ → ℕ → ℕ → Tally
packed_munmap_found p root addr size = unless (user_fit p) none_found (munmap_found_of (user_in p) root addr size)

-- ---- mprotect: the words and the user's list; of the frame record it is lent three numbers

pub record ProtectParts : Type 0 where
  pub words : List ℕ
  pub list : List ℕ

abbrev pub protect_parts : List ℕ → List ℕ → ProtectParts
protect_parts w l = record { words = w; list = l }

-- next_addr stays
abbrev pub protect_packed : ProtectDid → ℕ → ProtectParts
protect_packed d next = protect_parts d.words (mmap_out d.regions next)

unfoldable pub packed_mprotect : ProtectParts → ℕ → ℕ → ℕ → ℕ → ℕ → ℕ → ℤ → Left ProtectParts
packed_mprotect p start total levels root addr size prot =
    let d = mprotect levels p.words start total root (mmap_in p.list) (next_in p.list) addr size prot in
    unless_fit (mmap_fit p.list) p (left (plain_line d.answer) (protect_packed d (next_in p.list)))

-- ---- the search by itself (document 02, slip 9): it reads the list, and leaves the number of regions that it compared in a number that it is lent, with 15 too

abbrev pub packed_find_free : List ℕ → ℕ → ℕ → Left ℕ
packed_find_free list size old =
    unless_fit (sound_list list) old
    (left (count_line (find_free (listed (mmap_in list)) (next_in list) size)) (compared (listed (mmap_in list)) (next_in list) size))

-- of its refusals only 15 changes what it is lent
abbrev pub search_leftovers : List Refusal
search_leftovers = NoRegion ∷ []
