-- 4-level and 5-level paging for 4-KByte pages, from the Intel SDM, volume 3A, chapter 'Paging': 'Linear-Address Translation with 4-Level Paging and 5-Level Paging',
-- the tables of entry formats, and of 'Access Rights' the data accesses in user mode. It speaks of physical memory, CR3 and a linear address, and of nothing
-- else in this project. MAXPHYADDR is 52 and IA32_EFER.NXE is 1, so that no address bit of an entry is reserved, nor bit 63. CR4.PKE, CR4.CET and CR4.LASS are 0, and no
-- address bit is masked (LAM): no protection key, no shadow stack, no other test before the translation. Cached translations, and the accessed and dirty flags, are the
-- manual's next sections, and not part of this.
use Rattle.std.specs.Prelude.{ℕ, ◌+◌, ◌-◌, ◌*◌, ◌/◌, ◌%◌, ◌^◌, Bool, true, false, List, [], ◌∷◌, map, eqb}

-- 'bits hi:lo' of x
abbrev pub bits : ℕ → ℕ → ℕ → ℕ
bits hi lo x = x / 2 ^ lo % 2 ^ (hi + 1 - lo)

-- the paging mode, by CR4.LA57
pub data Paging : Type 0 where
  four_level five_level : Paging

-- physical memory: the 64-bit entry at a physical address, which is a multiple of 8
abbrev pub Memory : Type 0
Memory = ℕ → ℕ

-- What a translation comes to. `not_present` and `reserved` are page faults. `large` is a 1-GByte or a 2-MByte page: this definition goes no further there.
pub data Translation : Type 0 where
  physical : ℕ → Translation
  not_present reserved large not_canonical : Translation

-- the one choice by a flag
abbrev pub choose : {A : Type 0} → Bool → A → A → A
choose true a b = a
choose false a b = b

-- bit 0 (P), 'Present': an entry whose P flag is 0 'is used neither to reference another paging-structure entry nor to map a page'
abbrev pub p : ℕ → Bool
p e = eqb (bits 0 0 e) 1

-- bit 7 (PS), 'Page size', of a PDPTE or a PDE: it 'maps a 1-GByte page' (where the processor supports those; else it is reserved) or
-- 'maps a 2-MByte page'. Of a PML5E or a PML4E it is 'Reserved (must be 0)'. Of a PTE it is PAT.
abbrev pub ps : ℕ → Bool
ps e = eqb (bits 7 7 e) 1

-- ---- where each entry stands

-- the number of the 4-KByte table that x references, CR3 or an entry: 'Bits 51:12 are from' x, for every paging structure
abbrev pub table_of : ℕ → ℕ
table_of x = bits 51 12 x

-- entry i of that table: 'Bits 11:3 are' i. 'Bits 2:0 are all 0'
abbrev pub entry_of : ℕ → ℕ → ℕ
entry_of x i = table_of x * 2 ^ 12 + i * 2 ^ 3

-- with 5-level paging: 'Bits 51:12 are from CR3. Bits 11:3 are bits 56:48 of the linear address. Bits 2:0 are all 0.'
abbrev pub pml5e_at : ℕ → ℕ → ℕ
pml5e_at cr3 v = entry_of cr3 (bits 56 48 v)

-- Bits 51:12 are from x, which is CR3 with 4-level paging and the PML5E with 5-level paging. 'Bits 11:3 are bits 47:39 of the linear address. Bits 2:0 are all 0.'
abbrev pub pml4e_at : ℕ → ℕ → ℕ
pml4e_at x v = entry_of x (bits 47 39 v)

-- 'Bits 51:12 are from the PML4E. Bits 11:3 are bits 38:30 of the linear address. Bits 2:0 are all 0.'
abbrev pub pdpte_at : ℕ → ℕ → ℕ
pdpte_at pml4e v = entry_of pml4e (bits 38 30 v)

-- 'Bits 51:12 are from the PDPTE. Bits 11:3 are bits 29:21 of the linear address. Bits 2:0 are all 0.'
abbrev pub pde_at : ℕ → ℕ → ℕ
pde_at pdpte v = entry_of pdpte (bits 29 21 v)

-- 'Bits 51:12 are from the PDE. Bits 11:3 are bits 20:12 of the linear address. Bits 2:0 are all 0.'
abbrev pub pte_at : ℕ → ℕ → ℕ
pte_at pde v = entry_of pde (bits 20 12 v)

-- 'Bits 51:12 are from the PTE. Bits 11:0 are from the original linear address.'
abbrev pub page_at : ℕ → ℕ → ℕ
page_at pte v = bits 51 12 pte * 2 ^ 12 + bits 11 0 v

-- ---- the translation

-- an entry above a PTE: it is not present, it is `other` with PS, or it references a table, from which the translation goes `on`
abbrev pub above : Translation → ℕ → Translation → Translation
above other e on = choose (p e) (choose (ps e) other on) not_present

-- the translation of linear address v from one of its entries on
unfoldable pub through_pte : ℕ → ℕ → Translation
through_pte v pte = choose (p pte) (physical (page_at pte v)) not_present

unfoldable pub through_pde : Memory → ℕ → ℕ → Translation
through_pde mem v pde = above large pde (through_pte v (mem (pte_at pde v)))

unfoldable pub through_pdpte : Memory → ℕ → ℕ → Translation
through_pdpte mem v pdpte = above large pdpte (through_pde mem v (mem (pde_at pdpte v)))

unfoldable pub through_pml4e : Memory → ℕ → ℕ → Translation
through_pml4e mem v pml4e = above reserved pml4e (through_pdpte mem v (mem (pdpte_at pml4e v)))

unfoldable pub through_pml5e : Memory → ℕ → ℕ → Translation
through_pml5e mem v pml5e = above reserved pml5e (through_pml4e mem v (mem (pml4e_at pml5e v)))

-- .. and from CR3 on
abbrev pub through_cr3 : Paging → Memory → ℕ → ℕ → Translation
through_cr3 four_level mem v cr3 = through_pml4e mem v (mem (pml4e_at cr3 v))
through_cr3 five_level mem v cr3 = through_pml5e mem v (mem (pml5e_at cr3 v))

-- the width of linear addresses: bits 47:0 or 56:0 are translated
abbrev pub width_of : Paging → ℕ
width_of four_level = 48
width_of five_level = 57

abbrev pub or : Bool → Bool → Bool
or true b = true
or false b = b

-- 'canonical' with linear addresses of a width: bits 63:(width - 1) are identical, 63:47 with 48 bits and 63:56 with 57
abbrev pub canonical : ℕ → ℕ → Bool
canonical width v = or (eqb (bits 63 (width - 1) v) 0) (eqb (bits 63 (width - 1) v) (2 ^ (65 - width) - 1))

-- the translation of linear address v
unfoldable pub linear : Paging → Memory → ℕ → ℕ → Translation
linear paging mem cr3 v = choose (canonical (width_of paging) v) (through_cr3 paging mem v cr3) not_canonical

-- ---- the entries that it reads

-- the entry at address a is read, and those behind it where it is present and references a table
abbrev pub reading : Memory → ℕ → (ℕ → List ℕ) → List ℕ
reading mem a behind = a ∷ choose (p (mem a)) (choose (ps (mem a)) [] (behind (mem a))) []

-- the addresses of the entries that are read from one of them on, which stands at address a
unfoldable pub read_pte : ℕ → List ℕ
read_pte a = a ∷ []

unfoldable pub read_pde : Memory → ℕ → ℕ → List ℕ
read_pde mem v a = reading mem a (λ pde. read_pte (pte_at pde v))

unfoldable pub read_pdpte : Memory → ℕ → ℕ → List ℕ
read_pdpte mem v a = reading mem a (λ pdpte. read_pde mem v (pde_at pdpte v))

unfoldable pub read_pml4e : Memory → ℕ → ℕ → List ℕ
read_pml4e mem v a = reading mem a (λ pml4e. read_pdpte mem v (pdpte_at pml4e v))

unfoldable pub read_pml5e : Memory → ℕ → ℕ → List ℕ
read_pml5e mem v a = reading mem a (λ pml5e. read_pml4e mem v (pml4e_at pml5e v))

-- .. and from CR3 on
abbrev pub read_cr3 : Paging → Memory → ℕ → ℕ → List ℕ
read_cr3 four_level mem v cr3 = read_pml4e mem v (pml4e_at cr3 v)
read_cr3 five_level mem v cr3 = read_pml5e mem v (pml5e_at cr3 v)

-- the physical addresses of the entries that the translation of linear address v reads, in order
unfoldable pub entries_read : Paging → Memory → ℕ → ℕ → List ℕ
entries_read paging mem cr3 v = choose (canonical (width_of paging) v) (read_cr3 paging mem v cr3) []

-- ---- access rights of data accesses in user mode: 'accesses made while CPL = 3', but for implicit ones to system structures, which are supervisor-mode. Of one byte, at v

pub data Access : Type 0 where
  data_read data_write : Access

-- bit 1 (R/W) of every paging-structure entry, 'Read/write; if 0, writes may not be allowed' to what it controls
abbrev pub read_write : ℕ → Bool
read_write e = eqb (bits 1 1 e) 1

-- bit 2 (U/S), 'User/supervisor; if 0, user-mode accesses are not allowed' there
abbrev pub user_supervisor : ℕ → Bool
user_supervisor e = eqb (bits 2 2 e) 1

-- a flag that is 1 in every entry
abbrev pub in_every : (ℕ → Bool) → List ℕ → Bool
in_every f [] = true
in_every f (e ∷ es) = choose (f e) (in_every f es) false

-- 'the paging-structure entries controlling the translation of the linear address': those that it reads
abbrev pub controlling : Paging → Memory → ℕ → ℕ → List ℕ
controlling paging mem cr3 v = map mem (entries_read paging mem cr3 v)

-- 'If the U/S flag (bit 2) is 0 in at least one of the paging-structure entries, the address is a supervisor-mode address. Otherwise, the address is a user-mode address.'
abbrev pub user_mode_address : List ℕ → Bool
user_mode_address entries = in_every user_supervisor entries

-- 'Data may be read from any user-mode address', and 'written to any user-mode address with a translation for which the R/W flag is 1 in every paging-structure entry
-- controlling the translation', protection keys aside; neither from nor to a supervisor-mode address
abbrev pub permits : Access → List ℕ → Bool
permits data_read entries = user_mode_address entries
permits data_write entries = choose (user_mode_address entries) (in_every read_write entries) false

-- What an access comes to; `general_protection` is #GP, or #SS of an access to the stack. As above this definition goes no further at a 1-GByte or a 2-MByte page.
pub data Accessed : Type 0 where
  permitted page_fault general_protection large_page : Accessed

-- a page fault where 'there is no translation for the linear address', or 'there is a translation for the linear address, but its access rights do not permit the access'
abbrev pub access_to : Translation → Bool → Accessed
access_to (physical a) may = choose may permitted page_fault
access_to not_present may = page_fault
access_to reserved may = page_fault
access_to large may = large_page
access_to not_canonical may = general_protection

-- the access to linear address v
unfoldable pub user_access : Access → Paging → Memory → ℕ → ℕ → Accessed
user_access access paging mem cr3 v = access_to (linear paging mem cr3 v) (permits access (controlling paging mem cr3 v))
