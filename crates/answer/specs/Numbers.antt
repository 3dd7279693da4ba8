-- Document 01's numbers, and the number and value of each kind of answer: a met call's number is 0, and a refused call's value is 0.
use Rattle.std.specs.Prelude.{ℕ, Bool, eqb, Result, Ok, Err, ⊤}
use Rattle.bits.specs.Bit.{one}
use Rattle.answer.specs.declared.Line.{Line}
use Rattle.answer.specs.declared.Refusal.{Refusal}
use Rattle.answer.specs.declared.Refusal.TheVariants.{SizeZero, Unaligned, TooLarge, HugeUnaligned, ReservedBit, InvalidAddress, InstructionFetch, ProtectionViolation, BrokenRecord}
use Rattle.answer.specs.declared.Refusal.TheVariants.{NoFreeFrame, AlreadyMapped, MapPageFailed, NotMapped, NoRegion, RegionNotFound, WriteToReadOnly, PageTableError, TableOutside, ListFull}

-- the number of a refusal
abbrev pub number_of : Refusal → ℕ
-- ---- 'Numbers caused by the input'
-- size 0
number_of SizeZero = 1
-- 'address unaligned (MAP_FIXED, munmap)'
number_of Unaligned = 2
-- 'size above 2^64−4096, or a fixed or aligned hinted range ending above 2^64−4096'
number_of TooLarge = 3
-- 'huge addresses unaligned'
number_of HugeUnaligned = 4
-- a fault with the reserved bit
number_of ReservedBit = 5
-- a fault at an invalid address
number_of InvalidAddress = 6
-- a fault of an instruction fetch
number_of InstructionFetch = 7
-- a protection violation
number_of ProtectionViolation = 8
-- a broken record, or a start that cannot be
number_of BrokenRecord = 10
-- ---- 'Numbers caused by the state'
-- 'no free frame'
number_of NoFreeFrame = 11
-- 'already mapped'
number_of AlreadyMapped = 12
-- '`map_page` failed, by 11, 12 or 19, inside mmap or vmalloc'
number_of MapPageFailed = 13
-- 'not mapped'
number_of NotMapped = 14
-- 'no region'
number_of NoRegion = 15
-- 'region not found'; also 'vfree of an unknown or null address'
number_of RegionNotFound = 16
-- 'write to read-only'
number_of WriteToReadOnly = 17
-- 'mapping failed, by 11, 12 or 19, in the first fault path, or the page to copy is not in a lent frame'
number_of PageTableError = 18
-- 'a walk meets a table outside the lent frames'
number_of TableOutside = 19
-- 'the 256 mmap regions or marked pages are full and the key is not among them'
number_of ListFull = 20

-- .. by the names of docs/NUMBERS.md
abbrev pub size_zero : ℕ
size_zero = number_of SizeZero

abbrev pub unaligned : ℕ
unaligned = number_of Unaligned

abbrev pub too_large : ℕ
too_large = number_of TooLarge

abbrev pub huge_unaligned : ℕ
huge_unaligned = number_of HugeUnaligned

abbrev pub reserved_bit : ℕ
reserved_bit = number_of ReservedBit

abbrev pub invalid_address : ℕ
invalid_address = number_of InvalidAddress

abbrev pub instruction_fetch : ℕ
instruction_fetch = number_of InstructionFetch

abbrev pub protection_violation : ℕ
protection_violation = number_of ProtectionViolation

abbrev pub broken_record : ℕ
broken_record = number_of BrokenRecord

abbrev pub no_free_frame : ℕ
no_free_frame = number_of NoFreeFrame

abbrev pub already_mapped : ℕ
already_mapped = number_of AlreadyMapped

abbrev pub map_page_failed : ℕ
map_page_failed = number_of MapPageFailed

abbrev pub not_mapped : ℕ
not_mapped = number_of NotMapped

abbrev pub no_region : ℕ
no_region = number_of NoRegion

abbrev pub region_not_found : ℕ
region_not_found = number_of RegionNotFound

abbrev pub write_to_read_only : ℕ
write_to_read_only = number_of WriteToReadOnly

abbrev pub page_table_error : ℕ
page_table_error = number_of PageTableError

abbrev pub outside : ℕ
outside = number_of TableOutside

abbrev pub list_full : ℕ
list_full = number_of ListFull

-- whether two refusals are the same
abbrev pub same_refusal : Refusal → Refusal → Bool
same_refusal a b = eqb (number_of a) (number_of b)

-- what the key prints of a call: `shown` tells the value of what it hands back
abbrev pub line_of : {A : Type 0} → (A → ℕ) → Result A Refusal → Line
line_of shown (Ok x) = record { number = 0; value = shown x }
line_of shown (Err n) = record { number = number_of n; value = 0 }

-- nothing, a number, yes or no
abbrev pub answer_line : Result ⊤ Refusal → Line
answer_line = line_of (λ _. 0)

abbrev pub count_line : Result ℕ Refusal → Line
count_line = line_of (λ v. v)

abbrev pub flag_line : Result Bool Refusal → Line
flag_line = line_of one
