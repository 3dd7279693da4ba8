-- Laws of refusals: no two have one number.
use Rattle.std.specs.Prelude.{◌≡◌, ℕ, true, false, List, [], ◌∷◌}
use Rattle.std.proofs.Common.{get_or}
use mathlib.Core.Path.{refl, sym, ◌∙◌, ap}
use borrow.Author.Tests.{eqb-true, ne_eqb}
use Rattle.answer.specs.declared.Refusal.{Refusal}
use Rattle.answer.specs.declared.Refusal.TheVariants.{SizeZero, Unaligned, TooLarge, HugeUnaligned, ReservedBit, InvalidAddress, InstructionFetch, ProtectionViolation, BrokenRecord}
use Rattle.answer.specs.declared.Refusal.TheVariants.{NoFreeFrame, AlreadyMapped, MapPageFailed, NotMapped, NoRegion, RegionNotFound, WriteToReadOnly, PageTableError, TableOutside, ListFull}
use Rattle.answer.specs.declared.TheConstants.{SIZE_ZERO, UNALIGNED, TOO_LARGE, HUGE_UNALIGNED, RESERVED_BIT, INVALID_ADDRESS, INSTRUCTION_FETCH, PROTECTION_VIOLATION, BROKEN_RECORD}
use Rattle.answer.specs.declared.TheConstants.{NO_FREE_FRAME, ALREADY_MAPPED, MAP_PAGE_FAILED, NOT_MAPPED, NO_REGION, REGION_NOT_FOUND, WRITE_TO_READ_ONLY, PAGE_TABLE_ERROR, OUTSIDE, LIST_FULL}
use Rattle.answer.specs.Numbers.{number_of, same_refusal, size_zero, unaligned, too_large, huge_unaligned, reserved_bit, invalid_address, instruction_fetch, protection_violation, broken_record}
use Rattle.answer.specs.Numbers.{no_free_frame, already_mapped, map_page_failed, not_mapped, no_region, region_not_found, write_to_read_only, page_table_error, outside, list_full}

-- by its number; at 0 and 9 some refusal
abbrev by_number : List Refusal
by_number =
    SizeZero ∷ SizeZero ∷ Unaligned ∷ TooLarge ∷ HugeUnaligned ∷ ReservedBit ∷ InvalidAddress ∷ InstructionFetch ∷ ProtectionViolation ∷ SizeZero ∷ BrokenRecord ∷ NoFreeFrame
    ∷ AlreadyMapped ∷ MapPageFailed ∷ NotMapped ∷ NoRegion ∷ RegionNotFound ∷ WriteToReadOnly ∷ PageTableError ∷ TableOutside ∷ ListFull ∷ []

numbered : (r : Refusal) → get_or by_number (number_of r) SizeZero ≡ r
numbered SizeZero = refl
numbered Unaligned = refl
numbered TooLarge = refl
numbered HugeUnaligned = refl
numbered ReservedBit = refl
numbered InvalidAddress = refl
numbered InstructionFetch = refl
numbered ProtectionViolation = refl
numbered BrokenRecord = refl
numbered NoFreeFrame = refl
numbered AlreadyMapped = refl
numbered MapPageFailed = refl
numbered NotMapped = refl
numbered NoRegion = refl
numbered RegionNotFound = refl
numbered WriteToReadOnly = refl
numbered PageTableError = refl
numbered TableOutside = refl
numbered ListFull = refl

pub same_number : {a b : Refusal} → number_of a ≡ number_of b → a ≡ b
same_number {a} {b} e = sym (numbered a) ∙ ap (λ (n : ℕ). get_or by_number n SizeZero) e ∙ numbered b

-- no refusal has the number 9
pub not_nine : (r : Refusal) → number_of r ≡ 9 → ⊥
not_nine SizeZero e = cc
not_nine Unaligned e = cc
not_nine TooLarge e = cc
not_nine HugeUnaligned e = cc
not_nine ReservedBit e = cc
not_nine InvalidAddress e = cc
not_nine InstructionFetch e = cc
not_nine ProtectionViolation e = cc
not_nine BrokenRecord e = cc
not_nine NoFreeFrame e = cc
not_nine AlreadyMapped e = cc
not_nine MapPageFailed e = cc
not_nine NotMapped e = cc
not_nine NoRegion e = cc
not_nine RegionNotFound e = cc
not_nine WriteToReadOnly e = cc
not_nine PageTableError e = cc
not_nine TableOutside e = cc
not_nine ListFull e = cc

-- whether two are the same, told by their numbers
pub same_yes : (a b : Refusal) → same_refusal a b ≡ true → a ≡ b
same_yes a b h = same_number (eqb-true (number_of a) (number_of b) h)

pub same_no : (a b : Refusal) → (a ≡ b → ⊥) → same_refusal a b ≡ false
same_no a b h = ne_eqb (number_of a) (number_of b) (λ e. h (same_number e))

-- code and definitions have the same numbers by the same names
pub named : (SIZE_ZERO ∷ UNALIGNED ∷ TOO_LARGE ∷ HUGE_UNALIGNED ∷ RESERVED_BIT ∷ INVALID_ADDRESS ∷ INSTRUCTION_FETCH ∷ PROTECTION_VIOLATION ∷ BROKEN_RECORD ∷ NO_FREE_FRAME
    ∷ ALREADY_MAPPED ∷ MAP_PAGE_FAILED ∷ NOT_MAPPED ∷ NO_REGION ∷ REGION_NOT_FOUND ∷ WRITE_TO_READ_ONLY ∷ PAGE_TABLE_ERROR ∷ OUTSIDE ∷ LIST_FULL ∷ [])
    ≡ (size_zero ∷ unaligned ∷ too_large ∷ huge_unaligned ∷ reserved_bit ∷ invalid_address ∷ instruction_fetch ∷ protection_violation ∷ broken_record ∷ no_free_frame
    ∷ already_mapped ∷ map_page_failed ∷ not_mapped ∷ no_region ∷ region_not_found ∷ write_to_read_only ∷ page_table_error ∷ outside ∷ list_full ∷ [])
named = refl
