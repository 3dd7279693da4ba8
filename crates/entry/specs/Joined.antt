-- Entries as rinux writes them, by a mask and `|`, and the statement that the sums of Entry.antt and Flags.antt are the same words.
use Rattle.std.specs.Prelude.{ℕ, ◌^◌, ◌≡◌, Bool}
use Rattle.std.specs.Int.Bits.{bit_and, bit_or}
use Rattle.bits.specs.Bit.{pick}
use Rattle.entry.specs.Entry.{entry_of, huge_entry_of}
use Rattle.entry.specs.Flags.{bits_of, flag_entry_of}
use Rattle.entry.specs.declared.page_handler.PageFlags.{PageFlags}

-- ADDR_MASK
abbrev pub addr_mask : ℕ
addr_mask = 0x000F_FFFF_FFFF_F000

-- `(addr & ADDR_MASK) | flags`
abbrev pub joined_word : ℕ → ℕ → ℕ
joined_word a flags = bit_or (bit_and a addr_mask) flags

-- `if set { flags |= power; }`
abbrev pub joined_if : ℕ → Bool → ℕ → ℕ
joined_if flags set power = pick set (bit_or flags power) flags

-- `set` of paging.rs: PRESENT, then WRITABLE, then USER
abbrev pub joined_entry : ℕ → Bool → Bool → ℕ
joined_entry a writable user = joined_word a (joined_if (joined_if 1 writable 2) user 4)

-- `set_huge` of paging.rs: PRESENT | HUGE, then the same two
abbrev pub joined_huge_entry : ℕ → Bool → Bool → ℕ
joined_huge_entry a writable user = joined_word a (joined_if (joined_if (bit_or 1 128) writable 2) user 4)

-- `to_bits` of page_handler.rs, field by field
unfoldable pub joined_bits : PageFlags → ℕ
joined_bits f =
    let b0 : ℕ = joined_if 0 f.present (2 ^ 0) in
    let b1 : ℕ = joined_if b0 f.writable (2 ^ 1) in
    let b2 : ℕ = joined_if b1 f.user (2 ^ 2) in
    let b3 : ℕ = joined_if b2 f.write_through (2 ^ 3) in
    let b4 : ℕ = joined_if b3 f.cache_disabled (2 ^ 4) in
    let b5 : ℕ = joined_if b4 f.accessed (2 ^ 5) in
    let b6 : ℕ = joined_if b5 f.dirty (2 ^ 6) in
    let b7 : ℕ = joined_if b6 f.huge (2 ^ 7) in
    let b8 : ℕ = joined_if b7 f.global (2 ^ 8) in
    joined_if b8 f.no_execute (2 ^ 63)

-- 'For every address and choice of flags the words produced are proved the same': sums on the left, rinux's on the right.
pub record SameWords : Type 0 where
  pub set : (a : ℕ) (writable user : Bool) → entry_of a writable user ≡ joined_entry a writable user
  pub set_huge : (a : ℕ) (writable user : Bool) → huge_entry_of a writable user ≡ joined_huge_entry a writable user
  pub to_bits : (f : PageFlags) → bits_of f ≡ joined_bits f
  pub set_flags : (a : ℕ) (f : PageFlags) → flag_entry_of a f ≡ joined_word a (joined_bits f)
