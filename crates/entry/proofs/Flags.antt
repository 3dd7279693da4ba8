-- The flags of page_handler.rs: a word's flags and its bits say the same.
use Prim.Native.Nat.{ℕ, suc, ◌+◌, ◌*◌, ◌%◌, ◌^◌, ◌≤◌, ◌<◌}
use mathlib.Core.Path.{◌≡◌, sym, ◌∙◌, ap}
use mathlib.Core.Logic.{◌⊎◌, ⊎_elim}
use mathlib.Core.Bool.{Bool, true, false}
use native.Mathlib.Nat.{add_comm, lt_of_lt_of_le, mul_comm}
use native.Mathlib.Decide.{dec_lt}
use native.Mathlib.Numerals.{one-add}
use native.Mathlib.Omega.{arith}
use lib.Pow.{mod-pow-add, pow_mono}
use Rattle.bits.specs.Bit.{one, bit, flag}
use Rattle.bits.proofs.Single.{bit_cases, bit_mod, bit_above}
use Rattle.entry.specs.Entry.{entry_of}
use Rattle.entry.specs.Flags.{bits_of, flags_of, flag_entry_of}
use Rattle.entry.specs.declared.page_handler.PageFlags.{PageFlags}
use Rattle.bits.proofs.Choice.{one_lt, flag_is}
use Rattle.entry.specs.Joined.{joined_word}
use Rattle.entry.proofs.Entry.{joined_sum}

-- What a sum of ten bits says of each: they are read back, and none is from 9 to 62.
record Placed (f : PageFlags) : Type 0 where
  back : flags_of (bits_of f) ≡ f
  clear : bits_of f % 2 ^ 63 < 2 ^ 9

placed : (f : PageFlags) → Placed f
unfolding bits_of flags_of
placed f =
    let b0 : one f.present < 2 = one_lt f.present in
    let b1 : one f.writable < 2 = one_lt f.writable in
    let b2 : one f.user < 2 = one_lt f.user in
    let b3 : one f.write_through < 2 = one_lt f.write_through in
    let b4 : one f.cache_disabled < 2 = one_lt f.cache_disabled in
    let b5 : one f.accessed < 2 = one_lt f.accessed in
    let b6 : one f.dirty < 2 = one_lt f.dirty in
    let b7 : one f.huge < 2 = one_lt f.huge in
    let b8 : one f.global < 2 = one_lt f.global in
    let b63 : one f.no_execute < 2 = one_lt f.no_execute in
    record {
      back = λ i. record {
        present = flag_is 0 (bits_of f) f.present (omega arith) i;
        writable = flag_is 1 (bits_of f) f.writable (omega arith) i;
        user = flag_is 2 (bits_of f) f.user (omega arith) i;
        write_through = flag_is 3 (bits_of f) f.write_through (omega arith) i;
        cache_disabled = flag_is 4 (bits_of f) f.cache_disabled (omega arith) i;
        accessed = flag_is 5 (bits_of f) f.accessed (omega arith) i;
        dirty = flag_is 6 (bits_of f) f.dirty (omega arith) i;
        huge = flag_is 7 (bits_of f) f.huge (omega arith) i;
        global = flag_is 8 (bits_of f) f.global (omega arith) i;
        no_execute = flag_is 63 (bits_of f) f.no_execute (omega arith) i;
      };
      clear = omega arith;
    }

-- the masked address joined with the flags' bits
pub joined_bits_lem : (a : ℕ) (f : PageFlags) → joined_word a (bits_of f) ≡ flag_entry_of a f
joined_bits_lem a f = joined_sum a (bits_of f) (omega (arith, (placed f).clear))

-- flags are read back from their bits
pub to_from : (f : PageFlags) → flags_of (bits_of f) ≡ f
to_from f = (placed f).back

one_flag : (k w : ℕ) → one (flag k w) ≡ bit k w
one_flag k w = ⊎_elim (λ e. rw e) (λ e. rw e) (bit_cases k w)

-- one bit more of a word
next_bit : (k w : ℕ) → w % 2 ^ suc k ≡ w % 2 ^ k + 2 ^ k * bit k w
next_bit k w =
    ap (λ (n : ℕ). w % 2 ^ n) (sym (one-add k)) ∙ mod-pow-add w 1 k
    ∙ add_comm (bit k w * 2 ^ k) (w % 2 ^ k) ∙ ap (λ (n : ℕ). w % 2 ^ k + n) (mul_comm (bit k w) (2 ^ k))

-- a word's flags have its low nine bits and its bit 63
kept_word : (w : ℕ) → bits_of (flags_of w) ≡ w % 2 ^ 9 + 2 ^ 63 * bit 63 w
unfolding bits_of flags_of
kept_word w =
    let e : w % 2 ^ 1 ≡ bit 0 w = omega arith in
    simp one_flag
    (rw (next_bit 8 w, next_bit 7 w, next_bit 6 w, next_bit 5 w, next_bit 4 w, next_bit 3 w, next_bit 2 w, next_bit 1 w, e))

-- so bits 0 to 8 and 63 are kept
pub from_to_kept : (k w : ℕ) → (k ≤ 8) ⊎ (k ≡ 63) → bit k (bits_of (flags_of w)) ≡ bit k w
from_to_kept k w = ⊎_elim low top
  where
    low : k ≤ 8 → bit k (bits_of (flags_of w)) ≡ bit k w
    low h =
        let e : bits_of (flags_of w) % 2 ^ 9 ≡ w % 2 ^ 9 = omega (arith, kept_word w) in
        sym (bit_mod 9 k (bits_of (flags_of w)) (omega arith)) ∙ ap (bit k) e ∙ bit_mod 9 k w (omega arith)

    top : k ≡ 63 → bit k (bits_of (flags_of w)) ≡ bit k w
    top h = rw h (omega (arith, kept_word w))

-- and all others are dropped
pub from_to_dropped : (k w : ℕ) → 8 < k → (k ≡ 63 → ⊥) → bit k (bits_of (flags_of w)) ≡ 0
from_to_dropped k w h d = by_place (dec_lt k 63)
  where
    by_place : Dec (k < 63) → bit k (bits_of (flags_of w)) ≡ 0
    by_place (yes l) =
        sym (bit_mod 63 k (bits_of (flags_of w)) l)
        ∙ bit_above k (bits_of (flags_of w) % 2 ^ 63) (lt_of_lt_of_le (placed (flags_of w)).clear (pow_mono h))
    by_place (no l) =
        let above : 64 ≤ k = omega (arith, d) in
        bit_above k (bits_of (flags_of w)) (lt_of_lt_of_le (omega (arith, kept_word w)) (pow_mono above))

-- the flags of a page that is mapped with two choices
abbrev pub map_flags : Bool → Bool → PageFlags
map_flags w u = record {
  present = true;
  writable = w;
  user = u;
  write_through = false;
  cache_disabled = false;
  accessed = false;
  dirty = false;
  huge = false;
  global = false;
  no_execute = false;
}

-- by which the second fault path's entries are the mapper's
pub flag_entry : (a : ℕ) (w u : Bool) → flag_entry_of a (map_flags w u) ≡ entry_of a w u
unfolding bits_of
flag_entry a w u = omega arith
