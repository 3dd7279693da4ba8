-- The words that rinux joins bit by bit are the sums.
use Prim.Native.Nat.{ℕ, suc, ◌+◌, ◌*◌, ◌^◌, ◌≤◌, ◌<◌}
use mathlib.Core.Path.{◌≡◌, refl, sym, ◌∙◌, ap, ap₂}
use mathlib.Core.Bool.{Bool, true, false}
use native.Mathlib.Nat.{add_comm, le_of_suc-le-suc, lt_of_lt_of_le, mul-le-mul_right, one-mul, pow-suc, zero-mul}
use native.Mathlib.Omega.{arith}
use lib.Bits.{bit_or, or_shifted_r, or_zero_r}
use lib.Dec.{lit<, lit≤}
use lib.Pow.{pow_mono}
use Rattle.bits.specs.Bit.{one}
use Rattle.bits.proofs.Choice.{one_lt}
use Rattle.entry.specs.Flags.{bits_of}
use Rattle.entry.specs.Joined.{joined_word, joined_if, joined_bits, SameWords}
use Rattle.entry.specs.declared.page_handler.PageFlags.{PageFlags}
use Rattle.entry.proofs.Entry.{joined_flags}
use Rattle.entry.proofs.Flags.{joined_bits_lem}

-- The word a, joined of bits below place k, is the sum n.
record Joined (k a n : ℕ) : Type 0 where
  is : a ≡ n
  low : n < 2 ^ k

-- a word below 2 ^ k is one below every higher place
widen : {k a n : ℕ} (m : ℕ) → k ≤ m → Joined k a n → Joined m a n
widen m h j = record { is = j.is; low = lt_of_lt_of_le j.low (pow_mono h) }

-- joining the bit at place k to a word below 2 ^ k, if it is set, is a sum
join : {k a n : ℕ} (t : Bool) → Joined k a n → Joined (suc k) (joined_if a t (2 ^ k)) (n + one t * 2 ^ k)
join {k} {a} {n} t j = record {
  is = by-choice t ∙ or_shifted_r (one t) k n j.low ∙ add_comm (one t * 2 ^ k) n;
  low = omega (arith, j.low, pow-suc 2 k, mul-le-mul_right (2 ^ k) (le_of_suc-le-suc (one_lt t)));
}
  where
    by-choice : (s : Bool) → joined_if a s (2 ^ k) ≡ bit_or n (one s * 2 ^ k)
    by-choice true = ap₂ bit_or j.is (sym (one-mul (2 ^ k)))
    by-choice false = j.is ∙ rw (zero-mul (2 ^ k)) (sym (or_zero_r n))

-- the bits of ten flags
bits : (f : PageFlags) → bits_of f ≡ joined_bits f
unfolding bits_of joined_bits
bits f =
    let none : Joined 0 0 0 = record { is = refl; low = lit< tt } in
    let low = join f.global (join f.huge (join f.dirty (join f.accessed (join f.cache_disabled (join f.write_through
    (join f.user (join f.writable (join f.present none)))))))) in
    sym ((join f.no_execute (widen 63 (lit≤ tt) low)).is ∙ omega arith)

-- the two choices of paging.rs, alone and beside HUGE
two_flags : (w u : Bool) → joined_if (joined_if 1 w 2) u 4 ≡ 1 + 2 * one w + 4 * one u
two_flags true true = refl
two_flags true false = refl
two_flags false true = refl
two_flags false false = refl

two_flags_huge : (w u : Bool) → joined_if (joined_if (bit_or 1 128) w 2) u 4 ≡ 129 + 2 * one w + 4 * one u
two_flags_huge true true = refl
two_flags_huge true false = refl
two_flags_huge false true = refl
two_flags_huge false false = refl

pub same_words : SameWords
same_words = record {
  set = λ a w u. sym (joined_flags a _ 1 w u (two_flags w u) (lit< tt));
  set_huge = λ a w u. sym (joined_flags a _ 129 w u (two_flags_huge w u) (lit< tt));
  to_bits = bits;
  set_flags = λ a f. sym (joined_bits_lem a f) ∙ ap (joined_word a) (bits f);
}
