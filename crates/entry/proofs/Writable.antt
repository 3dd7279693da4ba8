-- A word with another WRITABLE: every other field is the word's, and asking for the same once more changes nothing.
use Prim.Native.Nat.{ℕ, ◌+◌, ◌-◌, ◌*◌, ◌/◌, ◌%◌, ◌^◌, ◌<◌, ◌≤◌}
use mathlib.Core.Path.{◌≡◌, refl, sym, ◌∙◌, ap}
use mathlib.Core.Bool.{Bool, true, false}
use native.Mathlib.Omega.{arith}
use lib.Bits.{bit_and}
use lib.Dec.{eqb}
use lib.Pow.{shr-shr}
use borrow.Author.Tests.{eqb-true, eqb-false}
use Rattle.bits.specs.Bit.{one, bit, flag}
use Rattle.bits.proofs.Choice.{one_lt, flag_is}
use Rattle.bits.proofs.Masks.{mask_bit}
use Rattle.bits.proofs.Single.{bit_small, and_not}
use Rattle.entry.specs.Entry.{frame_of, with_writable}

-- two words that differ in bit 1 at most
pub record Alike (e e' : ℕ) : Type 0 where
  pub low : e' % 2 ≡ e % 2
  pub high : e' / 4 ≡ e / 4

pub alike_same : (e : ℕ) → Alike e e
alike_same e = record { low = refl; high = refl }

pub alike_then : {e e' e'' : ℕ} → Alike e e' → Alike e' e'' → Alike e e''
alike_then a b = record { low = b.low ∙ a.low; high = b.high ∙ a.high }

module _ {e e' : ℕ} (a : Alike e e') where
  pub alike_present : flag 0 e' ≡ flag 0 e
  alike_present = let same : bit 0 e' ≡ bit 0 e = omega (arith, a.low) in ap (λ (n : ℕ). eqb n 1) same

  -- a flag above WRITABLE
  pub alike_flag : (k : ℕ) → flag (2 + k) e' ≡ flag (2 + k) e
  alike_flag k =
      ap (λ (n : ℕ). eqb (n % 2) 1) (sym (shr-shr e' 2 k) ∙ ap (λ (n : ℕ). n / 2 ^ k) a.high ∙ shr-shr e 2 k)

  pub alike_frame : frame_of e' ≡ frame_of e
  alike_frame = omega (arith, a.high)

module _ (w : Bool) (e : ℕ) where
  pub writable_alike : Alike e (with_writable w e)
  unfolding with_writable
  writable_alike = record { low = omega (arith, one_lt w, bit_small 1 e); high = omega (arith, one_lt w, bit_small 1 e) }

  pub writable_flag : flag 1 (with_writable w e) ≡ w
  unfolding with_writable
  writable_flag = flag_is 1 (with_writable w e) w (omega (arith, one_lt w))

-- a word that has it so already
pub writable_same : (w : Bool) (e : ℕ) → flag 1 e ≡ w → with_writable w e ≡ e
unfolding with_writable
writable_same true e h = omega (arith, eqb-true (bit 1 e) 1 h)
writable_same false e h = omega (arith, bit_small 1 e, eqb-false (bit 1 e) 1 h)

-- ---- the code's sum: `e & !2`, and 2 where it is asked for

module _ (e : ℕ) (l : e < 2 ^ 64) (p : ℕ) where
  pub with_writable_fits : p ≤ 2 → bit_and e ((2 ^ 64 - 1) - 2) + p < 2 ^ 64
  with_writable_fits h = omega (arith, and_not 64 e 2 l (omega arith), mask_bit 1 e)

  pub with_writable_sum : (w : Bool) → p ≡ one w * 2 → bit_and e ((2 ^ 64 - 1) - 2) + p ≡ with_writable w e
  unfolding with_writable
  with_writable_sum w h = omega (arith, and_not 64 e 2 l (omega arith), mask_bit 1 e)
