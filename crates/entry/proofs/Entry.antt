-- Entries by masks are entries by arithmetic, what the fields of a made entry are, and what the indices of an address say of it.
use Prim.Native.Nat.{ℕ, zero, suc, ◌+◌, ◌-◌, ◌*◌, ◌/◌, ◌%◌, ◌^◌, ◌<◌, ◌≤◌}
use mathlib.Core.Path.{◌≡◌, refl, sym, ◌∙◌, ap, ap₂}
use mathlib.Core.Bool.{Bool, true, false}
use mathlib.Core.List.{◌∷◌}
use native.Mathlib.Nat.{add-zero}
use native.Mathlib.Omega.{arith}
use lib.Dec.{eqb, lit<}
use lib.ListN.{length, get_or, take}
use lib.Bits.{bit_and, bit_or, and_high, or_block, or_zero_l, or_shifted_r}
use lib.Pow.{pow_pos, mod-pow-add, shr-shr}
use Rattle.bits.specs.Bit.{one, flag}
use Rattle.bits.proofs.Choice.{one_lt, flag_is}
use Rattle.bits.proofs.Single.{bit_zero}
use Rattle.entry.specs.Entry.{frame_of, addr_of, entry_of, huge_entry_of, index, indices}
use Rattle.entry.specs.Joined.{addr_mask, joined_word}

pub addr_mask_lem : (x : ℕ) → bit_and x addr_mask ≡ addr_of x
addr_mask_lem x = and_high x 40 12

-- the masked address joined with a word whose bits 12 to 62 are clear is a sum
pub joined_sum : (x f : ℕ) → f % 2 ^ 63 < 2 ^ 12 → joined_word x f ≡ addr_of x + f
joined_sum x f h =
    let low : ℕ = f % 2 ^ 63 in
    let high : ℕ = f / 2 ^ 63 in
    let a : bit_and x addr_mask ≡ frame_of x * 2 ^ 12 + 0 = addr_mask_lem x ∙ sym (add-zero (addr_of x)) in
    let b : f ≡ high * 2 ^ 51 * 2 ^ 12 + low = omega arith in
    let above : bit_or (frame_of x) (high * 2 ^ 51) ≡ high * 2 ^ 51 + frame_of x = or_shifted_r high 51 (frame_of x) (omega arith) in
    ap₂ bit_or a b ∙ or_block 12 (frame_of x) (high * 2 ^ 51) 0 low (pow_pos 12) h ∙ rw (above, or_zero_l low) (omega arith)

-- the same for the flags of two choices beside those in b
pub joined_flags : (x f b : ℕ) (w u : Bool) → f ≡ b + 2 * one w + 4 * one u → b < 256 → joined_word x f ≡ addr_of x + (b + 2 * one w + 4 * one u)
joined_flags x f b w u e h = rw e (joined_sum x (b + 2 * one w + 4 * one u) (omega (arith, one_lt w, one_lt u)))

-- the address field is a whole number of frames
pub frame_of_addr : (e : ℕ) → addr_of e / 4096 ≡ frame_of e
frame_of_addr e = omega arith

-- the frame at an address of 52 bits
pub frame_of_place : (f : ℕ) → f < 2 ^ 40 → frame_of (f * 2 ^ 12) ≡ f
frame_of_place f h = omega arith

-- an empty entry has no flag
pub flag_zero : (k : ℕ) → flag k 0 ≡ false
flag_zero k = ap (λ (n : ℕ). eqb n 1) (bit_zero k)

-- The fields of a word that maps address a: present, the two choices, HUGE or not, and the address's frame.
pub record Maps (e a : ℕ) (w u h : Bool) : Type 0 where
  pub present : flag 0 e ≡ true
  pub writable : flag 1 e ≡ w
  pub user : flag 2 e ≡ u
  pub huge : flag 7 e ≡ h
  pub frame : frame_of e ≡ frame_of a

maps : (a : ℕ) (w u h : Bool) → Maps (addr_of a + (128 * one h + 1 + 2 * one w + 4 * one u)) a w u h
maps a w u h =
    let e : ℕ = addr_of a + (128 * one h + 1 + 2 * one w + 4 * one u) in
    let ow : one w < 2 = one_lt w in
    let ou : one u < 2 = one_lt u in
    let oh : one h < 2 = one_lt h in
    record {
      present = flag_is 0 e true (omega arith);
      writable = flag_is 1 e w (omega arith);
      user = flag_is 2 e u (omega arith);
      huge = flag_is 7 e h (omega arith);
      frame = omega arith;
    }

pub maps_entry : (a : ℕ) (w u : Bool) → Maps (entry_of a w u) a w u false
maps_entry a w u = maps a w u false

pub maps_huge : (a : ℕ) (w u : Bool) → Maps (huge_entry_of a w u) a w u true
maps_huge a w u = maps a w u true

-- the frame that an entry for frame f names is f
pub frame_entry : (f : ℕ) (w u : Bool) → f < 2 ^ 40 → frame_of (entry_of (f * 2 ^ 12) w u) ≡ f
frame_entry f w u h = (maps_entry (f * 2 ^ 12) w u).frame ∙ frame_of_place f h

-- each index of an address is below 512
pub indices_lt : (n v k : ℕ) → get_or (indices n v) k 0 < 512
indices_lt zero v k = lit< tt
indices_lt (suc n) v zero = omega arith
indices_lt (suc n) v (suc k) = indices_lt n v k

pub length_indices : (n v : ℕ) → length (indices n v) ≡ n
length_indices zero v = refl
length_indices (suc n) v = ap suc (length_indices n v)

-- the low bits of a page number, put together from the indices
page_of_lem : (n v : ℕ) → v / 2 ^ 12 % 2 ^ (9 + 9 * n) ≡ index n v * 2 ^ (9 * n) + v / 2 ^ 12 % 2 ^ (9 * n)
page_of_lem n v = mod-pow-add (v / 2 ^ 12) 9 (9 * n) ∙ rw (shr-shr v 12 (9 * n))

-- the indices say which page it is
pub indices_inj : (n v v' : ℕ) → indices n v ≡ indices n v' → v / 2 ^ 12 % 2 ^ (9 * n) ≡ v' / 2 ^ 12 % 2 ^ (9 * n)
indices_inj zero v v' h = omega arith
indices_inj (suc n) v v' h =
    let top : index n v ≡ index n v' = cc in
    let rest : v / 2 ^ 12 % 2 ^ (9 * n) ≡ v' / 2 ^ 12 % 2 ^ (9 * n) = indices_inj n v v' (cc) in
    let width : 9 * suc n ≡ 9 + 9 * n = omega arith in
    rw width (page_of_lem n v ∙ rw (top, rest) (sym (page_of_lem n v')))

-- the one behind k others, on a board of up + 1 levels
pub index_behind : (up k v : ℕ) → k ≤ up → get_or (indices (suc up) v) k 0 ≡ index (up - k) v
index_behind up zero v h = let e : up - 0 ≡ up = omega arith in rw e
index_behind zero (suc k) v h = absurd (omega arith)
index_behind (suc up) (suc k) v h = let e : suc up - suc k ≡ up - k = omega arith in rw e (index_behind up k v (omega arith))

pub index_last : (up v : ℕ) → get_or (indices (suc up) v) up 0 ≡ index 0 v
index_last zero v = refl
index_last (suc up) v = index_last up v

-- the first of n indices, and the others
pub indices_next : (n v : ℕ) → 0 < n → indices n v ≡ index (n - 1) v ∷ indices (n - 1) v
indices_next zero v h = absurd (omega arith)
indices_next (suc n) v h = let e : suc n - 1 ≡ n = omega arith in rw e

-- .. and of the first k of them, on a board of d + 1 levels
pub path_next : (k d v : ℕ) → 0 < k → k ≤ d → take k (indices (suc d) v) ≡ index d v ∷ take (k - 1) (indices (suc (d - 1)) v)
path_next zero d v some h = absurd (omega arith)
path_next (suc k) zero v some h = absurd (omega arith)
path_next (suc k) (suc d) v some h =
    let a : suc k - 1 ≡ k = omega arith in
    let b : suc d - 1 ≡ d = omega arith in
    rw (a, b)
