-- Numbers packed as bytes and unpacked: what loops over them leave, and the round trip both ways.
use Prim.Native.Nat.{ℕ, zero, suc, ◌+◌, ◌-◌, ◌*◌, ◌/◌, ◌%◌, ◌^◌, ◌<◌, ◌≤◌}
use Rattle.std.specs.Int.{w32, w64, from_le_bytes, to_le_bytes}
use mathlib.Core.Path.{◌≡◌, refl, sym, ◌∙◌, ap, subst}
use mathlib.Core.List.{List, [], ◌∷◌, ◌++◌, append_assoc, append-nil}
use native.Mathlib.Omega.{arith}
use native.Mathlib.Nat.{div-add-mod'}
use lib.ListN.{length, take, drop, get_or, set, length-append, length-drop, take-append-drop, drop_of_length-le}
use lib.Seq.{drop-cons, drop-drop, drop_at, take_at, set_at, take_all, take-suc, get_or-drop, append_snoc, drop-append-add, length-take-le, sets, sets-eq}
use Rattle.packed.specs.Words.{number, bytes, pack, unpack}

-- ---- lengths

pub length_bytes : (k x : ℕ) → length (bytes k x) ≡ k
unfolding bytes
length_bytes zero x = refl
length_bytes (suc k) x = ap suc (length_bytes k (x / 256))

pub length_pack : (ws : List ℕ) → length (pack ws) ≡ 8 * length ws
unfolding pack
length_pack [] = refl
length_pack (w ∷ ws) =
    let e = length-append (bytes 8 w) (pack ws) in
    let a = length_bytes 8 w in
    let b = length_pack ws in
    omega arith

pub length_unpack : (n : ℕ) (bs : List ℕ) → length (unpack n bs) ≡ n
unfolding unpack
length_unpack zero bs = refl
length_unpack (suc n) bs = ap suc (length_unpack n (drop 8 bs))

-- ---- one number more

pub unpack_next : (n : ℕ) (bs : List ℕ) → unpack (suc n) bs ≡ unpack n bs ++ (number 8 (drop (n * 8) bs) ∷ [])
unfolding unpack
unpack_next zero bs = refl
unpack_next (suc n) bs =
    let e : 8 + n * 8 ≡ suc n * 8 = omega arith in
    ap (λ (l : List ℕ). number 8 bs ∷ l) (unpack_next n (drop 8 bs) ∙ ap (λ (l : List ℕ). unpack n (drop 8 bs) ++ (number 8 l ∷ [])) (drop-drop (n * 8) 8 bs ∙ ap (λ (k : ℕ). drop k bs) e))

pub pack_append : (ws vs : List ℕ) → pack (ws ++ vs) ≡ pack ws ++ pack vs
unfolding pack
pack_append [] vs = refl
pack_append (w ∷ ws) vs = ap (λ (l : List ℕ). bytes 8 w ++ l) (pack_append ws vs) ∙ sym (append_assoc (bytes 8 w) (pack ws) (pack vs))

-- the k-th of n numbers
pub word_of : (k n : ℕ) (bs : List ℕ) → k < n → number 8 (drop (k * 8) bs) ≡ get_or (unpack n bs) k 0
unfolding unpack
word_of k zero bs h = absurd (omega arith)
word_of zero (suc n) bs h = refl
word_of (suc k) (suc n) bs h =
    let e : 8 + k * 8 ≡ suc k * 8 = omega arith in
    ap (number 8) (sym (drop-drop (k * 8) 8 bs ∙ ap (λ (i : ℕ). drop i bs) e)) ∙ word_of k n (drop 8 bs) (omega arith)

-- ---- a turn of each loop

pub got_none : (bs ws : List ℕ) → ws ≡ unpack 0 bs ++ drop 0 ws
unfolding unpack
got_none bs ws = refl

pub got_next : (i : ℕ) (bs ws ws₀ : List ℕ) → i < length ws₀ → ws ≡ unpack i bs ++ drop i ws₀
    → set ws i (number 8 (drop (i * 8) bs)) ≡ unpack (i + 1) bs ++ drop (i + 1) ws₀
got_next i bs ws ws₀ h e =
    let a = number 8 (drop (i * 8) bs) in
    let s : i + 1 ≡ suc i = omega arith in
    rw (e, s) (
    ap (λ (l : List ℕ). set (unpack i bs ++ l) i a) (drop-cons ws₀ i 0 h)
    ∙ set_at (unpack i bs) (get_or ws₀ i 0) (drop (suc i) ws₀) a i (length_unpack i bs)
    ∙ sym (append_snoc (unpack i bs) a (drop (suc i) ws₀))
    ∙ ap (λ (l : List ℕ). l ++ drop (suc i) ws₀) (sym (unpack_next i bs))
    )

pub got_all : (n : ℕ) (bs ws ws₀ : List ℕ) → length ws₀ ≤ n → ws ≡ unpack n bs ++ drop n ws₀ → ws ≡ unpack n bs
got_all n bs ws ws₀ h e = e ∙ ap (λ (l : List ℕ). unpack n bs ++ l) (drop_of_length-le ws₀ h) ∙ append-nil (unpack n bs)

pub put_none : (ws bs : List ℕ) → bs ≡ pack (take 0 ws) ++ drop (0 * 8) bs
unfolding pack
put_none ws bs = refl

length_front : (i : ℕ) (ws : List ℕ) → i ≤ length ws → length (pack (take i ws)) ≡ i * 8
length_front i ws h = let a = length_pack (take i ws) in let b = length-take-le i ws h in omega arith

pack_last : (i : ℕ) (ws : List ℕ) → i < length ws → pack (take (suc i) ws) ≡ pack (take i ws) ++ bytes 8 (get_or ws i 0)
unfolding pack
pack_last i ws h =
    ap pack (take-suc ws i 0 h) ∙ pack_append (take i ws) (get_or ws i 0 ∷ []) ∙ ap (λ (l : List ℕ). pack (take i ws) ++ l) (append-nil (bytes 8 (get_or ws i 0)))

pub put_next : (i : ℕ) (ws bs bs₀ : List ℕ) → i < length ws → length bs₀ ≡ 8 * length ws → length bs ≡ length bs₀ → bs ≡ pack (take i ws) ++ drop (i * 8) bs₀
    → sets bs (i * 8) (bytes 8 (get_or ws i 0)) ≡ pack (take (i + 1) ws) ++ drop ((i + 1) * 8) bs₀
put_next i ws bs bs₀ h k l e =
    let w = get_or ws i 0 in
    let s : i + 1 ≡ suc i = omega arith in
    let front = length_front i ws (omega arith) in
    let eight = length_bytes 8 w in
    let back : drop (i * 8 + 8) bs ≡ drop (suc i * 8) bs₀ =
    let t : i * 8 + 8 ≡ suc i * 8 = omega arith in
    let u : i * 8 + 8 ≡ length (pack (take i ws)) + 8 = omega arith in
    rw (e, u) (drop-append-add (pack (take i ws)) (drop (i * 8) bs₀) 8) ∙ drop-drop 8 (i * 8) bs₀ ∙ ap (λ (n : ℕ). drop n bs₀) t
    in
    let before : take (i * 8) bs ≡ pack (take i ws) = rw e (take_at (pack (take i ws)) (drop (i * 8) bs₀) (i * 8) front) in
    sets-eq (bytes 8 w) bs (i * 8) (omega arith)
    ∙ (rw (before, eight, back, s) (ap (λ (x : List ℕ). x ++ drop (suc i * 8) bs₀) (sym (pack_last i ws h))))

pub put_all : (n : ℕ) (ws bs bs₀ : List ℕ) → length ws ≤ n → length bs₀ ≤ n * 8 → bs ≡ pack (take n ws) ++ drop (n * 8) bs₀ → bs ≡ pack ws
put_all n ws bs bs₀ h k e =
    e ∙ ap (λ (l : List ℕ). pack (take n ws) ++ l) (drop_of_length-le bs₀ k) ∙ append-nil (pack (take n ws)) ∙ ap pack (take_all n ws h)

-- ---- eight bytes

number_step : (k at at' : ℕ) (bs : List ℕ) → at < length bs → suc at ≡ at' → number (suc k) (drop at bs) ≡ get_or bs at 0 + 256 * number k (drop at' bs)
unfolding number
number_step k at at' bs h e = ap (number (suc k)) (drop-cons bs at 0 h) ∙ ap (λ (n : ℕ). get_or bs at 0 + 256 * number k (drop n bs)) e

number_none : (bs : List ℕ) → number 0 bs ≡ 0
unfolding number
number_none bs = refl

-- the number at `at`, as a sum
pub number_four : (at : ℕ) (bs : List ℕ) → at + 4 ≤ length bs
    → number 4 (drop at bs) ≡ get_or bs at 0 + get_or bs (at + 1) 0 * 256 + get_or bs (at + 2) 0 * 65536 + get_or bs (at + 3) 0 * 16777216
number_four at bs h =
    let a = number_step 3 at (at + 1) bs (omega arith) (omega arith) in
    let b = number_step 2 (at + 1) (at + 2) bs (omega arith) (omega arith) in
    let c = number_step 1 (at + 2) (at + 3) bs (omega arith) (omega arith) in
    let d = number_step 0 (at + 3) (at + 4) bs (omega arith) (omega arith) in
    let e = number_none (drop (at + 4) bs) in
    omega arith

pub number_eight : (at : ℕ) (bs : List ℕ) → at + 8 ≤ length bs
    → number 8 (drop at bs) ≡ get_or bs at 0 + get_or bs (at + 1) 0 * 256 + get_or bs (at + 2) 0 * 65536 + get_or bs (at + 3) 0 * 16777216 + get_or bs (at + 4) 0 * 4294967296
    + get_or bs (at + 5) 0 * 1099511627776 + get_or bs (at + 6) 0 * 281474976710656 + get_or bs (at + 7) 0 * 72057594037927936
number_eight at bs h =
    let a = number_step 7 at (at + 1) bs (omega arith) (omega arith) in
    let b = number_step 6 (at + 1) (at + 2) bs (omega arith) (omega arith) in
    let c = number_step 5 (at + 2) (at + 3) bs (omega arith) (omega arith) in
    let d = number_step 4 (at + 3) (at + 4) bs (omega arith) (omega arith) in
    let e = number_step 3 (at + 4) (at + 5) bs (omega arith) (omega arith) in
    let f = number_step 2 (at + 5) (at + 6) bs (omega arith) (omega arith) in
    let g = number_step 1 (at + 6) (at + 7) bs (omega arith) (omega arith) in
    let i = number_step 0 (at + 7) (at + 8) bs (omega arith) (omega arith) in
    let j = number_none (drop (at + 8) bs) in
    omega arith

number_take : (k n : ℕ) (bs : List ℕ) → k ≤ n → number k (take n bs) ≡ number k bs
unfolding number
number_take zero n bs h = refl
number_take (suc k) zero bs h = absurd (omega arith)
number_take (suc k) (suc n) [] h = refl
number_take (suc k) (suc n) (b ∷ bs) h = ap (λ (m : ℕ). b + 256 * m) (number_take k n bs (omega arith))

-- the number of a chunk that was cut out
pub number_eight_of : (at : ℕ) (bs chunk : List ℕ) → at + 8 ≤ length bs → chunk ≡ take (at + 8 - at) (drop at bs) → from_le_bytes w64 chunk ≡ number 8 (drop at bs)
number_eight_of at bs chunk h e =
    let n : at + 8 - at ≡ 8 = omega arith in
    let long : 0 + 8 ≤ length chunk = omega (arith, ap length e, length-take-le (at + 8 - at) (drop at bs) (omega (arith, length-drop at bs))) in
    sym (number_eight 0 chunk long) ∙ ap (number 8) e ∙ number_take 8 (at + 8 - at) (drop at bs) (omega arith)

pub number_four_of : (at : ℕ) (bs chunk : List ℕ) → at + 4 ≤ length bs → chunk ≡ take (at + 4 - at) (drop at bs) → from_le_bytes w32 chunk ≡ number 4 (drop at bs)
number_four_of at bs chunk h e =
    let n : at + 4 - at ≡ 4 = omega arith in
    let long : 0 + 4 ≤ length chunk = omega (arith, ap length e, length-take-le (at + 4 - at) (drop at bs) (omega (arith, length-drop at bs))) in
    sym (number_four 0 chunk long) ∙ ap (number 4) e ∙ number_take 4 (at + 4 - at) (drop at bs) (omega arith)

pub bytes_eight : (x : ℕ) → bytes 8 x ≡ x % 256 ∷ x / 256 % 256 ∷ x / 256 / 256 % 256 ∷ x / 256 / 256 / 256 % 256 ∷ x / 256 / 256 / 256 / 256 % 256
    ∷ x / 256 / 256 / 256 / 256 / 256 % 256 ∷ x / 256 / 256 / 256 / 256 / 256 / 256 % 256 ∷ x / 256 / 256 / 256 / 256 / 256 / 256 / 256 % 256 ∷ []
unfolding bytes
bytes_eight x = refl

-- eight stores in a row
pub stores_eight : (l : List ℕ) (at x a b c d e f g h : ℕ) → a ≡ x % 256 → b ≡ x / 256 % 256 → c ≡ x / 256 / 256 % 256 → d ≡ x / 256 / 256 / 256 % 256
    → e ≡ x / 256 / 256 / 256 / 256 % 256 → f ≡ x / 256 / 256 / 256 / 256 / 256 % 256 → g ≡ x / 256 / 256 / 256 / 256 / 256 / 256 % 256
    → h ≡ x / 256 / 256 / 256 / 256 / 256 / 256 / 256 % 256
    → set (set (set (set (set (set (set (set l at a) (at + 1) b) (at + 2) c) (at + 3) d) (at + 4) e) (at + 5) f) (at + 6) g) (at + 7) h ≡ sets l at (bytes 8 x)
stores_eight l at x a b c d e f g h p q r s t u v w =
    let n1 : at + 1 ≡ suc at = omega arith in
    let n2 : at + 2 ≡ suc (suc at) = omega arith in
    let n3 : at + 3 ≡ suc (suc (suc at)) = omega arith in
    let n4 : at + 4 ≡ suc (suc (suc (suc at))) = omega arith in
    let n5 : at + 5 ≡ suc (suc (suc (suc (suc at)))) = omega arith in
    let n6 : at + 6 ≡ suc (suc (suc (suc (suc (suc at))))) = omega arith in
    let n7 : at + 7 ≡ suc (suc (suc (suc (suc (suc (suc at)))))) = omega arith in
    rw (bytes_eight x, p, q, r, s, t, u, v, w, n1, n2, n3, n4, n5, n6, n7) refl

-- .. of the bytes of a number
pub stores_word : (l word : List ℕ) (at x : ℕ) → word ≡ to_le_bytes w64 x
    → set (set (set (set (set (set (set (set l at (get_or word 0 0)) (at + 1) (get_or word 1 0)) (at + 2) (get_or word 2 0)) (at + 3) (get_or word 3 0)) (at + 4) (get_or word 4 0))
    (at + 5) (get_or word 5 0)) (at + 6) (get_or word 6 0)) (at + 7) (get_or word 7 0) ≡ sets l at (bytes 8 x)
stores_word l word at x e =
    stores_eight l at x _ _ _ _ _ _ _ _ (byte 0) (byte 1) (byte 2 ∙ omega arith) (byte 3 ∙ omega arith) (byte 4 ∙ omega arith) (byte 5 ∙ omega arith) (byte 6 ∙ omega arith)
    (byte 7 ∙ omega arith)
  where
    byte : (i : ℕ) → get_or word i 0 ≡ get_or (to_le_bytes w64 x) i 0
    byte i = ap (λ (l : List ℕ). get_or l i 0) e

-- ---- the round trip

-- a number of k bytes survives
pub number_bytes : (k x : ℕ) (bs : List ℕ) → x < 256 ^ k → number k (bytes k x ++ bs) ≡ x
unfolding number bytes
number_bytes zero x bs h = omega arith
number_bytes (suc k) x bs h =
    let q : x / 256 < 256 ^ k = omega arith in
    let e = number_bytes k (x / 256) bs q in
    let d = div-add-mod' x 256 in
    omega arith

-- .. and so do k bytes
bytes_number : (k : ℕ) (bs : List ℕ) → k ≤ length bs → ((i : ℕ) → get_or bs i 0 < 256) → bytes k (number k bs) ≡ take k bs
unfolding number bytes
bytes_number zero bs h b = refl
bytes_number (suc k) [] h b = absurd (omega arith)
bytes_number (suc k) (x ∷ bs) h b =
    let low = b 0 in
    let m : (x + 256 * number k bs) % 256 ≡ x = omega arith in
    let d : (x + 256 * number k bs) / 256 ≡ number k bs = omega arith in
    λ j. m j ∷ (ap (bytes k) d ∙ bytes_number k bs (omega arith) (λ i. b (suc i))) j

-- numbers of 64 bits survive
pub unpack_pack : (ws : List ℕ) → ((i : ℕ) → get_or ws i 0 < 2 ^ 64) → unpack (length ws) (pack ws) ≡ ws
unfolding unpack pack
unpack_pack [] h = refl
unpack_pack (w ∷ ws) h =
    λ j. number_bytes 8 w (pack ws) (h 0) j ∷ (ap (unpack (length ws)) (drop_at (bytes 8 w) (pack ws) 8 (length_bytes 8 w)) ∙ unpack_pack ws (λ i. h (suc i))) j

-- .. and so do bytes, eight for each number
pub pack_unpack : (n : ℕ) (bs : List ℕ) → length bs ≡ 8 * n → ((i : ℕ) → get_or bs i 0 < 256) → pack (unpack n bs) ≡ bs
unfolding unpack pack
pack_unpack zero bs h b = take_all 0 bs (omega arith)
pack_unpack (suc n) bs h b =
    let l : length (drop 8 bs) ≡ 8 * n = omega (arith, length-drop 8 bs) in
    let t : (i : ℕ) → get_or (drop 8 bs) i 0 < 256 = λ i. subst (λ (x : ℕ). x < 256) (sym (get_or-drop 8 bs i 0)) (b (8 + i)) in
    (λ j. bytes_number 8 bs (omega arith) b j ++ pack_unpack n (drop 8 bs) l t j) ∙ take-append-drop 8 bs
