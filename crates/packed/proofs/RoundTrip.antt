-- Numbers and slots of numbers come back: bytes that are read and written again, and what was written is read.
use Prim.Native.Nat.{ℕ, zero, suc, ◌+◌, ◌-◌, ◌*◌, ◌^◌, ◌<◌, ◌≤◌}
use mathlib.Core.Path.{◌≡◌, refl, sym, ◌∙◌, ap, subst}
use mathlib.Core.List.{List, [], ◌∷◌, ◌++◌, append_assoc}
use native.Mathlib.Omega.{arith}
use lib.ListN.{length, take, drop, get_or, set, replicate, take-append-drop, length-drop}
use lib.Seq.{drop_at, get_or-drop, length-take-le, sets}
use Rattle.std.proofs.lemmas.List.{replicate-append-replicate}
use Rattle.slots.proofs.Filled.{drop_replicate}
use Rattle.packed.specs.Words.{number, bytes, pack, unpack}
use Rattle.packed.specs.Records.{records, packed}
use Rattle.packed.proofs.Words.{length_bytes, number_bytes, unpack_pack}
use Rattle.packed.proofs.Stores.{further, triple, sets_behind, sets_head}

-- bytes, and numbers of 64 bits
abbrev pub Bytes : List ℕ → Type 0
Bytes bs = (i : ℕ) → get_or bs i 0 < 256

abbrev pub Words : List ℕ → Type 0
Words ws = (i : ℕ) → get_or ws i 0 < 2 ^ 64

-- ---- eight bytes make a number of 64 bits

abbrev pub Below : ℕ → ℕ → Type 0
Below k m = (bs : List ℕ) → Bytes bs → number k bs < m

below_next : (k m : ℕ) → 0 < m → Below k m → Below (suc k) (256 * m)
unfolding number
below_next k m p h [] b = omega arith
below_next k m p h (x ∷ bs) b = omega (arith, b 0, h bs (λ i. b (suc i)))

below_none : Below 0 1
unfolding number
below_none bs b = omega arith

pub number_small : Below 8 (2 ^ 64)
number_small =
    below_next 7 (2 ^ 56) (omega arith) (below_next 6 (2 ^ 48) (omega arith) (below_next 5 (2 ^ 40) (omega arith) (below_next 4 (2 ^ 32) (omega arith)
    (below_next 3 (2 ^ 24) (omega arith) (below_next 2 (2 ^ 16) (omega arith) (below_next 1 (2 ^ 8) (omega arith) (below_next 0 1 (omega arith) below_none)))))))

-- ---- numbers one behind the other

-- .. as they are read
pub next_word : (n : ℕ) (bs : List ℕ) → bytes 8 (number 8 bs) ++ pack (unpack n (drop 8 bs)) ≡ pack (unpack (suc n) bs)
unfolding pack unpack
next_word n bs = refl

pub no_words : (bs : List ℕ) → [] ≡ pack (unpack 0 bs)
unfolding pack unpack
no_words bs = refl

pub next_three : (n : ℕ) (bs : List ℕ) → triple (number 8 bs) (number 8 (drop 8 bs)) (number 8 (drop 16 bs)) ++ pack (unpack n (drop 24 bs)) ≡ pack (unpack (suc (suc (suc n))) bs)
next_three n bs =
    rw (further 8 16 24 bs refl, further 8 8 16 bs refl) (
    simp append_assoc (
    ap (λ (l : List ℕ). bytes 8 (number 8 bs) ++ (bytes 8 (number 8 (drop 8 bs)) ++ l)) (next_word n (drop 8 (drop 8 bs)))
    ∙ ap (λ (l : List ℕ). bytes 8 (number 8 bs) ++ l) (next_word (suc n) (drop 8 bs))
    ∙ next_word (suc (suc n)) bs
    )
    )

-- .. and as they are written
front : (k : ℕ) (xs ys : List ℕ) → k ≤ length xs → number k (xs ++ ys) ≡ number k xs
unfolding number
front zero xs ys h = refl
front (suc k) [] ys h = absurd (omega arith)
front (suc k) (x ∷ xs) ys h = ap (λ (n : ℕ). x + 256 * n) (front k xs ys (omega arith))

alone_kept : (x : ℕ) → x < 2 ^ 64 → number 8 (bytes 8 x ++ []) ≡ x
unfolding unpack pack
alone_kept x h = ap (λ (l : List ℕ). get_or l 0 0) (unpack_pack (x ∷ []) each)
  where
    each : Words (x ∷ [])
    each zero = h
    each (suc i) = omega arith

pub number_kept : (x : ℕ) (bs : List ℕ) → x < 2 ^ 64 → number 8 (bytes 8 x ++ bs) ≡ x
number_kept x bs h =
    let n = length_bytes 8 x in
    front 8 (bytes 8 x) bs (omega arith) ∙ sym (front 8 (bytes 8 x) [] (omega arith)) ∙ alone_kept x h

module _ (x y z : ℕ) (bs : List ℕ) where
  abbrev text : List ℕ
  text = triple x y z ++ bs

  apart : text ≡ bytes 8 x ++ (bytes 8 y ++ (bytes 8 z ++ bs))
  apart = simp append_assoc refl

  pub behind_one : drop 8 text ≡ bytes 8 y ++ (bytes 8 z ++ bs)
  behind_one = ap (drop 8) apart ∙ drop_at (bytes 8 x) (bytes 8 y ++ (bytes 8 z ++ bs)) 8 (length_bytes 8 x)

  pub behind_two : drop 16 text ≡ bytes 8 z ++ bs
  behind_two = further 8 8 16 text refl ∙ ap (drop 8) behind_one ∙ drop_at (bytes 8 y) (bytes 8 z ++ bs) 8 (length_bytes 8 y)

  pub first_kept : x < 2 ^ 64 → number 8 text ≡ x
  first_kept h = ap (number 8) apart ∙ number_kept x (bytes 8 y ++ (bytes 8 z ++ bs)) h

  pub second_kept : y < 2 ^ 64 → number 8 (drop 8 text) ≡ y
  second_kept h = ap (number 8) behind_one ∙ number_kept y (bytes 8 z ++ bs) h

-- ---- slots of three numbers each

module _ {A : Type 0} (f : List ℕ → A) (g : A → List ℕ) where
  -- read where each is fit to be read
  module _ (Fit : ℕ → List ℕ → Type 0) (one-back : (n : ℕ) (bs : List ℕ) → Fit (suc n) bs → g (f bs) ≡ triple (number 8 bs) (number 8 (drop 8 bs)) (number 8 (drop 16 bs)))
      (rest : (n : ℕ) (bs : List ℕ) → Fit (suc n) bs → Fit n (drop 24 bs)) where
    pub slots_back : (n : ℕ) (bs : List ℕ) → Fit n bs → packed g (records f n bs) ≡ pack (unpack (n * 3) bs)
    unfolding records packed
    slots_back zero bs h = no_words bs
    slots_back (suc n) bs h =
        let m : suc (suc (suc (n * 3))) ≡ suc n * 3 = omega arith in
        (λ j. one-back n bs h j ++ slots_back n (drop 24 bs) (rest n bs h) j) ∙ next_three (n * 3) bs ∙ ap (λ (k : ℕ). pack (unpack k bs)) m

  -- written where each fits its bytes
  module _ (d : A) (Fit : A → Type 0) (sized : (a : A) → length (g a) ≡ 24) (one_kept : (a : A) (bs : List ℕ) → Fit a → f (g a ++ bs) ≡ a) where
    pub slots_kept : (l : List A) → ((i : ℕ) → Fit (get_or l i d)) → records f (length l) (packed g l) ≡ l
    unfolding records packed
    slots_kept [] h = refl
    slots_kept (a ∷ l) h =
        λ j. one_kept a (packed g l) (h 0) j ∷ (ap (records f (length l)) (drop_at (g a) (packed g l) 24 (sized a)) ∙ slots_kept l (λ i. h (suc i))) j

pub bytes_behind : (k : ℕ) (bs : List ℕ) → Bytes bs → Bytes (drop k bs)
bytes_behind k bs b i = subst (λ (x : ℕ). x < 256) (sym (get_or-drop k bs i 0)) (b (k + i))

-- ---- a number stored over the k-th of n

number_front_lem : (k : ℕ) (h l m : List ℕ) → length h ≡ k → number k (h ++ l) ≡ number k (h ++ m)
unfolding number
number_front_lem zero h l m e = refl
number_front_lem (suc k) [] l m e = absurd (omega arith)
number_front_lem (suc k) (x ∷ h) l m e = ap (λ (n : ℕ). x + 256 * n) (number_front_lem k h l m (omega arith))

pub unpack_sets : (n k : ℕ) (bs : List ℕ) (x : ℕ) → k < n → n * 8 ≤ length bs → x < 2 ^ 64 → unpack n (sets bs (k * 8) (bytes 8 x)) ≡ set (unpack n bs) k x
unfolding unpack
unpack_sets zero k bs x h l s = absurd (omega arith)
unpack_sets (suc n) zero bs x h l s =
    let front = length-take-le 8 bs (omega arith) in
    let r = drop 8 bs in
    let e : sets bs (0 * 8) (bytes 8 x) ≡ bytes 8 x ++ r =
    ap (λ (b : List ℕ). sets b 0 (bytes 8 x)) (sym (take-append-drop 8 bs)) ∙ sets_head (take 8 bs) r (bytes 8 x) (length_bytes 8 x ∙ sym front)
    in
    ap (unpack (suc n)) e ∙ (λ j. number_bytes 8 x r s j ∷ ap (unpack n) (drop_at (bytes 8 x) r 8 (length_bytes 8 x)) j)
unpack_sets (suc n) (suc k) bs x h l s =
    let front = length-take-le 8 bs (omega arith) in
    let r = drop 8 bs in
    let v = bytes 8 x in
    let place : suc k * 8 ≡ length (take 8 bs) + k * 8 = omega arith in
    let e : sets bs (suc k * 8) v ≡ take 8 bs ++ sets r (k * 8) v =
    ap (λ (b : List ℕ). sets b (suc k * 8) v) (sym (take-append-drop 8 bs)) ∙ ap (λ (i : ℕ). sets (take 8 bs ++ r) i v) place ∙ sets_behind (take 8 bs) r v (k * 8)
    in
    let long : n * 8 ≤ length r = omega (arith, length-drop 8 bs) in
    ap (unpack (suc n)) e
    ∙ (λ j. (number_front_lem 8 (take 8 bs) (sets r (k * 8) v) r front ∙ ap (number 8) (take-append-drop 8 bs)) j
    ∷ (ap (unpack n) (drop_at (take 8 bs) (sets r (k * 8) v) 8 front) ∙ unpack_sets n k r x (omega arith) long s) j)

-- ---- bytes that are all 0

abbrev pub zeros : ℕ → List ℕ
zeros n = replicate n 0

number_zeros : (k m : ℕ) → number k (zeros m) ≡ 0
unfolding number
number_zeros zero m = refl
number_zeros (suc k) zero = refl
number_zeros (suc k) (suc m) = omega (arith, number_zeros k m)

pub unpack_zeros : (n m : ℕ) → unpack n (zeros m) ≡ zeros n
unfolding unpack
unpack_zeros zero m = refl
unpack_zeros (suc n) m = λ j. number_zeros 8 m j ∷ (ap (unpack n) (drop_replicate {A = ℕ} 0 8 m) ∙ unpack_zeros n (m - 8)) j

pub pack_zeros : (n : ℕ) → pack (zeros n) ≡ zeros (n * 8)
unfolding pack bytes
pack_zeros zero = refl
pack_zeros (suc n) =
    let e : suc n * 8 ≡ 8 + n * 8 = omega arith in
    rw e (ap (λ (l : List ℕ). bytes 8 0 ++ l) (pack_zeros n) ∙ replicate-append-replicate 8 (n * 8) 0)
