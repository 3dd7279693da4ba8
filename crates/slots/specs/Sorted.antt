-- Lists sorted by a key, each key once: the regions of mmap by their start, the marked pages by themselves.
use Rattle.std.specs.Prelude.{Ok, Err, Result, ℕ, suc, Bool, true, false, List, [], ◌∷◌, eqb, leb, ltb}
use Rattle.bits.specs.Bit.{pick, both}

-- whether keys rise strictly, the first being `from` or above
unfoldable pub rising_from : {A : Type 0} → (A → ℕ) → ℕ → List A → Bool
rising_from key from [] = true
rising_from key from (a ∷ l) = both (leb from (key a)) (rising_from key (suc (key a)) l)

-- whether one has key k
unfoldable pub has_key : {A : Type 0} → (A → ℕ) → ℕ → List A → Bool
has_key key k [] = false
has_key key k (a ∷ l) = pick (eqb (key a) k) true (has_key key k l)

-- one in its place, or instead of the one with its key
unfoldable pub insert : {A : Type 0} → (A → ℕ) → A → List A → List A
insert key a [] = a ∷ []
insert key a (b ∷ l) = pick (ltb (key a) (key b)) (a ∷ b ∷ l) (pick (eqb (key a) (key b)) (a ∷ l) (b ∷ insert key a l))

-- the list without the one that has key k
unfoldable pub remove : {A : Type 0} → (A → ℕ) → ℕ → List A → List A
remove key k [] = []
remove key k (a ∷ l) = pick (eqb (key a) k) l (a ∷ remove key k l)

-- the place of key k, by which code finds it: how many have a lower key, in front of one with key k or a higher one (laws in proofs/Sorted)
unfoldable pub place_of : {A : Type 0} → (A → ℕ) → ℕ → List A → ℕ
place_of key k [] = 0
place_of key k (a ∷ l) = pick (ltb (key a) k) (suc (place_of key k l)) 0

-- where the one with key k stands, or the place where one with it is put in
abbrev pub found : {A : Type 0} → (A → ℕ) → ℕ → List A → Result ℕ ℕ
found key k l = pick (has_key key k l) (Ok (place_of key k l)) (Err (place_of key k l))
