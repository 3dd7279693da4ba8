-- A list lent as slots and a count: the first `count` slots are listed. All three lists of the board are lent as 256 slots, by their type.
use Rattle.std.specs.Prelude.{ℕ, suc, ◌-◌, max, Bool, true, List, [], ◌∷◌, ◌++◌, length, take, drop, replicate}
use Rattle.bits.specs.Bit.{pick, both}

pub record Slots (A : Type 0) : Type 0 where
  pub slots : List A
  pub count : ℕ

-- a lent slice of slots, n of them listed
abbrev pub slotted : {A : Type 0} → List A → ℕ → Slots A
slotted l n = record { slots = l; count = n }

abbrev pub listed : {A : Type 0} → Slots A → List A
listed s = take s.count s.slots

-- the slots once l is what they list: 'a removal zeroes the slot that falls past the count'; the others past it stay as they are
unfoldable pub store : {A : Type 0} → A → List A → Slots A → Slots A
store blank l s = record {
  slots = l ++ (replicate (s.count - length l) blank ++ drop (max s.count (length l)) s.slots);
  count = length l;
}

-- whether a test holds of each
unfoldable pub every : {A : Type 0} → (A → Bool) → List A → Bool
every test [] = true
every test (a ∷ l) = both (test a) (every test l)

-- the index of the first that passes a test, or the length
unfoldable pub first_at : {A : Type 0} → (A → Bool) → List A → ℕ
first_at test [] = 0
first_at test (a ∷ l) = pick (test a) 0 (suc (first_at test l))
