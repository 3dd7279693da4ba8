-- This project's `translate` is Intel's paging, 4-level on a board of four levels and 5-level on one of five: for canonical addresses, over tables with no HUGE entry,
-- while the walk stays in lent frames; and it leaves them exactly where the manual's translation reads an entry outside. While it stays in
-- them the user question is the manual's access rights. The statements, with what they name; proofs/Agree.antt, proofs/Entries.antt and proofs/Rights.antt prove them, and
-- proofs/Examples.antt shows that they are not empty.
use Rattle.std.specs.Prelude.{Ok, Err, Result}
use Rattle.answer.specs.declared.Refusal.{Refusal}
use Rattle.answer.specs.declared.Refusal.TheVariants.{NotMapped, TableOutside}
use Rattle.std.specs.Prelude.{ℕ, ◌+◌, ◌-◌, ◌*◌, ◌/◌, ◌^◌, ◌<◌, ◌≡◌, Bool, true, false, ◌⊎◌, ◌↔◌, length, get_or, take}
use mathlib.Core.List.{List, Memᴰ}
use Rattle.bits.specs.Bit.{flag}
use Rattle.entry.specs.Entry.{indices}
use Rattle.frame.specs.Frames.{inside}
use Rattle.paging.specs.Walk.{place, entry_at, reach, may_walk}
use Rattle.paging.specs.Calls.{translate}
use Rattle.paging.specs.User.{user_may}
use Rattle.intel.specs.Sdm.{Paging, four_level, five_level, Memory, Translation, physical, not_present, table_of, width_of, canonical, linear, entries_read}
use Rattle.intel.specs.Sdm.{Access, data_read, data_write, Accessed, permitted, page_fault, general_protection, large_page, user_access}

-- ---- what the statements name

-- the levels of tables, counted as our boards count them
abbrev pub paging_levels : Paging → ℕ
paging_levels four_level = 4
paging_levels five_level = 5

-- Physical memory holds the lent words: entry i of lent frame t stands at address t × 4096 + i × 8.
pub record Holds (mem : Memory) (ws : List ℕ) (start total : ℕ) : Type 0 where
  pub word : (t i : ℕ) → inside start total t ≡ true → i < 512 → mem (t * 2 ^ 12 + i * 2 ^ 3) ≡ get_or ws (place start t i) 0

-- No HUGE entry: a table to which fewer than `up` indices lead from the root has no present entry with bit 7. With one less than the levels of
-- a board these are all its tables above the last level.
pub record NoHuge (ws : List ℕ) (start total up root : ℕ) : Type 0 where
  pub plain : (is : List ℕ) (t i e : ℕ) → length is < up → reach ws start total root is ≡ Ok t → entry_at ws start total t i ≡ Ok e → flag 7 e ≡ false

-- The manual's word for our answer.
abbrev pub as_translation : Result ℕ Refusal → Translation
as_translation (Ok a) = physical a
as_translation (Err n) = not_present

-- The question that an access is, and its answer: yes where the access is permitted.
abbrev pub asks_write : Access → Bool
asks_write data_read = false
asks_write data_write = true

abbrev pub is_permitted : Accessed → Bool
is_permitted permitted = true
is_permitted page_fault = false
is_permitted general_protection = false
is_permitted large_page = false

-- What the statements ask: a record that is not broken (10), CR3 that names the root, memory that holds the words, no HUGE entry, and a canonical address.
pub record Setting (paging : Paging) (mem : Memory) (cr3 : ℕ) (ws : List ℕ) (start total root v : ℕ) : Type 0 where
  pub whole : may_walk (length ws) start total root ≡ true
  pub base : table_of cr3 ≡ root
  pub holds : Holds mem ws start total
  pub no_huge : NoHuge ws start total (paging_levels paging - 1) root
  pub form : canonical (width_of paging) v ≡ true

-- ---- the statements

-- While the walk stays in lent frames, the manual's outcome is ours.
abbrev pub Agrees : Type 0
Agrees =
    (paging : Paging) (mem : Memory) (cr3 : ℕ) (ws : List ℕ) (start total root v : ℕ) → Setting paging mem cr3 ws start total root v
    → (translate (paging_levels paging) ws start total root v ≡ Err TableOutside → ⊥)
    → linear paging mem cr3 v ≡ as_translation (translate (paging_levels paging) ws start total root v)

-- So there we give an address exactly where the manual does, and the same one,
abbrev pub SamePages : Type 0
SamePages =
    (paging : Paging) (mem : Memory) (cr3 : ℕ) (ws : List ℕ) (start total root v : ℕ) → Setting paging mem cr3 ws start total root v
    → (translate (paging_levels paging) ws start total root v ≡ Err TableOutside → ⊥)
    → (a : ℕ) → (translate (paging_levels paging) ws start total root v ≡ Ok a) ↔ (linear paging mem cr3 v ≡ physical a)

-- and 14, not mapped, exactly where the manual says that an entry is not present.
abbrev pub SameAbsent : Type 0
SameAbsent =
    (paging : Paging) (mem : Memory) (cr3 : ℕ) (ws : List ℕ) (start total root v : ℕ) → Setting paging mem cr3 ws start total root v
    → (translate (paging_levels paging) ws start total root v ≡ Err TableOutside → ⊥)
    → (translate (paging_levels paging) ws start total root v ≡ Err NotMapped) ↔ (linear paging mem cr3 v ≡ not_present)

-- No other number occurs: on a record that is not broken the answer is an address, 14 or 19, whatever the words are.
abbrev pub ThreeOutcomes : Type 0
ThreeOutcomes =
    (paging : Paging) (ws : List ℕ) (start total root v : ℕ) → may_walk (length ws) start total root ≡ true
    → ((a : ℕ) × (translate (paging_levels paging) ws start total root v ≡ Ok a))
    ⊎ (translate (paging_levels paging) ws start total root v ≡ Err NotMapped)
    ⊎ (translate (paging_levels paging) ws start total root v ≡ Err TableOutside)

-- It is 19 exactly where the walk comes to a table outside the lent frames, whose entries the words do not hold.
abbrev pub OffBoard : Type 0
OffBoard =
    (paging : Paging) (ws : List ℕ) (start total root v : ℕ) → may_walk (length ws) start total root ≡ true → NoHuge ws start total (paging_levels paging - 1) root
    → (translate (paging_levels paging) ws start total root v ≡ Err TableOutside)
    ↔ ((k : ℕ) × (t : ℕ) × (k < paging_levels paging) × (reach ws start total root (take k (indices (paging_levels paging) v)) ≡ Ok t) × (inside start total t ≡ false))

-- In the manual's terms: exactly where one of the entries that its translation reads stands outside the lent frames.
abbrev pub ReadsOff : Type 0
ReadsOff =
    (paging : Paging) (mem : Memory) (cr3 : ℕ) (ws : List ℕ) (start total root v : ℕ) → Setting paging mem cr3 ws start total root v
    → (translate (paging_levels paging) ws start total root v ≡ Err TableOutside)
    ↔ ((a : ℕ) × Memᴰ a (entries_read paging mem cr3 v) × (inside start total (a / 2 ^ 12) ≡ false))

-- ---- the user question: while the walk stays in lent frames, it is yes exactly where the manual permits the access
abbrev pub UserAgrees : Type 0
UserAgrees =
    (access : Access) (paging : Paging) (mem : Memory) (cr3 : ℕ) (ws : List ℕ) (start total root v : ℕ) → Setting paging mem cr3 ws start total root v
    → (translate (paging_levels paging) ws start total root v ≡ Err TableOutside → ⊥)
    → user_may (paging_levels paging) ws start total root v (asks_write access) ≡ Ok (is_permitted (user_access access paging mem cr3 v))

-- .. and wherever the walk goes, yes only where the manual permits the access.
abbrev pub UserYes : Type 0
UserYes =
    (access : Access) (paging : Paging) (mem : Memory) (cr3 : ℕ) (ws : List ℕ) (start total root v : ℕ) → Setting paging mem cr3 ws start total root v
    → user_may (paging_levels paging) ws start total root v (asks_write access) ≡ Ok true → user_access access paging mem cr3 v ≡ permitted
