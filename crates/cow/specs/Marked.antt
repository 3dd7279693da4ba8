-- The pages marked copy-on-write, document 01's '256 copy-on-write pages', sorted; and the three calls on them.
use Rattle.std.specs.Prelude.{Ok, Err, Result, ⊤}
use Rattle.answer.specs.declared.Refusal.{Refusal}
use Rattle.answer.specs.declared.Refusal.TheVariants.{BrokenRecord, ListFull}
use Rattle.std.specs.Prelude.{ℕ, ◌*◌, ◌/◌, Bool, false, List, leb, length, replicate}
use Rattle.bits.specs.Bit.{pick, unless, both}
use Rattle.slots.specs.Slots.{Slots, slotted, listed, store}
use Rattle.slots.specs.Sorted.{rising_from, has_key, insert, remove}

-- the page that an address lies in
abbrev pub page_of : ℕ → ℕ
page_of a = a / 4096 * 4096

-- the pages are sorted by themselves: each in its place, once
abbrev pub page_key : ℕ → ℕ
page_key v = v

-- not broken: at most 256 pages, strictly rising
unfoldable pub sound_marked : Slots ℕ → Bool
sound_marked s = both (leb s.count 256) (rising_from page_key 0 (listed s))

-- no page marked, and all slots zero
abbrev pub no_pages : Slots ℕ
no_pages = slotted (replicate 256 0) 0

-- ---- the calls

abbrev pub store_pages : List ℕ → Slots ℕ → Slots ℕ
store_pages l s = store 0 l s

pub record MarkedDid : Type 0 where
  pub answer : Result ⊤ Refusal
  pub marked : Slots ℕ

abbrev pub marked_did : Result ⊤ Refusal → Slots ℕ → MarkedDid
marked_did a s = record { answer = a; marked = s }

-- '20: .. marked pages are full and the key is not among them'
abbrev pub full_of_pages : Slots ℕ → ℕ → Bool
full_of_pages s v = pick (has_key page_key v (listed s)) false (leb 256 (length (listed s)))

unfoldable pub mark_cow : Slots ℕ → ℕ → MarkedDid
mark_cow s a =
    unless (sound_marked s) (marked_did (Err BrokenRecord) s)
    (pick (full_of_pages s (page_of a)) (marked_did (Err ListFull) s)
    (marked_did (Ok tt) (store_pages (insert page_key (page_of a) (listed s)) s)))

-- met also where the page is not marked
unfoldable pub unmark_cow : Slots ℕ → ℕ → MarkedDid
unmark_cow s a =
    unless (sound_marked s) (marked_did (Err BrokenRecord) s)
    (marked_did (Ok tt) (store_pages (remove page_key (page_of a) (listed s)) s))

unfoldable pub is_cow : Slots ℕ → ℕ → Result Bool Refusal
is_cow s a = unless (sound_marked s) (Err BrokenRecord) (Ok (has_key page_key (page_of a) (listed s)))
