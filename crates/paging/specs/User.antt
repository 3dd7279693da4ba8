-- The user question, document 02's slip 2: 'Per SDM 3A, user code may read if and only if USER is set in all four entries, and write if and only if WRITABLE is set in
-- all four too .. for user accesses to 4 KiB pages.' The entries are those that a translation reads, the rows of its working: where it comes to a page, one for each level.
use Rattle.std.specs.Prelude.{Ok, Err, Result}
use Rattle.answer.specs.declared.Refusal.{Refusal}
use Rattle.answer.specs.declared.Refusal.TheVariants.{BrokenRecord}
use Rattle.std.specs.Prelude.{ℕ, ◌≡◌, Bool, true, false, ◌⊎◌, ◌↔◌, length}
use mathlib.Core.List.{List, [], ◌∷◌, Memᴰ}
use Rattle.bits.specs.Bit.{pick, unless, both, flag}
use Rattle.entry.specs.Entry.{indices}
use Rattle.paging.specs.declared.Leaf.{Leaf}
use Rattle.paging.specs.declared.Leaf.TheVariants.{Page, Large}
use Rattle.paging.specs.declared.Row.{Row}
use Rattle.paging.specs.Walk.{leaf}
use Rattle.paging.specs.Calls.{lent_walk}
use Rattle.paging.specs.Working.{rows_below, end_of, show_translate}

-- a 4 KiB page: 'no where nothing translates or' a large page does
abbrev pub is_page : Result Leaf Refusal → Bool
is_page (Ok (Page e)) = true
is_page (Ok (Large e)) = false
is_page (Err n) = false

-- an entry lets user code read with USER, and write with USER and WRITABLE
abbrev pub user_entry : Bool → ℕ → Bool
user_entry write e = both (flag 2 e) (pick write (flag 1 e) true)

abbrev pub all_user : Bool → List Row → Bool
all_user write [] = true
all_user write (r ∷ rs) = both (user_entry write r.word) (all_user write rs)

unfoldable pub user_rows : Bool → List Row → Bool
user_rows write rows = both (is_page (end_of rows)) (all_user write rows)

-- 10 first, then yes or no
unfoldable pub user_may : ℕ → List ℕ → ℕ → ℕ → ℕ → ℕ → Bool → Result Bool Refusal
user_may levels ws start total root v write =
    unless (lent_walk levels (length ws) start total root) (Err BrokenRecord)
    (Ok (user_rows write (rows_below ws start total root (indices levels v))))

-- ---- the rule beside the slip's sentence, whatever stands in the tables

pub record UserRule : Type 0 where
  -- 'user code may read if and only if USER is set in all four entries', where a translation comes to a 4 KiB page
  pub read : (levels : ℕ) (ws : List ℕ) (start total root v : ℕ) → lent_walk levels (length ws) start total root ≡ true
      → (user_may levels ws start total root v false ≡ Ok true)
      ↔ (((e : ℕ) × (leaf ws start total root (indices levels v) ≡ Ok (Page e)))
      × ((r : Row) → Memᴰ r (show_translate levels ws start total root v).rows → flag 2 r.word ≡ true))
  -- 'and write if and only if WRITABLE is set in all four too'
  pub write : (levels : ℕ) (ws : List ℕ) (start total root v : ℕ) → lent_walk levels (length ws) start total root ≡ true
      → (user_may levels ws start total root v true ≡ Ok true)
      ↔ ((user_may levels ws start total root v false ≡ Ok true)
      × ((r : Row) → Memᴰ r (show_translate levels ws start total root v).rows → flag 1 r.word ≡ true))
  -- 'all four': an entry of each level
  pub all : (levels : ℕ) (ws : List ℕ) (start total root v : ℕ) → lent_walk levels (length ws) start total root ≡ true
      → (e : ℕ) → leaf ws start total root (indices levels v) ≡ Ok (Page e) → length (show_translate levels ws start total root v).rows ≡ levels
  -- yes or no on a record that is not broken, and 10 on one that is
  pub answered : (levels : ℕ) (ws : List ℕ) (start total root v : ℕ) (write : Bool) → lent_walk levels (length ws) start total root ≡ true
      → (user_may levels ws start total root v write ≡ Ok true) ⊎ (user_may levels ws start total root v write ≡ Ok false)
  pub broken : (levels : ℕ) (ws : List ℕ) (start total root v : ℕ) (write : Bool) → lent_walk levels (length ws) start total root ≡ false
      → user_may levels ws start total root v write ≡ Err BrokenRecord
