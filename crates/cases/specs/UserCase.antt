-- The case that document 02's slip 2 starts from: 'An examiner mapped a kernel page and then a user page in the same 2 MiB.' On a fresh board, of four levels or five,
-- whatever the pages' frames are and whether they are writable.
use Rattle.std.specs.Prelude.{Ok}
use Rattle.std.specs.Prelude.{ℕ, ◌+◌, ◌/◌, ◌%◌, ◌^◌, ◌≤◌, ◌≡◌, Bool, true, false}
use Rattle.entry.specs.Entry.{addr_of}
use Rattle.paging.specs.Map.{start_frame, total_of, Out}
use Rattle.paging.specs.Calls.{translate, map_page_of}
use Rattle.paging.specs.User.{user_may}
use Rattle.board.specs.Board.{Board, board_did, start}

-- what the first map_page leaves, of the kernel's page, and the second, of the user's
abbrev pub kernel_page : Board → ℕ → ℕ → Bool → Out
kernel_page b v p w = map_page_of b.mem b.root v p w false

abbrev pub then_user_page : Out → ℕ → ℕ → ℕ → Bool → Out
then_user_page o root v p w = map_page_of o.mem root v p w true

pub record UserCase : Type 0 where
  -- both are met where the board has a frame for each level, and the second page translates
  pub mapped : (old fresh : Board) (from to levels : ℕ) → start old from to levels ≡ board_did (Ok 0) fresh → levels ≤ total_of fresh.mem
      → (v p : ℕ) (w : Bool) (v' p' : ℕ) (w' : Bool) → v / 2 ^ 21 ≡ v' / 2 ^ 21 → (v / 2 ^ 12 ≡ v' / 2 ^ 12 → ⊥)
      → let one = kernel_page fresh v p w in let two = then_user_page one fresh.root v' p' w' in
      (one.walked ≡ Ok 0) × (two.walked ≡ Ok 0)
      × (translate levels two.mem.words (start_frame two.mem) (total_of two.mem) fresh.root v' ≡ Ok (addr_of p' + v' % 2 ^ 12))
  -- '.. an Intel processor faults': user code may neither read nor write the second
  pub unreached : (old fresh : Board) (from to levels : ℕ) → start old from to levels ≡ board_did (Ok 0) fresh
      → (v p : ℕ) (w : Bool) (v' p' : ℕ) (w' : Bool) → v / 2 ^ 21 ≡ v' / 2 ^ 21 → (kernel_page fresh v p w).walked ≡ Ok 0
      → let m = (then_user_page (kernel_page fresh v p w) fresh.root v' p' w').mem in
      (write : Bool) → user_may levels m.words (start_frame m) (total_of m) fresh.root v' write ≡ Ok false
