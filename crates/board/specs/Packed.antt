-- The board whose lists stay packed bytes (docs/LAYOUT.md), as code is lent it, and its start.
use Rattle.std.specs.Prelude.{Ok, Err, Result, ⊤}
use Rattle.answer.specs.declared.Refusal.{Refusal}
use Rattle.answer.specs.declared.Refusal.TheVariants.{BrokenRecord}
use Rattle.std.specs.Prelude.{ℕ, ◌≡◌, Bool, true, List, eqb, length}
use Rattle.bits.specs.Bit.{unless, both}
use Rattle.paging.specs.Map.{Memory}
use Rattle.paging.specs.Kept.{lent_memory}
use Rattle.vm_list.specs.Packed.{vm_size, vm_in, vm_out, vm_fit}
use Rattle.mappings.specs.Packed.{mmap_in, next_in, mmap_out, mmap_fit}
use Rattle.cow.specs.Packed.{marked_in, marked_out, marked_fit}
use Rattle.board.specs.declared.Records.{Records}
use Rattle.board.specs.declared.Started.{Started}
use Rattle.board.specs.Board.{Board, start}

pub record BoardBytes : Type 0 where
  pub mem : Memory
  pub root : ℕ
  pub kernel : List ℕ
  pub user : List ℕ
  pub marked : List ℕ

-- the board that they stand for
abbrev pub board_in : BoardBytes → Board
board_in p = record {
  mem = p.mem;
  root = p.root;
  kernel = vm_in p.kernel;
  user = mmap_in p.user;
  next = next_in p.user;
  marked = marked_in p.marked;
}

abbrev pub board_out : Board → BoardBytes
board_out b = record {
  mem = b.mem;
  root = b.root;
  kernel = vm_out b.kernel;
  user = mmap_out b.user b.next;
  marked = marked_out b.marked;
}

-- words, bitmap and the three lists beside the records, as code is lent them
abbrev pub board_bytes : List ℕ → List ℕ → List ℕ → List ℕ → List ℕ → Records → BoardBytes
board_bytes words bitmap kernel user marked r = record {
  mem = lent_memory words bitmap r.frames;
  root = r.root.0;
  kernel = kernel;
  user = user;
  marked = marked;
}

abbrev pub board_of : List ℕ → List ℕ → List ℕ → List ℕ → List ℕ → Records → Board
board_of words bitmap kernel user marked r = board_in (board_bytes words bitmap kernel user marked r)

-- whether the bytes stand for lists
abbrev pub lists_fit : List ℕ → List ℕ → List ℕ → Bool
lists_fit kernel user marked = both (vm_fit kernel) (both (mmap_fit user) (marked_fit marked))

-- bytes that stand for a board
abbrev pub BoardStands : BoardBytes → Board → Type 0
BoardStands p b = (lists_fit p.kernel p.user p.marked ≡ true) × (board_in p ≡ b)

-- whether the lists have their lengths: a start asks no more of them, 'whatever the lent record held before'
abbrev pub lists_long : BoardBytes → Bool
lists_long p = both (eqb (length p.kernel) vm_size) (both (mmap_fit p.user) (marked_fit p.marked))

-- an answer, and the board afterwards
pub record StartedBytes : Type 0 where
  pub answer : Result ⊤ Refusal
  pub board : BoardBytes

abbrev pub started_bytes : Started → List ℕ → List ℕ → List ℕ → List ℕ → List ℕ → StartedBytes
started_bytes r words bitmap kernel user marked = record { answer = r.answer; board = board_bytes words bitmap kernel user marked r.records }

-- a board that was started is packed again; a refused start changes nothing
abbrev pub packed_by : BoardBytes → Result ℕ Refusal → Board → StartedBytes
packed_by p (Ok x) b = record { answer = Ok tt; board = board_out b }
packed_by p (Err n) b = record { answer = Err n; board = p }

-- 10 and nothing changed where a list has another length
unfoldable pub start_on : BoardBytes → ℕ → ℕ → ℕ → StartedBytes
start_on p from to levels =
    unless (lists_long p) (record { answer = Err BrokenRecord; board = p })
    (let d = start (board_in p) from to levels in packed_by p d.answer d.board)
