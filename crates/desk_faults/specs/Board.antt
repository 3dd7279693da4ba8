-- The board of all packed parts, and what a start leaves of them.
use Rattle.std.specs.Prelude.{Ok, Err, Result, ⊤}
use Rattle.answer.specs.declared.Refusal.{Refusal}
use Rattle.std.specs.Prelude.{ℕ, Bool, List, eqb, length}
use Rattle.bits.specs.Bit.{both}
use Rattle.bitmap.specs.Bitmap.{marks_in}
use Rattle.answer.specs.Outcomes.{as_answer}
use Rattle.paging.specs.Map.{memory}
use Rattle.vm_list.specs.Packed.{vm_size, vm_in, vm_out}
use Rattle.mappings.specs.Packed.{mmap_in, next_in, mmap_out, mmap_fit}
use Rattle.cow.specs.Packed.{marked_in, marked_out, marked_fit}
use Rattle.board.specs.Board.{Board, BoardDid, start}
use Rattle.layout.specs.Parts.{frames_in, fields_fit, fields_out}
use Rattle.layout.specs.Left.{Left, left, unless_fit}
use Rattle.layout.specs.Memory.{plain_line}

pub record BoardParts : Type 0 where
  pub words : List ℕ
  pub fields : List ℕ
  pub marks : List ℕ
  pub root : ℕ
  pub kernel : List ℕ
  pub user : List ℕ
  pub marked : List ℕ

abbrev pub board_parts : List ℕ → List ℕ → List ℕ → ℕ → List ℕ → List ℕ → List ℕ → BoardParts
board_parts w f b r k u m = record { words = w; fields = f; marks = marks_in b; root = r; kernel = k; user = u; marked = m }

-- whether the four slices have their lengths: a start asks no more of the lists, 'whatever the lent record held before'
abbrev pub board_fit : BoardParts → Bool
board_fit p = both (fields_fit p.fields) (both (eqb (length p.kernel) vm_size) (both (mmap_fit p.user) (marked_fit p.marked)))

abbrev pub board_of_parts : BoardParts → Board
board_of_parts p = record {
  mem = memory p.words (frames_in p.fields p.marks);
  root = p.root;
  kernel = vm_in p.kernel;
  user = mmap_in p.user;
  next = next_in p.user;
  marked = marked_in p.marked;
}

abbrev pub board_packed : Board → BoardParts
board_packed b = record {
  words = b.mem.words;
  fields = fields_out b.mem.frames.fa;
  marks = b.mem.frames.bits;
  root = b.root;
  kernel = vm_out b.kernel;
  user = mmap_out b.user b.next;
  marked = marked_out b.marked;
}

-- what only a met start writes
abbrev pub left_of : {A : Type 0} → Result ⊤ Refusal → A → A → A
left_of (Ok tt) old new = new
left_of (Err n) old new = old

abbrev pub start_left : BoardParts → BoardDid → Left BoardParts
start_left p d = left (plain_line d.answer) (left_of (as_answer d.answer) p (board_packed d.board))

unfoldable pub packed_start : BoardParts → ℕ → ℕ → ℕ → Left BoardParts
packed_start p from to levels = unless_fit (board_fit p) p (start_left p (start (board_of_parts p) from to levels))
