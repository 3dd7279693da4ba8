-- The key of a whole tape, document 01's 'The key program', and the board that it is played on.
use Rattle.std.specs.Prelude.{ℕ, ◌≡◌, Option, None, Some, List, ◌++◌, replicate}
use Rattle.std.specs.Io.KnownBytes.{Appends}
use Rattle.frame.specs.Frames.{unused}
use Rattle.board.specs.Board.{Board, start}
use Rattle.board.specs.Packed.{board_of}
use Rattle.tape.specs.Text.{count_text}
use Rattle.streams.specs.Streams.{frames_word}
use Rattle.turn.specs.Run.{Ended, begun, turns}

-- The lines of the run that the tape comes to, and the last line: 'Last line: `frames` and the counter'.
pub record IsKey (b : Board) (tape key : List ℕ) : Type 0 where
  pub count : ℕ
  pub ended : (turns count (begun b tape)).stage ≡ Ended
  pub lines : let r = turns count (begun b tape) in key ≡ r.text ++ count_text frames_word r.board.mem.frames.fa.allocated

-- A writer that held `held` got the key of the reader's tape; nothing is claimed where the reader's bytes or the writer's are not known.
abbrev pub WritesKey : Board → Option (List ℕ) → Option (List ℕ) → Option (List ℕ) → Type 0
WritesKey b None held got = Unit {0}
WritesKey b (Some tape) held got = (key : List ℕ) × IsKey b tape key × Appends held got key

-- 'Board: 16 frames from 0x100000': four levels, and nothing was ever written to its words
unfoldable pub first_board : Board
first_board =
    (start
    (board_of (replicate 8192 0) (replicate 1024 0) (replicate 6152 0) (replicate 6160 0) (replicate 2056 0) (record { frames = unused 0 0; root = record { 0 = 0 } })) 0x10_0000
    0x11_0000 4).board
