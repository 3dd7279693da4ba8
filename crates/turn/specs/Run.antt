-- A run of the key program, document 01's 'The key program': where it stands, and one step of it.
use Rattle.std.specs.Prelude.{ℕ, zero, suc, ◌+◌, Bool, true, false, List, [], ◌∷◌, ◌++◌, Ok, Err, None, Some, drop}
use Rattle.std.specs.declared.ops.ControlFlow.{ControlFlow}
use Rattle.std.specs.declared.ops.ControlFlow.TheVariants.{Continue, Break}
use Rattle.bits.specs.Bit.{pick}
use Rattle.board.specs.declared.Records.{Records}
use Rattle.board.specs.Board.{Board}
use Rattle.board.specs.Packed.{board_of}
use Rattle.tape.specs.Tape.{Next, next, call_size}
use Rattle.tape.specs.Text.{line_text, count_text}
use Rattle.player.specs.Play.{Turn, play}
use Rattle.streams.specs.Streams.{Left}

-- How far a run is: under way, at its end, or stopped without one: a read or a write failed, or the tape is longer than a run counts.
pub data Stage : Type 0 where
  Going : Stage
  Ended : Stage
  Unread : Stage
  Unwritten : Stage
  TooLong : Stage

-- the bytes of the tape that are not taken yet, the offset of the first of them, the board, the text put so far, and how far the run is
pub record Run : Type 0 where
  pub left : List ℕ
  pub offset : ℕ
  pub board : Board
  pub text : List ℕ
  pub stage : Stage

abbrev pub run : List ℕ → ℕ → Board → List ℕ → Stage → Run
run l o b t s = record { left = l; offset = o; board = b; text = t; stage = s }

-- the word `tape` of a line
abbrev pub tape_word : List ℕ
tape_word = 116 ∷ 97 ∷ 112 ∷ 101 ∷ []

-- 'Each line: kind, answer (0 if met), value'; the bytes behind the call are left
abbrev pub played : Run → ℕ → Turn → Run
played r size t = run (drop size r.left) (r.offset + size) t.board (r.text ++ line_text t.kind t.line) Going

-- 'An unknown kind, short body or other first byte in kind 3 ends the run with `tape` and that kind byte's offset before the last line'
abbrev pub step_by : Run → Next → Run
step_by r (Ok None) = run r.left r.offset r.board r.text Ended
step_by r (Err e) = run r.left r.offset r.board (r.text ++ count_text tape_word r.offset) Ended
step_by r (Ok (Some c)) = played r (call_size c) (play r.board c)

unfoldable pub step : Run → Run
step r = step_by r (next r.left)

abbrev pub goes : Stage → Bool
goes Going = true
goes Ended = false
goes Unread = false
goes Unwritten = false
goes TooLong = false

-- a run that has ended, or stopped, stays as it is
unfoldable pub turn : Run → Run
turn r = pick (goes r.stage) (step r) r

-- a tape before its first call
abbrev pub begun : Board → List ℕ → Run
begun b tape = run tape 0 b [] Going

unfoldable pub turns : ℕ → Run → Run
turns zero r = r
turns (suc n) r = turn (turns n r)

-- where a run is behind a step, by what code says of it: whether it goes on
abbrev pub stage_behind : ControlFlow (Unit {0}) (Unit {0}) → Stage
stage_behind (Continue u) = Going
stage_behind (Break u) = Ended

-- a run as code holds it: the board, the tape's bytes and the text
abbrev pub run_of : List ℕ → List ℕ → List ℕ → List ℕ → List ℕ → Records → Left → List ℕ → Stage → Run
run_of words bitmap kernel user marked records input out stage =
    run input.bytes input.offset (board_of words bitmap kernel user marked records) out stage
