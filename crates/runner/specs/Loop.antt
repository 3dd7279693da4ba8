-- A turn of the key program's loop, and where the loop ends.
use Rattle.std.specs.Prelude.{ℕ, ◌≤◌, ◌≡◌, Bool, true, Option, None, Some, List, [], ◌++◌, leb, length}
use Rattle.std.specs.Io.KnownBytes.{Consumes, Keeps, Appends, IsAtEnd, append_known}
use Rattle.bits.specs.Bit.{pick, unless}
use Rattle.board.specs.Board.{Board}
use Rattle.streams.specs.declared.Source.{Source}
use Rattle.streams.specs.declared.Source.TheVariants.{Open, Closed}
use Rattle.streams.specs.Streams.{readable, kept}
use Rattle.turn.specs.Run.{Stage, Going, Ended, Unread, Unwritten, TooLong, Run, run, turn, begun, turns}

-- whether there is a turn to play: not where a read or a write failed, nor behind 2^63 bytes
abbrev pub stage_of : Bool → Bool → ℕ → Stage
stage_of read written offset = unless read Unread (unless written Unwritten (pick (leb offset 9223372036854775808) Going TooLong))

-- A turn of the loop, from a tape known as s to one known as t: more is read behind what is left, some of the text is written, and a step follows.
pub record Turned (s : Source) (before : Run) (t : Source) (after : Run) : Type 0 where
  pub more : List ℕ
  pub written : Bool
  pub stepped :
      after ≡ turn (run (before.left ++ more) before.offset before.board (kept before.text) (stage_of (readable t) written before.offset))
  pub enough : t ≡ Open → 26 ≤ length (before.left ++ more)
  pub closed : (s ≡ Open → ⊥) → (more ≡ []) × (t ≡ s)

-- a run that stopped stands where it went on before
abbrev pub told : Stage → Stage
told Going = Going
told Ended = Ended
told Unread = Going
told Unwritten = Going
told TooLong = Going

-- Where the loop ends: `tape` is all that was read and `text` all that was written, and the run of this tape stands here after some turns.
pub record Ran (b : Board) (after : Run) : Type 0 where
  pub tape : List ℕ
  pub text : List ℕ
  pub count : ℕ
  pub stands : turns count (begun b tape) ≡ run after.left after.offset after.board (text ++ after.text) (told after.stage)

-- ---- the same, where it is known what a reader has left (`tape`, and `rest` afterwards) and what a writer holds (`held`, and `got` afterwards)

-- What is read the reader gave, and where the tape has ended it has nothing left; what is written the writer got.
pub record TurnedBy (s : Source) (before : Run) (t : Source) (after : Run) (tape rest held got : Option (List ℕ)) : Type 0 where
  pub turned : Turned s before t after
  pub read : Consumes tape rest turned.more
  pub end : (s ≡ Closed → IsAtEnd tape) → t ≡ Closed → IsAtEnd rest
  pub put : turned.written ≡ true → Keeps (append_known held before.text) (append_known got (kept before.text))

-- the run of the whole tape stands here after so many turns, with what the reader has left behind the bytes that are read, and `text` in front of what is put
abbrev pub StandsAt : Board → Option (List ℕ) → Option (List ℕ) → ℕ → List ℕ → Run → Type 0
StandsAt b None rest count text after = Unit {0}
StandsAt b (Some tape) None count text after = ⊥
StandsAt b (Some tape) (Some rest) count text after = turns count (begun b tape) ≡ run (after.left ++ rest) after.offset after.board (text ++ after.text) (told after.stage)

-- Where the loop ends: the run of the whole tape stands here after some turns, and where nothing failed the writer got the text in front.
pub record LoopEndBy (b : Board) (tape rest held got : Option (List ℕ)) (after : Run) : Type 0 where
  pub count : ℕ
  pub text : List ℕ
  pub stands : StandsAt b tape rest count text after
  pub written : (after.stage ≡ Unread → ⊥) → (after.stage ≡ Unwritten → ⊥) → Appends held got text
