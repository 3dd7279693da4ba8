-- How code holds a tape and a key: bytes and text in two buffers of 65,536 bytes, more of the one read and what is put of the other written on the way.
use Rattle.std.specs.Prelude.{ℕ, ◌+◌, ◌≤◌, ◌≡◌, Bool, true, false, List, [], ◌∷◌, ◌++◌, leb, Result, Ok, Err, length, take, drop}
use Rattle.bits.specs.Bit.{pick}
use Rattle.tape.specs.Text.{count_text}
use Rattle.streams.specs.declared.Source.{Source}
use Rattle.streams.specs.declared.Source.TheVariants.{Open, Closed, Failed}

-- ---- the tape

-- the bytes that are read and not taken yet, the place of the first of them on the tape, and what is known of the tape behind them
pub record Left : Type 0 where
  pub bytes : List ℕ
  pub offset : ℕ
  pub source : Source

-- the bytes that a read brought
abbrev pub bytes_of : {E : Type 0} → Result ℕ E → ℕ
bytes_of (Ok n) = n
bytes_of (Err e) = 0

-- What was left stands unchanged in front of what is left now, at the same offset; and now a longest call is there, or the tape has ended or cannot be read.
-- Once it has, nothing more is read.
pub record Refilled (old new : Left) : Type 0 where
  pub offset : new.offset ≡ old.offset
  pub front : take (length old.bytes) new.bytes ≡ old.bytes
  pub enough : new.source ≡ Open → 26 ≤ length new.bytes
  pub closed : (old.source ≡ Open → ⊥) → (new.bytes ≡ old.bytes) × (new.source ≡ old.source)

-- the bytes of a call are taken
abbrev pub taken : ℕ → Left → Left
taken size l = record { bytes = drop size l.bytes; offset = l.offset + size; source = l.source }

abbrev pub readable : Source → Bool
readable Open = true
readable Closed = true
readable Failed = false

-- ---- the text

-- what stays of the text that is put: all while there is room for a line of 64 bytes behind it, else it is written
abbrev pub kept : List ℕ → List ℕ
kept t = pick (leb (length t) 65472) t []

-- .. and what is written of it
abbrev pub gone : List ℕ → List ℕ
gone t = pick (leb (length t) 65472) [] t

-- 'Last line: `frames` and the counter', behind what is still to be written
abbrev pub frames_word : List ℕ
frames_word = 102 ∷ 114 ∷ 97 ∷ 109 ∷ 101 ∷ 115 ∷ []

abbrev pub last_text : List ℕ → ℕ → List ℕ
last_text t n = kept t ++ count_text frames_word n
