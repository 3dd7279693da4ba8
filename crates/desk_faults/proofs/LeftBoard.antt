-- The one equation of the start, whose refusal leaves every part as it was.
use Prim.Native.Nat.{ℕ}
use mathlib.Core.Path.{◌≡◌, refl, ◌∙◌, ap}
use mathlib.Core.Bool.{Bool, true, false}
use mathlib.Core.List.{List}
use lib.Dec.{eqb}
use lib.ListN.{length}
use Rattle.std.specs.Prelude.{Ok, Err, Result, ⊤}
use Rattle.answer.specs.declared.Refusal.{Refusal}
use Rattle.answer.specs.declared.Refusal.TheVariants.{BrokenRecord}
use Rattle.bits.specs.Bit.{unless, both}
use Rattle.answer.specs.Numbers.{answer_line}
use Rattle.answer.specs.Outcomes.{as_answer}
use Rattle.answer.specs.declared.Line.{Line}
use Rattle.vm_list.specs.Packed.{vm_size}
use Rattle.mappings.specs.Packed.{mmap_fit}
use Rattle.cow.specs.Packed.{marked_fit}
use Rattle.board.specs.declared.Records.{Records}
use Rattle.board.specs.declared.Started.{Started}
use Rattle.board.specs.Board.{start, may_start}
use Rattle.board.specs.Packed.{BoardBytes, board_in, board_bytes, StartedBytes, started_bytes, packed_by, start_on}
use Rattle.board.proofs.Outcomes.{start_met, start_refused as start_stopped}
use Rattle.layout.specs.Parts.{fields_out, fields_fit}
use Rattle.layout.specs.Left.{Left, left, broken_line, unless_fit, IsRefusal, Unchanged, no_leftovers}
use Rattle.layout.specs.Memory.{plain_line}
use Rattle.layout.proofs.Left.{broken_left, unchanged_left}
use Rattle.desk_faults.specs.Board.{BoardParts, board_parts, board_fit, board_of_parts, board_packed, left_of, start_left, packed_start}

module _ (words fields bits : List ℕ) (root : ℕ) (kernel user marked : List ℕ) (from to levels : ℕ) where
  abbrev lent : BoardParts
  lent = board_parts words fields bits root kernel user marked

  pub start_broken : {r : Line} → fields_fit fields ≡ false → r ≡ broken_line → left r lent ≡ packed_start lent from to levels
  unfolding packed_start
  start_broken h e = broken_left {ok = board_fit lent} lent _ (rw h refl) e

  -- what is left of a board that was started: its record and root are written where the start is met
  abbrev wrote : StartedBytes → Left BoardParts
  wrote s =
      let b = s.board in
      left (answer_line s.answer)
      (record {
        words = b.mem.words;
        fields = left_of s.answer fields (fields_out b.mem.frames.fa);
        marks = b.mem.frames.bits;
        root = left_of s.answer root b.root;
        kernel = b.kernel;
        user = b.user;
        marked = b.marked;
      })

  -- a start does not look at the record and root that it is given
  module _ (none : Records) where
    abbrev given : BoardBytes
    given = board_bytes words bits kernel user marked none

    started : (a : Result ⊤ Refusal) → may_start (length words) from to levels ≡ a
        → let d = start (board_in given) from to levels in wrote (packed_by given d.answer d.board) ≡ start_left lent (start (board_of_parts lent) from to levels)
    started (Ok tt) e = rw (start_met (board_in given) from to levels e, start_met (board_of_parts lent) from to levels e) refl
    started (Err n) e = rw (start_stopped (board_in given) from to levels n e, start_stopped (board_of_parts lent) from to levels n e) refl

    tested : (ok : Bool) → fields_fit fields ≡ true
        → let d = start (board_in given) from to levels in
        wrote (unless ok (record { answer = Err BrokenRecord; board = given }) (packed_by given d.answer d.board))
        ≡ unless_fit (both (fields_fit fields) ok) lent (start_left lent (start (board_of_parts lent) from to levels))
    tested true fit = rw fit (started (may_start (length words) from to levels) refl)
    tested false fit = rw fit refl

    pub start_did : {ws fs ks us ms : List ℕ} (bs : List ℕ) {rt : ℕ} {x : Started} {r : Line} → fields_fit fields ≡ true
        → started_bytes x ws bs ks us ms ≡ start_on given from to levels → r ≡ answer_line x.answer
        → (fs ≡ left_of x.answer fields (fields_out x.records.frames)) × (rt ≡ left_of x.answer root x.records.root.0)
        → left r (board_parts ws fs bs rt ks us ms) ≡ packed_start lent from to levels
    unfolding packed_start start_on
    start_did {ws = ws} {ks = ks} {us = us} {ms = ms} bs fit e r (fs, rt) =
        (λ j. left (r j) (board_parts ws (fs j) bs (rt j) ks us ms)) ∙ ap wrote e ∙ tested (both (eqb (length kernel) vm_size) (both (mmap_fit user) (marked_fit marked))) fit

  -- 10 and 11
  pub start_refused : Unchanged no_leftovers lent (packed_start lent from to levels)
  unfolding packed_start
  start_refused = unchanged_left no_leftovers (board_fit lent) lent _ (λ _. by (start (board_of_parts lent) from to levels).answer)
    where
      by : (w : Result ℕ Refusal) → IsRefusal no_leftovers (plain_line w).number → left_of (as_answer w) lent (board_packed (start (board_of_parts lent) from to levels).board) ≡ lent
      by (Ok x) h = absurd (h refl)
      by (Err n) h = refl
