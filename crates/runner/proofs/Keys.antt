-- From where the loop ends to the key of the whole tape.
use Rattle.std.proofs.Common.{◌≡◌, List, ◌++◌, ℕ, Option, None, Some, sym, ap, ◌∙◌, append_assoc, replicate}
use Rattle.std.specs.Prelude.{Result, Ok, Err, OnOk}
use Rattle.std.specs.Io.KnownBytes.{Appends}
use Rattle.std.proofs.KnownBytes.{Appends-trans}
use Rattle.frame.specs.declared.FrameAllocator.{FrameAllocator}
use Rattle.frame.specs.Frames.{unused}
use Rattle.board.specs.Board.{Board, start}
use Rattle.board.specs.Packed.{board_of}
use Rattle.tape.specs.Text.{count_text}
use Rattle.streams.specs.Streams.{frames_word}
use Rattle.turn.specs.Run.{Ended, Unread, Unwritten, Run}
use Rattle.runner.specs.Key.{IsKey, WritesKey, first_board}
use Rattle.runner.specs.Loop.{told, StandsAt, LoopEndBy}

-- what follows from two facts of a value follows where there is one
pub on_both : {T E : Type 0} {P Q K : Type 0} (r : Result T E) → OnOk r P → OnOk r Q → (P → Q → K) → OnOk r K
on_both (Ok x) p q f = f p q
on_both (Err x) p q f = tt

-- a run that ended stands at the end of the whole tape's run, and with its last line all is written
pub key_written : (b : Board) (tape rest held got has : Option (List ℕ)) (after : Run) → LoopEndBy b tape rest held got after → after.stage ≡ Ended
    → Appends got has (after.text ++ count_text frames_word after.board.mem.frames.fa.allocated) → WritesKey b tape held has
key_written b None rest held got has after h e p = tt
key_written b (Some x) rest held got has after h e p = by rest h.stands
  where
    last : List ℕ
    last = count_text frames_word after.board.mem.frames.fa.allocated

    all : Appends held has (h.text ++ (after.text ++ last))
    all = Appends-trans held got has h.text (after.text ++ last) (h.written (λ u. unread (sym e ∙ u)) (λ u. unwritten (sym e ∙ u))) p
      where
        unread : Ended ≡ Unread → ⊥
        unread u = cc

        unwritten : Ended ≡ Unwritten → ⊥
        unwritten u = cc

    by : (y : Option (List ℕ)) → StandsAt b (Some x) y h.count h.text after → (key : List ℕ) × IsKey b x key × Appends held has key
    by None q = absurd q
    by (Some y) q = (
      h.text ++ (after.text ++ last),
      record {
        count = h.count;
        ended = ap (λ (r : Run). r.stage) q ∙ ap told e;
        lines =
            sym (append_assoc h.text after.text last)
            ∙ sym (ap (λ (r : Run). r.text ++ count_text frames_word r.board.mem.frames.fa.allocated) q);
      },
      all,
    )

-- ---- the board that a tape is played on

pub first : (b : Board) (f : FrameAllocator)
    → b ≡ (start
    (board_of (replicate 8192 0) (replicate 1024 0) (replicate 6152 0) (replicate 6160 0) (replicate 2056 0) (record { frames = f; root = record { 0 = 0 } })) 0x10_0000
    0x11_0000 4).board
    → f ≡ unused 0 0 → b ≡ first_board
unfolding first_board
first b f s e =
    s ∙ ap (λ (k : FrameAllocator). (start
    (board_of (replicate 8192 0) (replicate 1024 0) (replicate 6152 0) (replicate 6160 0) (replicate 2056 0) (record { frames = k; root = record { 0 = 0 } })) 0x10_0000
    0x11_0000 4).board) e
