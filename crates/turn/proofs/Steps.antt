-- One step of a run, as code makes it.
use Prim.Native.Nat.{ℕ, ◌+◌, ◌≤◌}
use mathlib.Core.Path.{◌≡◌, sym, ◌∙◌, ap}
use mathlib.Core.List.{List, ◌++◌}
use lib.ListN.{drop}
use Rattle.std.specs.Prelude.{Ok, Err, None, Some}
use Rattle.tape.specs.declared.Call.{Call}
use Rattle.tape.specs.declared.Malformed.{Malformed}
use Rattle.tape.specs.Tape.{next, call_size}
use Rattle.tape.specs.Text.{line_text, count_text}
use Rattle.player.specs.Play.{Turn, play}
use Rattle.turn.specs.Run.{Stage, Going, Ended, Run, run, tape_word, played, step_by, step}

-- ---- a step, by what stands next

pub step_finished : (r : Run) → next r.left ≡ Ok None → run r.left r.offset r.board r.text Ended ≡ step r
unfolding step
step_finished r e = sym (ap (step_by r) e)

pub step_malformed : (r : Run) (m : Malformed) (text : List ℕ) → next r.left ≡ Err m → text ≡ r.text ++ count_text tape_word r.offset
    → run r.left r.offset r.board text Ended ≡ step r
unfolding step
step_malformed r m text e f = ap (λ (t : List ℕ). run r.left r.offset r.board t Ended) f ∙ sym (ap (step_by r) e)

pub step_read : (r : Run) (c : Call) (t : Turn) (text : List ℕ) → next r.left ≡ Ok (Some c) → t ≡ play r.board c → text ≡ r.text ++ line_text t.kind t.line
    → run (drop (call_size c) r.left) (r.offset + call_size c) t.board text Going ≡ step r
unfolding step
step_read r c t text e p f =
    (λ j. run (drop (call_size c) r.left) (r.offset + call_size c) t.board (f j) Going) ∙ (λ j. played r (call_size c) (p j)) ∙ sym (ap (step_by r) e)
