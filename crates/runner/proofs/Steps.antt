-- A turn of the loop, as code makes it.
use Prim.{Unit}
use Prim.Native.Nat.{ℕ, ◌-◌, ◌≤◌, ◌<◌}
use mathlib.Core.Path.{◌≡◌, refl, sym, ◌∙◌, ap, subst}
use mathlib.Core.Bool.{Bool, true, false}
use mathlib.Core.List.{List, [], ◌∷◌, ◌++◌, append_assoc}
use Rattle.std.specs.Prelude.{Option, None, Some, Result, Ok, Err, OnOk, IsErr, IsErrAnd}
use Rattle.std.specs.Result.{is_ok}
use Rattle.std.specs.Option.{is_some}
use Rattle.std.specs.ControlFlow.{break_value}
use Rattle.std.specs.declared.ops.ControlFlow.{ControlFlow}
use Rattle.std.specs.declared.ops.ControlFlow.TheVariants.{Continue, Break}
use Rattle.std.proofs.lemmas.List.{append_cancel_left}
use Rattle.std.specs.Io.KnownBytes.{Consumes, Keeps, IsAtEnd, prepend_known, append_known}
use native.Mathlib.Omega.{arith}
use lib.Dec.{leb}
use lib.ListN.{length, drop, length-append, take-append-drop}
use borrow.Author.Tests.{leb-true, lt-leb, le-leb}
use Rattle.bits.specs.Bit.{pick, unless}
use Rattle.board.specs.Board.{Board}
use Rattle.streams.specs.declared.Source.TheVariants.{Open, Closed}
use Rattle.streams.specs.Streams.{Left, Refilled, kept, readable}
use Rattle.turn.specs.Run.{Stage, Going, Ended, Unread, Unwritten, TooLong, Run, run, step, goes, turn, stage_behind}
use Rattle.runner.specs.declared.error.RunError.{RunError}
use Rattle.runner.specs.Ends.{stage_stopped, stage_of_turn, stage_of_run}
use Rattle.runner.specs.Loop.{stage_of, Turned, TurnedBy}

-- ---- what a refill takes from the reader

prepend_read : (a b : Option (List ℕ)) (front more whole : List ℕ) → whole ≡ front ++ more → Keeps (prepend_known front a) (prepend_known whole b) → Consumes a b more
prepend_read None b front more whole e p = tt
prepend_read (Some x) None front more whole e p = absurd p
prepend_read (Some x) (Some y) front more whole e p =
    append_cancel_left front x (more ++ y) (sym p ∙ ap (λ (l : List ℕ). l ++ y) e ∙ append_assoc front more y)

-- ---- a turn: what was read and what is kept, and a step

empty : (l : List ℕ) → length l ≡ 0 → l ≡ []
empty [] h = refl
empty (x ∷ l) h = absurd (omega arith)

pub no : false ≡ true → ⊥
no e = let z : ◌≡◌ {A = ℕ} 0 1 = cc in omega arith

module _ (i r : Left) (b : Board) (text : List ℕ) (s : Stage) (ok : Refilled i r) where
  abbrev rest : List ℕ
  rest = drop (length i.bytes) r.bytes

  joined : r.bytes ≡ i.bytes ++ rest
  joined = sym (take-append-drop (length i.bytes) r.bytes) ∙ ap (λ (x : List ℕ). x ++ rest) ok.front

  pub turned : (put : List ℕ) (read written : Bool) (stage : Stage) (after : Run) → put ≡ kept text → read ≡ readable r.source → stage ≡ stage_of read written r.offset
      → after ≡ turn (run r.bytes r.offset b put stage) → Turned i.source (run i.bytes i.offset b text s) r.source after
  turned put read written stage after e f g h = record {
    more = rest;
    written = written;
    stepped = h ∙ (λ j. turn (run (joined j) (ok.offset j) b (e j) ((g ∙ (λ k. stage_of (f k) written (ok.offset k))) j)));
    enough = λ o. omega (arith, ok.enough o, ap length joined);
    closed = λ o. (none o, (ok.closed o).1);
  }
    where
      none : (i.source ≡ Open → ⊥) → rest ≡ []
      none o = empty rest (omega (arith, ap length joined, ap length (ok.closed o).0, length-append i.bytes rest))

  pub turned_by : (put : List ℕ) (read written : Bool) (stage : Stage) (after : Run) → put ≡ kept text → read ≡ readable r.source → stage ≡ stage_of read written r.offset
      → after ≡ turn (run r.bytes r.offset b put stage) → (had has held got : Option (List ℕ))
      → Keeps (prepend_known i.bytes had) (prepend_known r.bytes has) → ((i.source ≡ Closed → IsAtEnd had) → r.source ≡ Closed → IsAtEnd has)
      → (written ≡ true → Keeps (append_known held text) (append_known got put))
      → TurnedBy i.source (run i.bytes i.offset b text s) r.source after had has held got
  unfolding turned
  turned_by put read written stage after e f g h had has held got kept end wrote = record {
    turned = turned put read written stage after e f g h;
    read = prepend_read had has i.bytes rest r.bytes joined kept;
    end = end;
    put = λ w. subst (λ (t : List ℕ). Keeps (append_known held text) (append_known got t)) e (wrote w);
  }

pub turn_stays : (r : Run) → goes r.stage ≡ false → r ≡ turn r
unfolding turn
turn_stays r e = sym (ap (λ (t : Bool). pick t (step r) r) e)

pub turn_steps : (r : Run) → goes r.stage ≡ true → step r ≡ turn r
unfolding turn
turn_steps r e = sym (ap (λ (t : Bool). pick t (step r) r) e)

pub stepped_to : (after r : Run) → after ≡ step r → goes r.stage ≡ true → after ≡ turn r
stepped_to after r e g = e ∙ turn_steps r g

-- ---- which stage it is

pub stage_unread : (x w : Bool) (o : ℕ) → x ≡ false → Unread ≡ stage_of x w o
stage_unread x w o e = rw e refl

pub stage_unwritten : (x w : Bool) (o : ℕ) → x ≡ true → w ≡ false → Unwritten ≡ stage_of x w o
stage_unwritten x w o e f = rw (e, f) refl

pub stage_long : (x w : Bool) (o : ℕ) → x ≡ true → w ≡ true → 9223372036854775808 < o → TooLong ≡ stage_of x w o
stage_long x w o e f h = rw (e, f, lt-leb o 9223372036854775808 h) refl

pub stage_going : (x w : Bool) (o : ℕ) → x ≡ true → w ≡ true → o ≤ 9223372036854775808 → Going ≡ stage_of x w o
stage_going x w o e f h = rw (e, f, le-leb o 9223372036854775808 h) refl

-- the stage of an error that is handed on
pub stopped_at : (r : Result (ControlFlow (Unit {0}) (Unit {0})) RunError) (e : RunError) → IsErr r × IsErrAnd r (λ f. f ≡ e) → stage_of_turn r ≡ stage_stopped e
stopped_at (Ok f) e p = absurd (no p.0)
stopped_at (Err f) e p = ap stage_stopped p.1

pub run_stopped_at : (r : Result (Unit {0}) RunError) (e : RunError) → IsErr r × IsErrAnd r (λ f. f ≡ e) → stage_of_run r ≡ stage_stopped e
run_stopped_at (Ok f) e p = absurd (no p.0)
run_stopped_at (Err f) e p = ap stage_stopped p.1

-- whether a turn is the last
pub goes_on : (f : ControlFlow (Unit {0}) (Unit {0})) → is_some (break_value f) ≡ false → stage_behind f ≡ Going
goes_on (Continue u) e = refl
goes_on (Break u) e = absurd (no (sym e))

pub ends : (f : ControlFlow (Unit {0}) (Unit {0})) → is_some (break_value f) ≡ true → stage_behind f ≡ Ended
ends (Continue u) e = absurd (no e)
ends (Break u) e = refl

pub is_false : (x : Bool) → (x ≡ true → false ≡ true) → x ≡ false
is_false true f = absurd (no (f refl))
is_false false f = refl

on_ok : {T E : Type 0} {P : Type 0} (r : Result T E) → OnOk r P → is_ok r ≡ true → P
on_ok (Ok x) p e = p
on_ok (Err x) p e = absurd (no e)

-- ---- a turn, by the answers of the refill and of the flush

module _ {E : Type 0} (i r : Left) (b : Board) (text put : List ℕ) (flushed : Result (Unit {0}) E) (had has held got : Option (List ℕ)) (ok : Refilled i r)
    (e : put ≡ kept text) (rest_kept : Keeps (prepend_known i.bytes had) (prepend_known r.bytes has)) (end : (i.source ≡ Closed → IsAtEnd had) → r.source ≡ Closed → IsAtEnd has)
    (wrote : OnOk flushed (Keeps (append_known held text) (append_known got put))) where
  abbrev Became : Run → Type 0
  Became after = TurnedBy i.source (run i.bytes i.offset b text Going) r.source after had has held got

  pub by_stop : (stage : Stage) → stage ≡ stage_of (readable r.source) (is_ok flushed) r.offset → goes stage ≡ false → Became (run r.bytes r.offset b put stage)
  by_stop stage g h =
      turned_by i r b text Going ok put (readable r.source) (is_ok flushed) stage (run r.bytes r.offset b put stage) e refl g (turn_stays (run r.bytes r.offset b put stage) h)
      had has held got rest_kept end (on_ok flushed wrote)

  pub by_step : (after : Run) → Going ≡ stage_of (readable r.source) (is_ok flushed) r.offset → after ≡ step (run r.bytes r.offset b put Going) → Became after
  by_step after g h =
      turned_by i r b text Going ok put (readable r.source) (is_ok flushed) Going after e refl g (stepped_to after (run r.bytes r.offset b put Going) h refl)
      had has held got rest_kept end (on_ok flushed wrote)

-- a turn is played behind 2^63 bytes at most
pub short : (read written : Bool) (offset : ℕ) → goes (stage_of read written offset) ≡ true → offset ≤ 9223372036854775808
short read written offset = by read written (leb offset 9223372036854775808) refl
  where
    by : (r w t : Bool) → leb offset 9223372036854775808 ≡ t → goes (unless r Unread (unless w Unwritten (pick t Going TooLong))) ≡ true → offset ≤ 9223372036854775808
    by true true true e g = leb-true offset 9223372036854775808 e
    by true true false e g = absurd (no g)
    by true false t e g = absurd (no g)
    by false w t e g = absurd (no g)
