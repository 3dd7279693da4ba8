-- Turn after turn: what the loop holds is the run of all that it read, with all that it wrote in front of its text.
use Prim.Native.Nat.{ℕ, suc, ◌+◌, ◌≤◌, ◌<◌}
use mathlib.Core.Path.{◌≡◌, refl, sym, ◌∙◌, ap, subst}
use mathlib.Core.Bool.{Bool, true, false}
use mathlib.Core.List.{List, [], ◌++◌, append_assoc, append-nil}
use Rattle.std.specs.Prelude.{Option, None, Some, Ok, Err}
use Rattle.std.proofs.lemmas.List.{append_cancel_right}
use Rattle.std.proofs.KnownBytes.{Appends-nil, Appends-trans}
use Rattle.std.specs.Io.KnownBytes.{Consumes, Keeps, Appends, IsAtEnd, append_known}
use native.Mathlib.Omega.{arith}
use lib.Dec.{leb}
use lib.ListN.{length, drop}
use lib.Seq.{drop-append-le}
use Rattle.bits.specs.Bit.{pick, unless}
use Rattle.board.specs.Board.{Board}
use Rattle.tape.specs.Tape.{Next, next, call_size}
use Rattle.tape.specs.Text.{line_text, count_text}
use Rattle.tape.proofs.Sizes.{size_of_call, call_there, next_more}
use Rattle.player.specs.Play.{Turn, play}
use Rattle.streams.specs.declared.Source.{Source}
use Rattle.streams.specs.declared.Source.TheVariants.{Open, Closed, Failed}
use Rattle.turn.specs.Run.{Stage, Going, Ended, Unread, Unwritten, TooLong, Run, run, tape_word, played, step_by, step, goes, turn, begun, turns}
use Rattle.streams.specs.Streams.{kept, readable}
use Rattle.runner.specs.Loop.{stage_of, Turned, told, Ran, TurnedBy, StandsAt, LoopEndBy}
use Rattle.streams.proofs.Buffers.{shut, broken}
use Rattle.runner.proofs.Steps.{turn_stays, turn_steps, short, no}

-- ---- more of the tape behind, and more text in front, change nothing of a step

abbrev behind : Run → List ℕ → Run
behind r m = run (r.left ++ m) r.offset r.board r.text r.stage

abbrev in_front : List ℕ → Run → Run
in_front w r = run r.left r.offset r.board (w ++ r.text) r.stage

step_behind : (r : Run) (m : List ℕ) → next (r.left ++ m) ≡ next r.left → step (behind r m) ≡ behind (step r) m
unfolding step
step_behind r m e = ap (step_by (behind r m)) e ∙ by (next r.left) refl
  where
    bytes : (t : Turn) (size : ℕ) → size ≤ length r.left → played (behind r m) size t ≡ behind (played r size t) m
    bytes t size h =
        ap (λ (l : List ℕ). run l (r.offset + size) t.board (r.text ++ line_text t.kind t.line) Going) (drop-append-le size r.left m h)

    by : (x : Next) → next r.left ≡ x → step_by (behind r m) x ≡ behind (step_by r x) m
    by (Ok None) p = refl
    by (Err e) p = refl
    by (Ok (Some c)) p = bytes (play r.board c) (call_size c) (call_there r.left c p)

step_front : (w : List ℕ) (r : Run) → step (in_front w r) ≡ in_front w (step r)
unfolding step
step_front w r = by (next r.left)
  where
    lines : (t : Turn) (size : ℕ) → played (in_front w r) size t ≡ in_front w (played r size t)
    lines t size =
        ap (λ (x : List ℕ). run (drop size r.left) (r.offset + size) t.board x Going) (append_assoc w r.text (line_text t.kind t.line))

    by : (x : Next) → step_by (in_front w r) x ≡ in_front w (step_by r x)
    by (Ok None) = refl
    by (Err e) = ap (λ (x : List ℕ). run r.left r.offset r.board x Ended) (append_assoc w r.text (count_text tape_word r.offset))
    by (Ok (Some c)) = lines (play r.board c) (call_size c)

told_step : (r : Run) → told (step r).stage ≡ (step r).stage
unfolding step
told_step r = by (next r.left)
  where
    by : (x : Next) → told (step_by r x).stage ≡ (step_by r x).stage
    by (Ok None) = refl
    by (Err e) = refl
    by (Ok (Some c)) = refl

-- ---- the offset rises with each call

pub record Further (offset : ℕ) (after : Run) : Type 0 where
  pub least : offset ≤ after.offset
  pub most : after.offset ≤ offset + 26
  pub more : goes after.stage ≡ true → offset < after.offset

step_further : (r : Run) → Further r.offset (step r)
unfolding step
step_further r = by (next r.left)
  where
    by : (x : Next) → Further r.offset (step_by r x)
    by (Ok None) = record { least = omega arith; most = omega arith; more = λ e. absurd (no e) }
    by (Err m) = record { least = omega arith; most = omega arith; more = λ e. absurd (no e) }
    by (Ok (Some c)) = record { least = omega arith; most = omega (arith, size_of_call c); more = λ _. omega arith }

-- ---- a stage that is met before a step

told_stage : (r w : Bool) (o : ℕ) → told (stage_of r w o) ≡ Going
told_stage r w o = by r w (leb o 9223372036854775808)
  where
    by : (r w t : Bool) → told (unless r Unread (unless w Unwritten (pick t Going TooLong))) ≡ Going
    by true true true = refl
    by true true false = refl
    by true false t = refl
    by false w t = refl

pub only_going : (s : Stage) → goes s ≡ true → s ≡ Going
only_going Going e = refl
only_going Ended e = absurd (no e)
only_going Unread e = absurd (no e)
only_going Unwritten e = absurd (no e)
only_going TooLong e = absurd (no e)

-- ---- what the loop holds, whatever is still to be read

pub record Held (b : Board) (s : Source) (now : Run) : Type 0 where
  pub tape : List ℕ
  pub text : List ℕ
  pub count : ℕ
  pub stands : (m : List ℕ) → ((s ≡ Open → ⊥) → m ≡ [])
      → turns count (begun b (tape ++ m)) ≡ run (now.left ++ m) now.offset now.board (text ++ now.text) (told now.stage)

pub held_none : (b : Board) → Held b Open (run [] 0 b [] Going)
unfolding turns
held_none b = record { tape = []; text = []; count = 0; stands = λ m _. refl }

pub held_ran : (b : Board) (s : Source) (now : Run) → Held b s now → Ran b now
held_ran b s now h = record {
  tape = h.tape;
  text = h.text;
  count = h.count;
  stands =
      ap (λ (l : List ℕ). turns h.count (begun b l)) (sym (append-nil h.tape)) ∙ h.stands [] (λ _. refl)
      ∙ ap (λ (l : List ℕ). run l now.offset now.board (h.text ++ now.text) (told now.stage)) (append-nil now.left);
}

-- what is written of the text that is put
abbrev gone_text : List ℕ → List ℕ
gone_text t = pick (leb (length t) 65472) [] t

gone_kept : (t : List ℕ) → t ≡ gone_text t ++ kept t
gone_kept t = by (leb (length t) 65472)
  where
    by : (x : Bool) → t ≡ pick x [] t ++ pick x t []
    by true = refl
    by false = sym (append-nil t)

-- ---- a turn on what stands in front of more of the tape, behind more of the text

module _ (s t : Source) (now after : Run) (u : Turned s now t after) where
  abbrev ready : Stage → Run
  ready x = run (now.left ++ u.more) now.offset now.board (kept now.text) x

  abbrev met : Stage
  met = stage_of (readable t) u.written now.offset

  -- no byte stands behind a tape that has ended
  abbrev Behind : List ℕ → Type 0
  Behind m = (t ≡ Open → ⊥) → m ≡ []

  texts : (w : List ℕ) → w ++ now.text ≡ (w ++ gone_text now.text) ++ kept now.text
  texts w = ap (λ (x : List ℕ). w ++ x) (gone_kept now.text) ∙ sym (append_assoc w (gone_text now.text) (kept now.text))

  same : (m : List ℕ) → Behind m → next ((now.left ++ u.more) ++ m) ≡ next (now.left ++ u.more)
  same m ok = by t refl
    where
      all : m ≡ [] → next ((now.left ++ u.more) ++ m) ≡ next (now.left ++ u.more)
      all e = ap (λ (x : List ℕ). next ((now.left ++ u.more) ++ x)) e ∙ ap next (append-nil (now.left ++ u.more))

      by : (x : Source) → t ≡ x → next ((now.left ++ u.more) ++ m) ≡ next (now.left ++ u.more)
      by Open e = next_more (now.left ++ u.more) m (u.enough e)
      by Closed e = all (ok (λ o. shut (sym e ∙ o)))
      by Failed e = all (ok (λ o. broken (sym e ∙ o)))

  -- the step itself
  stepped : (w m : List ℕ) → Behind m → turn (in_front w (behind (ready Going) m)) ≡ in_front w (behind (step (ready Going)) m)
  stepped w m ok =
      sym (turn_steps (in_front w (behind (ready Going) m)) refl) ∙ step_front w (behind (ready Going) m)
      ∙ ap (in_front w) (step_behind (ready Going) m (same m ok))

  stays : goes met ≡ false → after ≡ ready met
  stays e = u.stepped ∙ sym (turn_stays (ready met) e)

  steps : goes met ≡ true → after ≡ step (ready Going)
  steps e = u.stepped ∙ sym (turn_steps (ready met) e) ∙ ap (λ (x : Stage). step (ready x)) (only_going met e)

  pub further : now.offset ≤ 9223372036854775834 → (now.offset ≤ after.offset) × (after.offset ≤ 9223372036854775834) × (goes after.stage ≡ true → now.offset < after.offset)
  further l = by (goes met) refl
    where
      by : (x : Bool) → goes met ≡ x → (now.offset ≤ after.offset) × (after.offset ≤ 9223372036854775834) × (goes after.stage ≡ true → now.offset < after.offset)
      by true e =
          let f = step_further (ready met) in
          let one : after ≡ step (ready met) = u.stepped ∙ sym (turn_steps (ready met) e) in
          subst (λ (r : Run). (now.offset ≤ r.offset) × (r.offset ≤ 9223372036854775834) × (goes r.stage ≡ true → now.offset < r.offset)) (sym one)
          (f.least, omega (arith, f.most, short (readable t) u.written now.offset e), f.more)
      by false e =
          subst (λ (r : Run). (now.offset ≤ r.offset) × (r.offset ≤ 9223372036854775834) × (goes r.stage ≡ true → now.offset < r.offset)) (sym (stays e))
          (omega arith, l, λ w. absurd (no (sym e ∙ w)))

module _ (b : Board) (s t : Source) (now after : Run) (h : Held b s now) (g : now.stage ≡ Going) (u : Turned s now t after) where
  -- the run of all that was read, before the step
  before : (m : List ℕ) → Behind s t now after u m
      → turns h.count (begun b ((h.tape ++ u.more) ++ m)) ≡ in_front (h.text ++ gone_text now.text) (behind (ready s t now after u Going) m)
  before m ok =
      ap (λ (l : List ℕ). turns h.count (begun b l)) (append_assoc h.tape u.more m) ∙ h.stands (u.more ++ m) none
      ∙ (λ j. run (sym (append_assoc now.left u.more m) j) now.offset now.board (texts s t now after u h.text j) (told (g j)))
    where
      none : (s ≡ Open → ⊥) → u.more ++ m ≡ []
      none o = (λ j. (u.closed o).0 j ++ ok (λ e. o (sym (u.closed o).1 ∙ e)) j)

  pub held_turn : Held b t after
  unfolding turns
  held_turn = by (goes (met s t now after u)) refl
    where
      by : (x : Bool) → goes (met s t now after u) ≡ x → Held b t after
      by true e =
          let one = step (ready s t now after u Going) in
          subst (Held b t) (sym (steps s t now after u e)) (record {
            tape = h.tape ++ u.more;
            text = h.text ++ gone_text now.text;
            count = suc h.count;
            stands = λ m ok.
                ap turn (before m ok) ∙ stepped s t now after u (h.text ++ gone_text now.text) m ok
                ∙ ap (λ (x : Stage). run (one.left ++ m) one.offset one.board ((h.text ++ gone_text now.text) ++ one.text) x) (sym (told_step (ready s t now after u Going)));
          })
      by false e =
          subst (Held b t) (sym (stays s t now after u e)) (record {
            tape = h.tape ++ u.more;
            text = h.text ++ gone_text now.text;
            count = h.count;
            stands = λ m ok. before m ok ∙ ap (λ (x : Stage). in_front (h.text ++ gone_text now.text) (behind (ready s t now after u x) m)) (sym (told_stage (readable t) u.written now.offset));
          })

-- ---- the same where it is known what the reader has left and what the writer holds

pub record HeldBy (b : Board) (s : Source) (now : Run) (tape rest held got : Option (List ℕ)) : Type 0 where
  pub count : ℕ
  pub text : List ℕ
  pub stands : StandsAt b tape rest count text now
  pub written : (now.stage ≡ Unread → ⊥) → (now.stage ≡ Unwritten → ⊥) → Appends held got text
  pub end : s ≡ Closed → IsAtEnd rest

open_stays : Open ≡ Closed → ⊥
open_stays e = shut (sym e)

pub held_by_none : (b : Board) (tape held : Option (List ℕ)) → HeldBy b Open (run [] 0 b [] Going) tape tape held held
unfolding turns
held_by_none b tape held = record { count = 0; text = []; stands = by tape; written = λ _ _. Appends-nil held; end = λ e. absurd (open_stays e) }
  where
    by : (k : Option (List ℕ)) → StandsAt b k k 0 [] (run [] 0 b [] Going)
    by None = tt
    by (Some x) = refl

pub held_by_ran : (b : Board) (s : Source) (now : Run) (tape rest held got : Option (List ℕ)) → HeldBy b s now tape rest held got → LoopEndBy b tape rest held got now
held_by_ran b s now tape rest held got h = record { count = h.count; text = h.text; stands = h.stands; written = h.written }

-- where nothing failed all was written that had to be
all_written : (r w : Bool) (o : ℕ) → (stage_of r w o ≡ Unread → ⊥) → (stage_of r w o ≡ Unwritten → ⊥) → w ≡ true
all_written true true o p q = refl
all_written true false o p q = absurd (q refl)
all_written false w o p q = absurd (p refl)

going_not_unread : Going ≡ Unread → ⊥
going_not_unread e = absurd (no (sym (ap goes e)))

going_not_unwritten : Going ≡ Unwritten → ⊥
going_not_unwritten e = absurd (no (sym (ap goes e)))

gone_written : (a c : Option (List ℕ)) (gone kept all : List ℕ) → all ≡ gone ++ kept → Keeps (append_known a all) (append_known c kept) → Appends a c gone
gone_written None c gone kept all e p = tt
gone_written (Some x) None gone kept all e p = absurd p
gone_written (Some x) (Some y) gone kept all e p =
    append_cancel_right y (x ++ gone) kept (p ∙ ap (λ (l : List ℕ). x ++ l) e ∙ sym (append_assoc x gone kept))

module _ (b : Board) (s t : Source) (now after : Run) (tape rest left held got has : Option (List ℕ)) (h : HeldBy b s now tape rest held got) (g : now.stage ≡ Going)
    (v : TurnedBy s now t after rest left got has) where
  abbrev u : Turned s now t after
  u = v.turned

  -- before the step
  stands_before : StandsAt b tape left h.count (h.text ++ gone_text now.text) (ready s t now after u Going)
  stands_before = by tape rest left h.stands v.read
    where
      by : (x y z : Option (List ℕ)) → StandsAt b x y h.count h.text now → Consumes y z u.more → StandsAt b x z h.count (h.text ++ gone_text now.text) (ready s t now after u Going)
      by None y z p q = tt
      by (Some x) None z p q = absurd p
      by (Some x) (Some y) None p q = absurd q
      by (Some x) (Some y) (Some z) p q =
          p ∙ (λ j. run ((ap (λ (l : List ℕ). now.left ++ l) q ∙ sym (append_assoc now.left u.more z)) j) now.offset now.board (texts s t now after u h.text j) (told (g j)))

  -- .. and behind it
  stands_behind : goes (met s t now after u) ≡ true → StandsAt b tape left (suc h.count) (h.text ++ gone_text now.text) (step (ready s t now after u Going))
  unfolding turns
  stands_behind e = by tape left stands_before (v.end h.end)
    where
      w : List ℕ
      w = h.text ++ gone_text now.text

      readable_going : (x : Source) → goes (stage_of (readable x) u.written now.offset) ≡ true → x ≡ Failed → ⊥
      readable_going Open p q = broken (sym q)
      readable_going Closed p q = let z : ◌≡◌ {A = ℕ} 0 1 = cc in omega arith
      readable_going Failed p q = no p

      none : (z : List ℕ) → (t ≡ Closed → z ≡ []) → Behind s t now after u z
      none z k o = at t refl
        where
          at : (x : Source) → t ≡ x → z ≡ []
          at Open p = absurd (o p)
          at Closed p = k p
          at Failed p = absurd (readable_going t e p)

      by : (x z : Option (List ℕ)) → StandsAt b x z h.count w (ready s t now after u Going) → (t ≡ Closed → IsAtEnd z) → StandsAt b x z (suc h.count) w (step (ready s t now after u Going))
      by None z p k = tt
      by (Some x) None p k = absurd p
      by (Some x) (Some z) p k =
          let one = step (ready s t now after u Going) in
          ap turn p ∙ stepped s t now after u w z (none z k)
          ∙ ap (λ (m : Stage). run (one.left ++ z) one.offset one.board (w ++ one.text) m) (sym (told_step (ready s t now after u Going)))

  grown : u.written ≡ true → Appends held has (h.text ++ gone_text now.text)
  grown e =
      Appends-trans held got has h.text (gone_text now.text)
      (h.written (λ w. going_not_unread (sym g ∙ w)) (λ w. going_not_unwritten (sym g ∙ w)))
      (gone_written got has (gone_text now.text) (kept now.text) now.text (gone_kept now.text) (v.put e))

  pub held_by_turn : HeldBy b t after tape left held has
  held_by_turn = by (goes (met s t now after u)) refl
    where
      by : (x : Bool) → goes (met s t now after u) ≡ x → HeldBy b t after tape left held has
      by true e =
          let m = only_going (met s t now after u) e in
          subst (λ (r : Run). HeldBy b t r tape left held has) (sym (steps s t now after u e)) (record {
            count = suc h.count;
            text = h.text ++ gone_text now.text;
            stands = stands_behind e;
            written = λ _ _. grown (all_written (readable t) u.written now.offset (λ w. going_not_unread (sym m ∙ w)) (λ w. going_not_unwritten (sym m ∙ w)));
            end = v.end h.end;
          })
      by false e =
          subst (λ (r : Run). HeldBy b t r tape left held has) (sym (stays s t now after u e)) (record {
            count = h.count;
            text = h.text ++ gone_text now.text;
            stands = told_as tape left stands_before;
            written = λ p q. grown (all_written (readable t) u.written now.offset p q);
            end = v.end h.end;
          })
        where
          told_as : (x z : Option (List ℕ)) → StandsAt b x z h.count (h.text ++ gone_text now.text) (ready s t now after u Going)
              → StandsAt b x z h.count (h.text ++ gone_text now.text) (ready s t now after u (met s t now after u))
          told_as None z p = tt
          told_as (Some x) None p = absurd p
          told_as (Some x) (Some z) p = p ∙ ap (λ (x : Stage). in_front (h.text ++ gone_text now.text) (behind (ready s t now after u x) z)) (sym (told_stage (readable t) u.written now.offset))
