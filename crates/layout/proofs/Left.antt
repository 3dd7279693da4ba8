-- The one equation of a C function, from the contracts of the functions that it calls: parts that do not fit, or the call on the parts unpacked; and what a refusal leaves.
-- All is stated over variables and for any call.
use Prim.Native.Nat.{ℕ}
use mathlib.Core.Path.{◌≡◌, refl, ◌∙◌, ap, subst}
use mathlib.Core.Bool.{Bool, true, false}
use mathlib.Core.List.{List}
use borrow.Author.Tests.{eqb-true}
use Rattle.std.specs.Prelude.{Ok, Err, Result, ⊤}
use Rattle.answer.specs.declared.Refusal.{Refusal}
use Rattle.bits.specs.Bit.{unless, both}
use Rattle.bits.proofs.Choice.{pick_cases}
use Rattle.answer.specs.Numbers.{answer_line}
use Rattle.answer.specs.declared.Line.{Line}
use Rattle.packed.proofs.RoundTrip.{Bytes}
use Rattle.frame.specs.declared.Changed.{Changed}
use Rattle.frame.specs.declared.FrameAllocator.{FrameAllocator}
use Rattle.frame.specs.declared.Tally.{Tally}
use Rattle.frame.specs.Found.{tally_line, key_line}
use Rattle.bitmap.specs.Bitmap.{marks_in}
use Rattle.paging.specs.Map.{Memory, Out}
use Rattle.paging.specs.Calls.{as_changed}
use Rattle.paging.specs.Kept.{Kept, kept, lent_memory}
use Rattle.layout.specs.Parts.{fields_size, fields_in, fields_out, fields_fit}
use Rattle.layout.specs.Left.{Left, left, broken_line, unless_fit, IsRefusal, Unchanged}
use Rattle.layout.specs.Memory.{plain_line, MemoryParts, memory_parts, memory_in, memory_packed, ListParts, list_parts, list_packed, on_memory}
use Rattle.layout.proofs.RoundTrip.{fields_back}

-- the two ways of the test, for parts of any kind
pub broken_left : {P : Type 0} {ok : Bool} (p : P) (did : Left P) {r : Line} → ok ≡ false → r ≡ broken_line → left r p ≡ unless_fit ok p did
broken_left p did h e = rw (h, e) refl

pub met_left : {P : Type 0} {ok : Bool} (p : P) {did did' : Left P} → ok ≡ true → did ≡ did' → did ≡ unless_fit ok p did'
met_left p h e = rw h e

-- .. of a call that only answers
pub broken_line_lem : {ok : Bool} (l : Line) {r : Line} → ok ≡ false → r ≡ broken_line → r ≡ unless ok broken_line l
broken_line_lem l h e = rw (h, e) refl

pub met_line_lem : {ok : Bool} {r l : Line} → ok ≡ true → r ≡ l → r ≡ unless ok broken_line l
met_line_lem h e = rw h e

-- a refusal leaves the parts as they were where they do not fit, and where the call does
pub unchanged_left : {P : Type 0} (leftovers : List Refusal) (ok : Bool) (p : P) (did : Left P) → (ok ≡ true → Unchanged leftovers p did) → Unchanged leftovers p (unless_fit ok p did)
unchanged_left {P} leftovers ok p did law = pick_cases (λ (d : Left P). Unchanged leftovers p d) ok did (left broken_line p) law (λ _ _. refl)

-- the whole contract of a C function that writes: the one equation, and the clause of a refusal, by the law of its definition
pub contract_met : {P : Type 0} (leftovers : List Refusal) {r : Line} {p q : P} {d : Left P} → left r q ≡ d → Unchanged leftovers p d
    → (left r q ≡ d) × Unchanged leftovers p (left r q)
contract_met {P} leftovers e h =
    (e, λ n. ap (λ (d : Left P). d.parts) e ∙ h (subst (λ (d : Left P). IsRefusal leftovers d.line.number) e n))

-- .. where it has changed nothing
pub contract_broken : {P : Type 0} (leftovers : List Refusal) {r : Line} {p : P} {d : Left P} → left r p ≡ d → (left r p ≡ d) × Unchanged leftovers p (left r p)
contract_broken leftovers e = (e, λ _. refl)

-- the line of a call that frees, beside its tally
pub key_line_lem : (a : Result ⊤ Refusal) (t : Tally) → key_line (tally_line a t) ≡ answer_line a
key_line_lem (Ok tt) t = refl
key_line_lem (Err n) t = refl

-- ---- the frame record

pub fields_same : (fields : List ℕ) → fields_fit fields ≡ true → Bytes fields → fields_out (fields_in fields) ≡ fields
fields_same fields fit b = fields_back fields (eqb-true _ fields_size fit) b

-- ---- .. with the words and the bitmap

module _ (call : Memory → Out) (words fields bits : List ℕ) where
  abbrev lent : MemoryParts
  lent = memory_parts words fields bits

  pub memory_broken : {r : Line} → fields_fit fields ≡ false → r ≡ broken_line → left r lent ≡ on_memory call lent
  unfolding on_memory
  memory_broken h e = broken_left lent _ h e

  pub memory_met : {ws fs : List ℕ} (bs : List ℕ) {f : FrameAllocator} {x : Changed} {r : Line} → fields_fit fields ≡ true → f ≡ fields_in fields
      → let d = call (lent_memory words bits f) in (x ≡ as_changed d) × ((ws ≡ d.mem.words) × (marks_in bs ≡ d.mem.frames.bits))
      → r ≡ answer_line x.answer → fs ≡ fields_out x.frames → left r (memory_parts ws fs bs) ≡ on_memory call lent
  unfolding on_memory
  memory_met bs h f (x, (w, y)) r fs =
      let same : ◌≡◌ {A = Out} (call (lent_memory words bits _)) (call (memory_in lent)) = λ j. call (lent_memory words bits (f j)) in
      let p = x ∙ ap as_changed same in
      let l = r ∙ ap (λ (x : Changed). answer_line x.answer) p in
      let ws = w ∙ ap (λ (d : Out). d.mem.words) same in
      let fs = fs ∙ ap (λ (x : Changed). fields_out x.frames) p in
      let bs = y ∙ ap (λ (d : Out). d.mem.frames.bits) same in
      met_left lent h (λ j. left (l j) (record { words = ws j; fields = fs j; marks = bs j }))

  pub memory_unchanged : (leftovers : List Refusal) → Bytes fields → ((m : Memory) → IsRefusal leftovers (plain_line (call m).walked).number → (call m).mem ≡ m)
      → Unchanged leftovers lent (on_memory call lent)
  unfolding on_memory
  memory_unchanged leftovers b law =
      unchanged_left leftovers (fields_fit fields) lent _ (λ fit n. ap memory_packed (law _ n) ∙ (λ j. memory_parts words (fields_same fields fit b j) bits))

-- ---- .. and with a list, which the call tests as packed bytes and changes where it stands. For an answer of any kind

module _ {A : Type 0} (line : A → Line) where
  -- what the call leaves, the frame record packed again
  abbrev kept_left : Kept A → Left ListParts
  kept_left k = left (line k.answer) (list_packed k.mem k.list)

  module _ (words fields bits list : List ℕ) (call : Memory → Kept A) where
    abbrev given : Memory
    given = lent_memory words bits (fields_in fields)

    -- 10 of the list's own test is 10 of parts that do not fit
    list-tested : (ok : Bool) (refusal : A) (did : Kept A) → fields_fit fields ≡ true → Bytes fields → line refusal ≡ broken_line
        → kept_left (unless ok (kept refusal given list) did) ≡ unless_fit (both (fields_fit fields) ok) (list_parts words fields bits list) (kept_left did)
    list-tested true refusal did fit b e = rw fit refl
    list-tested false refusal did fit b e =
        let f = fields_same fields fit b in
        rw fit (λ j. left (e j) (list_parts words (f j) bits list))

    pub list_met : (ok : Bool) (refusal : A) (did : Kept A) → line refusal ≡ broken_line → call given ≡ unless ok (kept refusal given list) did
        → {ws fs ls : List ℕ} (bs : List ℕ) {f g : FrameAllocator} {x : A} {r : Line}
        → fields_fit fields ≡ true → Bytes fields → f ≡ fields_in fields → kept x (lent_memory ws bs g) ls ≡ call (lent_memory words bits f)
        → r ≡ line x → fs ≡ fields_out g
        → left r (list_parts ws fs bs ls) ≡ unless_fit (both (fields_fit fields) ok) (list_parts words fields bits list) (kept_left did)
    list_met ok refusal did e c {ws = ws} {ls = ls} bs fit t f k r fs =
        (λ j. left (r j) (list_parts ws (fs j) bs ls)) ∙ ap kept_left (k ∙ (λ j. call (lent_memory words bits (f j))) ∙ c) ∙ list-tested ok refusal did fit t e
