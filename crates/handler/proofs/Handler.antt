-- What the second path and its mapping come to, by the tests that code makes and by what the steps below give.
use Prim.Native.Nat.{ℕ, suc, ◌-◌, ◌*◌, ◌%◌, ◌^◌, ◌<◌}
use mathlib.Core.Path.{◌≡◌, sym, ◌∙◌, ap, subst}
use mathlib.Core.Bool.{Bool, true, false}
use mathlib.Core.List.{List}
use native.Mathlib.Nat.{mod-eq_of_lt}
use native.Mathlib.Omega.{arith}
use lib.ListN.{get_or, set, take}
use Rattle.std.specs.Prelude.{Ok, Err, Result, ⊤}
use Rattle.answer.specs.declared.Refusal.{Refusal}
use Rattle.answer.specs.declared.Refusal.TheVariants.{ReservedBit, BrokenRecord, TableOutside}
use Rattle.answer.specs.Outcomes.{as_answer}
use Rattle.entry.specs.Entry.{entry_of, index, indices}
use Rattle.entry.proofs.Entry.{index_last}
use Rattle.frame.specs.Frames.{inside}
use Rattle.tables.proofs.Laws.{stepped}
use Rattle.paging.specs.Walk.{place}
use Rattle.paging.specs.Map.{Memory, memory, start_frame, total_of, Out, out, go_on, clear, make}
use Rattle.paging.specs.Calls.{as_changed, whole}
use Rattle.paging.proofs.Map.{make_kept}
use Rattle.paging.proofs.Calls.{told}
use Rattle.cow.specs.Marked.{page_of}
use Rattle.error_code.specs.ErrorCode.{is_present, is_write, is_user, is_reserved}
use Rattle.copying.specs.Copying.{raw_frame}
use Rattle.handler.specs.Handler.{overwrite, put_over, map_over, map_new, refused, handled_second, handle_fault_second}

-- ---- the mapping

-- a lent frame stays lent while tables are made
pub made_lent : (u : Bool) (m : Memory) (t : ℕ) (p : List ℕ) {w : Result ℕ Refusal} {m' : Memory} → out w m' ≡ make u m t p → (f : ℕ)
    → inside (start_frame m) (total_of m) f ≡ true → inside (start_frame m') (total_of m') f ≡ true
made_lent u m t p e f h =
    let k = make_kept u p m t in
    subst (λ (y : Memory). inside (start_frame y) (total_of y) f ≡ true) (sym (ap (λ (o : Out). o.mem) e)) (rw (k.start, k.total) h)

module _ (m : Memory) (t i e f : ℕ) where
  pub put_over_out : inside (start_frame m) (total_of m) t ≡ false → put_over m t i e f ≡ out (Err TableOutside) m
  unfolding overwrite
  put_over_out h = rw h

  -- after `zero_frame`
  pub put_over_in : inside (start_frame m) (total_of m) t ≡ true → {at to : ℕ} → at ≡ place (start_frame m) t i → to ≡ place (start_frame m) f 0
      → put_over m t i e f ≡ out (Ok 0) (memory (clear (set m.words at e) to 512) m.frames)
  unfolding overwrite
  put_over_in h {to = to} a b = let z : to ≡ (f - start_frame m) * 512 = omega arith in rw (h, a, z)

-- after `make_tables`
module _ (up : ℕ) (m : Memory) (root v f : ℕ) (w u : Bool) {x : Result ℕ Refusal} {m' : Memory} (h : out x m' ≡ make u m root (take up (indices (suc up) v))) where
  pub map_over_stop : {n : Refusal} → x ≡ Err n → out (Err n) m' ≡ map_over up m root v f w u
  unfolding map_over
  map_over_stop q = λ j. go_on (sym (stepped h q) j) (λ t n. put_over n t (get_or (indices (suc up) v) up 0) (entry_of (f * 2 ^ 12) w u) f)

  -- .. `start_address`, `set`, `page_index` and `put_over`
  pub map_over_put : {t : ℕ} → x ≡ Ok t → f < 2 ^ 40 → {a e : ℕ} → a ≡ f * 2 ^ 12 % 2 ^ 64 → e ≡ entry_of a w u → {i : ℕ} → i ≡ index 0 v
      → {o : Out} → o ≡ put_over m' t i e f → o ≡ map_over up m root v f w u
  unfolding map_over
  map_over_put k low {e = e} p q {i} g r =
      let word : e ≡ entry_of (f * 2 ^ 12) w u = q ∙ ap (λ (n : ℕ). entry_of n w u) (p ∙ mod-eq_of_lt (omega arith)) in
      let at : i ≡ get_or (indices (suc up) v) up 0 = g ∙ sym (index_last up v) in
      r ∙ λ j. go_on (sym (stepped h k) j) (λ t n. put_over n t (at j) (word j) f)

module _ (up : ℕ) (m : Memory) (root v : ℕ) (w u : Bool) (m' : Memory) where
  pub map_new_none : (n : Refusal) → raw_frame m ≡ out (Err n) m' → map_new up m root v w u ≡ out (Err n) m'
  map_new_none n e = rw e

  pub map_new_on : (f : ℕ) → raw_frame m ≡ out (Ok f) m' → map_new up m root v w u ≡ map_over up m' root v f w u
  map_new_on f e = rw e

-- ---- the path

module _ (up : ℕ) (m : Memory) (root v code : ℕ) where
  pub second_reserved : is_reserved code ≡ true → handled_second up m root v code ≡ out (Err ReservedBit) m
  second_reserved h = rw h

  module _ (h : is_reserved code ≡ false) where
    pub second_present : is_present code ≡ true → {n : Refusal} → n ≡ refused code → handled_second up m root v code ≡ out (Err n) m
    second_present k e = rw (h, k, e)

    -- after `map_page` and `as_answer`
    pub second_absent : is_present code ≡ false → {w u : Bool} → w ≡ is_write code → u ≡ is_user code → {x : Result ℕ Refusal} {m' : Memory} → out x m' ≡ map_new up m root v w u
        → {a : Result ⊤ Refusal} → a ≡ as_answer x
        → (record { answer = a; frames = m'.frames.fa } ≡ as_changed (handled_second up m root v code))
        × ((m'.words ≡ (handled_second up m root v code).mem.words) × (m'.frames.bits ≡ (handled_second up m root v code).mem.frames.bits))
    second_absent k p q {x = x} {m' = m'} e r =
        let d : handled_second up m root v code ≡ out x m' = rw (h, k, ← p, ← q) (sym e) in
        let t = told d in
        ((λ j. record { answer = r j; frames = m'.frames.fa }) ∙ t.0, t.1)

module _ (up : ℕ) (m : Memory) (root a code : ℕ) where
  pub second_broken : whole m root ≡ false → handle_fault_second up m root a code ≡ out (Err BrokenRecord) m
  unfolding handle_fault_second
  second_broken h = rw h

  pub second_is : whole m root ≡ true → {v : ℕ} → v ≡ page_of a → handled_second up m root v code ≡ handle_fault_second up m root a code
  unfolding handle_fault_second
  second_is h e = rw (h, e)
