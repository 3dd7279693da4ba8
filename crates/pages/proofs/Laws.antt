-- What the functions' proofs share: the definitions by what code has in its hands.
-- Large arguments (memories, tables, counters) are explicit and the proofs write them down: to fill them in takes antt up to ten times as long.
use Prim.Native.Nat.{ℕ, suc, ◌+◌, ◌*◌, ◌-◌, ◌%◌, ◌^◌, ◌<◌, ◌≤◌}
use mathlib.Core.Path.{◌≡◌, refl, sym, ◌∙◌, ap, subst}
use mathlib.Core.Bool.{Bool}
use mathlib.Core.List.{List}
use native.Mathlib.Nat.{mod-eq_of_lt}
use native.Mathlib.Numerals.{add-one}
use native.Mathlib.Omega.{arith}
use Rattle.std.specs.Prelude.{Ok, Err, Result}
use Rattle.answer.specs.declared.Refusal.{Refusal}
use Rattle.address.specs.declared.Frame.{Frame}
use Rattle.entry.specs.Entry.{entry_of}
use Rattle.frame.specs.declared.Changed.{Changed}
use Rattle.frame.specs.Frames.{frames, take_frame}
use Rattle.paging.specs.Walk.{place}
use Rattle.paging.specs.Map.{Memory, memory, start_frame, total_of, Out, out, clear, Left, left, RoomToTake}
use Rattle.paging.specs.Calls.{as_changed, map_at}
use Rattle.answer.specs.Outcomes.{as_answer}
use Rattle.paging.proofs.Map.{roomy_less}
use Rattle.paging.specs.Pages.{Ran, ran, fresh_frame, or_failed, map_fresh, map_pages, clear_page, clear_pages}
use Rattle.paging.proofs.Pages.{fresh_new, fresh_full, fresh_roomy, fresh_low, map_fresh_on, map_fresh_roomy, map_entry_at}
use Rattle.paging.proofs.Pages.{map_pages_none, map_pages_on, map_pages_stop, clear_pages_none, clear_pages_more}
use Rattle.tables.proofs.Laws.{stepped}
use Rattle.pages.specs.Answers.{as_outcome}

-- ---- a page on it

pub fresh_left : {w : Result ℕ Refusal} {m m' : Memory} → out w m' ≡ fresh_frame m → (n : ℕ) → RoomToTake m (n + 1) → RoomToTake m' n
fresh_left {m = m} e n r = subst (λ (x : Memory). RoomToTake x n) (sym (ap (λ (o : Out). o.mem) e)) (fresh_roomy m n r)

-- what the mapping of a page answers says where it came
told_at : (o : Out) → ((x : ℕ) → o.walked ≡ Ok x → x ≡ 0) → as_outcome (as_answer o.walked) ≡ o.walked
told_at o h = go o.walked h
  where
    go : (w : Result ℕ Refusal) → ((x : ℕ) → w ≡ Ok x → x ≡ 0) → as_outcome (as_answer w) ≡ w
    go (Ok x) k = ap Ok (sym (k x refl))
    go (Err n) k = refl

module _ (up : ℕ) (w u : Bool) (m : Memory) (root v : ℕ) (low : start_frame m + total_of m ≤ 2 ^ 40) where
  pub map_fresh_made : (f : ℕ) (m' : Memory) → fresh_frame m ≡ out (Ok f) m' → (e a : ℕ) → e ≡ entry_of a w u → a ≡ f * 2 ^ 12 % 2 ^ 64
      → (r : Changed) (ws bm : List ℕ)
      → (r ≡ as_changed (map_at up up u m' root v e)) × ((ws ≡ (map_at up up u m' root v e).mem.words) × (bm ≡ (map_at up up u m' root v e).mem.frames.bits))
      → (x : Result ℕ Refusal) → x ≡ or_failed (as_outcome r.answer) → out x (memory ws (frames bm r.frames)) ≡ map_fresh up w u m root v
  map_fresh_made f m' h e a q g r ws bm p x y =
      let low-f : f < 2 ^ 40 = fresh_low m f (ap (λ (o : Out). o.walked) h) low in
      let small : a ≡ f * 2 ^ 12 = g ∙ mod-eq_of_lt (omega arith) in
      let word : e ≡ entry_of (f * 2 ^ 12) w u = q ∙ ap (λ (n : ℕ). entry_of n w u) small in
      let came : x ≡ or_failed (map_at up up u m' root v e).walked =
      y ∙ ap (λ (c : Changed). or_failed (as_outcome c.answer)) p.0 ∙ ap or_failed (told_at (map_at up up u m' root v e) (map_entry_at u m' root _ _ e)) in
      (λ j. out (came j) (memory (p.1.0 j) (frames (p.1.1 j) (p.0 j).frames)))
      ∙ ap (λ (n : ℕ). out (or_failed (map_at up up u m' root v n).walked) (map_at up up u m' root v n).mem) word
      ∙ sym (map_fresh_on up w u m root v f m' h)

pub map_fresh_left : (up : ℕ) → up ≤ 4 → {w : Result ℕ Refusal} {m' : Memory} (wr u : Bool) (m : Memory) (root v : ℕ) → out w m' ≡ map_fresh up wr u m root v
    → (n : ℕ) → RoomToTake m (n + 5) → RoomToTake m' n
map_fresh_left up few wr u m root v e n r =
    subst (λ (x : Memory). RoomToTake x n) (sym (ap (λ (o : Out). o.mem) e)) (map_fresh_roomy up wr u m root v n (roomy_less _ (omega arith) r))

-- ---- runs, at turn i of n

module _ (root v i n : ℕ) (lt : i < n) where
  one_less : n - i ≡ suc (n - (i + 1))
  one_less = omega arith

  next_page : v + (i + 1) * 4096 ≡ (v + i * 4096) + 4096
  next_page = omega arith

  module _ (up : ℕ) (w u : Bool) (m m' : Memory) where
    pub run_on : (x : ℕ) → map_fresh up w u m root (v + i * 4096) ≡ out (Ok x) m'
        → map_pages up w u m root (v + i * 4096) i (n - i) ≡ map_pages up w u m' root (v + (i + 1) * 4096) (i + 1) (n - (i + 1))
    run_on x e = rw (one_less, next_page, add-one i) (map_pages_on up w u m root _ i _ m' x e)

    pub run_stop : (a : Refusal) → map_fresh up w u m root (v + i * 4096) ≡ out (Err a) m' → map_pages up w u m root (v + i * 4096) i (n - i) ≡ ran (Err a) i m'
    run_stop a e = rw one_less (map_pages_stop up w u m root _ i _ m' a e)

  module _ (up : ℕ) (w u : Bool) (m m' : Memory) {x : Result ℕ Refusal} (e : out x m' ≡ map_fresh up w u m root (v + i * 4096)) where
    pub turn_left : up ≤ 4 → RoomToTake m ((n - i) * 5) → RoomToTake m' ((n - (i + 1)) * 5)
    turn_left few r = map_fresh_left up few w u m root (v + i * 4096) e ((n - (i + 1)) * 5) (roomy_less ((n - (i + 1)) * 5 + 5) (omega arith) r)

    module _ {o : Ran} (a : o ≡ map_pages up w u m root (v + i * 4096) i (n - i)) where
      pub turn_on : (y : ℕ) → x ≡ Ok y → o ≡ map_pages up w u m' root (v + (i + 1) * 4096) (i + 1) (n - (i + 1))
      turn_on y h = a ∙ run_on up w u m m' y (stepped e h)

      pub turn_stop : (y : Refusal) → x ≡ Err y → ran (Err y) i m' ≡ o
      turn_stop y h = sym (a ∙ run_stop up w u m m' y (stepped e h))

  pub clear_on : (up : ℕ) (m m' : Memory) → m' ≡ clear_page up m root (v + i * 4096)
      → clear_pages up m root (v + i * 4096) (n - i) ≡ clear_pages up m' root (v + (i + 1) * 4096) (n - (i + 1))
  clear_on up m m' e = rw (one_less, next_page, e) (clear_pages_more up m root _ _)

-- .. and after the last
module _ (root v i n : ℕ) (over : n ≤ i) (m : Memory) where
  none_left : n - i ≡ 0
  none_left = omega arith

  pub run_end : (up : ℕ) (w u : Bool) → map_pages up w u m root v i (n - i) ≡ ran (Ok 0) i m
  run_end up w u = rw none_left (map_pages_none up w u m root v i)

  pub clear_end : (up : ℕ) → clear_pages up m root v (n - i) ≡ m
  clear_end up = rw none_left (clear_pages_none up m root v)

-- ---- a leaf, after `unmap_leaf`

pub unmapped : {l : Left} {w w' : Result ℕ Refusal} {ws : List ℕ} → w ≡ l.walked → ws ≡ l.words → w ≡ w' → l ≡ left w' ws
unmapped a b c = λ j. left ((sym a ∙ c) j) (sym b j)
