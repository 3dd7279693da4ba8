-- What the functions' proofs share: definitions by what code has in its hands.
-- Large arguments (memories, tables, counters) are explicit and the proofs write them down: to fill them in takes antt up to ten times as long.
use Prim.Native.Nat.{ℕ, suc, ◌-◌, ◌/◌, ◌≤◌}
use mathlib.Core.Path.{◌≡◌, sym, ◌∙◌, ap, subst}
use mathlib.Core.Bool.{Bool, true, false}
use mathlib.Core.List.{List}
use native.Mathlib.Omega.{arith}
use lib.ListN.{get_or, set, take, length-take}
use Rattle.std.specs.Prelude.{Ok, Err, Result, ⊤}
use Rattle.answer.specs.declared.Refusal.{Refusal}
use Rattle.answer.specs.declared.Refusal.TheVariants.{AlreadyMapped, NotMapped}
use Rattle.answer.specs.Outcomes.{as_answer}
use Rattle.address.specs.Address.{aligned}
use Rattle.bits.specs.Bit.{flag}
use Rattle.entry.specs.Entry.{entry_of, huge_entry_of, addr_of, frame_of, index, indices}
use Rattle.entry.proofs.Entry.{index_behind}
use Rattle.frame.specs.declared.Changed.{Changed}
use Rattle.frame.specs.Frames.{inside}
use Rattle.paging.specs.declared.HugePageSize.{HugePageSize}
use Rattle.paging.specs.Walk.{place}
use Rattle.paging.specs.Map.{Memory, start_frame, total_of, Out, out, make, Left, put_entry, take_leaf, with_words, RoomToTake}
use Rattle.paging.specs.Calls.{as_changed, whole, size_of, tables_above, map_at, map_page, map_huge}
use Rattle.paging.proofs.Map.{roomy_less, map_entry_stop, map_entry_put, put_full, put_free, take_leaf_none, take_leaf_there}
use Rattle.paging.proofs.Calls.{told, told_left, map_is, huge_is}
use Rattle.walk.proofs.Laws.{shifted}
use Rattle.tables.proofs.Laws.{stepped, made_roomy}

-- what a call says of an outcome, part by part
abbrev Told : Changed → List ℕ → List ℕ → Out → Type 0
Told r ws bm o = (r ≡ as_changed o) × ((ws ≡ o.mem.words) × (bm ≡ o.mem.frames.bits))

-- an entry of a lent table, at word p
module _ (start t i : ℕ) {p : ℕ} (q : p ≡ place start t i) (ws : List ℕ) (total : ℕ) (h : inside start total t ≡ true) where
  word : {b : Bool} → flag 0 (get_or ws p 0) ≡ b → flag 0 (get_or ws (place start t i) 0) ≡ b
  word {b} k = subst (λ (x : ℕ). flag 0 (get_or ws x 0) ≡ b) q k

  pub put_there : (e : ℕ) → flag 0 (get_or ws p 0) ≡ true → let l = put_entry ws start total t i e in (Err AlreadyMapped ≡ l.walked) × (ws ≡ l.words)
  put_there e k = told_left (put_full ws start total t i e h (word k))

  pub put_new : (e : ℕ) → flag 0 (get_or ws p 0) ≡ false → let l = put_entry ws start total t i e in (Ok 0 ≡ l.walked) × (set ws p e ≡ l.words)
  put_new e k = let l = told_left (put_free ws start total t i e h (word k)) in (l.0, ap (λ (x : ℕ). set ws x e) q ∙ l.1)

  pub take_none : flag 0 (get_or ws p 0) ≡ false → let l = take_leaf ws start total t i in (Err NotMapped ≡ l.walked) × (ws ≡ l.words)
  take_none k = told_left (take_leaf_none ws start total t i h (word k))

  pub take_there : {a : ℕ} → a ≡ addr_of (get_or ws p 0) → flag 0 (get_or ws p 0) ≡ true
      → let l = take_leaf ws start total t i in (Ok (a / 4096) ≡ l.walked) × (set ws p 0 ≡ l.words)
  take_there g k =
      let l = told_left (take_leaf_there ws start total t i h (word k)) in
      (ap Ok (shifted (get_or ws p 0) g ∙ ap (λ (x : ℕ). frame_of (get_or ws x 0)) q) ∙ l.0, ap (λ (x : ℕ). set ws x 0) q ∙ l.1)

-- after `make_tables` along k indices, at most four: the room that is left
pub made_left : (u : Bool) (m : Memory) (t : ℕ) (is : List ℕ) (k : ℕ) {w : Result ℕ Refusal} {m' : Memory} → out w m' ≡ make u m t (take k is) → k ≤ 4 → RoomToTake m 4 → RoomToTake m' 0
made_left u m t is k e h r = made_roomy u m t (take k is) e 0 (roomy_less _ (omega (arith, length-take k is)) r)

-- after `put_entry` and `as_answer`: the outcome part by part
pub put_told : {o : Out} (m : Memory) (l : Left) → o ≡ with_words m l → {a : Result ⊤ Refusal} {w : Result ℕ Refusal} {ws : List ℕ} → a ≡ as_answer w → w ≡ l.walked → ws ≡ l.words
    → (record { answer = a; frames = m.frames.fa } ≡ as_changed o) × ((ws ≡ o.mem.words) × (m.frames.bits ≡ o.mem.frames.bits))
put_told m l e x y z =
    let t = told e in
    ((λ j. record { answer = (x ∙ ap as_answer y) j; frames = m.frames.fa }) ∙ t.0, (z ∙ t.1.0, t.1.1))

-- after the tables are made, with the index that `page_index` gives
module _ (up k : ℕ) (u : Bool) (m : Memory) (root v e : ℕ) (m' : Memory) {w : Result ℕ Refusal} (d : out w m' ≡ make u m root (take k (indices (suc up) v))) where
  pub map_at_stop : (n : Refusal) → w ≡ Err n → map_at up k u m root v e ≡ out (Err n) m'
  map_at_stop n h = map_entry_stop u m root _ _ e n m' (stepped d h)

  pub map_at_put : k ≤ up → (t : ℕ) → w ≡ Ok t → {i : ℕ} → i ≡ index (up - k) v → {a : Result ⊤ Refusal} {s : Result ℕ Refusal} {ws : List ℕ} → a ≡ as_answer s
      → let l = put_entry m'.words (start_frame m') (total_of m') t i e in
      (s ≡ l.walked) × (ws ≡ l.words) → Told (record { answer = a; frames = m'.frames.fa }) ws m'.frames.bits (map_at up k u m root v e)
  map_at_put le t h {i} g x y =
      let at : get_or (indices (suc up) v) k 0 ≡ i = index_behind up k v le ∙ sym g in
      put_told m' (put_entry m'.words (start_frame m') (total_of m') t i e)
      (map_entry_put u m root _ _ e t m' (stepped d h) ∙ λ j. with_words m' (put_entry m'.words (start_frame m') (total_of m') t (at j) e)) x y.0 y.1

-- what `map_entry` gave is what the call gives
pub passed_on : {o p : Out} {r : Changed} {ws bm : List ℕ} → (r ≡ as_changed o) × ((ws ≡ o.mem.words) × (bm ≡ o.mem.frames.bits)) → o ≡ p
    → (r ≡ as_changed p) × ((ws ≡ p.mem.words) × (bm ≡ p.mem.frames.bits))
passed_on {r = r} {ws = ws} {bm = bm} h e = subst (Told r ws bm) e h

module _ (up : ℕ) (m : Memory) (root v p : ℕ) (w u : Bool) (h : whole m root ≡ true) {r : Changed} {ws bm : List ℕ} where
  pub page_told : (e : ℕ) → e ≡ entry_of p w u → Told r ws bm (map_at up up u m root v e) → Told r ws bm (map_page up m root v p w u)
  page_told e g t = passed_on t (ap (map_at up up u m root v) g ∙ sym (map_is up m root v p w u h))

  pub huge_told : (s : HugePageSize) → aligned v (size_of s) ≡ true → aligned p (size_of s) ≡ true → (k : ℕ) → k ≡ tables_above up s → (e : ℕ) → e ≡ huge_entry_of p w u
      → Told r ws bm (map_at up k u m root v e) → Told r ws bm (map_huge up m root v p s w u)
  huge_told s a b k f e g t = passed_on t ((λ j. map_at up (f j) u m root v (g j)) ∙ sym (huge_is up m root v p w u s h a b))
