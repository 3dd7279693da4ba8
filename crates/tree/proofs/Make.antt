-- Making tables along a path: the memory stays in order, no leaf changes, and the tables that are new lie along the path, in frames that were free.
use Prim.Native.Nat.{ℕ, suc, ◌+◌, ◌*◌, ◌-◌, ◌^◌, ◌<◌, ◌≤◌}
use mathlib.Core.Path.{◌≡◌, refl, sym, ◌∙◌, ap, subst}
use mathlib.Core.Bool.{Bool, true, false, true≢false}
use mathlib.Core.List.{List, [], ◌∷◌, ◌++◌, append_assoc, append-nil}
use mathlib.Core.Logic.{inl}
use native.Mathlib.Omega.{arith}
use lib.ListN.{length, get_or, length-append}
use Rattle.answer.specs.declared.Refusal.{Refusal}
use Rattle.std.specs.Prelude.{Ok, Err}
use Rattle.answer.specs.declared.Refusal.TheVariants.{NoFreeFrame}
use Rattle.bits.specs.Bit.{flag}
use Rattle.bitmap.specs.Bitmap.{marked}
use Rattle.entry.specs.Entry.{entry_of}
use Rattle.entry.proofs.Entry.{maps_entry, frame_entry}
use Rattle.frame.specs.Frames.{inside, with_mark}
use Rattle.paging.specs.Walk.{place}
use Rattle.paging.specs.Map.{Memory, memory, start_frame, total_of, Out, out, enter, make}
use Rattle.paging.proofs.Map.{go_on_cases, linked, enter_cases}
use Rattle.tree.proofs.Paths.{Leads, leads_trans, leads_append, Small}
use Rattle.tree.proofs.Walks.{nowhere, entry_there, reach_step, reach_lead}
use Rattle.tree.proofs.Words.{zero_other}
use Rattle.tree.proofs.Ordered.{reach_in, leaf_in, Ordered, free_unreached, in_entry}
use Rattle.tree.proofs.Growth.{Grew, Free, None, grew_refl, grew_trans, free_before}
use Rattle.tree.proofs.Steps.{freshened, fresh_inside, fresh_free, fresh_marked, fresh_reach, fresh_leaf, fresh_blank, fresh_grew, Names, write_at, write_grew, write_leaf}

-- what a step that makes the tables along q leaves; w is a path that q leads to
pub record Made (m : Memory) (root n : ℕ) (w q : List ℕ) (o : Out) : Type 0 where
  pub grew : Grew m o.mem root n w (Free m) None
  pub leaves : (p : List ℕ) → length p ≡ n → leaf_in o.mem root p ≡ leaf_in m root p
  pub there : (t : ℕ) → o.walked ≡ Ok t → reach_in o.mem root q ≡ Ok t
  pub refused : (a : Refusal) → o.walked ≡ Err a → a ≡ NoFreeFrame

-- one table
module _ {m : Memory} {root n : ℕ} (o : Ordered m root n) {w : List ℕ} (lw : length w ≤ n) (u : Bool) (q : List ℕ) (t i : ℕ)
    (hq : reach_in m root q ≡ Ok t) (lq : suc (length q) < n) (small : i < 512) (lead : Leads (q ++ (i ∷ [])) w) where
  -- in the free frame start + j
  new_made : flag 0 (get_or m.words (place (start_frame m) t i) 0) ≡ false → (j : ℕ) → j < total_of m → marked m.frames.bits j ≡ 0
      → Made m root n w (q ++ (i ∷ [])) (out (Ok (start_frame m + j)) (memory (linked u m.words (start_frame m) (place (start_frame m) t i) (start_frame m + j)) (with_mark m.frames j)))
  unfolding with_mark
  new_made absent j lt free =
      let f : ℕ = start_frame m + j in
      let e : ℕ = entry_of (f * 2 ^ 12) true u in
      let new = free_unreached o f (fresh_free o j lt free) in
      let g = fresh_grew o j lt free w in
      let ins = o.tree.into q t (omega arith) hq in
      let hq' : reach_in (freshened m j) root q ≡ Ok t = fresh_reach o j lt free q (omega arith) ∙ hq in
      let absent' : flag 0 (get_or (freshened m j).words (place (start_frame m) t i) 0) ≡ false =
      ap (flag 0) (zero_other m.words (start_frame m) (total_of m) f (fresh_inside o j lt free) t i ins small (λ d. new q (omega arith) (hq ∙ ap Ok d))) ∙ absent in
      let c : Names (freshened m j) root n q e f = record {
        bit = (maps_entry (f * 2 ^ 12) true u).present;
        names = frame_entry f true u (in_entry o f (fresh_inside o j lt free));
        lent = fresh_inside o j lt free;
        mine = fresh_marked o j lt free;
        new = λ p lp h. new p lp (sym (fresh_reach o j lt free p lp) ∙ h);
        blank = λ _. fresh_blank o j lt free;
        low = λ _. (maps_entry (f * 2 ^ 12) true u).huge;
      } in
      record {
        grew = grew_trans lw g (write_grew g.order q t i (omega arith) hq' small absent' c w lead)
            (λ x z. absurd z) (λ x d. ap (λ (y : ℕ). marked m.frames.bits (y - start_frame m)) d ∙ fresh_free o j lt free)
            (λ x d. inl (record {
              path = q ++ (i ∷ []);
              lead = lead;
              comes = write_at g.order q t i (omega arith) hq' small absent' c ∙ ap Ok (sym d);
            }))
            (λ x z. z);
        leaves = λ p lp. write_leaf g.order q t i (omega arith) hq' small absent' c lq p lp ∙ fresh_leaf o j lt free p (omega arith);
        there = λ x d. write_at g.order q t i (omega arith) hq' small absent' c ∙ d;
        refused = λ a d. absurd (nowhere (sym d));
      }

  pub enter_made : Made m root n w (q ++ (i ∷ [])) (enter u m t i)
  enter_made =
      let ins : inside (start_frame m) (total_of m) t ≡ true = o.tree.into q t (omega arith) hq in
      enter_cases u m t i (Made m root n w (q ++ (i ∷ [])))
      (λ h. absurd (true≢false (sym ins ∙ h)))
      (λ h k. record {
        grew = grew_refl w (Free m) None o;
        leaves = λ p lp. refl;
        there = λ x d. reach_step m.words (start_frame m) (total_of m) q root t i _ hq (entry_there m.words (start_frame m) (total_of m) t i ins small k) ∙ d;
        refused = λ a d. absurd (nowhere (sym d));
      })
      (λ h k j lt free _. new_made k j lt free)
      (λ h k _. record {
        grew = grew_refl w (Free m) None o;
        leaves = λ p lp. refl;
        there = λ x d. absurd (nowhere d);
        refused = λ a d. cc;
      })

-- one step after the other
made_trans : {m : Memory} {root n : ℕ} {w q r : List ℕ} {o₁ o₂ : Out} → length w ≤ n → Made m root n w q o₁ → Made o₁.mem root n w r o₂ → Made m root n w r o₂
made_trans lw a b = record {
  grew = grew_trans lw a.grew b.grew (λ x h. h) (free_before a.grew) (λ x z. absurd z) (λ x z. z);
  leaves = λ p lp. b.leaves p lp ∙ a.leaves p lp;
  there = b.there;
  refused = b.refused;
}

-- all the tables along a path
pub make_made : {root n : ℕ} {w : List ℕ} → length w ≤ n → (u : Bool) (is : List ℕ) {m : Memory} → Ordered m root n → (q : List ℕ) (t : ℕ)
    → reach_in m root q ≡ Ok t → length q + length is < n → Small is → Leads (q ++ is) w → Made m root n w (q ++ is) (make u m t is)
unfolding make
make_made {w = w} lw u [] {m} o q t hq l small lead = record {
  grew = grew_refl w (Free m) None o;
  leaves = λ p lp. refl;
  there = λ x d. rw append-nil (hq ∙ d);
  refused = λ a d. absurd (nowhere (sym d));
}
make_made {root} {n} {w} lw u (i ∷ is) {m} o q t hq l small lead =
    let first : Leads ((q ++ (i ∷ [])) ++ is) w = rw append_assoc lead in
    let a = enter_made o lw u q t i hq (omega arith) (small 0) (leads_trans (leads_append (q ++ (i ∷ [])) is) first) in
    go_on_cases (Made m root n w (q ++ (i ∷ is))) (enter u m t i) (λ f m'. make u m' f is)
    (λ x e. record {
      grew = a.grew;
      leaves = a.leaves;
      there = λ y d. absurd (nowhere d);
      refused = λ y d. a.refused y (e ∙ d);
    })
    (λ f e. made_trans lw a
    (subst (λ (p : List ℕ). Made (enter u m t i).mem root n w p (make u (enter u m t i).mem f is)) (append_assoc q (i ∷ []) is)
    (make_made lw u is a.grew.order (q ++ (i ∷ [])) f (a.there f e) (omega (arith, length-append q (i ∷ []))) (λ k. small (suc k)) first)))

-- once they are made, each leading run of the path is reached
pub made_lead : {m : Memory} {root n : ℕ} {w q : List ℕ} {o : Out} → Made m root n w q o → (t : ℕ) → o.walked ≡ Ok t → {p : List ℕ} → Leads p q
    → (s : ℕ) × (reach_in o.mem root p ≡ Ok s)
made_lead {root = root} {o = o} a t e l = reach_lead o.mem.words (start_frame o.mem) (total_of o.mem) root t l (a.there t e)
