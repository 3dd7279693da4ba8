-- Mapping: a word is written below tables that are made as needed. It changes no page that does not lie below that word; met with a fresh frame it keeps the
-- memory in order and reaches the frame; refused it changes no leaf.
use Prim.Native.Nat.{ℕ, suc, ◌<◌, ◌≤◌}
use mathlib.Core.Path.{◌≡◌, refl, sym, ◌∙◌, ap, subst}
use mathlib.Core.Bool.{Bool, true, false}
use mathlib.Core.List.{List, [], ◌∷◌, ◌++◌, append_assoc}
use mathlib.Core.Logic.{◌⊎◌, inl, inr, ⊎_elim}
use native.Mathlib.Omega.{arith}
use lib.ListN.{length, get_or, length-append}
use Rattle.std.specs.Prelude.{Ok, Err, Result}
use Rattle.answer.specs.declared.Refusal.{Refusal}
use Rattle.answer.specs.declared.Refusal.TheVariants.{NoFreeFrame, AlreadyMapped, NotMapped}
use Rattle.bits.specs.Bit.{flag}
use Rattle.entry.specs.Entry.{frame_of}
use Rattle.paging.specs.Walk.{place, reach}
use Rattle.paging.specs.Map.{Memory, start_frame, total_of, Out, out, make, Left, put_entry, with_words, map_entry}
use Rattle.paging.proofs.Map.{go_on_cases, put_full, put_free}
use Rattle.tree.proofs.Paths.{Leads, leads_refl, leads_append, leads_length, Small}
use Rattle.tree.proofs.Walks.{nowhere, entry_there, entry_absent, reach_step, reach_stuck}
use Rattle.tree.proofs.Tree.{other_leaf}
use Rattle.tree.proofs.Ordered.{reach_in, leaf_in, inside_in, mark_in, Ordered}
use Rattle.tree.proofs.Growth.{Grew, Free, None, grew_wider, grew_trans}
use Rattle.tree.proofs.Steps.{written, Names, write_at, write_grew}
use Rattle.tree.proofs.Make.{Made, make_made}

-- what a mapping at index j below q leaves that is refused with a: new tables along q, and every leaf; 12 is said of an entry that was there
pub record Turned (m : Memory) (root n : ℕ) (q : List ℕ) (j : ℕ) (a : Refusal) (m' : Memory) : Type 0 where
  pub grew : Grew m m' root n q (Free m) None
  pub leaves : (p : List ℕ) → length p ≡ n → leaf_in m' root p ≡ leaf_in m root p
  pub why : (a ≡ NoFreeFrame) ⊎ ((a ≡ AlreadyMapped) × ((f : ℕ) × (reach_in m root (q ++ (j ∷ [])) ≡ Ok f)))

-- what a mapping of frame f at path w leaves that is met: w was not reached, and comes to f now
pub record Placed (m : Memory) (root n : ℕ) (w : List ℕ) (f : ℕ) (m' : Memory) : Type 0 where
  pub grew : Grew m m' root n w (λ x. Free m x ⊎ (x ≡ f)) None
  pub page : reach_in m' root w ≡ Ok f
  pub off : (x : ℕ) → reach_in m root w ≡ Ok x → ⊥

module _ {m : Memory} {root n : ℕ} (o : Ordered m root n) (u : Bool) (q : List ℕ) (j : ℕ) (lq : length q < n) (sq : Small q) (sj : j < 512) (e : ℕ) where
  -- the three outcomes: no frame for a table, a present entry, and the word written
  pub map_cases : (P : Out → Type 0)
      → ((m₁ : Memory) → Made m root n q q (out (Err NoFreeFrame) m₁) → P (out (Err NoFreeFrame) m₁))
      → ((m₁ : Memory) (t : ℕ) → Made m root n q q (out (Ok t) m₁) → flag 0 (get_or m₁.words (place (start_frame m₁) t j) 0) ≡ true → P (out (Err AlreadyMapped) m₁))
      → ((m₁ : Memory) (t : ℕ) → Made m root n q q (out (Ok t) m₁) → flag 0 (get_or m₁.words (place (start_frame m₁) t j) 0) ≡ false → P (out (Ok 0) (written m₁ t j e)))
      → P (map_entry u m root q j e)
  unfolding map_entry reach
  map_cases P full there free =
      let a = make_made (omega arith) u q o [] root refl (omega arith) sq (leads_refl q) in
      go_on_cases P (make u m root q) (λ t m₁. with_words m₁ (put_entry m₁.words (start_frame m₁) (total_of m₁) t j e))
      (λ x h. let x11 = a.refused x h in
      rw x11 (full (make u m root q).mem (subst (λ (y : Result ℕ Refusal). Made m root n q q (out y (make u m root q).mem)) (h ∙ ap Err x11) a)))
      (λ t h. put (make u m root q).mem t (subst (λ (y : Result ℕ Refusal). Made m root n q q (out y (make u m root q).mem)) h a))
    where
      put : (m₁ : Memory) (t : ℕ) → Made m root n q q (out (Ok t) m₁) → P (with_words m₁ (put_entry m₁.words (start_frame m₁) (total_of m₁) t j e))
      put m₁ t a = go (flag 0 (get_or m₁.words (place (start_frame m₁) t j) 0)) refl
        where
          ins : inside_in m₁ t ≡ true
          ins = a.grew.order.tree.into q t (omega arith) (a.there t refl)

          go : (x : Bool) → flag 0 (get_or m₁.words (place (start_frame m₁) t j) 0) ≡ x → P (with_words m₁ (put_entry m₁.words (start_frame m₁) (total_of m₁) t j e))
          go true k = subst (λ (l : Left). P (with_words m₁ l)) (sym (put_full m₁.words (start_frame m₁) (total_of m₁) t j e ins k)) (there m₁ t a k)
          go false k = subst (λ (l : Left). P (with_words m₁ l)) (sym (put_free m₁.words (start_frame m₁) (total_of m₁) t j e ins k)) (free m₁ t a k)

  -- met or refused, and whatever the word: no page that does not lie below it changes its leaf
  pub map_other : (p : List ℕ) → length p ≡ n → (Leads (q ++ (j ∷ [])) p → ⊥) → leaf_in (map_entry u m root q j e).mem root p ≡ leaf_in m root p
  map_other p lp off =
      map_cases (λ (r : Out). leaf_in r.mem root p ≡ leaf_in m root p) (λ m₁ a. a.leaves p lp) (λ m₁ t a k. a.leaves p lp)
      (λ m₁ t a k.
      other_leaf a.grew.order.tree a.grew.order.sizes.enough q t j lq (a.there t refl) sj e p (omega arith)
      (λ r h. off (record { rest = r; join = append_assoc q (j ∷ []) r ∙ sym h }))
      ∙ a.leaves p lp)

  -- refused
  pub map_refused : (a : Refusal) → (map_entry u m root q j e).walked ≡ Err a → Turned m root n q j a (map_entry u m root q j e).mem
  map_refused a =
      map_cases (λ (r : Out). r.walked ≡ Err a → Turned m root n q j a r.mem)
      (λ m₁ d h. record { grew = d.grew; leaves = d.leaves; why = inl (cc) })
      (λ m₁ t d k h. record { grew = d.grew; leaves = d.leaves; why = inr (cc, was m₁ t d k) })
      (λ m₁ t d k h. absurd (nowhere (sym h)))
    where
      was : (m₁ : Memory) (t : ℕ) → Made m root n q q (out (Ok t) m₁) → flag 0 (get_or m₁.words (place (start_frame m₁) t j) 0) ≡ true → (f : ℕ) × (reach_in m root (q ++ (j ∷ [])) ≡ Ok f)
      was m₁ t d k =
          let hq : reach_in m₁ root q ≡ Ok t = d.there t refl in
          let ins : inside_in m₁ t ≡ true = d.grew.order.tree.into q t (omega arith) hq in
          let g = reach_step m₁.words (start_frame m₁) (total_of m₁) q root t j _ hq (entry_there m₁.words (start_frame m₁) (total_of m₁) t j ins sj k) in (
            frame_of (get_or m₁.words (place (start_frame m₁) t j) 0),
            ⊎_elim (λ c. c) (λ c. absurd (omega (arith, leads_length c.0, length-append q (j ∷ []))))
                (d.grew.grew (q ++ (j ∷ [])) _ (omega (arith, length-append q (j ∷ []))) g),
          )

  -- met, at the last level, with a marked frame that nothing reaches
  pub map_placed : (f : ℕ) → suc (length q) ≡ n → flag 0 e ≡ true → frame_of e ≡ f → inside_in m f ≡ true → mark_in m f ≡ 1
      → ((p : List ℕ) → length p ≤ n → reach_in m root p ≡ Ok f → ⊥) → (x : ℕ) → (map_entry u m root q j e).walked ≡ Ok x → Placed m root n (q ++ (j ∷ [])) f (map_entry u m root q j e).mem
  map_placed f last bit to lent mine new x =
      map_cases (λ (r : Out). r.walked ≡ Ok x → Placed m root n (q ++ (j ∷ [])) f r.mem)
      (λ m₁ d h. absurd (nowhere h)) (λ m₁ t d k h. absurd (nowhere h)) (λ m₁ t d k h. placed m₁ t d k)
    where
      lw : length (q ++ (j ∷ [])) ≤ n
      lw = omega (arith, length-append q (j ∷ []))

      placed : (m₁ : Memory) (t : ℕ) → Made m root n q q (out (Ok t) m₁) → flag 0 (get_or m₁.words (place (start_frame m₁) t j) 0) ≡ false → Placed m root n (q ++ (j ∷ [])) f (written m₁ t j e)
      placed m₁ t d k =
          let g = d.grew in
          let hq : reach_in m₁ root q ≡ Ok t = d.there t refl in
          let ins : inside_in m₁ t ≡ true = g.order.tree.into q t (omega arith) hq in
          let c : Names m₁ root n q e f = record {
            bit = bit;
            names = to;
            lent = rw (g.start, g.total) lent;
            mine = g.more f mine;
            new = λ p lp h. ⊎_elim (λ a. new p lp a) (λ a. omega (arith, a.1, mine)) (g.grew p f lp h);
            blank = λ l. absurd (omega arith);
            low = λ l. absurd (omega arith);
          } in
          record {
            grew = grew_trans lw (grew_wider (leads_append q (j ∷ [])) (λ y a. a) g) (write_grew g.order q t j lq hq sj k c (q ++ (j ∷ [])) (leads_refl _))
                (λ y a. inl a) (λ y a. inr a) (λ y a. absurd a) (λ y a. a);
            page = write_at g.order q t j lq hq sj k c;
            off = λ y h. nowhere (sym (reach_stuck m₁.words (start_frame m₁) (total_of m₁) q root t j [] NotMapped hq (entry_absent m₁.words (start_frame m₁) (total_of m₁) t j ins sj k))
                ∙ g.stay (q ++ (j ∷ [])) y lw h);
          }
