-- A page for which a frame was taken and zeroed: what is left once that frame is mapped at the page's address, and once it could not be.
use Prim.Native.Nat.{ℕ, suc, ◌+◌, ◌*◌, ◌-◌, ◌^◌, ◌<◌, ◌≤◌}
use mathlib.Core.Path.{◌≡◌, sym, ◌∙◌, ap, subst}
use mathlib.Core.Bool.{Bool, true}
use mathlib.Core.List.{List, ◌∷◌, [], ◌++◌}
use mathlib.Core.Logic.{◌⊎◌, inl, inr, ⊎_elim}
use native.Mathlib.Omega.{arith}
use lib.ListN.{length}
use Rattle.answer.specs.declared.Refusal.{Refusal}
use Rattle.std.specs.Prelude.{Ok, Err}
use Rattle.bitmap.specs.Bitmap.{marked}
use Rattle.entry.specs.Entry.{entry_of}
use Rattle.entry.proofs.Entry.{maps_entry, frame_entry}
use Rattle.frame.specs.Frames.{with_mark}
use Rattle.paging.specs.Map.{Memory, start_frame, total_of, Out}
use Rattle.paging.specs.Calls.{map_at}
use Rattle.tree.proofs.Paths.{Leads, leads_refl, leads_whole, leads_snoc, path, upper, last, length_path, length_upper, path_split, upper_small, last_small}
use Rattle.tree.proofs.Walks.{reach_lead}
use Rattle.tree.proofs.Ordered.{reach_in, leaf_in, inside_in, mark_in, Ordered, free_unreached, in_entry}
use Rattle.tree.proofs.Growth.{Grew, Free, None, grew_trans, free_before}
use Rattle.tree.proofs.Steps.{freshened, fresh_inside, fresh_free, fresh_marked, fresh_reach, fresh_leaf, fresh_grew}
use Rattle.tree.proofs.Mapping.{map_other}
use Rattle.tree.proofs.MapAt.{page_refused, page_placed}

-- a page that was had: its frame f was free, and is reached at the page's path, which was not reached; no other page's leaf changed
pub record Took (m : Memory) (root up v f : ℕ) (m' : Memory) : Type 0 where
  pub grew : Grew m m' root (suc up) (path up v) (Free m) None
  pub lent : inside_in m f ≡ true
  pub free : mark_in m f ≡ 0
  pub page : reach_in m' root (path up v) ≡ Ok f
  pub off : (x : ℕ) → reach_in m root (path up v) ≡ Ok x → ⊥
  pub leaves : (p : List ℕ) → length p ≡ suc up → (p ≡ path up v → ⊥) → leaf_in m' root p ≡ leaf_in m root p

-- a page that was not, though a frame f was: f is marked and nothing reaches it; new tables lie above the page, and no leaf changed
pub record Lost (m : Memory) (root up v f : ℕ) (m' : Memory) : Type 0 where
  pub grew : Grew m m' root (suc up) (upper up v) (Free m) (λ x. x ≡ f)
  pub lent : inside_in m f ≡ true
  pub free : mark_in m f ≡ 0
  pub mine : mark_in m' f ≡ 1
  pub away : (p : List ℕ) → length p ≤ suc up → reach_in m' root p ≡ Ok f → ⊥
  pub leaves : (p : List ℕ) → length p ≡ suc up → leaf_in m' root p ≡ leaf_in m root p

-- frame start + j, zeroed, mapped at v
abbrev pub map_frame : ℕ → Bool → Bool → Memory → ℕ → ℕ → ℕ → Out
map_frame up w u m root v j = map_at up up u (freshened m j) root v (entry_of ((start_frame m + j) * 2 ^ 12) w u)

module _ {m : Memory} {root up : ℕ} (o : Ordered m root (suc up)) (w u : Bool) (v j : ℕ) (lt : j < total_of m) (free : marked m.frames.bits j ≡ 0) where
  lu : length (upper up v) ≤ suc up
  lu = omega (arith, length_upper up v)

  unreached : (p : List ℕ) → length p ≤ suc up → reach_in (freshened m j) root p ≡ Ok (start_frame m + j) → ⊥
  unreached p lp h = free_unreached o (start_frame m + j) (fresh_free o j lt free) p lp (sym (fresh_reach o j lt free p lp) ∙ h)

  -- mapped
  pub frame_took : (x : ℕ) → (map_frame up w u m root v j).walked ≡ Ok x → Took m root up v (start_frame m + j) (map_frame up w u m root v j).mem
  unfolding with_mark
  frame_took x h =
      let f : ℕ = start_frame m + j in
      let g = fresh_grew o j lt free (path up v) in
      let ins = fresh_inside o j lt free in
      let r = page_placed g.order u v (entry_of (f * 2 ^ 12) w u) f (maps_entry (f * 2 ^ 12) w u).present (frame_entry f w u (in_entry o f ins)) ins (fresh_marked o j lt free) unreached x h in
      record {
        grew = grew_trans (omega (arith, length_path up v)) g r.grew (λ y z. absurd z)
            (λ y. ⊎_elim (free_before g y) (λ d. ap (λ (y : ℕ). marked m.frames.bits (y - start_frame m)) d ∙ fresh_free o j lt free))
            (λ y d. inl (record { path = path up v; lead = leads_refl (path up v); comes = r.page ∙ ap Ok (sym d) })) (λ y z. z);
        lent = ins;
        free = fresh_free o j lt free;
        page = r.page;
        off = λ y k. r.off y (fresh_reach o j lt free (path up v) (omega (arith, length_path up v)) ∙ k);
        leaves = λ p lp d.
            map_other g.order u (upper up v) (last up v) (omega (arith, length_upper up v)) (upper_small up v) (last_small up v) (entry_of (f * 2 ^ 12) w u) p lp
            (λ l. d (sym (sym (path_split up v) ∙ leads_whole l (omega (arith, lp, ap length (path_split up v), length_path up v)))))
            ∙ fresh_leaf o j lt free p (omega arith);
      }

  -- not mapped
  pub frame_lost : (a : Refusal) → (map_frame up w u m root v j).walked ≡ Err a → Lost m root up v (start_frame m + j) (map_frame up w u m root v j).mem
  unfolding with_mark
  frame_lost a h =
      let f : ℕ = start_frame m + j in
      let g = fresh_grew o j lt free (upper up v) in
      let r = page_refused g.order u v (entry_of (f * 2 ^ 12) w u) a h in
      record {
        grew = grew_trans lu g r.grew (λ y z. absurd z) (free_before g) (λ y d. inr d) (λ y z. absurd z);
        lent = fresh_inside o j lt free;
        free = fresh_free o j lt free;
        mine = r.grew.more f (fresh_marked o j lt free);
        away = λ p lp k. ⊎_elim (λ c. unreached p lp c) (λ c. omega (arith, c.1, fresh_marked o j lt free)) (r.grew.grew p f lp k);
        leaves = λ p lp. r.leaves p lp ∙ fresh_leaf o j lt free p (omega arith);
      }

-- ---- what is new, path by path

module _ {m m' : Memory} {root up v f : ℕ} (t : Took m root up v f m') where
  -- a path that is reached was so before, is the page's, or is a proper leading run of it
  pub took_new : (p : List ℕ) (x : ℕ) → length p ≤ suc up → reach_in m' root p ≡ Ok x
      → (reach_in m root p ≡ Ok x) ⊎ ((p ≡ path up v) × (x ≡ f)) ⊎ (Leads p (upper up v) × Free m x)
  took_new p x lp h = ⊎_elim (λ a. inl a) (λ a. inr (part (leads_snoc p (upper up v) (last up v) (rw (path_split up v) a.0)) a.1)) (t.grew.grew p x lp h)
    where
      part : Leads p (upper up v) ⊎ (p ≡ upper up v ++ (last up v ∷ [])) → Free m x → ((p ≡ path up v) × (x ≡ f)) ⊎ (Leads p (upper up v) × Free m x)
      part (inl l) free = inr (l, free)
      part (inr e) free =
          let pe : p ≡ path up v = e ∙ path_split up v in
          let a : reach_in m' root (path up v) ≡ Ok x = subst (λ (q : List ℕ). reach_in m' root q ≡ Ok x) pe h in
          let b = t.page in
          inl (pe, cc)

  -- and each leading run of the page's path is reached
  pub took_lead : {p : List ℕ} → Leads p (path up v) → (x : ℕ) × (reach_in m' root p ≡ Ok x)
  took_lead l = reach_lead m'.words (start_frame m') (total_of m') root f l t.page
