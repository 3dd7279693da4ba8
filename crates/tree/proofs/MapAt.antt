-- Mapping by address, on a board of up + 1 levels: the laws of `Mapping` at the path of an address.
use Prim.Native.Nat.{ℕ, suc, ◌≤◌}
use mathlib.Core.Path.{◌≡◌, sym, ◌∙◌, ap, ap₂, subst}
use mathlib.Core.Bool.{Bool, true}
use mathlib.Core.List.{List, [], ◌∷◌, ◌++◌}
use native.Mathlib.Omega.{arith}
use lib.ListN.{length, get_or, take, length-take}
use lib.Seq.{take-suc}
use Rattle.std.specs.Prelude.{Ok, Err, Result}
use Rattle.answer.specs.declared.Refusal.{Refusal}
use Rattle.answer.specs.declared.Refusal.TheVariants.{BrokenRecord}
use Rattle.bits.specs.Bit.{flag, pick}
use Rattle.entry.specs.Entry.{frame_of}
use Rattle.entry.proofs.Entry.{indices_lt}
use Rattle.paging.specs.Walk.{address}
use Rattle.paging.specs.Map.{Memory, start_frame, total_of}
use Rattle.paging.specs.Calls.{map_at, lent_walk, translate}
use Rattle.paging.proofs.Map.{map_entry_kept}
use Rattle.tree.proofs.Paths.{leads_take, path, upper, last, length_path, length_upper, take_small, upper_small, last_small, path_split, take_path}
use Rattle.tree.proofs.Ordered.{reach_in, leaf_in, inside_in, mark_in, translate_in, Ordered}
use Rattle.tree.proofs.Mapping.{map_other, Turned, map_refused, Placed, map_placed}

module _ {m : Memory} {root up : ℕ} (o : Ordered m root (suc up)) (u : Bool) (v e : ℕ) where
  -- a word that is written below k tables changes no page whose first k + 1 indices are others
  pub below_other : (k : ℕ) → k ≤ up → (v' : ℕ) → (take (suc k) (path up v') ≡ take (suc k) (path up v) → ⊥)
      → leaf_in (map_at up k u m root v e).mem root (path up v') ≡ leaf_in m root (path up v')
  below_other k l v' d =
      let q = take k (path up v) in
      let j = get_or (path up v) k 0 in
      let lq : length q ≡ k = length-take k (path up v) ∙ omega (arith, length_path up v) in
      let w : take (suc k) (path up v) ≡ q ++ (j ∷ []) = take-suc (path up v) k 0 (omega (arith, length_path up v)) in
      let lw : length (take (suc k) (path up v)) ≡ suc k = length-take (suc k) (path up v) ∙ omega (arith, length_path up v) in
      map_other o u q j (omega arith) (take_small k (path up v) (indices_lt (suc up) v)) (indices_lt (suc up) v k) e (path up v') (length_path up v')
      (λ a. d (sym (w ∙ leads_take a ∙ ap (λ (x : ℕ). take x (path up v')) (ap length (sym w) ∙ lw))))

  -- nor its translation
  pub below_translate : (k : ℕ) → k ≤ up → (v' : ℕ) → (take (suc k) (path up v') ≡ take (suc k) (path up v) → ⊥)
      → translate_in (suc up) (map_at up k u m root v e).mem root v' ≡ translate_in (suc up) m root v'
  unfolding translate
  below_translate k l v' d =
      let c = map_entry_kept u m root (take k (path up v)) (get_or (path up v) k 0) e in
      let s : lent_walk (suc up) (length (map_at up k u m root v e).mem.words) (start_frame (map_at up k u m root v e).mem) (total_of (map_at up k u m root v e).mem) root
      ≡ lent_walk (suc up) (length m.words) (start_frame m) (total_of m) root = rw (c.words, c.start, c.total) in
      ap₂ (λ (x : Bool) (y : Result ℕ Refusal). pick x y (Err BrokenRecord)) s (ap (address v') (below_other k l v' d))

  -- so a page's word, met or refused, changes no other page
  pub page_other : (v' : ℕ) → (path up v' ≡ path up v → ⊥) → leaf_in (map_at up up u m root v e).mem root (path up v') ≡ leaf_in m root (path up v')
  page_other v' d = below_other up (omega arith) v' (λ a. d (sym (take_path up v') ∙ a ∙ take_path up v))

  pub page_translate : (v' : ℕ) → (path up v' ≡ path up v → ⊥) → translate_in (suc up) (map_at up up u m root v e).mem root v' ≡ translate_in (suc up) m root v'
  page_translate v' d = below_translate up (omega arith) v' (λ a. d (sym (take_path up v') ∙ a ∙ take_path up v))

  -- refused it changes no leaf at all
  pub page_refused : (a : Refusal) → (map_at up up u m root v e).walked ≡ Err a → Turned m root (suc up) (upper up v) (last up v) a (map_at up up u m root v e).mem
  page_refused = map_refused o u (upper up v) (last up v) (omega (arith, length_upper up v)) (upper_small up v) (last_small up v) e

  -- and met, with a marked frame that nothing reaches, it adds that page
  pub page_placed : (f : ℕ) → flag 0 e ≡ true → frame_of e ≡ f → inside_in m f ≡ true → mark_in m f ≡ 1 → ((p : List ℕ) → length p ≤ suc up → reach_in m root p ≡ Ok f → ⊥)
      → (x : ℕ) → (map_at up up u m root v e).walked ≡ Ok x → Placed m root (suc up) (path up v) f (map_at up up u m root v e).mem
  page_placed f bit to may_walk mine new x h =
      subst (λ (w : List ℕ). Placed m root (suc up) w f (map_at up up u m root v e).mem) (path_split up v)
      (map_placed o u (upper up v) (last up v) (omega (arith, length_upper up v)) (upper_small up v) (last_small up v) e f (ap suc (length_upper up v)) bit to may_walk mine new x h)
