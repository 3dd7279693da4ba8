-- Pages unmapped by address, as vfree, munmap and a refused mmap do it: with the frame freed, or kept. Two pages are freed in either order alike.
use Prim.Native.Nat.{ℕ, suc, ◌-◌, ◌≤◌}
use mathlib.Core.Path.{◌≡◌, refl, sym, ◌∙◌, ap, ap₂, subst}
use mathlib.Core.List.Memᴰ
use mathlib.Core.List.{List, [], ◌∷◌, ◌++◌, foldl, Permᴰ}
use native.Mathlib.Omega.{arith}
use lib.ListN.{length, get_or, take}
use lib.Seq.{set_comm}
use Rattle.std.specs.Prelude.{Ok, Err, Result}
use Rattle.answer.specs.declared.Refusal.{Refusal}
use Rattle.answer.specs.declared.Refusal.TheVariants.{NotMapped}
use Rattle.bitmap.proofs.Marks.{is_marked_lem, unmark_comm}
use Rattle.frame.specs.declared.Found.{Found}
use Rattle.frame.specs.declared.Found.TheVariants.{Freed}
use Rattle.frame.specs.Frames.{FramesDid, without_mark, give_frame, with_counter}
use Rattle.frame.specs.Found.{one_found}
use Rattle.frame.proofs.Laws.{inside_from, give_marked}
use Rattle.paging.specs.Walk.{place}
use Rattle.paging.specs.Map.{Memory, memory, start_frame, total_of, Left, left, unmap_entry}
use Rattle.paging.specs.Pages.{unmap_leaf, clear_page, free_page}
use Rattle.paging.specs.Pages.{freed as freed_of}
use Rattle.paging.specs.Found.{page_found}
use Rattle.paging.proofs.Found.{page_found_lem}
use Rattle.tree.proofs.Paths.{path, upper, last, length_path, length_upper, last_small, path_split, take_leads, same_path}
use Rattle.tree.proofs.Walks.{place_table, place_index, reach_lead}
use Rattle.tree.proofs.Tree.{stored}
use Rattle.tree.proofs.Ordered.{reach_in, mark_in, PlainIn, Ordered}
use Rattle.tree.proofs.Release.{unmap_met, unmap_none, Cut, cleared, freed, cleared_cut, freed_cut, freed_free}
use Rattle.tree.proofs.Orders.{one_end, good_end}
use Rattle.tree.proofs.Accounts.{Accounted, freed_accounted, cleared_accounted}
use Rattle.tree.proofs.Books.{Live, Tabled, cut_live, cut_tabled}

-- ---- a page that is not reached

module _ (up : ℕ) (m : Memory) (root v : ℕ) (a : Refusal) (h : reach_in m root (path up v) ≡ Err a) where
  no_leaf : (b : Refusal) × (unmap_leaf up m root v ≡ left (Err b) m.words)
  no_leaf =
      unmap_none m.words (start_frame m) (total_of m) root (upper up v) (last up v) a (last_small up v)
      (ap (reach_in m root) (path_split up v) ∙ h)

  -- nothing is done
  pub free_none : free_page up m root v ≡ m
  unfolding free_page
  free_none = ap (λ (l : Left). memory l.words (freed_of l.walked m.frames)) no_leaf.1

  pub clear_none : clear_page up m root v ≡ m
  unfolding clear_page
  clear_none = ap (λ (l : Left). memory l.words m.frames) no_leaf.1

-- ---- a page that is reached

-- the last table on the way to it
pub way_to : (up : ℕ) (m : Memory) (root v f : ℕ) → reach_in m root (path up v) ≡ Ok f → (t : ℕ) × (reach_in m root (upper up v) ≡ Ok t)
way_to up m root v f h = reach_lead m.words (start_frame m) (total_of m) root f (take_leads up (path up v)) h

module _ {m : Memory} {root up : ℕ} (o : Ordered m root (suc up)) (v t f : ℕ) (ht : reach_in m root (upper up v) ≡ Ok t) (hf : reach_in m root (path up v) ≡ Ok f) where
  split : reach_in m root (upper up v ++ (last up v ∷ [])) ≡ Ok f
  split = ap (reach_in m root) (path_split up v) ∙ hf

  its_leaf : unmap_leaf up m root v ≡ left (Ok f) (stored m.words (start_frame m) t (last up v) 0)
  its_leaf = unmap_met m.words (start_frame m) (total_of m) root (upper up v) (last up v) t f ht split

  gives : give_frame m.frames f ≡ record { answer = Freed; frames = without_mark m.frames (f - start_frame m) }
  gives =
      give_marked m.frames f (o.tree.into (path up v) f (omega (arith, length_path up v)) hf)
      (is_marked_lem m.frames.bits (f - start_frame m) (o.tree.kept (path up v) f (omega (arith, length_path up v)) hf))

  -- its leaf is cleared and its frame freed
  pub free_met : free_page up m root v ≡ freed m t (last up v) f
  unfolding free_page
  free_met =
      ap (λ (l : Left). memory l.words (freed_of l.walked m.frames)) its_leaf
      ∙ ap (λ (d : FramesDid _). memory (stored m.words (start_frame m) t (last up v) 0) d.frames) gives

  pub free_found : page_found up m root v ≡ one_found Freed
  free_found = page_found_lem up m root v f _ its_leaf ∙ ap (λ (d : FramesDid Found). one_found d.answer) gives

  pub clear_met : clear_page up m root v ≡ cleared m t (last up v)
  unfolding clear_page
  clear_met = ap (λ (l : Left). memory l.words m.frames) its_leaf

  lu : suc (length (upper up v)) ≡ suc up
  lu = ap suc (length_upper up v)

  -- all else is as it was
  pub free_cut : Cut m (free_page up m root v) root (suc up) (path up v) f
  free_cut =
      subst (λ (x : Memory). Cut m x root (suc up) (path up v) f) (sym free_met)
      (subst (λ (w : List ℕ). Cut m (freed m t (last up v) f) root (suc up) w f) (path_split up v)
      (freed_cut o (upper up v) (last up v) t f lu (last_small up v) ht split))

  pub clear_cut : Cut m (clear_page up m root v) root (suc up) (path up v) f
  clear_cut =
      subst (λ (x : Memory). Cut m x root (suc up) (path up v) f) (sym clear_met)
      (subst (λ (w : List ℕ). Cut m (cleared m t (last up v)) root (suc up) w f) (path_split up v)
      (cleared_cut o (upper up v) (last up v) t f lu (last_small up v) ht split))

  -- the page's frame is free, or stays marked
  pub free_free : mark_in (free_page up m root v) f ≡ 0
  free_free = rw free_met (freed_free o (upper up v) (last up v) t f lu (last_small up v) ht split)

  pub clear_kept : mark_in (clear_page up m root v) f ≡ 1
  clear_kept = rw clear_met (o.tree.kept (path up v) f (omega (arith, length_path up v)) hf)

-- ---- any page

module _ {m : Memory} {root up : ℕ} (o : Ordered m root (suc up)) (v : ℕ) where
  pub free_cases : (P : Memory → Type 0) → ((t f : ℕ) → reach_in m root (upper up v) ≡ Ok t → reach_in m root (path up v) ≡ Ok f → P (free_page up m root v))
      → ((a : Refusal) → reach_in m root (path up v) ≡ Err a → P m) → P (free_page up m root v)
  free_cases P yes-it no-it = go (reach_in m root (path up v)) refl
    where
      go : (x : Result ℕ Refusal) → reach_in m root (path up v) ≡ x → P (free_page up m root v)
      go (Ok f) h = let t = way_to up m root v f h in yes-it t.0 f t.1 h
      go (Err a) h = rw (free_none up m root v a h) (no-it a h)

  -- the memory stays in order
  pub free_ordered : Ordered (free_page up m root v) root (suc up)
  free_ordered = free_cases (λ (x : Memory). Ordered x root (suc up)) (λ t f ht hf. (free_cut o v t f ht hf).order) (λ _ _. o)

  pub free_plain : PlainIn m root (suc up) → PlainIn (free_page up m root v) root (suc up)
  free_plain w = free_cases (λ (x : Memory). PlainIn x root (suc up)) (λ t f ht hf. (free_cut o v t f ht hf).plain w) (λ _ _. w)

  -- and what is not reached is so still
  pub free_off : (p : List ℕ) (a : Refusal) → length p ≤ suc up → reach_in m root p ≡ Err a → (b : Refusal) × (reach_in (free_page up m root v) root p ≡ Err b)
  free_off p a lp h =
      free_cases (λ (x : Memory). (b : Refusal) × (reach_in x root p ≡ Err b))
      (λ t f ht hf. by (free_cut o v t f ht hf) (same_path p (path up v))) (λ _ _. (a, h))
    where
      by : {f : ℕ} {x : Memory} → Cut m x root (suc up) (path up v) f → Dec (p ≡ path up v) → (b : Refusal) × (reach_in x root p ≡ Err b)
      by {x = x} c (yes e) = (NotMapped, ap (reach_in x root) e ∙ c.gone)
      by c (no d) = (a, c.rest p lp d ∙ h)

-- no frame is lost
pub free_accounted : {m : Memory} {root up : ℕ} {lost : List ℕ} → Accounted m root (suc up) lost → (v : ℕ) → Accounted (free_page up m root v) root (suc up) lost
free_accounted {root = root} {up = up} {lost = lost} c v =
    free_cases c.order v (λ (x : Memory). Accounted x root (suc up) lost)
    (λ t f ht hf. freed_accounted c (omega (arith, length_path up v)) (free_cut c.order v t f ht hf) (free_free c.order v t f ht hf)) (λ a h. c)

-- a page that is cleared and not freed: its frame is lost
pub clear_accounted : {m : Memory} {root up : ℕ} {lost : List ℕ} → Accounted m root (suc up) lost → (v t f : ℕ) → reach_in m root (upper up v) ≡ Ok t
    → reach_in m root (path up v) ≡ Ok f → Accounted (clear_page up m root v) root (suc up) (f ∷ lost)
clear_accounted {up = up} c v t f ht hf = cleared_accounted c (omega (arith, length_path up v)) (clear_cut c.order v t f ht hf) (clear_kept c.order v t f ht hf)

-- the other pages and the tables stay
pub free_live : {m : Memory} {root up v : ℕ} {l : List ℕ} → Ordered m root (suc up) → Live m root up (v ∷ l) → Live (free_page up m root v) root up l
free_live {m} {root} {up} {v} o a =
    let b = a.here v (Memᴰ.head refl) in
    let t = way_to up m root v b.0 b.1 in
    cut_live (free_cut o v t.0 b.0 t.1 b.1) a

pub free_tabled : {m : Memory} {root up : ℕ} {l : List ℕ} → Ordered m root (suc up) → (v : ℕ) → Tabled m root up l → Tabled (free_page up m root v) root up l
free_tabled {root = root} {up = up} {l = l} o v a =
    free_cases o v (λ (x : Memory). Tabled x root up l) (λ t f ht hf. cut_tabled (length_path up v) (free_cut o v t f ht hf) a) (λ _ _. a)

-- one path, one page
pub free_same : (up : ℕ) (m : Memory) (root v v' : ℕ) → path up v ≡ path up v' → free_page up m root v ≡ free_page up m root v'
unfolding free_page
free_same up m root v v' e =
    ap (λ (p : List ℕ).
    let l = unmap_entry m.words (start_frame m) (total_of m) root (take up p) (get_or p up 0) in memory l.words (freed_of l.walked m.frames)) e

-- ---- two pages

module _ {m : Memory} {root up : ℕ} (o : Ordered m root (suc up)) (v v' t t' f f' : ℕ)
    (ht : reach_in m root (upper up v) ≡ Ok t) (hf : reach_in m root (path up v) ≡ Ok f)
    (ht' : reach_in m root (upper up v') ≡ Ok t') (hf' : reach_in m root (path up v') ≡ Ok f') (d : path up v ≡ path up v' → ⊥) where
  -- their leaves lie apart
  leaves_apart : place (start_frame m) t (last up v) ≡ place (start_frame m) t' (last up v') → ⊥
  leaves_apart e =
      let a : start_frame m ≤ t = inside_from (start_frame m) (total_of m) t (o.tree.into (upper up v) t (omega (arith, length_upper up v)) ht) in
      let a' : start_frame m ≤ t' = inside_from (start_frame m) (total_of m) t' (o.tree.into (upper up v') t' (omega (arith, length_upper up v')) ht') in
      let tt' : t ≡ t' = place_table (start_frame m) t' (last up v') t (last up v) a' a (last_small up v') (last_small up v) e in
      let jj' : last up v ≡ last up v' = place_index (start_frame m) t' (last up v') t (last up v) a' a (last_small up v') (last_small up v) e in
      let qq' : upper up v ≡ upper up v' =
      o.tree.once (upper up v) (upper up v') t' (omega (arith, length_upper up v)) (omega (arith, length_upper up v')) (ht ∙ ap Ok tt') ht' in
      d (sym (path_split up v) ∙ ap₂ (λ (p : List ℕ) (i : ℕ). p ++ (i ∷ [])) qq' jj' ∙ path_split up v')

  -- the second page once the first is freed
  free_two : free_page up (free_page up m root v) root v' ≡ freed (freed m t (last up v) f) t' (last up v') f'
  free_two =
      let c = free_cut o v t f ht hf in
      let ht₁ = c.rest (upper up v') (omega (arith, length_upper up v')) (λ e. omega (arith, ap length e, length_upper up v', length_path up v)) ∙ ht' in
      let hf₁ = c.rest (path up v') (omega (arith, length_path up v')) (λ e. d (sym e)) ∙ hf' in
      free_met c.order v' t' f' ht₁ hf₁ ∙ ap (λ (x : Memory). freed x t' (last up v') f') (free_met o v t f ht hf)

  freed_comm : freed (freed m t (last up v) f) t' (last up v') f' ≡ freed (freed m t' (last up v') f') t (last up v) f
  unfolding without_mark
  freed_comm =
      let w = set_comm m.words (place (start_frame m) t (last up v)) (place (start_frame m) t' (last up v')) 0 0 leaves_apart in
      let b = unmark_comm m.frames.bits (f - start_frame m) (f' - start_frame m) in
      λ k. memory (w k) (record { bits = b k; fa = with_counter m.frames.fa (m.frames.fa.allocated - 1 - 1) })

-- mapped or not, the same or not: freed in either order they leave the same memory
module _ {m : Memory} {root up : ℕ} (o : Ordered m root (suc up)) (v v' : ℕ) where
  pub free_comm : free_page up (free_page up m root v) root v' ≡ free_page up (free_page up m root v') root v
  free_comm = go (reach_in m root (path up v)) refl (reach_in m root (path up v')) refl
    where
      still : (w z : ℕ) (a : Refusal) → reach_in m root (path up z) ≡ Err a → free_page up (free_page up m root w) root z ≡ free_page up m root w
      still w z a h = let b = free_off o w (path up z) a (omega (arith, length_path up z)) h in free_none up (free_page up m root w) root z b.0 b.1

      both : (f f' : ℕ) → reach_in m root (path up v) ≡ Ok f → reach_in m root (path up v') ≡ Ok f' → Dec (path up v ≡ path up v')
          → free_page up (free_page up m root v) root v' ≡ free_page up (free_page up m root v') root v
      both f f' h h' (yes e) =
          free_same up (free_page up m root v) root v' v (sym e) ∙ ap (λ (x : Memory). free_page up x root v) (free_same up m root v v' e)
      both f f' h h' (no d) =
          let t = way_to up m root v f h in
          let t' = way_to up m root v' f' h' in
          free_two o v v' t.0 t'.0 f f' t.1 h t'.1 h' d ∙ freed_comm o v v' t.0 t'.0 f f' t.1 h t'.1 h' d
          ∙ sym (free_two o v' v t'.0 t.0 f' f t'.1 h' t.1 h (λ e. d (sym e)))

      go : (x : Result ℕ Refusal) → reach_in m root (path up v) ≡ x → (y : Result ℕ Refusal) → reach_in m root (path up v') ≡ y
          → free_page up (free_page up m root v) root v' ≡ free_page up (free_page up m root v') root v
      go (Err a) h y h' = ap (λ (x : Memory). free_page up x root v') (free_none up m root v a h) ∙ sym (still v' v a h)
      go (Ok f) h (Err a) h' = still v v' a h' ∙ ap (λ (x : Memory). free_page up x root v) (sym (free_none up m root v' a h'))
      go (Ok f) h (Ok f') h' = both f f' h h' (same_path (path up v) (path up v'))

-- ---- any number of pages

abbrev pub free_all : ℕ → ℕ → Memory → List ℕ → Memory
free_all up root m l = foldl (λ (x : Memory) (v : ℕ). free_page up x root v) m l

module _ {m : Memory} {root up : ℕ} (o : Ordered m root (suc up)) where
  -- whatever the order in which pages are freed, one memory is left
  pub pages_end : {l k : List ℕ} → Permᴰ l k → free_all up root m l ≡ free_all up root m k
  pages_end r =
      one_end (λ (x : Memory) (v : ℕ). free_page up x root v) (λ (x : Memory). Ordered x root (suc up)) (λ x v g. free_ordered g v) (λ x v v' g. free_comm g v v') r m o

  -- and it is in order
  pub pages_ordered : (l : List ℕ) → Ordered (free_all up root m l) root (suc up)
  pages_ordered l =
      good_end (λ (x : Memory) (v : ℕ). free_page up x root v) (λ (x : Memory). Ordered x root (suc up)) (λ x v g. free_ordered g v) (λ x v v' g. free_comm g v v') l m o
