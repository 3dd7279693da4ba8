-- A memory from which leaves were freed: the same frames are lent, and no more is reached than before.
use Prim.Native.Nat.{ℕ}
use mathlib.Core.Path.{◌≡◌, refl, sym, ◌∙◌, ap}
use mathlib.Core.Bool.{false≢true}
use mathlib.Core.List.{List, [], ◌∷◌, ◌++◌}
use lib.ListN.{get_or, set}
use Rattle.std.specs.Prelude.{Ok, Err, Result}
use Rattle.answer.specs.declared.Refusal.{Refusal}
use Rattle.bits.specs.Bit.{flag}
use Rattle.bits.proofs.Choice.{pick_cases}
use Rattle.entry.proofs.Entry.{flag_zero}
use Rattle.frame.specs.declared.Found.{Found}
use Rattle.frame.specs.Frames.{Frames, FramesDid, inside, without_mark}
use Rattle.frame.proofs.Laws.{give_cases}
use Rattle.answer.specs.Outcomes.{and_then}
use Rattle.paging.specs.Walk.{place, reach}
use Rattle.paging.specs.Map.{Memory, memory, start_frame, total_of, Left, left, take_leaf, unmap_entry}
use Rattle.paging.specs.Pages.{unmap_leaf, freed, free_page}
use Rattle.paging.proofs.Map.{take_leaf_there, unmap_entry_take}
use Rattle.tree.proofs.Paths.{path, upper, last, path_split}
use Rattle.tree.proofs.Walks.{entry_cases, reach_back}
use Rattle.tree.proofs.Ordered.{reach_in}
use Rattle.freeing_runs.specs.Freeing.{free_leaf}
use Rattle.paging.proofs.Map.{set_own}
use Rattle.freeing_runs.proofs.Fewer.{Fewer, fewer_refl, fewer_trans, fewer_set, fewer_entry, fewer_reach, fewer_stop}

pub record Less (m m' : Memory) : Type 0 where
  pub start : start_frame m' ≡ start_frame m
  pub total : total_of m' ≡ total_of m
  pub words : Fewer m.words m'.words

pub less_refl : (m : Memory) → Less m m
less_refl m = record { start = refl; total = refl; words = fewer_refl m.words }

pub less_trans : {a b c : Memory} → Less a b → Less b c → Less a c
less_trans f g = record { start = g.start ∙ f.start; total = g.total ∙ f.total; words = fewer_trans f.words g.words }

module _ {m m' : Memory} (f : Less m m') (root : ℕ) (p : List ℕ) where
  same_lent : reach_in m' root p ≡ reach m'.words (start_frame m) (total_of m) root p
  same_lent = rw (f.start, f.total)

  pub less_reach : (g : ℕ) → reach_in m' root p ≡ Ok g → reach_in m root p ≡ Ok g
  less_reach g h = fewer_reach f.words (start_frame m) (total_of m) p root g (sym same_lent ∙ h)

  pub less_stop : (a : Refusal) → reach_in m root p ≡ Err a → (b : Refusal) × (reach_in m' root p ≡ Err b)
  less_stop a h = let s = fewer_stop f.words (start_frame m) (total_of m) p root a h in (s.0, same_lent ∙ s.1)

-- ---- a leaf freed, and a page

freed_lent : (w : Result ℕ Refusal) (fr : Frames) → ((freed w fr).fa.start ≡ fr.fa.start) × ((freed w fr).fa.total ≡ fr.fa.total)
unfolding without_mark
freed_lent (Ok f) fr =
    give_cases fr f (λ (d : FramesDid Found). (d.frames.fa.start ≡ fr.fa.start) × (d.frames.fa.total ≡ fr.fa.total))
    (λ _. (refl, refl)) (λ _ _. (refl, refl)) (λ _ _. (refl, refl))
freed_lent (Err n) fr = (refl, refl)

freed_less : (m : Memory) (l : Left) → Fewer m.words l.words → Less m (memory l.words (freed l.walked m.frames))
freed_less m l f = record { start = (freed_lent l.walked m.frames).0; total = (freed_lent l.walked m.frames).1; words = f }

take_fewer : (ws : List ℕ) (start total t i : ℕ) → Fewer ws (take_leaf ws start total t i).words
unfolding take_leaf
take_fewer ws start total t i =
    let P : Left → Type 0 = λ l. Fewer ws l.words in
    pick_cases P (inside start total t) _ _
    (λ _. pick_cases P (flag 0 (get_or ws (place start t i) 0)) _ _ (λ _. fewer_set ws (place start t i)) (λ _. fewer_refl ws)) (λ _. fewer_refl ws)

unmap_fewer : (ws : List ℕ) (start total root : ℕ) (p : List ℕ) (i : ℕ) → Fewer ws (unmap_entry ws start total root p i).words
unfolding unmap_entry
unmap_fewer ws start total root p i = go (reach ws start total root p)
  where
    go : (w : Result ℕ Refusal) → Fewer ws (and_then w (λ n. left (Err n) ws) (λ t. take_leaf ws start total t i)).words
    go (Ok t) = take_fewer ws start total t i
    go (Err n) = fewer_refl ws

pub leaf_less : (m : Memory) (t i : ℕ) → Less m (free_leaf m t i)
unfolding free_leaf
leaf_less m t i = freed_less m (take_leaf m.words (start_frame m) (total_of m) t i) (take_fewer m.words (start_frame m) (total_of m) t i)

pub free_less : (up : ℕ) (m : Memory) (root v : ℕ) → Less m (free_page up m root v)
unfolding free_page
free_less up m root v = freed_less m (unmap_leaf up m root v) (unmap_fewer m.words (start_frame m) (total_of m) root (upper up v) (last up v))

-- a page that was freed is not reached
pub free_gone : (up : ℕ) (m : Memory) (root v : ℕ) → (b : Refusal) × (reach_in (free_page up m root v) root (path up v) ≡ Err b)
unfolding free_page
free_gone up m root v = go (reach_in m' root (path up v)) refl
  where
    m' : Memory
    m' = free_page up m root v

    ws : List ℕ
    ws = m.words

    ws' : List ℕ
    ws' = (unmap_leaf up m root v).words

    f : Less m m'
    f = free_less up m root v

    still : (g : ℕ) → reach ws' (start_frame m) (total_of m) root (upper up v ++ (last up v ∷ [])) ≡ Ok g → ⊥
    still g h =
        let b = reach_back ws' (start_frame m) (total_of m) root (upper up v) (last up v) g h in
        let t = b.table in
        let way : reach ws (start_frame m) (total_of m) root (upper up v) ≡ Ok t = fewer_reach f.words (start_frame m) (total_of m) (upper up v) root t b.way in
        let c = entry_cases ws (start_frame m) (total_of m) t (last up v) b.word (fewer_entry f.words (start_frame m) (total_of m) t (last up v) b.word b.entry) in
        let c' = entry_cases ws' (start_frame m) (total_of m) t (last up v) b.word b.entry in
        let e : unmap_leaf up m root v ≡ left (Ok _) (set ws (place (start_frame m) t (last up v)) 0) =
        unmap_entry_take ws (start_frame m) (total_of m) root (upper up v) (last up v) t way
        ∙ take_leaf_there ws (start_frame m) (total_of m) t (last up v) c.table (rw c.word c.bit) in
        let z : b.word ≡ 0 =
        sym c'.word ∙ ap (λ (l : Left). get_or l.words (place (start_frame m) t (last up v)) 0) e ∙ set_own ws (place (start_frame m) t (last up v)) in
        false≢true (sym (flag_zero 0) ∙ ap (flag 0) (sym z) ∙ c'.bit)

    go : (x : Result ℕ Refusal) → reach_in m' root (path up v) ≡ x → (b : Refusal) × (reach_in m' root (path up v) ≡ Err b)
    go (Err b) h = (b, h)
    go (Ok g) h = absurd (still g (ap (reach ws' (start_frame m) (total_of m) root) (path_split up v) ∙ sym (same_lent f root (path up v)) ∙ h))
