-- 'The lent frames are the `total` from start_frame on; words past them are not touched': no step stores past them, whatever the words and the record are.
use Prim.Native.Nat.{ℕ, zero, suc, ◌+◌, ◌*◌, ◌<◌, ◌≤◌}
use mathlib.Core.Path.{◌≡◌, refl, ◌∙◌, subst}
use mathlib.Core.Bool.{Bool, true}
use mathlib.Core.List.{List, [], ◌∷◌}
use native.Mathlib.Omega.{arith}
use lib.Dec.{ltb}
use lib.ListN.{length, get_or, set, take, length-set}
use lib.Seq.{get_or-set_other}
use Rattle.std.specs.Prelude.{Ok, Err, Result}
use Rattle.answer.specs.declared.Refusal.{Refusal}
use Rattle.address.specs.declared.Frame.{Frame}
use Rattle.bits.specs.Bit.{flag}
use Rattle.bits.proofs.Choice.{pick_cases}
use Rattle.entry.specs.Entry.{index, indices, with_writable}
use Rattle.entry.proofs.Entry.{indices_lt}
use Rattle.frame.specs.Frames.{FramesDid, inside}
use Rattle.frame.proofs.Laws.{inside_under, take_cases}
use Rattle.frame.proofs.Steps.{span_with, span_give}
use Rattle.answer.specs.Outcomes.{and_then}
use Rattle.paging.specs.Walk.{place, present, entry_at, reach}
use Rattle.paging.specs.Map.{Memory, memory, start_frame, total_of, Out, out, go_on, clear, zero_frame, enter, make, Left, left, put_entry, map_entry, take_leaf, unmap_entry}
use Rattle.paging.specs.Calls.{map_at}
use Rattle.paging.specs.Levels.{levels_of}
use Rattle.paging.specs.Pages.{zeroed, fresh_frame, map_fresh, map_pages, unmap_leaf, clear_page, freed, free_page, clear_pages, free_pages}
use Rattle.paging.specs.Protect.{page_place, protect_page, protect_pages}
use Rattle.paging.proofs.Map.{go_on_cases, enter_cases}
use Rattle.paging.proofs.Pages.{map_pages_on, map_pages_stop}

-- ---- words from number n on stay, and so does how many there are

pub record Past (n : ℕ) (ws ws' : List ℕ) : Type 0 where
  pub number : length ws' ≡ length ws
  pub past : (i : ℕ) → n ≤ i → get_or ws' i 0 ≡ get_or ws i 0

pub past_same : (n : ℕ) (ws : List ℕ) → Past n ws ws
past_same n ws = record { number = refl; past = λ i l. refl }

pub past_then : {n : ℕ} {a b c : List ℕ} → Past n a b → Past n b c → Past n a c
past_then p q = record { number = q.number ∙ p.number; past = λ i l. q.past i l ∙ p.past i l }

pub past_set : (n : ℕ) (ws : List ℕ) (k e : ℕ) → k < n → Past n ws (set ws k e)
past_set n ws k e h = record { number = length-set ws k e; past = λ i l. get_or-set_other ws k i e 0 (λ q. omega arith) }

pub past_clear : (n : ℕ) (ws : List ℕ) (at c : ℕ) → at + c ≤ n → Past n ws (clear ws at c)
unfolding clear
past_clear n ws at zero h = past_same n ws
past_clear n ws at (suc c) h = past_then (past_clear n ws at c (omega arith)) (past_set n (clear ws at c) (at + c) 0 (omega arith))

-- a frame's words, and an entry of a table
pub past_zero : (ws : List ℕ) (start total j : ℕ) → j < total → Past (total * 512) ws (zero_frame ws start (start + j))
past_zero ws start total j h = past_clear (total * 512) ws _ _ (omega arith)

pub past_entry : (ws : List ℕ) (start total t i e : ℕ) → inside start total t ≡ true → i < 512 → Past (total * 512) ws (set ws (place start t i) e)
past_entry ws start total t i e h small = past_set (total * 512) ws (place start t i) e (omega (arith, inside_under start total t h))

-- ---- paths of indices

abbrev pub Small : List ℕ → Type 0
Small [] = Unit {0}
Small (i ∷ is) = (i < 512) × Small is

pub small_indices : (n v : ℕ) → Small (indices n v)
small_indices zero v = tt
small_indices (suc n) v = (omega arith, small_indices n v)

pub small_take : (k : ℕ) (p : List ℕ) → Small p → Small (take k p)
small_take zero p h = tt
small_take (suc k) [] h = tt
small_take (suc k) (i ∷ is) h = (h.0, small_take k is h.1)

-- ---- what a step leaves of the memory: the frames lent and the levels are the same, and no word past these frames is touched

pub record Stays (m m' : Memory) : Type 0 where
  pub start : start_frame m' ≡ start_frame m
  pub total : total_of m' ≡ total_of m
  pub levels : levels_of m' ≡ levels_of m
  pub words : Past (total_of m * 512) m.words m'.words

pub stays_same : (m : Memory) → Stays m m
stays_same m = record { start = refl; total = refl; levels = refl; words = past_same _ m.words }

pub stays_then : {m₀ m₁ m₂ : Memory} → Stays m₀ m₁ → Stays m₁ m₂ → Stays m₀ m₂
stays_then {m₀} {m₁} {m₂} a b = record {
  start = b.start ∙ a.start;
  total = b.total ∙ a.total;
  levels = b.levels ∙ a.levels;
  words = past_then a.words (subst (λ (n : ℕ). Past (n * 512) m₁.words m₂.words) a.total b.words);
}

-- a step that leaves the frames' record
pub stays_words : (m : Memory) (ws : List ℕ) → Past (total_of m * 512) m.words ws → Stays m (memory ws m.frames)
stays_words m ws h = record { start = refl; total = refl; levels = refl; words = h }

-- what follows a step
pub stays_on : (m : Memory) (o : Out) (k : ℕ → Memory → Out) → Stays m o.mem → ((x : ℕ) → o.walked ≡ Ok x → Stays o.mem (k x o.mem).mem) → Stays m (go_on o k).mem
stays_on m o k a b = go_on_cases (λ (r : Out). Stays m r.mem) o k (λ _ _. a) (λ x e. stays_then a (b x e))

-- ---- tables made along a path

pub stays_enter : (u : Bool) (m : Memory) (t i : ℕ) → i < 512 → Stays m (enter u m t i).mem
stays_enter u m t i small =
    enter_cases u m t i (λ (o : Out). Stays m o.mem) (λ _. stays_same m) (λ _ _. stays_same m)
    (λ h _ j l _ _. record {
      start = (span_with m.frames j).start;
      total = (span_with m.frames j).total;
      levels = (span_with m.frames j).levels;
      words = past_then (past_zero m.words (start_frame m) (total_of m) j l) (past_entry _ (start_frame m) (total_of m) t i _ h small);
    })
    (λ _ _ _. stays_same m)

pub stays_make : (u : Bool) (p : List ℕ) (m : Memory) (t : ℕ) → Small p → Stays m (make u m t p).mem
unfolding make
stays_make u [] m t s = stays_same m
stays_make u (i ∷ is) m t s =
    stays_on m (enter u m t i) (λ f m'. make u m' f is) (stays_enter u m t i s.0) (λ f _. stays_make u is (enter u m t i).mem f s.1)

-- ---- stores into one table

module _ (ws : List ℕ) (start total t i : ℕ) (small : i < 512) where
  pub past_put : (e : ℕ) → Past (total * 512) ws (put_entry ws start total t i e).words
  unfolding put_entry
  past_put e =
      pick_cases (λ (l : Left). Past (total * 512) ws l.words) (inside start total t) _ _
      (λ h. pick_cases (λ (l : Left). Past (total * 512) ws l.words) (flag 0 (get_or ws (place start t i) 0)) _ _
      (λ _. past_same _ ws) (λ _. past_entry ws start total t i e h small))
      (λ _. past_same _ ws)

  pub past_take_leaf : Past (total * 512) ws (take_leaf ws start total t i).words
  unfolding take_leaf
  past_take_leaf =
      pick_cases (λ (l : Left). Past (total * 512) ws l.words) (inside start total t) _ _
      (λ h. pick_cases (λ (l : Left). Past (total * 512) ws l.words) (flag 0 (get_or ws (place start t i) 0)) _ _
      (λ _. past_entry ws start total t i 0 h small) (λ _. past_same _ ws))
      (λ _. past_same _ ws)

pub past_unmap : (ws : List ℕ) (start total root : ℕ) (path : List ℕ) (i : ℕ) → i < 512 → Past (total * 512) ws (unmap_entry ws start total root path i).words
unfolding unmap_entry
past_unmap ws start total root path i small = go (reach ws start total root path)
  where
    go : (w : Result ℕ Refusal) → Past (total * 512) ws (and_then w (λ n. left (Err n) ws) (λ t. take_leaf ws start total t i)).words
    go (Ok t) = past_take_leaf ws start total t i small
    go (Err n) = past_same _ ws

-- ---- an entry for an address

pub stays_map : (u : Bool) (m : Memory) (root : ℕ) (path : List ℕ) (i e : ℕ) → Small path → i < 512 → Stays m (map_entry u m root path i e).mem
unfolding map_entry
stays_map u m root path i e s small =
    stays_on m (make u m root path) _ (stays_make u path m root s) (λ t _. stays_words (make u m root path).mem _ (past_put _ _ _ t i small e))

pub stays_map_at : (up k : ℕ) (u : Bool) (m : Memory) (root v e : ℕ) → Stays m (map_at up k u m root v e).mem
stays_map_at up k u m root v e =
    stays_map u m root (take k (indices (suc up) v)) _ e (small_take k (indices (suc up) v) (small_indices (suc up) v)) (indices_lt (suc up) v k)

-- ---- runs of pages

pub stays_fresh : (m : Memory) → Stays m (fresh_frame m).mem
unfolding fresh_frame
stays_fresh m =
    take_cases m.frames (λ (d : FramesDid (Result Frame Refusal)). Stays m (zeroed m d.answer d.frames).mem)
    (λ j l _ _. record {
      start = (span_with m.frames j).start;
      total = (span_with m.frames j).total;
      levels = (span_with m.frames j).levels;
      words = past_zero m.words (start_frame m) (total_of m) j l;
    })
    (λ _. stays_same m)

pub stays_map_fresh : (up : ℕ) (w u : Bool) (m : Memory) (root v : ℕ) → Stays m (map_fresh up w u m root v).mem
unfolding map_fresh
stays_map_fresh up w u m root v = stays_on m (fresh_frame m) _ (stays_fresh m) (λ f _. stays_map_at up up u (fresh_frame m).mem root v _)

pub stays_map_pages : (up : ℕ) (w u : Bool) (root n : ℕ) (m : Memory) (v k : ℕ) → Stays m (map_pages up w u m root v k n).mem
unfolding map_pages
stays_map_pages up w u root zero m v k = stays_same m
stays_map_pages up w u root (suc n) m v k = go (map_fresh up w u m root v).walked refl (stays_map_pages up w u root n (map_fresh up w u m root v).mem (v + 4096) (suc k))
  where
    first : Stays m (map_fresh up w u m root v).mem
    first = stays_map_fresh up w u m root v

    came : {x : Result ℕ Refusal} → (map_fresh up w u m root v).walked ≡ x → map_fresh up w u m root v ≡ out x (map_fresh up w u m root v).mem
    came e = λ j. out (e j) (map_fresh up w u m root v).mem

    go : (x : Result ℕ Refusal) → (map_fresh up w u m root v).walked ≡ x → Stays (map_fresh up w u m root v).mem (map_pages up w u (map_fresh up w u m root v).mem root (v + 4096) (suc k) n).mem
        → Stays m (map_pages up w u m root v k (suc n)).mem
    go (Ok y) e later = rw (map_pages_on up w u m root v k n _ y (came e)) (stays_then first later)
    go (Err a) e later = rw (map_pages_stop up w u m root v k n _ a (came e)) first

module _ (up : ℕ) (m : Memory) (root v : ℕ) where
  unmapped : Past (total_of m * 512) m.words (unmap_leaf up m root v).words
  unmapped = past_unmap _ _ _ _ _ _ (indices_lt (suc up) v up)

  pub stays_clear_page : Stays m (clear_page up m root v)
  unfolding clear_page
  stays_clear_page = stays_words m _ unmapped

  pub stays_free_page : Stays m (free_page up m root v)
  unfolding free_page
  stays_free_page = by (unmap_leaf up m root v).walked
    where
      by : (w : Result ℕ Refusal) → Stays m (memory (unmap_leaf up m root v).words (freed w m.frames))
      by (Ok f) = record { start = (span_give m.frames f).start; total = (span_give m.frames f).total; levels = (span_give m.frames f).levels; words = unmapped }
      by (Err a) = stays_words m _ unmapped

pub stays_clear_pages : (up root n : ℕ) (m : Memory) (v : ℕ) → Stays m (clear_pages up m root v n)
unfolding clear_pages
stays_clear_pages up root zero m v = stays_same m
stays_clear_pages up root (suc n) m v = stays_then (stays_clear_page up m root v) (stays_clear_pages up root n (clear_page up m root v) (v + 4096))

pub stays_free_pages : (up root n : ℕ) (m : Memory) (v : ℕ) → Stays m (free_pages up m root v n)
unfolding free_pages
stays_free_pages up root zero m v = stays_same m
stays_free_pages up root (suc n) m v = stays_then (stays_free_page up m root v) (stays_free_pages up root n (free_page up m root v) (v + 4096))

-- ---- WRITABLE made to follow a choice

module _ (up : ℕ) (w : Bool) (start total root : ℕ) where
  past_protect_page : (ws : List ℕ) (v : ℕ) → Past (total * 512) ws (protect_page up w ws start total root v)
  unfolding protect_page page_place entry_at present
  past_protect_page ws v = by-table (reach ws start total root (take up (indices (suc up) v)))
    where
      i : ℕ
      i = index 0 v

      stored : Result ℕ Refusal → List ℕ
      stored o = and_then o (λ _. ws) (λ x. set ws x (with_writable w (get_or ws x 0)))

      by-table : (o : Result ℕ Refusal) → Past (total * 512) ws (stored (and_then o Err (λ t. and_then (entry_at ws start total t i) Err (λ _. Ok (place start t i)))))
      by-table (Ok t) =
          let P : Result ℕ Refusal → Type 0 = λ o. Past (total * 512) ws (stored (and_then o Err (λ _. Ok (place start t i)))) in
          pick_cases P (inside start total t) _ _
          (λ h. pick_cases P (ltb i 512) _ _
          (λ _. pick_cases P (flag 0 (get_or ws (place start t i) 0)) _ _ (λ _. past_entry ws start total t i _ h (omega arith)) (λ _. past_same _ ws)) (λ _. past_same _ ws))
          (λ _. past_same _ ws)
      by-table (Err n) = past_same _ ws

  pub past_protect_pages : (n : ℕ) (ws : List ℕ) (v : ℕ) → Past (total * 512) ws (protect_pages up w ws start total root v n)
  unfolding protect_pages
  past_protect_pages zero ws v = past_same _ ws
  past_protect_pages (suc n) ws v = past_then (past_protect_page ws v) (past_protect_pages n (protect_page up w ws start total root v) (v + 4096))
