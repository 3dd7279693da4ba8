-- What fresh frames, runs of pages and pages unmapped come to, step by step.
use Prim.Native.Nat.{ℕ, zero, suc, ◌+◌, ◌*◌, ◌^◌, ◌<◌, ◌≤◌}
use mathlib.Core.Path.{◌≡◌, refl, sym, ◌∙◌, ap, subst}
use mathlib.Core.Bool.{Bool}
use mathlib.Core.List.{List}
use native.Mathlib.Nat.{suc-mul}
use native.Mathlib.Omega.{arith}
use lib.ListN.{length, get_or, take, length-take}
use Rattle.std.specs.Prelude.{Ok, Err, Result}
use Rattle.answer.specs.declared.Refusal.{Refusal}
use Rattle.bits.specs.Bit.{flag}
use Rattle.bits.proofs.Choice.{pick_cases}
use Rattle.address.specs.declared.Frame.{Frame}
use Rattle.entry.specs.Entry.{entry_of, indices}
use Rattle.entry.proofs.Entry.{length_indices}
use Rattle.frame.specs.declared.Found.{Found}
use Rattle.frame.specs.Frames.{Frames, FramesDid, inside, with_mark, without_mark, take_frame, give_frame}
use Rattle.frame.proofs.Laws.{take_cases, give_cases}
use Rattle.paging.specs.Walk.{place}
use Rattle.paging.specs.Map.{Memory, memory, start_frame, total_of, Out, out, zero_frame, make, Left, left, put_entry, map_entry, RoomToTake}
use Rattle.paging.specs.Calls.{map_at}
use Rattle.paging.specs.Pages.{zeroed, fresh_frame, or_failed, map_fresh, ran, map_pages, unmap_leaf, clear_page, freed, free_page, clear_pages, free_pages}
use Rattle.paging.proofs.Map.{go_on_cases, length_zero, roomy_less, map_entry_roomy, unmap_entry_length}

-- no step both stops and comes somewhere
nowhere : {n : Refusal} {x : ℕ} → Err n ≡ Ok x → ⊥
nowhere h = let z : ◌≡◌ {A = ℕ} 0 1 = cc in omega arith

-- ---- a fresh frame

module _ (m : Memory) where
  pub fresh_new : (f : Frame) → (take_frame m.frames).answer ≡ Ok f
      → fresh_frame m ≡ out (Ok f.0) (memory (zero_frame m.words (start_frame m) f.0) (take_frame m.frames).frames)
  unfolding fresh_frame
  fresh_new f e = rw e

  pub fresh_full : (n : Refusal) → (take_frame m.frames).answer ≡ Err n → fresh_frame m ≡ out (Err n) (memory m.words (take_frame m.frames).frames)
  unfolding fresh_frame
  fresh_full n e = rw e

  -- it is one of those lent
  pub fresh_low : (f : ℕ) → (fresh_frame m).walked ≡ Ok f → start_frame m + total_of m ≤ 2 ^ 40 → f < 2 ^ 40
  unfolding fresh_frame
  fresh_low f h low =
      take_cases m.frames (λ (d : FramesDid (Result Frame Refusal)). (zeroed m d.answer d.frames).walked ≡ Ok f → f < 2 ^ 40)
      (λ j l _ _ e. let n : start_frame m + j ≡ f = cc in omega arith) (λ _ e. absurd (nowhere e)) h

  -- it takes at most one
  pub fresh_roomy : (n : ℕ) → RoomToTake m (n + 1) → RoomToTake (fresh_frame m).mem n
  unfolding fresh_frame with_mark
  fresh_roomy n r =
      take_cases m.frames (λ (d : FramesDid (Result Frame Refusal)). RoomToTake (zeroed m d.answer d.frames).mem n)
      (λ j _ _ _. record {
        enough = omega (arith, r.enough, length_zero m.words (start_frame m) (start_frame m + j));
        held = record { few = r.held.few; low = r.held.low; room = omega (arith, r.held.room) };
      })
      (λ _. roomy_less n (omega arith) r)

-- ---- a page on a fresh frame

module _ (up : ℕ) (w u : Bool) (m : Memory) (root v : ℕ) where
  pub map_fresh_none : (n : Refusal) (m' : Memory) → fresh_frame m ≡ out (Err n) m' → map_fresh up w u m root v ≡ out (Err n) m'
  unfolding map_fresh
  map_fresh_none n m' e = rw e

  pub map_fresh_on : (f : ℕ) (m' : Memory) → fresh_frame m ≡ out (Ok f) m'
      → map_fresh up w u m root v ≡ out (or_failed (map_at up up u m' root v (entry_of (f * 2 ^ 12) w u)).walked) (map_at up up u m' root v (entry_of (f * 2 ^ 12) w u)).mem
  unfolding map_fresh
  map_fresh_on f m' e = rw e

  -- it takes at most one frame and those of its tables
  pub map_fresh_roomy : (n : ℕ) → RoomToTake m (n + suc up) → RoomToTake (map_fresh up w u m root v).mem n
  unfolding map_fresh
  map_fresh_roomy n r =
      let q = fresh_roomy m (n + up) (roomy_less _ (omega arith) r) in
      let l : length (take up (indices (suc up) v)) ≡ up = length-take up (indices (suc up) v) ∙ omega (arith, length_indices (suc up) v) in
      go_on_cases (λ (o : Out). RoomToTake o.mem n) (fresh_frame m) _ (λ _ _. roomy_less n (omega arith) q)
      (λ f _. map_entry_roomy u (fresh_frame m).mem root _ _ _ n (roomy_less _ (omega arith) q))

-- a word that was entered comes to 0
pub map_entry_at : (u : Bool) (m : Memory) (root : ℕ) (path : List ℕ) (i e x : ℕ) → (map_entry u m root path i e).walked ≡ Ok x → x ≡ 0
unfolding map_entry put_entry
map_entry_at u m root path i e x =
    go_on_cases (λ (o : Out). o.walked ≡ Ok x → x ≡ 0) (make u m root path) _ (λ n _ h. absurd (nowhere h))
    (λ t _.
    let m' = (make u m root path).mem in
    pick_cases (λ (l : Left). l.walked ≡ Ok x → x ≡ 0) (inside (start_frame m') (total_of m') t) _ _
    (λ _. pick_cases (λ (l : Left). l.walked ≡ Ok x → x ≡ 0) (flag 0 (get_or m'.words (place (start_frame m') t i) 0)) _ _ (λ _ h. absurd (nowhere h)) (λ _ h. cc))
    (λ _ h. absurd (nowhere h)))

-- ---- a run of pages: its first page, and what follows

module _ (up : ℕ) (w u : Bool) (m : Memory) (root v k : ℕ) where
  pub map_pages_none : map_pages up w u m root v k 0 ≡ ran (Ok 0) k m
  unfolding map_pages
  map_pages_none = refl

  module _ (n : ℕ) (m' : Memory) where
    pub map_pages_on : (x : ℕ) → map_fresh up w u m root v ≡ out (Ok x) m' → map_pages up w u m root v k (suc n) ≡ map_pages up w u m' root (v + 4096) (suc k) n
    unfolding map_pages
    map_pages_on x e = rw e

    pub map_pages_stop : (a : Refusal) → map_fresh up w u m root v ≡ out (Err a) m' → map_pages up w u m root v k (suc n) ≡ ran (Err a) k m'
    unfolding map_pages
    map_pages_stop a e = rw e

pub map_pages_roomy : (up : ℕ) (w u : Bool) (root n : ℕ) (m : Memory) (v k l : ℕ) → RoomToTake m (l + n * suc up) → RoomToTake (map_pages up w u m root v k n).mem l
unfolding map_pages
map_pages_roomy up w u root zero m v k l r = roomy_less l (omega arith) r
map_pages_roomy up w u root (suc n) m v k l r =
    go (map_fresh up w u m root v).walked refl (map_pages_roomy up w u root n (map_fresh up w u m root v).mem (v + 4096) (suc k) l q)
  where
    q : RoomToTake (map_fresh up w u m root v).mem (l + n * suc up)
    q = map_fresh_roomy up w u m root v (l + n * suc up) (roomy_less _ (omega (arith, suc-mul n (suc up))) r)

    came : {x : Result ℕ Refusal} → (map_fresh up w u m root v).walked ≡ x → map_fresh up w u m root v ≡ out x (map_fresh up w u m root v).mem
    came e = ap (λ (x : Result ℕ Refusal). out x (map_fresh up w u m root v).mem) e

    go : (x : Result ℕ Refusal) → (map_fresh up w u m root v).walked ≡ x → RoomToTake (map_pages up w u (map_fresh up w u m root v).mem root (v + 4096) (suc k) n).mem l
        → RoomToTake (map_pages up w u m root v k (suc n)).mem l
    go (Ok y) e f = rw (map_pages_on up w u m root v k n _ y (came e)) f
    go (Err a) e f = rw (map_pages_stop up w u m root v k n _ a (came e)) (roomy_less l (omega arith) q)

-- ---- pages unmapped

module _ (up : ℕ) (m : Memory) (root v : ℕ) where
  pub clear_is : clear_page up m root v ≡ memory (unmap_leaf up m root v).words m.frames
  unfolding clear_page
  clear_is = refl

  -- by what unmapping the leaf gave
  pub free_none : (n : Refusal) (ws : List ℕ) → unmap_leaf up m root v ≡ left (Err n) ws → free_page up m root v ≡ memory ws m.frames
  unfolding free_page
  free_none n ws e = rw e

  pub free_page_lem : (f : ℕ) (ws : List ℕ) → unmap_leaf up m root v ≡ left (Ok f) ws → free_page up m root v ≡ memory ws (give_frame m.frames f).frames
  unfolding free_page
  free_page_lem f ws e = rw e

-- a frame given back takes no room
pub give_roomy : (ws : List ℕ) (fr : Frames) (f n : ℕ) → RoomToTake (memory ws fr) n → RoomToTake (memory ws (give_frame fr f).frames) n
unfolding without_mark
give_roomy ws fr f n r =
    give_cases fr f (λ (d : FramesDid Found). RoomToTake (memory ws d.frames) n) (λ _. r) (λ _ _. r)
    (λ _ _. record { enough = r.enough; held = record { few = r.held.few; low = r.held.low; room = omega (arith, r.held.room) } })

pub free_roomy : (up : ℕ) (m : Memory) (root v n : ℕ) → RoomToTake m n → RoomToTake (free_page up m root v) n
unfolding free_page
free_roomy up m root v n r = go (unmap_leaf up m root v).walked
  where
    ws : List ℕ
    ws = (unmap_leaf up m root v).words

    same : RoomToTake (memory ws m.frames) n
    same = record { enough = subst (λ (x : ℕ). total_of m * 512 ≤ x) (sym (unmap_entry_length _ _ _ _ _ _)) r.enough; held = r.held }

    go : (x : Result ℕ Refusal) → RoomToTake (memory ws (freed x m.frames)) n
    go (Ok f) = give_roomy ws m.frames f n same
    go (Err a) = same

-- ---- and runs of them

module _ (up : ℕ) (m : Memory) (root v : ℕ) where
  pub clear_pages_none : clear_pages up m root v 0 ≡ m
  unfolding clear_pages
  clear_pages_none = refl

  pub clear_pages_more : (n : ℕ) → clear_pages up m root v (suc n) ≡ clear_pages up (clear_page up m root v) root (v + 4096) n
  unfolding clear_pages
  clear_pages_more n = refl

  pub free_pages_none : free_pages up m root v 0 ≡ m
  unfolding free_pages
  free_pages_none = refl

  pub free_pages_more : (n : ℕ) → free_pages up m root v (suc n) ≡ free_pages up (free_page up m root v) root (v + 4096) n
  unfolding free_pages
  free_pages_more n = refl

pub free_pages_roomy : (up root n : ℕ) (m : Memory) (v k : ℕ) → RoomToTake m k → RoomToTake (free_pages up m root v n) k
unfolding free_pages
free_pages_roomy up root zero m v k r = r
free_pages_roomy up root (suc n) m v k r = free_pages_roomy up root n (free_page up m root v) (v + 4096) k (free_roomy up m root v k r)
