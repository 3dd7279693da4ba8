-- What the copy of a page and its steps come to, by the tests that code makes and by what the steps below give; and the room that they leave.
use Prim.Native.Nat.{ℕ, zero, suc, ◌+◌, ◌-◌, ◌*◌, ◌/◌, ◌%◌, ◌^◌, ◌<◌, ◌≤◌}
use mathlib.Core.Path.{◌≡◌, refl, sym, ◌∙◌, ap, subst}
use mathlib.Core.Bool.{Bool, true, false}
use mathlib.Core.List.{List}
use native.Mathlib.Nat.{mod-eq_of_lt}
use native.Mathlib.Numerals.{add-one}
use native.Mathlib.Omega.{arith}
use lib.ListN.{length, get_or, set, take, length-set, length-take}
use Rattle.std.specs.Prelude.{Ok, Err, Result}
use Rattle.answer.specs.declared.Refusal.{Refusal}
use Rattle.answer.specs.declared.Refusal.TheVariants.{PageTableError}
use Rattle.bits.proofs.Choice.{pick_cases}
use Rattle.answer.specs.Outcomes.{as_answer, and_then}
use Rattle.address.specs.declared.Frame.{Frame}
use Rattle.address.specs.declared.PhysAddr.{PhysAddr}
use Rattle.entry.specs.Entry.{entry_of, indices}
use Rattle.entry.proofs.Entry.{length_indices}
use Rattle.frame.specs.declared.Changed.{Changed}
use Rattle.frame.specs.declared.Tally.{Tally}
use Rattle.frame.specs.Frames.{frames, FramesDid, inside, with_mark, take_frame}
use Rattle.frame.specs.Found.{none_found}
use Rattle.frame.proofs.Laws.{inside_yes, inside_from, inside_under, take_cases}
use Rattle.tables.proofs.Laws.{stepped}
use Rattle.paging.specs.Walk.{place, leaf, address}
use Rattle.paging.specs.Map.{Memory, memory, start_frame, total_of, Out, out, go_on, RoomToTake}
use Rattle.paging.specs.Calls.{as_changed, map_at}
use Rattle.address.specs.Address.{as_phys}
use Rattle.paging.specs.Pages.{clear_page, free_page}
use Rattle.paging.specs.Found.{page_found}
use Rattle.paging.proofs.Map.{go_on_cases, KeptSpan, roomy_less, map_entry_kept, map_entry_roomy, unmap_entry_length}
use Rattle.paging.proofs.Pages.{map_entry_at}
use Rattle.copying.specs.Copying.{as_taken, raw_frame, only_error, map_frame, temporary, translated, cleared_if, cleared_if_mapped, copy_words, copied, copied_from, copy_page, remapped, copy_to, copy_on_write, remap_found, copy_to_found, copy_found}

-- ---- a frame taken as it is

module _ (m : Memory) where
  pub raw_new : (f : Frame) → (take_frame m.frames).answer ≡ Ok f → raw_frame m ≡ out (Ok f.0) (memory m.words (take_frame m.frames).frames)
  unfolding raw_frame
  raw_new f e = rw e

  pub raw_full : (n : Refusal) → (take_frame m.frames).answer ≡ Err n → raw_frame m ≡ out (Err n) (memory m.words (take_frame m.frames).frames)
  unfolding raw_frame
  raw_full n e = rw e

  -- it is one of those lent, which stay the same
  pub raw_inside : (f : ℕ) → (raw_frame m).walked ≡ Ok f → inside (start_frame (raw_frame m).mem) (total_of (raw_frame m).mem) f ≡ true
  unfolding raw_frame with_mark
  raw_inside f =
      take_cases m.frames (λ (d : FramesDid (Result Frame Refusal)). let o = as_taken m d.answer d.frames in o.walked ≡ Ok f → inside (start_frame o.mem)
      (total_of o.mem) f ≡ true)
      (λ j l _ _ e. let n : start_frame m + j ≡ f = cc in inside_yes (start_frame m) (total_of m) f (omega arith) (omega arith))
      (λ _ e. let z : ◌≡◌ {A = ℕ} 0 1 = cc in absurd (omega arith))

  pub raw_roomy : (n : ℕ) → RoomToTake m (n + 1) → RoomToTake (raw_frame m).mem n
  unfolding raw_frame with_mark
  raw_roomy n r =
      take_cases m.frames (λ (d : FramesDid (Result Frame Refusal)). RoomToTake (as_taken m d.answer d.frames).mem n)
      (λ j _ _ _. record { enough = r.enough; held = record { few = r.held.few; low = r.held.low; room = omega (arith, r.held.room) } })
      (λ _. roomy_less n (omega arith) r)

-- after `raw_frame`: the room that is left, and the frame is one of those lent
module _ (m : Memory) {w : Result ℕ Refusal} {m' : Memory} (e : out w m' ≡ raw_frame m) where
  pub taken_roomy : (n : ℕ) → RoomToTake m (n + 1) → RoomToTake m' n
  taken_roomy n r = subst (λ (x : Memory). RoomToTake x n) (sym (ap (λ (o : Out). o.mem) e)) (raw_roomy m n r)

  pub taken_lent : (f : ℕ) → w ≡ Ok f → inside (start_frame m') (total_of m') f ≡ true
  taken_lent f q =
      subst (λ (x : Memory). inside (start_frame x) (total_of x) f ≡ true) (sym (ap (λ (o : Out). o.mem) e)) (raw_inside m f (sym (ap (λ (o : Out). o.walked) e) ∙ q))

-- a lent frame's address has 52 bits
pub frame_low : {m : Memory} {n : ℕ} (f : ℕ) → RoomToTake m n → inside (start_frame m) (total_of m) f ≡ true → f < 2 ^ 40
frame_low {m = m} f r h = omega (arith, r.held.low, inside_from (start_frame m) (total_of m) f h, inside_under (start_frame m) (total_of m) f h)

-- ---- a page mapped to a frame

-- where the mapping of a page came, by what it answers
error_met : (w : Result ℕ Refusal) → ((x : ℕ) → w ≡ Ok x → x ≡ 0) → (Ok tt) ≡ as_answer w → Ok 0 ≡ only_error w
error_met (Ok x) h e = ap Ok (sym (h x refl))
error_met (Err n) h e = let z : ◌≡◌ {A = ℕ} 0 1 = cc in absurd (omega arith)

error_refused : (w : Result ℕ Refusal) (n : Refusal) → Err n ≡ as_answer w → Err PageTableError ≡ only_error w
error_refused (Ok x) n e = let z : ◌≡◌ {A = ℕ} 0 1 = cc in absurd (omega arith)
error_refused (Err m) n e = refl

module _ (up : ℕ) (m : Memory) (root v f : ℕ) (w u : Bool) where
  pub map_frame_kept : KeptSpan m (map_frame up m root v f w u).mem
  map_frame_kept = map_entry_kept u m root _ _ _

  pub map_frame_roomy : (n : ℕ) → RoomToTake m (n + up) → RoomToTake (map_frame up m root v f w u).mem n
  map_frame_roomy n r =
      let l : length (take up (indices (suc up) v)) ≡ up = length-take up (indices (suc up) v) ∙ omega (arith, length_indices (suc up) v) in
      map_entry_roomy u m root _ _ _ n (roomy_less _ (omega arith) r)

  -- after `map_frame`: the room that is left, and a lent frame stays lent
  module _ {x : Result ℕ Refusal} {m' : Memory} (e : out x m' ≡ map_frame up m root v f w u) where
    pub mapped_roomy : (n : ℕ) → RoomToTake m (n + up) → RoomToTake m' n
    mapped_roomy n r = subst (λ (y : Memory). RoomToTake y n) (sym (ap (λ (o : Out). o.mem) e)) (map_frame_roomy n r)

    pub mapped_lent : inside (start_frame m) (total_of m) f ≡ true → inside (start_frame m') (total_of m') f ≡ true
    mapped_lent h =
        let k = map_frame_kept in
        subst (λ (y : Memory). inside (start_frame y) (total_of y) f ≡ true) (sym (ap (λ (o : Out). o.mem) e)) (rw (k.start, k.total) h)

  -- after `start_address`, `set` and `map_entry`
  module _ (low : f < 2 ^ 40) {a e : ℕ} (g : a ≡ f * 2 ^ 12 % 2 ^ 64) (s : e ≡ entry_of a w u) {r : Changed} {ws bm : List ℕ}
      (p : (r ≡ as_changed (map_at up up u m root v e)) × ((ws ≡ (map_at up up u m root v e).mem.words) × (bm ≡ (map_at up up u m root v e).mem.frames.bits))) where
    came : {x : Result ℕ Refusal} → x ≡ only_error (map_at up up u m root v e).walked → out x (memory ws (frames bm r.frames)) ≡ map_frame up m root v f w u
    came y =
        let word : e ≡ entry_of (f * 2 ^ 12) w u = s ∙ ap (λ (n : ℕ). entry_of n w u) (g ∙ mod-eq_of_lt (omega arith)) in
        (λ j. out (y j) (memory (p.1.0 j) (frames (p.1.1 j) (p.0 j).frames)))
        ∙ ap (λ (n : ℕ). out (only_error (map_at up up u m root v n).walked) (map_at up up u m root v n).mem) word

    pub map_frame_met : r.answer ≡ Ok tt → out (Ok 0) (memory ws (frames bm r.frames)) ≡ map_frame up m root v f w u
    map_frame_met h = came (error_met (map_at up up u m root v e).walked (map_entry_at u m root _ _ e) (sym h ∙ ap (λ (c : Changed). c.answer) p.0))

    pub map_frame_refused : (n : Refusal) → r.answer ≡ Err n → out (Err PageTableError) (memory ws (frames bm r.frames)) ≡ map_frame up m root v f w u
    map_frame_refused n h = came (error_refused (map_at up up u m root v e).walked n (sym h ∙ ap (λ (c : Changed). c.answer) p.0))

-- ---- the copy

pub copy_length : (n : ℕ) (ws : List ℕ) (from to : ℕ) → length (copy_words ws from to n) ≡ length ws
unfolding copy_words
copy_length zero ws from to = refl
copy_length (suc n) ws from to = copy_length n (set ws to (get_or ws from 0)) (suc from) (suc to) ∙ length-set ws to _

-- where `walk` says that a translation came
pub phys_at : (w : Result ℕ Refusal) {a : PhysAddr} → as_phys w ≡ Ok a → w ≡ Ok a.0
phys_at (Ok x) e = cc
phys_at (Err n) e = let z : ◌≡◌ {A = ℕ} 0 1 = cc in absurd (omega arith)

pub phys_none : (w : Result ℕ Refusal) {n : Refusal} → as_phys w ≡ Err n → w ≡ Err n
phys_none (Ok x) e = let z : ◌≡◌ {A = ℕ} 0 1 = cc in absurd (omega arith)
phys_none (Err n) e = cc

module _ (up : ℕ) (m : Memory) (root v : ℕ) where
  -- code walks along up + 1 levels
  pub walk_up : as_phys (address v (leaf m.words (start_frame m) (total_of m) root (indices (up + 1) v))) ≡ as_phys (translated up m root v)
  walk_up = rw (add-one up)

  pub cleared_there : (a : ℕ) → translated up m root v ≡ Ok a → cleared_if_mapped up m root v ≡ clear_page up m root v
  cleared_there a e = rw e

  pub cleared_none : (n : Refusal) → translated up m root v ≡ Err n → cleared_if_mapped up m root v ≡ m
  cleared_none n e = rw e

module _ (m : Memory) (w : Result ℕ Refusal) (f : ℕ) where
  pub copied_none : (n : Refusal) → w ≡ Err n → copied m w f ≡ out (Err PageTableError) m
  copied_none n e = rw e

  pub copied_out : (a : ℕ) → w ≡ Ok a → inside (start_frame m) (total_of m) (a / 4096) ≡ false → copied m w f ≡ out (Err PageTableError) m
  copied_out a e h = rw (e, h)

  pub copied_in : (a : ℕ) → w ≡ Ok a → inside (start_frame m) (total_of m) (a / 4096) ≡ true → {from to : ℕ} → from ≡ place (start_frame m) (a / 4096) 0 → to ≡ place (start_frame m) f 0
      → copied m w f ≡ out (Ok 0) (memory (copy_words m.words from to 512) m.frames)
  copied_in a e h p q = rw (e, h, p, q)

-- ---- the copy through the temporary page

pub clear_roomy : (up : ℕ) (m : Memory) (root v n : ℕ) → RoomToTake m n → RoomToTake (clear_page up m root v) n
unfolding clear_page
clear_roomy up m root v n r = record { enough = subst (λ (x : ℕ). total_of m * 512 ≤ x) (sym (unmap_entry_length _ _ _ _ _ _)) r.enough; held = r.held }

cleared_roomy : (w : Result ℕ Refusal) (up : ℕ) (m : Memory) (root v n : ℕ) → RoomToTake m n → RoomToTake (cleared_if w up m root v) n
cleared_roomy (Ok a) up m root v n r = clear_roomy up m root v n r
cleared_roomy (Err k) up m root v n r = r

copied_roomy : (m : Memory) (w : Result ℕ Refusal) (f n : ℕ) → RoomToTake m n → RoomToTake (copied m w f).mem n
copied_roomy m (Err k) f n r = r
copied_roomy m (Ok a) f n r =
    pick_cases (λ (o : Out). RoomToTake o.mem n) (inside (start_frame m) (total_of m) (a / 4096)) _ _
    (λ _. record { enough = subst (λ (x : ℕ). total_of m * 512 ≤ x) (sym (copy_length 512 m.words _ _)) r.enough; held = r.held }) (λ _. r)

-- the temporary page unmapped where it is mapped
abbrev pub unused : ℕ → Memory → ℕ → Memory
unused up m root = cleared_if_mapped up m root temporary

pub unused_roomy : (up : ℕ) (m : Memory) (root : ℕ) {m' : Memory} → m' ≡ unused up m root → (n : ℕ) → RoomToTake m n → RoomToTake m' n
unused_roomy up m root e n r = subst (λ (x : Memory). RoomToTake x n) (sym e) (cleared_roomy (translated up m root temporary) up m root temporary n r)

-- what follows once it is mapped
abbrev through : ℕ → ℕ → ℕ → ℕ → ℕ → Memory → Out
through up root v f _ m = let o = copied_from up m root v f in out o.walked (clear_page up o.mem root temporary)

module _ (up : ℕ) (m : Memory) (root v f : ℕ) where
  pub copy_page_stop : (n : Refusal) (m' : Memory) → map_frame up (unused up m root) root temporary f true false ≡ out (Err n) m' → copy_page up m root v f ≡ out (Err n) m'
  unfolding copy_page
  copy_page_stop n m' e = ap (λ (o : Out). go_on o (through up root v f)) e

  pub copy_page_on : (x : ℕ) (m' : Memory) → map_frame up (unused up m root) root temporary f true false ≡ out (Ok x) m'
      → {w : Result ℕ Refusal} {m'' : Memory} → copied_from up m' root v f ≡ out w m'' → copy_page up m root v f ≡ out w (clear_page up m'' root temporary)
  unfolding copy_page
  copy_page_on x m' e c = ap (λ (o : Out). go_on o (through up root v f)) e ∙ ap (λ (o : Out). out o.walked (clear_page up o.mem root temporary)) c

  pub copy_page_roomy : (n : ℕ) → RoomToTake m (n + up) → RoomToTake (copy_page up m root v f).mem n
  unfolding copy_page
  copy_page_roomy n r =
      let q = map_frame_roomy up (unused up m root) root temporary f true false n (cleared_roomy (translated up m root temporary) up m root temporary (n + up) r) in
      go_on_cases (λ (o : Out). RoomToTake o.mem n) (map_frame up (unused up m root) root temporary f true false) (through up root v f) (λ _ _. q)
      (λ _ _. let m' = (map_frame up (unused up m root) root temporary f true false).mem in clear_roomy up _ root temporary n
      (copied_roomy m' (translated up m' root v) f n q))

pub copied_on_roomy : (up : ℕ) (m : Memory) (root v f : ℕ) {w : Result ℕ Refusal} {m' : Memory} → out w m' ≡ copy_page up m root v f → (n : ℕ) → RoomToTake m (n + up) → RoomToTake m' n
copied_on_roomy up m root v f e n r = subst (λ (x : Memory). RoomToTake x n) (sym (ap (λ (o : Out). o.mem) e)) (copy_page_roomy up m root v f n r)

-- ---- copy on write

module _ (up : ℕ) (m : Memory) (root v f : ℕ) (user : Bool) where
  -- after `free_page` and `map_frame`
  pub remap_is : {m' : Memory} → m' ≡ free_page up m root v → {o : Out} → o ≡ map_frame up m' root v f true user → o ≡ remapped up m root v f user
  remap_is e q = q ∙ ap (λ (x : Memory). map_frame up x root v f true user) e

  -- after `copy_page`
  pub copy_to_stop : {w : Result ℕ Refusal} {m' : Memory} → out w m' ≡ copy_page up m root v f → {n : Refusal} → w ≡ Err n → out (Err n) m' ≡ copy_to up m root v f user
  copy_to_stop e h = ap (λ (r : Out). go_on r (λ _ n. remapped up n root v f user)) (sym (stepped e h))

  -- after `copy_page` and `remap_page`
  pub copy_to_on : {w : Result ℕ Refusal} {m' : Memory} → out w m' ≡ copy_page up m root v f → {x : ℕ} → w ≡ Ok x
      → {o : Out} → o ≡ remapped up m' root v f user → o ≡ copy_to up m root v f user
  copy_to_on e h q = q ∙ ap (λ (r : Out). go_on r (λ _ n. remapped up n root v f user)) (sym (stepped e h))

module _ (up : ℕ) (m : Memory) (root v : ℕ) (user : Bool) (m' : Memory) where
  pub cow_none : (n : Refusal) → raw_frame m ≡ out (Err n) m' → copy_on_write up m root v user ≡ out (Err n) m'
  unfolding copy_on_write
  cow_none n e = rw e

  pub cow_on : (f : ℕ) → raw_frame m ≡ out (Ok f) m' → copy_on_write up m root v user ≡ copy_to up m' root v f user
  unfolding copy_on_write
  cow_on f e = rw e

-- ---- what it found of the old frame

module _ (up : ℕ) (m : Memory) (root v f : ℕ) (user : Bool) where
  -- after those two and `if_met`
  pub remap_found_lem : {w : Result ℕ Refusal} {m' : Memory} → out w m' ≡ remapped up m root v f user → {s t : Tally} → s ≡ page_found up m root v → t ≡ and_then w (λ _. none_found) (λ _. s)
      → t ≡ remap_found up m root v f user
  remap_found_lem e g h = h ∙ (λ j. and_then (e j).walked (λ _. none_found) (λ _. g j))

  abbrev on : Out → Tally
  on o = and_then o.walked (λ _. none_found) (λ _. remap_found up o.mem root v f user)

  module _ {w : Result ℕ Refusal} {m' : Memory} (e : out w m' ≡ copy_page up m root v f) {t : Tally} where
    pub copy_to_none : {n : Refusal} → w ≡ Err n → t ≡ none_found → t ≡ copy_to_found up m root v f user
    copy_to_none h q = q ∙ ap on (sym (stepped e h))

    pub copy_to_found_lem : {x : ℕ} → w ≡ Ok x → t ≡ remap_found up m' root v f user → t ≡ copy_to_found up m root v f user
    copy_to_found_lem h q = q ∙ ap on (sym (stepped e h))

module _ (up : ℕ) (m : Memory) (root v : ℕ) (user : Bool) (m' : Memory) where
  pub cow_found_none : (n : Refusal) → raw_frame m ≡ out (Err n) m' → copy_found up m root v user ≡ none_found
  unfolding copy_found
  cow_found_none n e = rw e

  pub cow_found : (f : ℕ) → raw_frame m ≡ out (Ok f) m' → copy_found up m root v user ≡ copy_to_found up m' root v f user
  unfolding copy_found
  cow_found f e = rw e

pub copy_none : (ws : List ℕ) (from to : ℕ) → copy_words ws from to 0 ≡ ws
unfolding copy_words
copy_none ws from to = refl

-- one word more, at turn i of n
pub copy_on : (ws : List ℕ) (from to i n : ℕ) → i < n
    → copy_words ws (from + i) (to + i) (n - i) ≡ copy_words (set ws (to + i) (get_or ws (from + i) 0)) (from + (i + 1)) (to + (i + 1)) (n - (i + 1))
unfolding copy_words
copy_on ws from to i n h =
    let e : n - i ≡ suc (n - (i + 1)) = omega arith in
    let a : from + (i + 1) ≡ suc (from + i) = omega arith in
    let b : to + (i + 1) ≡ suc (to + i) = omega arith in
    rw (e, a, b)
