-- Neither fault path touches a word past the lent frames.
use Prim.Native.Nat.{ℕ, zero, suc, ◌+◌, ◌-◌, ◌*◌, ◌/◌, ◌<◌, ◌≤◌}
use mathlib.Core.Path.{◌≡◌}
use mathlib.Core.Bool.{Bool, true, false}
use mathlib.Core.List.{List}
use native.Mathlib.Omega.{arith}
use lib.ListN.{get_or, set, take}
use Rattle.std.specs.Prelude.{Ok, Err, Result}
use Rattle.answer.specs.declared.Refusal.{Refusal}
use Rattle.address.specs.declared.Frame.{Frame}
use Rattle.bits.specs.Bit.{both}
use Rattle.bits.proofs.Choice.{pick_cases}
use Rattle.entry.specs.Entry.{indices}
use Rattle.entry.proofs.Entry.{indices_lt}
use Rattle.frame.specs.Frames.{inside}
use Rattle.frame.specs.Frames.{FramesDid}
use Rattle.frame.proofs.Laws.{inside_under, take_cases}
use Rattle.frame.proofs.Steps.{span_with}
use Rattle.paging.specs.Walk.{place}
use Rattle.paging.specs.Map.{Memory, start_frame, total_of, Out, make, Left, with_words}
use Rattle.paging.specs.Calls.{whole}
use Rattle.paging.specs.Pages.{free_page}
use Rattle.paging.proofs.Past.{Past, past_same, past_then, past_set, past_clear, past_entry, small_indices, small_take, Stays, stays_same, stays_then, stays_words, stays_on, stays_make, stays_map_at, stays_clear_page, stays_free_page}
use Rattle.slots.specs.Slots.{listed}
use Rattle.slots.specs.Sorted.{has_key}
use Rattle.cow.specs.Marked.{page_of, page_key}
use Rattle.error_code.specs.ErrorCode.{is_present, is_write, is_user, is_reserved, is_fetch}
use Rattle.copying.specs.Copying.{as_taken, raw_frame, map_frame, temporary, translated, cleared_if, copy_words, copied, copy_page, copy_to, copy_on_write}
use Rattle.fault.specs.Faults.{in_heap, valid, demand_page, Faulting, FaultDid, sound_faulting, handle_fault}
use Rattle.copying.proofs.Copying.{raw_inside}
use Rattle.handler.specs.Handler.{overwrite, put_over, map_over, handle_fault_second}

-- ---- steps

-- a lent frame stays lent
stays_inside : {m m' : Memory} → Stays m m' → (f : ℕ) → inside (start_frame m) (total_of m) f ≡ true → inside (start_frame m') (total_of m') f ≡ true
stays_inside s f h = rw (s.start, s.total) h

stays_raw : (m : Memory) → Stays m (raw_frame m).mem
unfolding raw_frame
stays_raw m =
    take_cases m.frames (λ (d : FramesDid (Result Frame Refusal)). Stays m (as_taken m d.answer d.frames).mem)
    (λ j _ _ _. record { start = (span_with m.frames j).start; total = (span_with m.frames j).total; levels = (span_with m.frames j).levels; words = past_same _ m.words })
    (λ _. stays_same m)

stays_map_frame : (up : ℕ) (m : Memory) (root v f : ℕ) (w u : Bool) → Stays m (map_frame up m root v f w u).mem
stays_map_frame up m root v f w u = stays_map_at up up u m root v _

past_copy : (n c : ℕ) (ws : List ℕ) (from to : ℕ) → to + c ≤ n → Past n ws (copy_words ws from to c)
unfolding copy_words
past_copy n zero ws from to h = past_same n ws
past_copy n (suc c) ws from to h =
    past_then (past_set n ws to (get_or ws from 0) (omega arith)) (past_copy n c (set ws to (get_or ws from 0)) (suc from) (suc to) (omega arith))

-- ---- the first path

stays_demand : (up : ℕ) (m : Memory) (root v code : ℕ) → Stays m (demand_page up m root v code).mem
unfolding demand_page
stays_demand up m root v code =
    pick_cases (λ (o : Out). Stays m o.mem) (valid v) _ _
    (λ _. pick_cases (λ (o : Out). Stays m o.mem) (both (is_fetch code) (in_heap v)) _ _ (λ _. stays_same m)
    (λ _. stays_on m (raw_frame m) _ (stays_raw m) (λ f _. stays_map_frame up (raw_frame m).mem root v f (is_write code) (is_user code))))
    (λ _. stays_same m)

stays_cleared_if : (w : Result ℕ Refusal) (up : ℕ) (m : Memory) (root v : ℕ) → Stays m (cleared_if w up m root v)
stays_cleared_if (Ok a) up m root v = stays_clear_page up m root v
stays_cleared_if (Err n) up m root v = stays_same m

module _ (f : ℕ) where
  stays_copied : (m : Memory) (w : Result ℕ Refusal) → inside (start_frame m) (total_of m) f ≡ true → Stays m (copied m w f).mem
  stays_copied m (Ok a) h =
      pick_cases (λ (o : Out). Stays m o.mem) (inside (start_frame m) (total_of m) (a / 4096)) _ _
      (λ _. stays_words m _ (past_copy (total_of m * 512) 512 m.words _ (place (start_frame m) f 0) (omega (arith, inside_under (start_frame m) (total_of m) f h)))) (λ _. stays_same m)
  stays_copied m (Err n) h = stays_same m

  stays_copy_page : (up : ℕ) (m : Memory) (root v : ℕ) → inside (start_frame m) (total_of m) f ≡ true → Stays m (copy_page up m root v f).mem
  unfolding copy_page
  stays_copy_page up m root v h =
      let m₁ = cleared_if (translated up m root temporary) up m root temporary in
      let o = map_frame up m₁ root temporary f true false in
      let s : Stays m o.mem = stays_then (stays_cleared_if (translated up m root temporary) up m root temporary) (stays_map_frame up m₁ root temporary f true false) in
      stays_on m o _ s (λ _ _. stays_then (stays_copied o.mem (translated up o.mem root v) (stays_inside s f h)) (stays_clear_page up (copied o.mem (translated up o.mem root v) f).mem root temporary))

  stays_copy_to : (up : ℕ) (m : Memory) (root v : ℕ) (user : Bool) → inside (start_frame m) (total_of m) f ≡ true → Stays m (copy_to up m root v f user).mem
  stays_copy_to up m root v user h =
      stays_on m (copy_page up m root v f) _ (stays_copy_page up m root v h)
      (λ _ _. stays_then (stays_free_page up (copy_page up m root v f).mem root v) (stays_map_frame up (free_page up (copy_page up m root v f).mem root v) root v f true user))

stays_copy : (up : ℕ) (m : Memory) (root v : ℕ) (user : Bool) → Stays m (copy_on_write up m root v user).mem
unfolding copy_on_write
stays_copy up m root v user = stays_on m (raw_frame m) _ (stays_raw m) (λ f e. stays_copy_to f up (raw_frame m).mem root v user (raw_inside m f e))

pub stays_fault : (up : ℕ) (s : Faulting) (root a code : ℕ) → Stays s.mem (handle_fault up s root a code).state.mem
unfolding handle_fault
stays_fault up s root a code =
    pick_cases P (sound_faulting s root) _ _
    (λ _. pick_cases P (is_reserved code) _ _ (λ _. stays_same s.mem)
    (λ _. pick_cases P (is_present code) _ _
    (λ _. pick_cases P (is_write code) _ _
    (λ _. pick_cases P (has_key page_key (page_of a) (listed s.marked)) _ _ (λ _. stays_copy up s.mem root (page_of a) (is_user code)) (λ _. stays_same s.mem))
    (λ _. stays_same s.mem))
    (λ _. stays_demand up s.mem root (page_of a) code)))
    (λ _. stays_same s.mem)
  where
    P : FaultDid → Type 0
    P d = Stays s.mem d.state.mem

-- ---- the second path

past_over : (ws : List ℕ) (start total t i e : ℕ) → i < 512 → Past (total * 512) ws (overwrite ws start total t i e).words
unfolding overwrite
past_over ws start total t i e small =
    pick_cases (λ (l : Left). Past (total * 512) ws l.words) (inside start total t) _ _ (λ h. past_entry ws start total t i e h small) (λ _. past_same _ ws)

module _ (f : ℕ) where
  stays_put_over : (m : Memory) (t i e : ℕ) → i < 512 → inside (start_frame m) (total_of m) f ≡ true → Stays m (put_over m t i e f).mem
  stays_put_over m t i e small h =
      let o = with_words m (overwrite m.words (start_frame m) (total_of m) t i e) in
      stays_on m o _ (stays_words m _ (past_over m.words (start_frame m) (total_of m) t i e small))
      (λ _ _. stays_words o.mem _ (past_clear (total_of m * 512) o.mem.words ((f - start_frame m) * 512) 512 (omega (arith, inside_under (start_frame m) (total_of m) f h))))

  stays_map_over : (up : ℕ) (m : Memory) (root v : ℕ) (w u : Bool) → inside (start_frame m) (total_of m) f ≡ true → Stays m (map_over up m root v f w u).mem
  unfolding map_over
  stays_map_over up m root v w u h =
      let s = stays_make u (take up (indices (suc up) v)) m root (small_take up (indices (suc up) v) (small_indices (suc up) v)) in
      stays_on m (make u m root (take up (indices (suc up) v))) _ s (λ t _. stays_put_over _ t _ _ (indices_lt (suc up) v up) (stays_inside s f h))

pub stays_second : (up : ℕ) (m : Memory) (root a code : ℕ) → Stays m (handle_fault_second up m root a code).mem
unfolding handle_fault_second
stays_second up m root a code =
    pick_cases P (whole m root) _ _
    (λ _. pick_cases P (is_reserved code) _ _ (λ _. stays_same m)
    (λ _. pick_cases P (is_present code) _ _ (λ _. stays_same m)
    (λ _. stays_on m (raw_frame m) _ (stays_raw m) (λ f e. stays_map_over f up (raw_frame m).mem root (page_of a) (is_write code) (is_user code) (raw_inside m f e)))))
    (λ _. stays_same m)
  where
    P : Out → Type 0
    P o = Stays m o.mem
