-- The one equation of each C function of the marked pages and of both fault paths, and what their refusals leave.
use Prim.Native.Nat.{ℕ, suc, ◌+◌, ◌*◌, ◌/◌, ◌^◌}
use mathlib.Core.Path.{◌≡◌, refl, ◌∙◌, ap, subst}
use mathlib.Core.Bool.{Bool, true, false}
use mathlib.Core.List.{List}
use lib.ListN.{get_or, take}
use Rattle.std.specs.Prelude.{Ok, Err, Result, ⊤}
use Rattle.answer.specs.declared.Refusal.{Refusal}
use Rattle.answer.specs.declared.Refusal.TheVariants.{BrokenRecord, NoFreeFrame}
use Rattle.address.specs.declared.Frame.{Frame}
use Rattle.bits.specs.Bit.{pick, unless, both}
use Rattle.bits.proofs.Choice.{pick_cases, both_true}
use Rattle.answer.specs.Numbers.{answer_line, flag_line}
use Rattle.answer.specs.declared.Line.{Line}
use Rattle.entry.specs.Entry.{entry_of, indices}
use Rattle.packed.proofs.RoundTrip.{Bytes}
use Rattle.frame.specs.declared.FrameAllocator.{FrameAllocator}
use Rattle.frame.specs.declared.Tally.{Tally}
use Rattle.frame.specs.declared.TallyLine.{TallyLine}
use Rattle.frame.specs.Frames.{FramesDid, inside, with_mark}
use Rattle.frame.specs.Found.{none_found, tally_line, tally_of}
use Rattle.frame.proofs.Laws.{take_cases}
use Rattle.paging.specs.Levels.{above_last}
use Rattle.paging.specs.Map.{Memory, memory, start_frame, total_of, Out, out, go_on, make}
use Rattle.paging.specs.Calls.{whole, map_at}
use Rattle.paging.specs.Pages.{free_page}
use Rattle.paging.specs.Kept.{kept, lent_memory}
use Rattle.paging.proofs.Map.{go_on_cases}
use Rattle.slots.specs.Slots.{Slots, listed}
use Rattle.slots.specs.Sorted.{has_key}
use Rattle.cow.specs.Marked.{page_of, page_key, sound_marked, MarkedDid, full_of_pages, mark_cow, unmark_cow, is_cow}
use Rattle.cow.specs.Packed.{marked_in, marked_out, marked_fit, MarkedBytes, marked_bytes, on_marked}
use Rattle.cow.proofs.RoundTrip.{marked_back}
use Rattle.error_code.specs.ErrorCode.{is_present, is_write, is_user, is_reserved, is_fetch}
use Rattle.copying.specs.Copying.{as_taken, raw_frame, only_error, map_frame, temporary, translated, cleared_if_mapped, copied, copy_page, copy_to, copy_on_write}
use Rattle.fault.specs.Faults.{in_heap, valid, demand_page, Faulting, faulting, FaultDid, sound_faulting, unmarking, handled, handle_fault, handle_fault_of}
use Rattle.fault.specs.Packed.{on_pages, found_on_pages, fault_found_on}
use Rattle.handler.specs.Handler.{overwrite, put_over, map_over, handle_fault_second, handle_fault_second_of}
use Rattle.layout.specs.Parts.{fields_in, fields_out, fields_fit}
use Rattle.layout.specs.Left.{left, broken_line, IsRefusal, Unchanged, no_leftovers, fault_leftovers, second_leftovers}
use Rattle.layout.specs.Memory.{ListParts, list_parts, plain_line, memory_parts}
use Rattle.layout.proofs.Left.{broken_left, unchanged_left, fields_same, memory_unchanged, list_met}
use Rattle.layout.proofs.Numbers.{Listed, make_listed}
use Rattle.desk_faults.specs.Faults.{left_marked, packed_mark_cow, packed_unmark_cow, packed_is_cow, fault_fit, fault_packed, on_fault, packed_fault, packed_fault_found, packed_fault_second}

-- ---- the marked pages

-- what is told of a choice
told_of : {A B : Type 0} (told : A → B) (t : Bool) (a b : A) → told (pick t a b) ≡ pick t (told a) (told b)
told_of told true a b = refl
told_of told false a b = refl

module _ (call : Slots ℕ → MarkedDid) (marked : List ℕ) where
  pub marked_did_lem : {x : Result ⊤ Refusal} {ms : List ℕ} {r : Line} → marked_bytes x ms ≡ on_marked call marked → r ≡ answer_line x → left r ms ≡ left_marked call marked
  unfolding on_marked left_marked
  marked_did_lem {ms = ms} e r =
      (λ j. left (r j) ms) ∙ ap (λ (d : MarkedBytes). left (answer_line d.answer) d.list) e
      ∙ told_of (λ (d : MarkedBytes). left (answer_line d.answer) d.list) (marked_fit marked) _ _

  marked_unchanged : Bytes marked → ((s : Slots ℕ) → IsRefusal no_leftovers (answer_line (call s).answer).number → (call s).marked ≡ s)
      → Unchanged no_leftovers marked (left_marked call marked)
  unfolding left_marked
  marked_unchanged b law = unchanged_left no_leftovers (marked_fit marked) marked _ (λ fit n. ap marked_out (law _ n) ∙ marked_back marked fit b)

pub cow_did : (marked : List ℕ) (addr : ℕ) {x : Result Bool Refusal} {r : Line} → x ≡ unless (marked_fit marked) (Err BrokenRecord) (is_cow (marked_in marked) addr) → r ≡ flag_line x
    → r ≡ packed_is_cow marked addr
cow_did marked addr e r = r ∙ ap flag_line e ∙ told_of flag_line (marked_fit marked) _ _

-- ---- the first fault path

module _ (call : Faulting → FaultDid) (words fields bits marked : List ℕ) where
  abbrev fault_lent : ListParts
  fault_lent = list_parts words fields bits marked

  pub fault_broken : {r : Line} → fields_fit fields ≡ false → r ≡ broken_line → left r fault_lent ≡ on_fault call fault_lent
  unfolding on_fault
  fault_broken h e = broken_left {ok = fault_fit fault_lent} fault_lent _ (rw h refl) e

  pub fault_met : {ws fs ms : List ℕ} (bs : List ℕ) {f g : FrameAllocator} {x : Result ⊤ Refusal} {r : Line}
      → fields_fit fields ≡ true → Bytes fields → f ≡ fields_in fields
      → kept x (lent_memory ws bs g) ms ≡ on_pages call (lent_memory words bits f) marked
      → r ≡ answer_line x → fs ≡ fields_out g → left r (list_parts ws fs bs ms) ≡ on_fault call fault_lent
  unfolding on_fault on_pages
  fault_met = list_met answer_line words fields bits marked (λ (m : Memory). on_pages call m marked) (marked_fit marked) (Err BrokenRecord) _ refl refl

  fault_unchanged : (leftovers : List Refusal) → Bytes fields → Bytes marked
      → ((s : Faulting) → IsRefusal leftovers (plain_line (call s).answer).number → (call s).state ≡ s)
      → Unchanged leftovers fault_lent (on_fault call fault_lent)
  unfolding on_fault
  fault_unchanged leftovers b c law =
      unchanged_left leftovers (fault_fit fault_lent) fault_lent _ (λ fit n.
      let f = both_true (fields_fit fields) (marked_fit marked) fit in
      ap fault_packed (law _ n) ∙ (λ j. list_parts words (fields_same fields f.0 b j) bits (marked_back marked f.1 c j)))

-- what it found
module _ (words fields bits marked : List ℕ) (root addr code : ℕ) (a : Result ⊤ Refusal) {r : TallyLine} where
  pub fault_unfit_none : fields_fit fields ≡ false → r ≡ tally_line a none_found → tally_of r ≡ packed_fault_found (list_parts words fields bits marked) root addr code
  unfolding packed_fault_found
  fault_unfit_none h l = rw h (ap tally_of l)

  pub fault_found_lem : {f : FrameAllocator} → fields_fit fields ≡ true → f ≡ fields_in fields → {t : Tally} → t ≡ fault_found_on (lent_memory words bits f) marked root addr code
      → r ≡ tally_line a t → tally_of r ≡ packed_fault_found (list_parts words fields bits marked) root addr code
  unfolding packed_fault_found found_on_pages
  fault_found_lem h f e l = rw h (ap tally_of l ∙ e ∙ (λ j. fault_found_on (lent_memory words bits (f j)) marked root addr code))

-- ---- refusals of the marked pages: 10, and 20 of mark_cow

module _ (addr : ℕ) (s : Slots ℕ) where
  abbrev CleanMark : MarkedDid → Type 0
  CleanMark d = IsRefusal no_leftovers (answer_line d.answer).number → d.marked ≡ s

  mark_clean : CleanMark (mark_cow s addr)
  unfolding mark_cow
  mark_clean =
      pick_cases CleanMark (sound_marked s) _ _ (λ _. pick_cases CleanMark (full_of_pages s (page_of addr)) _ _ (λ _ _. refl) (λ _ h. absurd (h refl))) (λ _ _. refl)

  unmark_clean : CleanMark (unmark_cow s addr)
  unfolding unmark_cow
  unmark_clean = pick_cases CleanMark (sound_marked s) _ _ (λ _ h. absurd (h refl)) (λ _ _. refl)

module _ (marked : List ℕ) (b : Bytes marked) (addr : ℕ) where
  pub mark_refused : Unchanged no_leftovers marked (packed_mark_cow marked addr)
  mark_refused = marked_unchanged (λ (s : Slots ℕ). mark_cow s addr) marked b (mark_clean addr)

  pub unmark_refused : Unchanged no_leftovers marked (packed_unmark_cow marked addr)
  unmark_refused = marked_unchanged (λ (s : Slots ℕ). unmark_cow s addr) marked b (unmark_clean addr)

-- ---- refusals of the first path: 11 where no frame is left, and nothing changed; then 18 alone

-- both outcomes of a frame taken as it is
raw_cases : (m : Memory) (P : Out → Type 0) → ((j : ℕ) → P (out (Ok (start_frame m + j)) (memory m.words (with_mark m.frames j)))) → P (out (Err NoFreeFrame) m) → P (raw_frame m)
unfolding raw_frame
raw_cases m P met none = take_cases m.frames (λ (d : FramesDid (Result Frame Refusal)). P (as_taken m d.answer d.frames)) (λ j _ _ _. met j) (λ _. none)

error_listed : (w : Result ℕ Refusal) → Listed fault_leftovers (only_error w)
error_listed (Ok x) h = h.1 refl
error_listed (Err n) h = h.0 refl

frame_listed : (up : ℕ) (m : Memory) (root v f : ℕ) (w u : Bool) → Listed fault_leftovers (map_frame up m root v f w u).walked
frame_listed up m root v f w u = error_listed (map_at up up u m root v (entry_of (f * 2 ^ 12) w u)).walked

copied_listed : (m : Memory) (w : Result ℕ Refusal) (f : ℕ) → Listed fault_leftovers (copied m w f).walked
copied_listed m (Err n) f h = h.0 refl
copied_listed m (Ok a) f h =
    pick_cases (λ (o : Out). Listed fault_leftovers o.walked) (inside (start_frame m) (total_of m) (a / 4096)) _ _ (λ _ h. h.1 refl) (λ _ h. h.0 refl) h

module _ (up root v : ℕ) where
  abbrev Lists : Out → Type 0
  Lists o = Listed fault_leftovers o.walked

  copy_page_listed : (m : Memory) (f : ℕ) → Lists (copy_page up m root v f)
  unfolding copy_page
  copy_page_listed m f =
      let c = cleared_if_mapped up m root temporary in
      let o = map_frame up c root temporary f true false in
      go_on_cases Lists o _ (λ n e. subst (Listed fault_leftovers) e (frame_listed up c root temporary f true false)) (λ _ _. copied_listed o.mem (translated up o.mem root v) f)

  copy_listed : (m : Memory) (f : ℕ) (user : Bool) → Lists (copy_to up m root v f user)
  copy_listed m f user =
      go_on_cases Lists (copy_page up m root v f) _ (λ n e. subst (Listed fault_leftovers) e (copy_page_listed m f))
      (λ _ _. frame_listed up (free_page up (copy_page up m root v f).mem root v) root v f true user)

module _ (up root v code : ℕ) (s : Faulting) where
  abbrev Clean : FaultDid → Type 0
  Clean d = IsRefusal fault_leftovers (plain_line d.answer).number → d.state ≡ s

  -- a step that takes a frame, and stops with 18 alone once it has one
  abbrev CleanStep : Out → Type 0
  CleanStep o = IsRefusal fault_leftovers (plain_line o.walked).number → o.mem ≡ s.mem

  demand_clean : CleanStep (demand_page up s.mem root v code)
  unfolding demand_page
  demand_clean =
      pick_cases CleanStep (valid v) _ _
      (λ _.
      pick_cases CleanStep (both (is_fetch code) (in_heap v)) _ _ (λ _ _. refl)
      (λ _.
      raw_cases s.mem (λ (o : Out). CleanStep (go_on o (λ f m'. map_frame up m' root v f (is_write code) (is_user code)))) (λ j h. absurd (frame_listed up _ root v _ (is_write code) (is_user code) h)) (λ _. refl)))
      (λ _ _. refl)

  copy_clean : CleanStep (copy_on_write up s.mem root v (is_user code))
  unfolding copy_on_write
  copy_clean =
      raw_cases s.mem (λ (o : Out). CleanStep (go_on o (λ f m'. copy_to up m' root v f (is_user code)))) (λ j h. absurd (copy_listed up root v _ _ (is_user code) h)) (λ _. refl)

  unmarking_clean : (w : Result ℕ Refusal) (m : Memory) → CleanStep (out w m) → Clean (unmarking v s.marked (out w m))
  unmarking_clean (Ok x) m law h = absurd (h.1 refl)
  unmarking_clean (Err n) m law h = ap (λ (m : Memory). faulting m s.marked) (law h)

  handled_clean : Clean (handled up s root v code)
  handled_clean =
      pick_cases Clean (is_reserved code) _ _ (λ _ _. refl)
      (λ _.
      pick_cases Clean (is_present code) _ _
      (λ _.
      pick_cases Clean (is_write code) _ _
      (λ _. pick_cases Clean (has_key page_key v (listed s.marked)) _ _ (λ _. let o = copy_on_write up s.mem root v (is_user code) in unmarking_clean o.walked o.mem copy_clean) (λ _ _. refl)) (λ _ _. refl))
      (λ _ h. ap (λ (m : Memory). faulting m s.marked) (demand_clean h)))

fault_clean : (up root addr code : ℕ) (s : Faulting) → IsRefusal fault_leftovers (plain_line (handle_fault up s root addr code).answer).number → (handle_fault up s root addr code).state ≡ s
unfolding handle_fault
fault_clean up root addr code s = pick_cases (Clean up root (page_of addr) code s) (sound_faulting s root) _ _ (λ _. handled_clean up root (page_of addr) code s) (λ _ _. refl)

-- ---- refusals of the second path: 10, 5, 17, 7 and 8; 11 and 19 may leave the frame marked

over_listed : (up : ℕ) (m : Memory) (root v f : ℕ) (w u : Bool) → Listed second_leftovers (map_over up m root v f w u).walked
unfolding map_over overwrite
over_listed up m root v f w u =
    let path = take up (indices (suc up) v) in
    go_on_cases (λ (o : Out). Listed second_leftovers o.walked) (make u m root path) _ (λ n e. subst (Listed second_leftovers) e (make_listed u m root path))
    (λ t _. let m' = (make u m root path).mem in by m' t (inside (start_frame m') (total_of m') t) refl)
  where
    by : (m' : Memory) (t : ℕ) (x : Bool) → inside (start_frame m') (total_of m') t ≡ x → Listed second_leftovers (put_over m' t (get_or (indices (suc up) v) up 0) (entry_of (f * 2 ^ 12) w u) f).walked
    by m' t true e = rw e (λ h. h.1.1 refl)
    by m' t false e = rw e (λ h. h.1.0 refl)

second_clean : (up root addr code : ℕ) (m : Memory) → IsRefusal second_leftovers (plain_line (handle_fault_second up m root addr code).walked).number → (handle_fault_second up m root addr code).mem ≡ m
unfolding handle_fault_second
second_clean up root addr code m =
    pick_cases CleanSecond (whole m root) _ _
    (λ _.
    pick_cases CleanSecond (is_reserved code) _ _ (λ _ _. refl)
    (λ _.
    pick_cases CleanSecond (is_present code) _ _ (λ _ _. refl)
    (λ _. raw_cases m (λ (o : Out). CleanSecond (go_on o (λ f m'. map_over up m' root (page_of addr) f (is_write code) (is_user code)))) (λ j h. absurd (over_listed up _ root (page_of addr) _ (is_write code) (is_user code) h))
    (λ h. absurd (h.0 refl)))))
    (λ _ _. refl)
  where
    CleanSecond : Out → Type 0
    CleanSecond o = IsRefusal second_leftovers (plain_line o.walked).number → o.mem ≡ m

module _ (words fields bits : List ℕ) (b : Bytes fields) (root addr code : ℕ) where
  pub fault_refused : (marked : List ℕ) → Bytes marked → let p = list_parts words fields bits marked in Unchanged fault_leftovers p (packed_fault p root addr code)
  fault_refused marked c = fault_unchanged (λ (s : Faulting). handle_fault_of s root addr code) words fields bits marked fault_leftovers b c (λ s. fault_clean (above_last s.mem) root addr code s)

  pub second_refused : let p = memory_parts words fields bits in Unchanged second_leftovers p (packed_fault_second p root addr code)
  second_refused = memory_unchanged (λ (m : Memory). handle_fault_second_of m root addr code) words fields bits second_leftovers b (λ m. second_clean (above_last m) root addr code m)
