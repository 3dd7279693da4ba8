-- The one equation of each C function of the frame allocator and of the mapper, and what their refusals leave.
use Prim.Native.Nat.{ℕ, suc, ◌-◌}
use mathlib.Core.Path.{◌≡◌, refl, ◌∙◌, ap}
use mathlib.Core.Bool.{Bool, true, false}
use mathlib.Core.List.{List}
use lib.ListN.{length, get_or, take}
use Rattle.std.specs.Prelude.{Ok, Err, Result, ⊤}
use Rattle.answer.specs.declared.Refusal.{Refusal}
use Rattle.address.specs.declared.PhysAddr.{PhysAddr}
use Rattle.address.specs.declared.Frame.{Frame}
use Rattle.frame.specs.declared.Found.{Found}
use Rattle.bits.specs.Bit.{both, flag}
use Rattle.bits.proofs.Choice.{pick_cases}
use Rattle.answer.specs.Outcomes.{and_then}
use Rattle.answer.specs.Numbers.{answer_line}
use Rattle.answer.specs.declared.Line.{Line}
use Rattle.address.specs.Address.{aligned, frame_line, as_frame, phys_line, as_phys}
use Rattle.entry.specs.Entry.{indices}
use Rattle.packed.proofs.RoundTrip.{Bytes}
use Rattle.bitmap.specs.Bitmap.{marks_in}
use Rattle.frame.specs.declared.FrameAllocator.{FrameAllocator}
use Rattle.frame.specs.Found.{found_line}
use Rattle.frame.specs.Frames.{Frames, lent_frames, FramesDid, frames_did, inside, sound, init, mark_allocated, allocate, deallocate}
use Rattle.frame.proofs.Laws.{init_cases, take_cases}
use Rattle.paging.specs.declared.HugePageSize.{HugePageSize}
use Rattle.paging.specs.Levels.{above_last}
use Rattle.paging.specs.Walk.{place, reach}
use Rattle.paging.specs.Map.{Memory, Out, Left as Stored, left as stored, take_leaf, unmap_entry}
use Rattle.paging.specs.Calls.{whole, lent_walk, map_page, map_page_of, size_of, tables_above, map_huge, map_huge_of, unmap_page}
use Rattle.paging.specs.Working.{show_translate}
use Rattle.paging.proofs.Working.{shows}
use Rattle.working.specs.Rows.{shown_numbers}
use Rattle.layout.specs.Parts.{fields_in, fields_out, fields_fit}
use Rattle.layout.specs.Left.{left, broken_line, IsRefusal, Unchanged, no_leftovers, table_leftovers}
use Rattle.layout.specs.Memory.{plain_line, memory_parts}
use Rattle.layout.proofs.Left.{broken_left, met_left, broken_line_lem, met_line_lem, unchanged_left, fields_same, memory_unchanged}
use Rattle.layout.proofs.Numbers.{map_listed}
use Rattle.desk_memory.specs.Memory.{frames_parts, frames_packed, on_frames, read_frames, packed_map_page, packed_map_huge, left_show, left_unmap}

-- ---- the frame record and its bitmap

module _ {A : Type 0} (said : A → Line) (call : Frames → FramesDid A) (fields bits : List ℕ) where
  pub frames_broken : {r : Line} → fields_fit fields ≡ false → r ≡ broken_line → left r (frames_parts fields bits) ≡ on_frames said call (frames_parts fields bits)
  unfolding on_frames
  frames_broken h e = broken_left (frames_parts fields bits) _ h e

  -- the bitmap and the record that the call leaves, and its answer
  pub frames_met : {fs : List ℕ} (bs : List ℕ) {f f' : FrameAllocator} {a : A} {r : Line} → fields_fit fields ≡ true → f ≡ fields_in fields
      → frames_did a (lent_frames bs f') ≡ call (lent_frames bits f) → r ≡ said a → fs ≡ fields_out f' → left r (frames_parts fs bs) ≡ on_frames said call (frames_parts fields bits)
  unfolding on_frames
  frames_met bs {f' = f'} {a = a} h f d r fs =
      let same : ◌≡◌ {A = FramesDid A} (frames_did a (lent_frames bs f')) (call (lent_frames bits (fields_in fields))) = d ∙ (λ j. call (lent_frames bits (f j))) in
      let l = r ∙ ap (λ (d : FramesDid A). said d.answer) same in
      let g = fs ∙ ap (λ (d : FramesDid A). fields_out d.frames.fa) same in
      let k = ap (λ (d : FramesDid A). d.frames.bits) same in
      met_left (frames_parts fields bits) h (λ j. left (l j) (record { fields = g j; marks = k j }))

  pub frames_unchanged : (leftovers : List Refusal) → Bytes fields → ((fr : Frames) → IsRefusal leftovers (said (call fr).answer).number → (call fr).frames ≡ fr)
      → Unchanged leftovers (frames_parts fields bits) (on_frames said call (frames_parts fields bits))
  unfolding on_frames
  frames_unchanged leftovers b law =
      unchanged_left leftovers (fields_fit fields) (frames_parts fields bits) _ (λ fit n. ap frames_packed (law _ n) ∙ (λ j. frames_parts (fields_same fields fit b j) bits))

-- .. that are only read

module _ {A : Type 0} (said : A → Line) (call : Frames → A) (fields bits : List ℕ) where
  pub read_broken : {r : Line} → fields_fit fields ≡ false → r ≡ broken_line → r ≡ read_frames said call (frames_parts fields bits)
  unfolding read_frames
  read_broken h e = broken_line_lem _ h e

  pub read_met : {f : FrameAllocator} {x : A} {r : Line} → fields_fit fields ≡ true → f ≡ fields_in fields → x ≡ call (lent_frames bits f) → r ≡ said x
      → r ≡ read_frames said call (frames_parts fields bits)
  unfolding read_frames
  read_met h f x r = met_line_lem h (r ∙ ap said (x ∙ (λ j. call (lent_frames bits (f j)))))

-- ---- refusals of the frame allocator: 10, and 11 of allocate_frame

pub init_clean : (from to : ℕ) (fr : Frames) → IsRefusal no_leftovers (answer_line (init fr from to).answer).number → (init fr from to).frames ≡ fr
init_clean from to fr =
    init_cases fr from to (λ (d : FramesDid (Result ⊤ Refusal)). IsRefusal no_leftovers (answer_line d.answer).number → d.frames ≡ fr) (λ _ _ h. absurd (h refl)) (λ _. refl)

pub mark_clean : (n : ℕ) (fr : Frames) → IsRefusal no_leftovers (answer_line (mark_allocated fr n).answer).number → (mark_allocated fr n).frames ≡ fr
unfolding mark_allocated
mark_clean n fr = pick_cases (λ (d : FramesDid (Result ⊤ Refusal)). IsRefusal no_leftovers (answer_line d.answer).number → d.frames ≡ fr) (sound fr) _ _ (λ _ h. absurd (h refl)) (λ _ _. refl)

pub deallocate_clean : (n : ℕ) (fr : Frames) → IsRefusal no_leftovers (found_line (deallocate fr n).answer).number → (deallocate fr n).frames ≡ fr
unfolding deallocate
deallocate_clean n fr =
    pick_cases (λ (d : FramesDid (Result Found Refusal)). IsRefusal no_leftovers (found_line d.answer).number → d.frames ≡ fr) (sound fr) _ _ (λ _ h. absurd (h refl)) (λ _ _. refl)

pub allocate_clean : (fr : Frames) → IsRefusal no_leftovers (frame_line (allocate fr).answer).number → (allocate fr).frames ≡ fr
unfolding allocate
allocate_clean fr = pick_cases P (sound fr) _ _ (λ _. take_cases fr P (λ _ _ _ _ h. absurd (h refl)) (λ _ _. refl)) (λ _ _. refl)
  where
    P : FramesDid (Result Frame Refusal) → Type 0
    P d = IsRefusal no_leftovers (frame_line d.answer).number → d.frames ≡ fr

-- ---- refusals of the mapper: 10 and 4; 11, 12 and 19 may leave tables

module _ (up : ℕ) (root v p : ℕ) (w u : Bool) (m : Memory) where
  abbrev Clean : Out → Type 0
  Clean o = IsRefusal table_leftovers (plain_line o.walked).number → o.mem ≡ m

  map_clean : Clean (map_page up m root v p w u)
  unfolding map_page
  map_clean = pick_cases Clean (whole m root) _ _ (λ _ h. absurd (map_listed u m root (take up (indices (suc up) v)) _ _ h)) (λ _ _. refl)

  huge_clean : (s : HugePageSize) → Clean (map_huge up m root v p s w u)
  unfolding map_huge
  huge_clean s =
      pick_cases Clean (whole m root) _ _
      (λ _.
      pick_cases Clean (both (aligned v (size_of s)) (aligned p (size_of s))) _ _ (λ _ h. absurd (map_listed u m root (take (tables_above up s) (indices (suc up) v)) _ _ h)) (λ _ _. refl))
      (λ _ _. refl)

module _ (words fields bits : List ℕ) (b : Bytes fields) (root v p : ℕ) (w u : Bool) where
  pub map_refused : Unchanged table_leftovers (memory_parts words fields bits) (packed_map_page (memory_parts words fields bits) root v p w u)
  map_refused = memory_unchanged (λ (m : Memory). map_page_of m root v p w u) words fields bits table_leftovers b (λ m. map_clean (above_last m) root v p w u m)

  pub huge_refused : (s : HugePageSize) → Unchanged table_leftovers (memory_parts words fields bits) (packed_map_huge (memory_parts words fields bits) root v p s w u)
  huge_refused s = memory_unchanged (λ (m : Memory). map_huge_of m root v p s w u) words fields bits table_leftovers b (λ m. huge_clean (above_last m) root v p w u m s)

-- ---- a translation with its working

pub show_left : (words : List ℕ) (start total levels root v : ℕ) {a : Result PhysAddr Refusal} {ns : List ℕ} {r : Line}
    → let s = show_translate levels words start total root v in (a ≡ as_phys s.answer) × (ns ≡ shown_numbers s.rows) → r ≡ phys_line a → left r ns ≡ left_show words start total levels root v
show_left words start total levels root v (a, n) r = λ j. left ((r ∙ ap phys_line (a ∙ ap as_phys (shows.same levels words start total root v))) j) (n j)

-- ---- unmap_page

pub unmap_left : (ws : List ℕ) (start total levels root v : ℕ) {x : Result Frame Refusal} {rest : List ℕ} {r : Line}
    → let d = unmap_page levels ws start total root v in (x ≡ as_frame d.walked) × (rest ≡ d.words) → r ≡ frame_line x → left r rest ≡ left_unmap ws start total levels root v
unmap_left ws start total levels root v (x, w) r = λ j. left ((r ∙ ap frame_line x) j) (w j)

-- its refusals: 10, 14 and 19
pub unmap_refused : (ws : List ℕ) (start total levels root v : ℕ) → Unchanged no_leftovers ws (left_unmap ws start total levels root v)
unfolding unmap_page unmap_entry take_leaf
unmap_refused ws start total levels root v =
    pick_cases Clean (lent_walk levels (length ws) start total root) _ _ (λ _. by (reach ws start total root (take up (indices (suc up) v)))) (λ _ _. refl)
  where
    up : ℕ
    up = levels - 1

    Clean : Stored → Type 0
    Clean l = IsRefusal no_leftovers (frame_line (as_frame l.walked)).number → l.words ≡ ws

    by : (w : Result ℕ Refusal) → Clean (and_then w (λ n. stored (Err n) ws) (λ t. take_leaf ws start total t (get_or (indices (suc up) v) up 0)))
    by (Err n) = λ _. refl
    by (Ok t) =
        pick_cases Clean (inside start total t) _ _
        (λ _. pick_cases Clean (flag 0 (get_or ws (place start t (get_or (indices (suc up) v) up 0)) 0)) _ _ (λ _ h. absurd (h refl)) (λ _ _. refl)) (λ _ _. refl)
