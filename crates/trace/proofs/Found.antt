-- What `deallocate_frame`, vfree, munmap and the copy say of the frames they free: each call by its tests, then the theorem.
use Prim.Native.Nat.{ℕ, ◌+◌, ◌/◌, ◌≤◌}
use mathlib.Core.Path.{◌≡◌, refl, sym, ◌∙◌, ap, subst}
use mathlib.Core.Bool.{Bool, true, false, true≢false, false≢true}
use native.Mathlib.Omega.{arith}
use lib.Dec.{eqb, leb}
use Rattle.std.specs.Prelude.{Ok, Err, Result}
use Rattle.answer.specs.declared.Refusal.{Refusal}
use Rattle.answer.specs.declared.Refusal.TheVariants.{SizeZero, Unaligned, TooLarge, ReservedBit, BrokenRecord, RegionNotFound, WriteToReadOnly}
use Rattle.bits.specs.Bit.{pick, unless}
use Rattle.allocator.specs.Round.{rounded, round_up, last_page}
use Rattle.answer.specs.Numbers.{answer_line}
use Rattle.answer.specs.Outcomes.{and_then, as_answer}
use Rattle.answer.specs.declared.Line.{Line}
use Rattle.frame.specs.declared.Found.{Found}
use Rattle.frame.specs.declared.Tally.{Tally}
use Rattle.frame.specs.Frames.{FramesDid, sound, frame_marked, give_frame}
use Rattle.frame.specs.Found.{found_value, found_line, none_found, all_found}
use Rattle.frame.proofs.Laws.{give_cases, deallocate_broken, deallocate_whole}
use Rattle.paging.specs.Map.{Memory, start_frame, total_of, Out, out, go_on}
use Rattle.paging.specs.Levels.{above_last}
use Rattle.paging.specs.Pages.{unmap_leaf, free_page, free_pages}
use Rattle.paging.specs.Found.{page_found, pages_found, unmapped_of, Tells}
use Rattle.paging.proofs.Walk.{no_value}
use Rattle.paging.proofs.Found.{found_unmapped, pages_tell, page_tells, tells_one}
use Rattle.slots.specs.Slots.{listed}
use Rattle.slots.specs.Sorted.{has_key}
use Rattle.regions.specs.Regions.{used_size}
use Rattle.mappings.specs.Regions.{holds}
use Rattle.vmalloc.specs.Calls.{Kernel, KernelDid, kernel_did, sound_kernel, released, released_found, vfree, vfree_found}
use Rattle.user_space.specs.User.{User, UserDid, user_did, sound_user, on_page}
use Rattle.munmap.specs.Calls.{unmap_region, unmapped, munmap, region_found, unmapped_found, munmap_found}
use Rattle.mprotect.specs.Protects.{page_count}
use Rattle.cow.specs.Marked.{page_of, page_key}
use Rattle.error_code.specs.ErrorCode.{is_present, is_write, is_user, is_reserved, denied}
use Rattle.copying.specs.Copying.{raw_frame, copy_page, remapped, remap_found, copy_to, copy_to_found, copy_on_write, copy_found}
use Rattle.fault.specs.Faults.{Faulting, faulting, FaultDid, fault_did, sound_faulting, handle_fault_of, of_step, unmarking, demand_page, handle_fault, fault_found}
use Rattle.board.specs.Board.{Board}
use Rattle.release.specs.Calls.{kernel_of, user_of, vfree_call, munmap_call}
use Rattle.release.specs.Calls.{play as play_regions}
use Rattle.trace.specs.Trace.{deallocate_call, Played, played, with_frames, play}
use Rattle.trace.specs.Levels.{ten_line}
use Rattle.trace.specs.Found.{met_line, marked_on, OneOfThree, PagesTold, CopyTold, FoundTells}

-- ---- deallocate_frame

-- two met lines are one only where their values are
same_value : {x y : ℕ} → met_line x ≡ met_line y → x ≡ y
same_value e = ap (λ (l : Line). l.value) e

module _ (b : Board) (n : ℕ) where
  -- what a frame was found to be, as the call answers it
  abbrev Told : FramesDid Found → Type 0
  Told d = OneOfThree b n (played (met_line (found_value d.answer)) (with_frames b d.frames))

  given_told : Told (give_frame b.mem.frames n)
  unfolding frame_marked
  given_told =
      give_cases b.mem.frames n Told
      (λ h. record {
        freed = (λ e. absurd (omega (arith, same_value e)), λ q. absurd (false≢true (sym h ∙ q.0)));
        already = (λ e. absurd (omega (arith, same_value e)), λ q. absurd (false≢true (sym h ∙ q.0)));
        off = (λ _. h, λ _. refl);
        mark = λ e. absurd (omega (arith, same_value e));
        same = λ _. refl;
      })
      (λ h k. let free : marked_on b n ≡ false = rw (h, k) in record {
        freed = (λ e. absurd (omega (arith, same_value e)), λ q. absurd (false≢true (sym free ∙ q.1)));
        already = (λ _. (h, free), λ _. refl);
        off = (λ e. absurd (omega (arith, same_value e)), λ q. absurd (true≢false (sym h ∙ q)));
        mark = λ e. absurd (omega (arith, same_value e));
        same = λ _. refl;
      })
      (λ h k. let held : marked_on b n ≡ true = rw (h, k) in record {
        freed = (λ _. (h, held), λ _. refl);
        already = (λ e. absurd (omega (arith, same_value e)), λ q. absurd (true≢false (sym held ∙ q.1)));
        off = (λ e. absurd (omega (arith, same_value e)), λ q. absurd (true≢false (sym h ∙ q)));
        mark = λ _. refl;
        same = λ no. absurd (no refl);
      })

  abbrev printed : FramesDid (Result Found Refusal) → Played
  printed d = played (found_line d.answer) (with_frames b d.frames)

  one_of_three : sound b.mem.frames ≡ true → OneOfThree b n (play b (deallocate_call n))
  one_of_three s = subst (λ (d : FramesDid (Result Found Refusal)). OneOfThree b n (printed d)) (sym (deallocate_whole b.mem.frames n s)) given_told

  none_of_three : sound b.mem.frames ≡ false → play b (deallocate_call n) ≡ played ten_line b
  none_of_three s = ap printed (deallocate_broken b.mem.frames n s)

-- ---- runs of pages

-- what n pages freed are found to be
pages_told : (b left : Board) (a n : ℕ) {t : Tally} → t ≡ pages_found (above_last b.mem) b.mem b.root a n
    → left.mem ≡ free_pages (above_last b.mem) b.mem b.root a n → PagesTold b left a n t
pages_told b left a n {t} found freed =
    let up = above_last b.mem in
    let m = free_pages up b.mem b.root a n in
    let told : Tells b.mem m t = subst (Tells b.mem m) (sym found) (pages_tell up b.root n b.mem a) in
    record {
      sum = ap all_found found ∙ found_unmapped up b.root n b.mem a;
      tells = subst (λ (m : Memory). Tells b.mem m t) (sym freed) told;
    }

-- a vfree by its tests: whether the record is sound, whether the address is null, and the size of the used region there
module _ (up : ℕ) (k : Kernel) (root a : ℕ) where
  abbrev vfree_by : Bool → Bool → Result ℕ Refusal → KernelDid
  vfree_by s z w = unless s (kernel_did (Err BrokenRecord) k) (pick z (kernel_did (Err RegionNotFound) k) (released up k root a w))

  abbrev vfree_found_by : Bool → Bool → Result ℕ Refusal → Tally
  vfree_found_by s z w = unless s none_found (pick z none_found (released_found up k root a w))

  -- met
  record VfreeFinds (d : KernelDid) (t : Tally) (w : Result ℕ Refusal) : Type 0 where
    size : ℕ
    used : w ≡ Ok size
    found : t ≡ pages_found up k.mem root a (size / 4096)
    freed : d.kernel.mem ≡ free_pages up k.mem root a (size / 4096)

  vfree_finds_lem : (x : ℕ) → (vfree up k root a).answer ≡ Ok x → VfreeFinds (vfree up k root a) (vfree_found up k root a) (used_size a (listed k.regions))
  unfolding vfree vfree_found
  vfree_finds_lem x = by (sound_kernel k root) (eqb a 0) (used_size a (listed k.regions))
    where
      by : (s z : Bool) (w : Result ℕ Refusal) → (vfree_by s z w).answer ≡ Ok x → VfreeFinds (vfree_by s z w) (vfree_found_by s z w) w
      by true false (Ok n) h = record { size = n; used = refl; found = refl; freed = refl }
      by true false (Err e) h = absurd (no_value (sym h))
      by true true w h = absurd (no_value (sym h))
      by false z w h = absurd (no_value (sym h))

  vfree_none : (e : Refusal) → (vfree up k root a).answer ≡ Err e → vfree_found up k root a ≡ none_found
  unfolding vfree vfree_found
  vfree_none e = by (sound_kernel k root) (eqb a 0) (used_size a (listed k.regions))
    where
      by : (s z : Bool) (w : Result ℕ Refusal) → (vfree_by s z w).answer ≡ Err e → vfree_found_by s z w ≡ none_found
      by true false (Ok n) h = absurd (no_value h)
      by true false (Err e) h = refl
      by true true w h = refl
      by false z w h = refl

-- a munmap by its tests: whether the record is sound, the size 0, the address aligned, the rounded size, and whether a region has both
module _ (up : ℕ) (s : User) (root a size : ℕ) where
  abbrev munmap_by : Bool → Bool → Bool → Result ℕ Refusal → UserDid
  munmap_by t z o w =
      unless t (user_did (Err BrokenRecord) s) (pick z (user_did (Err SizeZero) s) (unless o (user_did (Err Unaligned) s) (unmapped up s root a w)))

  abbrev munmap_found_by : Bool → Bool → Bool → Result ℕ Refusal → Tally
  munmap_found_by t z o w = unless t none_found (pick z none_found (unless o none_found (unmapped_found up s root a w)))

  record MunmapFinds (d : UserDid) (t : Tally) : Type 0 where
    found : t ≡ pages_found up s.mem root a (page_count size)
    freed : d.user.mem ≡ free_pages up s.mem root a (page_count size)

  munmap_finds_lem : (x : ℕ) → (munmap up s root a size).answer ≡ Ok x → MunmapFinds (munmap up s root a size) (munmap_found up s root a size)
  unfolding munmap munmap_found rounded
  munmap_finds_lem x = by (sound_user s root) (eqb size 0) (on_page a) (leb size last_page) (holds a (round_up 12 size) (listed s.regions)) refl
    where
      by : (t z o l h : Bool) → holds a (round_up 12 size) (listed s.regions) ≡ h → let w = pick l (Ok (round_up 12 size)) (Err TooLarge) in
          (munmap_by t z o w).answer ≡ Ok x → MunmapFinds (munmap_by t z o w) (munmap_found_by t z o w)
      by true false true true true e g = rw e (record { found = refl; freed = refl })
      by true false true true false e g = absurd (no_value (sym (rw e at g)))
      by true false true false h e g = absurd (no_value (sym g))
      by true false false l h e g = absurd (no_value (sym g))
      by true true o l h e g = absurd (no_value (sym g))
      by false z o l h e g = absurd (no_value (sym g))

  munmap_none : (e : Refusal) → (munmap up s root a size).answer ≡ Err e → munmap_found up s root a size ≡ none_found
  unfolding munmap munmap_found
  munmap_none e = by (sound_user s root) (eqb size 0) (on_page a) (rounded size)
    where
      held : (n : ℕ) (h : Bool) → holds a n (listed s.regions) ≡ h → (unmap_region up s root a n).answer ≡ Err e → region_found up s root a n ≡ none_found
      held n true f = rw f (λ h. absurd (no_value h))
      held n false f = rw f (λ _. refl)

      by : (t z o : Bool) (w : Result ℕ Refusal) → (munmap_by t z o w).answer ≡ Err e → munmap_found_by t z o w ≡ none_found
      by true false true (Ok n) h = held n (holds a n (listed s.regions)) refl h
      by true false true (Err f) h = refl
      by true false false w h = refl
      by true true o w h = refl
      by false z o w h = refl

-- ---- the copy

-- a page alone
module _ (up : ℕ) (m : Memory) (root v : ℕ) where
  page_sum : all_found (page_found up m root v) ≡ unmapped_of up m.words (start_frame m) (total_of m) root v 1
  unfolding pages_found
  page_sum = omega (arith, found_unmapped up root 1 m v)

  page_most : unmapped_of up m.words (start_frame m) (total_of m) root v 1 ≤ 1
  unfolding unmapped_of
  page_most = by (unmap_leaf up m root v).walked
    where
      by : (w : Result ℕ Refusal) → and_then w (λ _. 0) (λ _. 1) + 0 ≤ 1
      by (Ok f) = omega arith
      by (Err n) = omega arith

module _ (up root v : ℕ) (user : Bool) where
  module _ (m : Memory) (f : ℕ) (m₁ : Memory) (takes : raw_frame m ≡ out (Ok f) m₁) (x : ℕ) where
    -- remapped, with the page copied
    told-remap : (y : ℕ) (m₂ : Memory) → copy_page up m₁ root v f ≡ out (Ok y) m₂ → (remapped up m₂ root v f user).walked ≡ Ok x
        → CopyTold up root v user m (remapped up m₂ root v f user).mem (remap_found up m₂ root v f user)
    told-remap y m₂ copies met =
        let one : remap_found up m₂ root v f user ≡ page_found up m₂ root v = ap (λ (w : Result ℕ Refusal). and_then w (λ _. none_found) (λ _. page_found up m₂ root v)) met in
        let sum = ap all_found one ∙ page_sum up m₂ root v in
        record {
          frame = f;
          taken = m₁;
          takes = takes;
          copied = m₂;
          copies = (y, copies);
          one = one;
          most = omega (arith, sum, page_most up m₂ root v);
          sum = sum;
          tells = subst (Tells m₂ (free_page up m₂ root v)) (sym one) (page_tells up m₂ root v);
          remaps = refl;
        }

    -- copied, with the frame in hand
    told-copy : (copy_to up m₁ root v f user).walked ≡ Ok x → CopyTold up root v user m (copy_to up m₁ root v f user).mem (copy_to_found up m₁ root v f user)
    told-copy = by (copy_page up m₁ root v f).walked refl
      where
        m₂ : Memory
        m₂ = (copy_page up m₁ root v f).mem

        by : (w : Result ℕ Refusal) → (copy_page up m₁ root v f).walked ≡ w → let o = go_on (out w m₂) (λ _ m'. remapped up m' root v f user) in
            o.walked ≡ Ok x → CopyTold up root v user m o.mem (and_then w (λ _. none_found) (λ _. remap_found up m₂ root v f user))
        by (Ok y) e h = told-remap y m₂ (λ i. out (e i) m₂) h
        by (Err n) e h = absurd (no_value (sym h))

  copy_told : (m : Memory) (x : ℕ) → let o = copy_on_write up m root v user in
      o.walked ≡ Ok x → CopyTold up root v user m o.mem (copy_found up m root v user)
  unfolding copy_on_write copy_found
  copy_told m x = by (raw_frame m).walked refl
    where
      m₁ : Memory
      m₁ = (raw_frame m).mem

      by : (w : Result ℕ Refusal) → (raw_frame m).walked ≡ w → let o = go_on (out w m₁) (λ f m'. copy_to up m' root v f user) in
          o.walked ≡ Ok x → CopyTold up root v user m o.mem (and_then w (λ _. none_found) (λ f. copy_to_found up m₁ root v f user))
      by (Ok f) e h = told-copy m f m₁ (λ i. out (e i) m₁) x h
      by (Err n) e h = absurd (no_value (sym h))

  -- refused at any step
  copy_refused : (m : Memory) (e : Refusal) → (copy_on_write up m root v user).walked ≡ Err e → copy_found up m root v user ≡ none_found
  unfolding copy_on_write copy_found
  copy_refused m e = by (raw_frame m).walked (raw_frame m).mem
    where
      last : (w : Result ℕ Refusal) (t : Tally) → w ≡ Err e → and_then w (λ _. none_found) (λ _. t) ≡ none_found
      last w t h = rw h

      next : (f : ℕ) (w : Result ℕ Refusal) (m₂ : Memory) → (go_on (out w m₂) (λ _ m'. remapped up m' root v f user)).walked ≡ Err e
          → and_then w (λ _. none_found) (λ _. remap_found up m₂ root v f user) ≡ none_found
      next f (Ok y) m₂ h = last (remapped up m₂ root v f user).walked (page_found up m₂ root v) h
      next f (Err n) m₂ h = refl

      by : (w : Result ℕ Refusal) (m₁ : Memory) → (go_on (out w m₁) (λ f m'. copy_to up m' root v f user)).walked ≡ Err e
          → and_then w (λ _. none_found) (λ f. copy_to_found up m₁ root v f user) ≡ none_found
      by (Ok f) m₁ h = next f (copy_page up m₁ root v f).walked (copy_page up m₁ root v f).mem h
      by (Err n) m₁ h = refl

-- ---- the first fault path

-- by its tests: whether the record is sound, the error bits, and whether the page is marked
module _ (up : ℕ) (s : Faulting) (root a code : ℕ) where
  abbrev v : ℕ
  v = page_of a

  abbrev copies : Out
  copies = copy_on_write up s.mem root v (is_user code)

  abbrev fault_by : Bool → Bool → Bool → Bool → Bool → FaultDid
  fault_by t r p w k =
      unless t (fault_did (Err BrokenRecord) s)
      (pick r (fault_did (Err ReservedBit) s)
      (pick p (pick w (unless k (fault_did (Err WriteToReadOnly) s) (unmarking v s.marked copies)) (fault_did (Err (denied code)) s))
      (of_step s.marked (demand_page up s.mem root v code))))

  abbrev fault_found_by : Bool → Bool → Bool → Bool → Bool → Tally
  fault_found_by t r p w k =
      unless t none_found (pick r none_found (pick p (pick w (unless k none_found (copy_found up s.mem root v (is_user code))) none_found) none_found))

  fault_copy : (x : ℕ) → is_present code ≡ true → (handle_fault up s root a code).answer ≡ Ok x
      → CopyTold up root v (is_user code) s.mem (handle_fault up s root a code).state.mem (fault_found up s root a code)
  unfolding handle_fault fault_found
  fault_copy x = by (sound_faulting s root) (is_reserved code) (is_present code) (is_write code) (has_key page_key v (listed s.marked))
    where
      by : (t r p w k : Bool) → p ≡ true → (fault_by t r p w k).answer ≡ Ok x
          → CopyTold up root v (is_user code) s.mem (fault_by t r p w k).state.mem (fault_found_by t r p w k)
      by true false true true true _ h = copy_told up root v (is_user code) s.mem x h
      by true false true true false _ h = absurd (no_value (sym h))
      by true false true false k _ h = absurd (no_value (sym h))
      by true false false w k e h = absurd (false≢true e)
      by true true p w k _ h = absurd (no_value (sym h))
      by false r p w k _ h = absurd (no_value (sym h))

  fault_demand : is_present code ≡ false → fault_found up s root a code ≡ none_found
  unfolding fault_found
  fault_demand = by (sound_faulting s root) (is_reserved code) (is_present code) (is_write code) (has_key page_key v (listed s.marked))
    where
      by : (t r p w k : Bool) → p ≡ false → fault_found_by t r p w k ≡ none_found
      by true false true w k e = absurd (true≢false e)
      by true false false w k e = refl
      by true true p w k e = refl
      by false r p w k e = refl

  fault_none : (e : Refusal) → (handle_fault up s root a code).answer ≡ Err e → fault_found up s root a code ≡ none_found
  unfolding handle_fault fault_found
  fault_none e = by (sound_faulting s root) (is_reserved code) (is_present code) (is_write code) (has_key page_key v (listed s.marked))
    where
      by : (t r p w k : Bool) → (fault_by t r p w k).answer ≡ Err e → fault_found_by t r p w k ≡ none_found
      by true false true true true h = copy_refused up root v (is_user code) s.mem e h
      by true false true true false h = refl
      by true false true false k h = refl
      by true false false w k h = refl
      by true true p w k h = refl
      by false r p w k h = refl

-- ---- the theorem

-- a call that answers no value prints 0
no_value_printed : (w : Result ℕ Refusal) → (answer_line (as_answer w)).value ≡ 0
no_value_printed (Ok x) = refl
no_value_printed (Err n) = refl

pub found_tells : FoundTells
unfolding play_regions
found_tells = record {
  deallocated = one_of_three;
  broken = none_of_three;
  vfree = λ b a x h.
      let met = vfree_finds_lem (above_last b.mem) (kernel_of b) b.root a x h in
      (met.size, (met.used, pages_told b _ a (met.size / 4096) met.found met.freed));
  munmap = λ b a size x h.
      let met = munmap_finds_lem (above_last b.mem) (user_of b) b.root a size x h in
      pages_told b _ a (page_count size) met.found met.freed;
  copy = λ b a code x p h. fault_copy (above_last b.mem) (faulting b.mem b.marked) b.root a code x p h;
  demand = λ b a code p. fault_demand (above_last b.mem) (faulting b.mem b.marked) b.root a code p;
  vfree_refused = λ b a e h. vfree_none (above_last b.mem) (kernel_of b) b.root a e h;
  munmap_refused = λ b a size e h. munmap_none (above_last b.mem) (user_of b) b.root a size e h;
  fault_refused = λ b a code e h. fault_none (above_last b.mem) (faulting b.mem b.marked) b.root a code e h;
  decided = λ m left s t p q. tells_one p q;
  vfree_prints = λ b a. no_value_printed (play_regions b (vfree_call a)).answer;
  munmap_prints = λ b a size. no_value_printed (play_regions b (munmap_call a size)).answer;
  fault_prints = λ b a code. no_value_printed (handle_fault_of (faulting b.mem b.marked) b.root a code).answer;
}
