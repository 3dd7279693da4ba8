-- Another number of levels is refused by every call that goes by it, and only `init` and the start name one.
use Prim.Native.Nat.{ℕ, ◌<◌}
use mathlib.Core.Path.{◌≡◌, refl, sym, ◌∙◌, ap}
use mathlib.Core.Bool.{Bool, true, false, true≢false}
use native.Mathlib.Omega.{arith}
use lib.ListN.{length}
use Rattle.std.specs.Prelude.{Result, ⊤}
use Rattle.answer.specs.declared.Refusal.{Refusal}
use Rattle.answer.specs.declared.Refusal.TheVariants.{BrokenRecord}
use Rattle.address.specs.declared.Frame.{Frame}
use Rattle.frame.specs.declared.Found.{Found}
use Rattle.answer.specs.Numbers.{answer_line}
use Rattle.answer.specs.Outcomes.{as_answer}
use Rattle.frame.specs.Frames.{Frames, FramesDid, is_levels, sound, allocate, deallocate, mark_allocated, is_allocated, counted}
use Rattle.frame.proofs.Laws.{sound_levels, init_cases}
use Rattle.frame.proofs.Steps.{span_take, span_give, span_mark, span_with}
use Rattle.bits.proofs.Choice.{pick_cases}
use Rattle.paging.specs.Map.{Memory, start_frame, total_of}
use Rattle.paging.specs.Calls.{whole, lent_walk, translate, map_page, map_huge, unmap_page}
use Rattle.paging.specs.Levels.{levels_of}
use Rattle.paging.specs.Working.{show_translate}
use Rattle.paging.specs.User.{user_may}
use Rattle.paging.proofs.Calls.{whole_levels, walk_other}
use Rattle.vmalloc.specs.Calls.{vmalloc, vfree}
use Rattle.mmap.specs.Calls.{mmap}
use Rattle.munmap.specs.Calls.{munmap}
use Rattle.mprotect.specs.Calls.{mprotect}
use Rattle.fault.specs.Faults.{handle_fault}
use Rattle.handler.specs.Handler.{handle_fault_second}
use Rattle.board.specs.Board.{Board, BoardDid}
use Rattle.board.proofs.Outcomes.{unmarked, may_other, may_met, start_refused, start_met, start_cases}
use Rattle.release.specs.Calls.{Call, vmalloc_call, vfree_call, mmap_call, munmap_call, user_of}
use Rattle.release.specs.Calls.{play as play_regions}
use Rattle.trace.specs.Trace.{region_call, mprotect_call, fault_call, second_fault_call, mark_cow_call, unmark_cow_call, is_cow_call, map_page_call, map_huge_call, unmap_page_call, translate_call, show_translate_call, user_may_call, allocate_call, deallocate_call, mark_allocated_call, is_allocated_call, free_frames_call, allocated_frames_call, total_frames_call, init_call, start_call, played, by_regions, by_board}
use Rattle.trace.specs.Levels.{reads, names, none, ten_line, OtherLevels, LevelsKept, LevelsNamed}
use Rattle.trace.proofs.Faults.{stays_fault, stays_second}
use Rattle.trace.proofs.Theorem.{stays_map_page, stays_map_huge, stays_regions, stays_mprotect}

-- ---- another number in the record

-- a test that fails where another does
not_if : (a b : Bool) → (a ≡ true → b ≡ true) → b ≡ false → a ≡ false
not_if true b h e = absurd (true≢false (sym (h refl) ∙ e))
not_if false b h e = refl

other_sound : (fr : Frames) → is_levels fr.fa.levels ≡ false → sound fr ≡ false
other_sound fr = not_if _ _ (sound_levels fr)

other_whole : (m : Memory) (root : ℕ) → is_levels (levels_of m) ≡ false → whole m root ≡ false
other_whole m root = not_if _ _ (whole_levels m root)

-- a call that is not lent the number
unlent : none ≡ reads → ⊥
unlent e = let z : ◌≡◌ {A = ℕ} 0 1 = cc in omega arith

naming : names ≡ reads → ⊥
naming e = let z : ◌≡◌ {A = ℕ} 0 1 = cc in omega arith

module _ (b : Board) (o : is_levels (levels_of b.mem) ≡ false) where
  other_regions : (c : Call) → by_regions c (play_regions b c) ≡ played ten_line b
  unfolding play_regions vmalloc vfree mmap munmap
  other_regions (vmalloc_call size) = rw (other_whole b.mem b.root o)
  other_regions (vfree_call a) = rw (other_whole b.mem b.root o)
  other_regions (mmap_call hint size prot flags) = rw (other_whole b.mem b.root o)
  other_regions (munmap_call a size) = rw (other_whole b.mem b.root o)

  no_walk : lent_walk (levels_of b.mem) (length b.mem.words) (start_frame b.mem) (total_of b.mem) b.root ≡ false
  no_walk = walk_other (levels_of b.mem) (length b.mem.words) (start_frame b.mem) (total_of b.mem) b.root o

pub other_levels : OtherLevels
unfolding mprotect handle_fault handle_fault_second map_page map_huge unmap_page translate show_translate user_may allocate deallocate mark_allocated is_allocated counted
other_levels b (region_call c) r o = other_regions b o c
other_levels b (mprotect_call a size prot) r o = rw (no_walk b o)
other_levels b (fault_call a code) r o = rw (other_whole b.mem b.root o)
other_levels b (second_fault_call a code) r o = rw (other_whole b.mem b.root o)
other_levels b (mark_cow_call a) r o = absurd (unlent r)
other_levels b (unmark_cow_call a) r o = absurd (unlent r)
other_levels b (is_cow_call a) r o = absurd (unlent r)
other_levels b (map_page_call v p w u) r o = rw (other_whole b.mem b.root o)
other_levels b (map_huge_call v p size w u) r o = rw (other_whole b.mem b.root o)
other_levels b (unmap_page_call v) r o = rw (no_walk b o)
other_levels b (translate_call v) r o = rw (no_walk b o)
other_levels b (show_translate_call v) r o = rw (no_walk b o)
other_levels b (user_may_call v write) r o = rw (no_walk b o)
other_levels b allocate_call r o = rw (other_sound b.mem.frames o)
other_levels b (deallocate_call n) r o = rw (other_sound b.mem.frames o)
other_levels b (mark_allocated_call n) r o = rw (other_sound b.mem.frames o)
other_levels b (is_allocated_call n) r o = rw (other_sound b.mem.frames o)
other_levels b free_frames_call r o = rw (other_sound b.mem.frames o)
other_levels b allocated_frames_call r o = rw (other_sound b.mem.frames o)
other_levels b total_frames_call r o = rw (other_sound b.mem.frames o)
other_levels b (init_call from to) r o = absurd (naming r)
other_levels b (start_call from to levels) r o = absurd (naming r)

-- ---- the number stays

module _ (fr : Frames) where
  kept_allocate : (allocate fr).frames.fa.levels ≡ fr.fa.levels
  unfolding allocate
  kept_allocate = pick_cases (λ (d : FramesDid (Result Frame Refusal)). d.frames.fa.levels ≡ fr.fa.levels) (sound fr) _ _ (λ _. (span_take fr).levels) (λ _. refl)

  kept_deallocate : (n : ℕ) → (deallocate fr n).frames.fa.levels ≡ fr.fa.levels
  unfolding deallocate
  kept_deallocate n = pick_cases (λ (d : FramesDid (Result Found Refusal)). d.frames.fa.levels ≡ fr.fa.levels) (sound fr) _ _ (λ _. (span_give fr n).levels) (λ _. refl)

  kept_mark : (n : ℕ) → (mark_allocated fr n).frames.fa.levels ≡ fr.fa.levels
  unfolding mark_allocated
  kept_mark n = pick_cases (λ (d : FramesDid (Result ⊤ Refusal)). d.frames.fa.levels ≡ fr.fa.levels) (sound fr) _ _ (λ _. (span_mark fr n).levels) (λ _. refl)

pub levels_kept : LevelsKept
levels_kept b (region_call c) n = (stays_regions b c).levels
levels_kept b (mprotect_call a size prot) n = (stays_mprotect (user_of b) b.root a size prot).levels
levels_kept b (fault_call a code) n = (stays_fault _ _ b.root a code).levels
levels_kept b (second_fault_call a code) n = (stays_second _ b.mem b.root a code).levels
levels_kept b (mark_cow_call a) n = refl
levels_kept b (unmark_cow_call a) n = refl
levels_kept b (is_cow_call a) n = refl
levels_kept b (map_page_call v p w u) n = (stays_map_page _ b.mem b.root v p w u).levels
levels_kept b (map_huge_call v p size w u) n = (stays_map_huge _ b.mem b.root v p size w u).levels
levels_kept b (unmap_page_call v) n = refl
levels_kept b (translate_call v) n = refl
levels_kept b (show_translate_call v) n = refl
levels_kept b (user_may_call v write) n = refl
levels_kept b allocate_call n = kept_allocate b.mem.frames
levels_kept b (deallocate_call f) n = kept_deallocate b.mem.frames f
levels_kept b (mark_allocated_call f) n = kept_mark b.mem.frames f
levels_kept b (is_allocated_call f) n = refl
levels_kept b free_frames_call n = refl
levels_kept b allocated_frames_call n = refl
levels_kept b total_frames_call n = refl
levels_kept b (init_call from to) n =
    init_cases b.mem.frames from to (λ (d : FramesDid (Result ⊤ Refusal)). ((answer_line d.answer).number ≡ 0 → ⊥) → d.frames.fa.levels ≡ levels_of b.mem)
    (λ _ _ m. absurd (m refl)) (λ _. refl) (n refl)
levels_kept b (start_call from to levels) n =
    start_cases b from to levels (λ (d : BoardDid). ((answer_line (as_answer d.answer)).number ≡ 0 → ⊥) → levels_of d.board.mem ≡ levels_of b.mem)
    (λ _ _ _ _ _ m. absurd (m refl)) (λ _. refl) (λ _. refl) (n refl)

-- ---- what `init` and the start name

not_met : {n : ℕ} → 0 < n → n ≡ 0 → ⊥
not_met l e = omega arith

pub levels_named : LevelsNamed
levels_named = record {
  by_init = λ b from to.
      init_cases b.mem.frames from to (λ (d : FramesDid (Result ⊤ Refusal)). (answer_line d.answer).number ≡ 0 → d.frames.fa.levels ≡ 4) (λ _ _ _. refl)
      (λ e. absurd (not_met (omega arith) e));
  by_start = λ b from to levels.
      start_cases b from to levels (λ (d : BoardDid). (answer_line (as_answer d.answer)).number ≡ 0 → (is_levels levels ≡ true) × (levels_of d.board.mem ≡ levels))
      (λ may _ _ _ _ _. (may, (span_with (unmarked from to levels) 0).levels)) (λ e. absurd (not_met (omega arith) e)) (λ e. absurd (not_met (omega arith) e));
  other_start = λ b from to levels o. ap by_board (start_refused b from to levels BrokenRecord (may_other (length b.mem.words) from to levels o));
  some_start = λ b from to levels o h k l some.
      ap (λ (d : BoardDid). (by_board d).line.number) (start_met b from to levels (may_met (length b.mem.words) from to levels o h k l (λ e. absurd (not_met some e))));
}
