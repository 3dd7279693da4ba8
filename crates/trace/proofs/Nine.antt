-- No call answers 9: the number of a line is 0 or that of a refusal, and no refusal has the number 9.
use Rattle.std.specs.Prelude.{◌≡◌, ℕ, Result, Ok, Err}
use Rattle.answer.specs.declared.Refusal.{Refusal}
use Rattle.answer.specs.Numbers.{line_of}
use Rattle.answer.proofs.Numbers.{not_nine}
use Rattle.release.specs.Calls.{Call, vmalloc_call, vfree_call, mmap_call, munmap_call}
use Rattle.board.specs.Board.{Board}
use Rattle.trace.specs.Trace.{region_call, mprotect_call, fault_call, second_fault_call, mark_cow_call, unmark_cow_call, is_cow_call, map_page_call, map_huge_call, unmap_page_call, translate_call, show_translate_call, user_may_call, allocate_call, deallocate_call, mark_allocated_call, is_allocated_call, free_frames_call, allocated_frames_call, total_frames_call, init_call, start_call, regions_line}
use Rattle.trace.specs.Nine.{NoNine}

-- the line of a call, whatever it hands back
other : {A : Type 0} (shown : A → ℕ) (answer : Result A Refusal) → (line_of shown answer).number ≡ 9 → ⊥
other shown (Ok x) e = cc
other shown (Err n) e = not_nine n e

nine_regions : (c : Call) (w : Result ℕ Refusal) → (regions_line c w).number ≡ 9 → ⊥
nine_regions (vmalloc_call size) w = other _ _
nine_regions (vfree_call a) w = other _ _
nine_regions (mmap_call hint size prot flags) w = other _ _
nine_regions (munmap_call a size) w = other _ _

pub no_nine : NoNine
no_nine b (region_call c) = nine_regions c _
no_nine b (mprotect_call a size prot) = other _ _
no_nine b (fault_call a code) = other _ _
no_nine b (second_fault_call a code) = other _ _
no_nine b (mark_cow_call a) = other _ _
no_nine b (unmark_cow_call a) = other _ _
no_nine b (is_cow_call a) = other _ _
no_nine b (map_page_call v p w u) = other _ _
no_nine b (map_huge_call v p size w u) = other _ _
no_nine b (unmap_page_call v) = other _ _
no_nine b (translate_call v) = other _ _
no_nine b (show_translate_call v) = other _ _
no_nine b (user_may_call v write) = other _ _
no_nine b allocate_call = other _ _
no_nine b (deallocate_call n) = other _ _
no_nine b (mark_allocated_call n) = other _ _
no_nine b (is_allocated_call n) = other _ _
no_nine b free_frames_call = other _ _
no_nine b allocated_frames_call = other _ _
no_nine b total_frames_call = other _ _
no_nine b (init_call from to) = other _ _
no_nine b (start_call from to levels) = other _ _
