-- No call touches a word past the lent frames: one theorem over all calls.
use Prim.Native.Nat.{ℕ, suc, ◌-◌, ◌*◌, ◌/◌, ◌≤◌}
use mathlib.Core.Path.{◌≡◌, refl, subst}
use mathlib.Core.Bool.{Bool, true, false}
use mathlib.Core.List.{List}
use native.Mathlib.Omega.{arith}
use lib.IntN.{ℤ}
use lib.Dec.{eqb}
use lib.ListN.{length}
use Rattle.std.specs.Prelude.{Ok, Err, Result, Option}
use Rattle.answer.specs.Numbers.{same_refusal}
use Rattle.answer.specs.declared.Refusal.{Refusal}
use Rattle.answer.specs.declared.Refusal.TheVariants.{MapPageFailed}
use Rattle.bits.specs.Bit.{both}
use Rattle.bits.proofs.Choice.{pick_cases}
use Rattle.address.specs.Address.{aligned}
use Rattle.allocator.specs.Round.{round_up}
use Rattle.entry.specs.Entry.{entry_of, huge_entry_of}
use Rattle.entry.proofs.Entry.{indices_lt}
use Rattle.frame.specs.Frames.{with_mark}
use Rattle.paging.specs.declared.HugePageSize.{HugePageSize}
use Rattle.paging.specs.Map.{Memory, total_of, start_frame, Out, Left}
use Rattle.paging.specs.Calls.{whole, lent_walk, size_of, tables_above, map_page, map_huge, unmap_page}
use Rattle.paging.specs.Levels.{levels_of, above_last}
use Rattle.paging.proofs.Past.{Past, past_same, past_clear, past_unmap, past_protect_pages, Stays, stays_same, stays_then, stays_words, stays_map_at, stays_map_pages, stays_clear_pages, stays_free_pages}
use Rattle.vmalloc.specs.Calls.{Kernel, kernel_pages, vmalloc, vfree, KernelDid, kernel_mapped}
use Rattle.vmalloc.proofs.Calls.{vmalloc_cases, vfree_cases}
use Rattle.user_space.specs.Flags.{writable}
use Rattle.user_space.specs.User.{User, UserDid}
use Rattle.mmap.specs.Calls.{user_pages, mmap, user_mapped}
use Rattle.munmap.specs.Calls.{munmap}
use Rattle.mmap.proofs.Calls.{mmap_cases}
use Rattle.munmap.proofs.Calls.{munmap_cases}
use Rattle.mprotect.specs.Calls.{ProtectDid, keep_user, mprotect_of}
use Rattle.mprotect.proofs.Cases.{mprotect_cases}
use Rattle.board.specs.Board.{Board, BoardDid, start}
use Rattle.board.proofs.Outcomes.{start_cases}
use Rattle.release.specs.Calls.{Call, vmalloc_call, vfree_call, mmap_call, munmap_call, user_of, play as play_regions}
use Rattle.trace.specs.Trace.{play, region_call, mprotect_call, fault_call, second_fault_call, mark_cow_call, unmark_cow_call, is_cow_call, map_page_call, map_huge_call, unmap_page_call, translate_call, show_translate_call, user_may_call, allocate_call, deallocate_call, mark_allocated_call, is_allocated_call, free_frames_call, allocated_frames_call, total_frames_call, init_call, start_call}
use Rattle.trace.specs.Untouched.{Untouched, NoneTouched}
use Rattle.trace.proofs.Faults.{stays_fault, stays_second}

-- ---- the calls on pages and tables

pub stays_map_page : (up : ℕ) (m : Memory) (root v p : ℕ) (w u : Bool) → Stays m (map_page up m root v p w u).mem
unfolding map_page
stays_map_page up m root v p w u = pick_cases (λ (o : Out). Stays m o.mem) (whole m root) _ _ (λ _. stays_map_at up up u m root v (entry_of p w u)) (λ _. stays_same m)

pub stays_map_huge : (up : ℕ) (m : Memory) (root v p : ℕ) (s : HugePageSize) (w u : Bool) → Stays m (map_huge up m root v p s w u).mem
unfolding map_huge
stays_map_huge up m root v p s w u =
    pick_cases (λ (o : Out). Stays m o.mem) (whole m root) _ _
    (λ _. pick_cases (λ (o : Out). Stays m o.mem) (both (aligned v (size_of s)) (aligned p (size_of s))) _ _
    (λ _. stays_map_at up (tables_above up s) u m root v (huge_entry_of p w u)) (λ _. stays_same m))
    (λ _. stays_same m)

past_unmap_page : (levels : ℕ) (ws : List ℕ) (start total root v : ℕ) → Past (total * 512) ws (unmap_page levels ws start total root v).words
unfolding unmap_page
past_unmap_page levels ws start total root v =
    pick_cases (λ (l : Left). Past (total * 512) ws l.words) (lent_walk levels (length ws) start total root) _ _
    (λ _. past_unmap ws start total root _ _ (indices_lt (suc (levels - 1)) v (levels - 1))) (λ _. past_same _ ws)

-- ---- vmalloc, vfree, mmap and munmap

stays_vmalloc : (up : ℕ) (k : Kernel) (root size : ℕ) → Stays k.mem (vmalloc up k root size).kernel.mem
stays_vmalloc up k root size =
    vmalloc_cases up k root size (λ (d : KernelDid). Stays k.mem d.kernel.mem)
    (λ _. stays_same k.mem) (stays_same k.mem) (stays_same k.mem) (λ _ _. stays_same k.mem)
    (λ _ _ _ a _. by a (kernel_pages up k.mem root a (round_up 12 size)).walked)
  where
    by : (a : ℕ) (w : Result ℕ Refusal) → Stays k.mem (kernel_mapped a (round_up 12 size) k.regions w (kernel_pages up k.mem root a (round_up 12 size)).mem).kernel.mem
    by a (Ok x) = stays_map_pages up true false root (round_up 12 size / 4096) k.mem a 0
    by a (Err e) = stays_map_pages up true false root (round_up 12 size / 4096) k.mem a 0

stays_vfree : (up : ℕ) (k : Kernel) (root a : ℕ) → Stays k.mem (vfree up k root a).kernel.mem
stays_vfree up k root a =
    vfree_cases up k root a (λ (d : KernelDid). Stays k.mem d.kernel.mem)
    (λ _. stays_same k.mem) (λ _ _. stays_same k.mem) (λ _ _ n _. stays_free_pages up root (n / 4096) k.mem a)

stays_mmap : (up : ℕ) (s : User) (root : ℕ) (hint : Option ℕ) (size : ℕ) (prot flags : ℤ) → Stays s.mem (mmap up s root hint size prot flags).user.mem
stays_mmap up s root hint size prot flags =
    mmap_cases up s root hint size prot flags (λ (d : UserDid). Stays s.mem d.user.mem)
    (λ _. stays_same s.mem) (stays_same s.mem) (stays_same s.mem) (λ _ _. stays_same s.mem) (stays_same s.mem)
    (λ _ _ _ a _ _. by a (user_pages up s.mem root a (round_up 12 size) prot).walked)
  where
    done : ℕ → ℕ
    done a = (user_pages up s.mem root a (round_up 12 size) prot).done

    run : (a : ℕ) → Stays s.mem (user_pages up s.mem root a (round_up 12 size) prot).mem
    run a = stays_map_pages up (writable prot) true root (round_up 12 size / 4096) s.mem a 0

    by : (a : ℕ) (w : Result ℕ Refusal)
        → Stays s.mem (user_mapped up s root a (round_up 12 size) prot flags w (done a) (user_pages up s.mem root a (round_up 12 size) prot).mem).user.mem
    by a (Ok x) = run a
    by a (Err e) =
        pick_cases (λ (m : Memory). Stays s.mem m) (same_refusal e MapPageFailed) _ _
        (λ _. stays_then (run a) (stays_clear_pages up root (done a) (user_pages up s.mem root a (round_up 12 size) prot).mem a)) (λ _. run a)

stays_munmap : (up : ℕ) (s : User) (root a size : ℕ) → Stays s.mem (munmap up s root a size).user.mem
stays_munmap up s root a size =
    munmap_cases up s root a size (λ (d : UserDid). Stays s.mem d.user.mem)
    (λ _. stays_same s.mem) (λ _ _. stays_same s.mem) (λ _ _ _ _. stays_free_pages up root (round_up 12 size / 4096) s.mem a)

pub stays_regions : (b : Board) (c : Call) → Stays b.mem (play_regions b c).board.mem
unfolding play_regions
stays_regions b (vmalloc_call size) = stays_vmalloc _ _ b.root size
stays_regions b (vfree_call a) = stays_vfree _ _ b.root a
stays_regions b (mmap_call hint size prot flags) = stays_mmap _ _ b.root hint size prot flags
stays_regions b (munmap_call a size) = stays_munmap _ _ b.root a size

-- ---- mprotect

pub stays_mprotect : (u : User) (root a size : ℕ) (prot : ℤ) → Stays u.mem (mprotect_of u root a size prot).user.mem
stays_mprotect u root a size prot =
    mprotect_cases (levels_of u.mem) u.mem.words (start_frame u.mem) (total_of u.mem) root u.regions u.next a size prot
    (λ (d : ProtectDid). Stays u.mem (keep_user u d).user.mem)
    (λ _. stays_same u.mem) (λ _. stays_same u.mem) (λ _. stays_same u.mem) (λ _. stays_same u.mem) (λ _. stays_same u.mem)
    (λ _ _ _ _ _. stays_words u.mem _
    (past_protect_pages (above_last u.mem) (writable prot) (start_frame u.mem) (total_of u.mem) root (round_up 12 size / 4096) u.mem.words a))

-- ---- the theorem

-- a call that keeps the frames lent, and one that leaves the words
stays_untouched : (b left : Board) → Stays b.mem left.mem → Untouched b left
stays_untouched b left s = record {
  number = s.words.number;
  past = λ i l. s.words.past i (subst (λ (n : ℕ). n * 512 ≤ i) s.total l);
}

words_untouched : (b left : Board) → left.mem.words ≡ b.mem.words → Untouched b left
words_untouched b left e = rw e (record { number = refl; past = λ i l. refl })

-- a start lends other frames, the first of which it zeroes
start_untouched : (b : Board) (from to levels : ℕ) → Untouched b (start b from to levels).board
unfolding with_mark
start_untouched b from to levels =
    start_cases b from to levels (λ (d : BoardDid). Untouched b d.board)
    (λ _ _ _ some _. let p = past_clear _ b.mem.words _ _ (omega arith) in record { number = p.number; past = p.past })
    (words_untouched b b refl) (words_untouched b b refl)

pub none_touched : NoneTouched
none_touched b (region_call c) = stays_untouched b _ (stays_regions b c)
none_touched b (mprotect_call a size prot) = stays_untouched b _ (stays_mprotect (user_of b) b.root a size prot)
none_touched b (fault_call a code) = stays_untouched b _ (stays_fault _ _ b.root a code)
none_touched b (second_fault_call a code) = stays_untouched b _ (stays_second _ b.mem b.root a code)
none_touched b (mark_cow_call a) = words_untouched b _ refl
none_touched b (unmark_cow_call a) = words_untouched b _ refl
none_touched b (is_cow_call a) = words_untouched b _ refl
none_touched b (map_page_call v p w u) = stays_untouched b _ (stays_map_page _ b.mem b.root v p w u)
none_touched b (map_huge_call v p size w u) = stays_untouched b _ (stays_map_huge _ b.mem b.root v p size w u)
none_touched b (unmap_page_call v) =
    let left = (play b (unmap_page_call v)).board in
    let p : Past (total_of b.mem * 512) b.mem.words left.mem.words = past_unmap_page _ b.mem.words (start_frame b.mem) _ b.root v in
    stays_untouched b left (stays_words b.mem _ p)
none_touched b (translate_call v) = words_untouched b _ refl
none_touched b (show_translate_call v) = words_untouched b _ refl
none_touched b (user_may_call v write) = words_untouched b _ refl
none_touched b allocate_call = words_untouched b _ refl
none_touched b (deallocate_call n) = words_untouched b _ refl
none_touched b (mark_allocated_call n) = words_untouched b _ refl
none_touched b (is_allocated_call n) = words_untouched b _ refl
none_touched b free_frames_call = words_untouched b _ refl
none_touched b allocated_frames_call = words_untouched b _ refl
none_touched b total_frames_call = words_untouched b _ refl
none_touched b (init_call from to) = words_untouched b _ refl
none_touched b (start_call from to levels) = start_untouched b from to levels
