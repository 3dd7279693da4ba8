-- Calls turned away with 11 or 13 keep the invariant too: what each leaves behind, stranded pages and lost frames, is told by the run of its pages. So the invariant holds
-- along every list of calls.
use Prim.Native.Nat.{ℕ, ◌/◌, ◌<◌}
use mathlib.Core.Path.{◌≡◌, refl, sym, ◌∙◌}
use mathlib.Core.Bool.{Bool, true, false, true≢false}
use mathlib.Core.List.{List, [], ◌∷◌, ◌++◌, Permᴰ}
use lib.IntN.{ℤ}
use lib.Dec.{eqb}
use lib.ListN.{drop}
use borrow.Author.Tests.{eqb-true}
use Rattle.std.specs.Prelude.{Ok, Err, Result, Option}
use Rattle.answer.proofs.Numbers.{same_yes}
use Rattle.answer.specs.Numbers.{same_refusal}
use Rattle.answer.specs.declared.Refusal.{Refusal}
use Rattle.answer.specs.declared.Refusal.TheVariants.{NoFreeFrame, MapPageFailed}
use Rattle.bits.specs.Bit.{pick}
use Rattle.allocator.specs.Round.{round_up}
use Rattle.allocator.proofs.Round.{round_multiple}
use Rattle.paging.specs.Map.{Memory, start_frame}
use Rattle.slots.specs.Slots.{listed}
use Rattle.slots.proofs.Filled.{filled}
use Rattle.regions.specs.declared.VMRegion.{VMRegion}
use Rattle.regions.specs.Regions.{first_fit, taken, no_vm_region}
use Rattle.vmalloc.specs.Calls.{kernel, kernel_pages, vmalloc_of, KernelDid}
use Rattle.mappings.specs.declared.MappedRegion.{MappedRegion}
use Rattle.mappings.specs.Regions.{mapped_region, insert}
use Rattle.user_space.specs.Flags.{writable}
use Rattle.user_space.specs.User.{user, UserDid}
use Rattle.mmap.specs.Calls.{chosen, user_pages, leftover, mmap_of}
use Rattle.board.specs.Board.{Board}
use Rattle.release.specs.Calls.{Call, vmalloc_call, vfree_call, mmap_call, munmap_call, kernel_of, with_kernel, user_of, with_user, play, after, Event, events, turned_away}
use Rattle.release.specs.Demand3.{Region, pages_from, pages_of, concat, live_step, live_from, book_step}
use Rattle.release.proofs.Lists.{exchange}
use Rattle.release.proofs.Regions.{kernel_cut}
use Rattle.release.proofs.Paged.{Paged, paged_perm}
use Rattle.release.proofs.Stopped.{frames_taken, Stopped, run_stopped, stopped_stranded, stopped_full, stopped_cleared, stopped_start, clear_start}
use Rattle.release.proofs.Invariant.{Leftover, nothing_left, pages_with, with_is, Inv}
use Rattle.release.proofs.Kernel.{kernel_listed, vmalloc_outcomes, kernel_took, vfree_step}
use Rattle.release.proofs.User.{mmap_outcomes, user_took, munmap_step}

-- ---- what a call leaves behind, on a board of up levels above the last

abbrev pub join_left : Leftover → Leftover → Leftover
join_left x left = record { stranded = x.stranded ++ left.stranded; lost = x.lost ++ left.lost }

-- a vmalloc of n bytes at a: 'pages before i stay mapped .. 13 leaves one more frame marked'
abbrev pub kernel_left : ℕ → Board → ℕ → ℕ → Leftover
kernel_left up b a n =
    let r = kernel_pages up b.mem b.root a n in
    record { stranded = pages_from a r.done; lost = drop r.done (frames_taken up true false b.mem b.root a (n / 4096)) }

-- an mmap of n bytes at a: 11, 'pages before i stay mapped, no region'; 13, 'those entries are cleared, i + 1 frames stay marked'
abbrev pub user_left : ℕ → Board → ℕ → ℕ → ℤ → Bool → Leftover
user_left up b a n prot failed =
    pick failed (record { stranded = []; lost = frames_taken up (writable prot) true b.mem b.root a (n / 4096) })
    (record { stranded = pages_from a (user_pages up b.mem b.root a n prot).done; lost = [] })

abbrev pub with13 : Result ℕ Refusal → Bool
with13 (Ok x) = false
with13 (Err e) = same_refusal e MapPageFailed

-- where its range lies
abbrev pub at_place : Result ℕ Refusal → (ℕ → Leftover) → Leftover
at_place (Ok a) then = then a
at_place (Err e) then = nothing_left

-- only a vmalloc or an mmap turned away with 11 or 13 leaves anything
abbrev pub left_by : ℕ → Board → Call → Result ℕ Refusal → Leftover
left_by up b (vmalloc_call size) w = pick (turned_away w) (at_place (first_fit (round_up 12 size) (listed b.kernel)) (λ a. kernel_left up b a (round_up 12 size))) nothing_left
left_by up b (vfree_call a) w = nothing_left
left_by up b (mmap_call hint size prot flags) w =
    pick (turned_away w) (at_place (chosen (user_of b) hint (round_up 12 size) flags) (λ a. user_left up b a (round_up 12 size) prot (with13 w))) nothing_left
left_by up b (munmap_call a size) w = nothing_left

-- the kernel's list: as the book, but for a refused vmalloc's region, 'free with its size cut, split and unmerged'
abbrev pub list_step : List VMRegion → Call → Result ℕ Refusal → List VMRegion
list_step k (vmalloc_call size) (Ok a) = book_step k (vmalloc_call size) (Ok a)
list_step k (vmalloc_call size) (Err e) = pick (turned_away (Err e)) (taken false (round_up 12 size) k) k
list_step k (vfree_call a) w = book_step k (vfree_call a) w
list_step k (mmap_call hint size prot flags) w = k
list_step k (munmap_call a size) w = k

-- ---- the steps

-- 11 or 13, and not 13
eleven : (e : Refusal) → turned_away (Err e) ≡ true → same_refusal e MapPageFailed ≡ false → e ≡ NoFreeFrame
eleven e t q = by (same_refusal e NoFreeFrame) refl t
  where
    by : (x : Bool) → same_refusal e NoFreeFrame ≡ x → pick x true (same_refusal e MapPageFailed) ≡ true → e ≡ NoFreeFrame
    by true f g = same_yes e NoFreeFrame f
    by false f g = absurd (true≢false (sym g ∙ q))

-- pages that are stranded now stand behind those of live regions
with_more : (l : List Region) (p s : List ℕ) → Permᴰ (p ++ pages_with l s) (pages_with l (p ++ s))
with_more l p s = rw (with_is l s, with_is l (p ++ s)) (exchange p (concat pages_of l) s)

module _ {up : ℕ} {b : Board} {k : List VMRegion} {u : List MappedRegion} {l : List Region} {left : Leftover} (h : Inv up left b k u l) where
  -- a vmalloc turned away
  kernel_stopped : (size a : ℕ) (e : Refusal) → let n = round_up 12 size in 0 < n → (kernel_pages up b.mem b.root a n).walked ≡ Err e
      → Inv up (join_left (kernel_left up b a n) left) (with_kernel b (kernel (kernel_pages up b.mem b.root a n).mem (filled no_vm_region (taken false n k)))) (taken false n k) u l
  kernel_stopped size a e pos met =
      let n = round_up 12 size in
      let s = run_stopped true false (n / 4096) h.paged.account.order a e met in
      record {
        paged = paged_perm (with_more l (pages_from a (kernel_pages up b.mem b.root a n).done) left.stranded) (stopped_stranded s h.paged);
        first = h.first ∙ sym (stopped_start s);
        kernel_is = refl;
        kernel_list = kernel_cut n (round_multiple 12 size) pos h.kernel_list;
        user_is = h.user_is;
        user_list = h.user_list;
        next = h.next;
        once = h.once;
      }

  -- an mmap turned away
  module _ (n a : ℕ) (e : Refusal) (prot : ℤ) (met : (user_pages up b.mem b.root a n prot).walked ≡ Err e) where
    abbrev leaves : Memory
    leaves = leftover up b.root a e (user_pages up b.mem b.root a n prot).done (user_pages up b.mem b.root a n prot).mem

    stopped : Stopped up b.mem b.root a (user_pages up b.mem b.root a n prot).done e (frames_taken up (writable prot) true b.mem b.root a (n / 4096))
        (user_pages up b.mem b.root a n prot).mem
    stopped = run_stopped (writable prot) true (n / 4096) h.paged.account.order a e met

    user-paged : turned_away (Err e) ≡ true → (x : Bool) → same_refusal e MapPageFailed ≡ x
        → Paged up leaves b.root (pages_with l (join_left (user_left up b a n prot x) left).stranded) (join_left (user_left up b a n prot x) left).lost
    user-paged t true q = rw q (stopped_cleared stopped (same_yes e MapPageFailed q) h.paged)
    user-paged t false q =
        rw q (paged_perm (with_more l (pages_from a (user_pages up b.mem b.root a n prot).done) left.stranded) (stopped_full stopped (eleven e t q) h.paged))

    user_start_lem : (x : Bool) → same_refusal e MapPageFailed ≡ x → start_frame leaves ≡ start_frame b.mem
    user_start_lem true q = rw q (clear_start up _ b.root a _ ∙ stopped_start stopped)
    user_start_lem false q = rw q (stopped_start stopped)

    user-stopped : turned_away (Err e) ≡ true → Inv up (join_left (user_left up b a n prot (same_refusal e MapPageFailed)) left) (with_user b (user leaves b.user b.next)) k u l
    user-stopped t = record {
      paged = user-paged t (same_refusal e MapPageFailed) refl;
      first = h.first ∙ sym (user_start_lem (same_refusal e MapPageFailed) refl);
      kernel_is = h.kernel_is;
      kernel_list = h.kernel_list;
      user_is = h.user_is;
      user_list = h.user_list;
      next = h.next;
      once = h.once;
    }

  -- every outcome of the two
  pub vmalloc_any : (size : ℕ) → let d = vmalloc_of (kernel_of b) b.root size in
      Inv up (join_left (left_by up b (vmalloc_call size) d.answer) left) (with_kernel b d.kernel) (list_step k (vmalloc_call size) d.answer) u (live_step l (vmalloc_call size) d.answer)
  vmalloc_any size =
      vmalloc_outcomes h size
      (λ (d : KernelDid). Inv up (join_left (left_by up b (vmalloc_call size) d.answer) left) (with_kernel b d.kernel) (list_step k (vmalloc_call size) d.answer) u (live_step l (vmalloc_call size) d.answer))
      (λ e q. rw q h) (λ a x pos f met. kernel_took h size a x pos f met)
      (λ a e pos f met t. rw (t, kernel_listed h, f) (kernel_stopped size a e pos met))

  pub mmap_any : (hint : Option ℕ) (size : ℕ) (prot flags : ℤ) → let d = mmap_of (user_of b) b.root hint size prot flags in
      (u' : List MappedRegion) × Inv up (join_left (left_by up b (mmap_call hint size prot flags) d.answer) left) (with_user b d.user) k u' (live_step l (mmap_call hint size prot flags) d.answer)
  mmap_any hint size prot flags =
      mmap_outcomes h hint size prot flags
      (λ (d : UserDid). (u' : List MappedRegion) × Inv up (join_left (left_by up b (mmap_call hint size prot flags) d.answer) left) (with_user b d.user) k u' (live_step l (mmap_call hint size prot flags) d.answer))
      (λ e q. rw q (u, h)) (λ a x p f met. (insert (mapped_region a (round_up 12 size) prot flags) u, user_took h (round_up 12 size) a x prot flags p f met))
      (λ a e c met t. rw (t, c) (u, user-stopped (round_up 12 size) a e prot met t))

-- any call
pub any_step : {up : ℕ} {b : Board} {k : List VMRegion} {u : List MappedRegion} {l : List Region} {left : Leftover} → Inv up left b k u l → (c : Call)
    → (u' : List MappedRegion) × Inv up (join_left (left_by up b c (play b c).answer) left) (play b c).board (list_step k c (play b c).answer) u' (live_step l c (play b c).answer)
unfolding play
any_step {u = u} h (vmalloc_call size) = (u, vmalloc_any h size)
any_step {u = u} h (vfree_call a) = (u, vfree_step h a)
any_step h (mmap_call hint size prot flags) = mmap_any h hint size prot flags
any_step h (munmap_call a size) = munmap_step h a size

-- ---- any list of calls

-- what its calls leave behind, the last one's first
abbrev pub left_from : ℕ → Leftover → Board → List Call → Leftover
left_from up left b [] = left
left_from up left b (c ∷ cs) = left_from up (join_left (left_by up b c (play b c).answer) left) (play b c).board cs

abbrev pub list_from : List VMRegion → List Event → List VMRegion
list_from k [] = k
list_from k (e ∷ es) = list_from (list_step k e.call e.answer) es

pub run_any : (cs : List Call) {up : ℕ} {b : Board} {k : List VMRegion} {u : List MappedRegion} {l : List Region} {left : Leftover} → Inv up left b k u l
    → (u' : List MappedRegion) × Inv up (left_from up left b cs) (after b cs) (list_from k (events b cs)) u' (live_from l (events b cs))
unfolding after events live_from
run_any [] {u = u} h = (u, h)
run_any (c ∷ cs) h = run_any cs (any_step h c).1
