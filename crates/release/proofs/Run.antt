-- The invariant along a list of calls, from a fresh board on.
use Prim.Native.Nat.{ℕ, suc, ◌+◌, ◌-◌, ◌*◌, ◌/◌, ◌^◌, ◌<◌, ◌≤◌, min}
use mathlib.Core.Path.{◌≡◌, refl, sym, ap, subst}
use mathlib.Core.Bool.{Bool, true, false, not, false≢true}
use mathlib.Core.List.Memᴰ
use mathlib.Core.List.{List, [], ◌∷◌}
use native.Mathlib.Omega.{arith}
use lib.Dec.{eqb}
use lib.ListN.{length}
use borrow.Author.Tests.{not-true}
use Rattle.std.specs.Prelude.{Ok, Err, Result}
use Rattle.answer.specs.declared.Refusal.{Refusal}
use Rattle.answer.specs.declared.Refusal.TheVariants.{BrokenRecord, NoFreeFrame}
use Rattle.bits.specs.Bit.{pick, both}
use Rattle.bits.proofs.Choice.{both_true}
use Rattle.allocator.specs.Round.{round_up}
use Rattle.frame.proofs.Steps.{span_with}
use Rattle.frame.specs.Frames.{is_levels, with_mark}
use Rattle.paging.specs.Map.{memory, zero_frame}
use Rattle.tree.proofs.Ordered.{reach_in}
use Rattle.tree.proofs.Books.{Tabled, bare_live, bare_tabled}
use Rattle.tree.proofs.Start.{untaken, fresh_accounted, fresh_plain, fresh_only}
use Rattle.slots.specs.Slots.{every}
use Rattle.regions.specs.declared.VMRegion.{VMRegion}
use Rattle.regions.specs.Regions.{window_start, window_end, window, used_size}
use Rattle.mappings.specs.declared.MappedRegion.{MappedRegion}
use Rattle.mappings.specs.Regions.{holds}
use Rattle.mappings.proofs.Rising.{rising_none}
use Rattle.board.specs.Board.{Board, BoardDid, board_did, begun, start}
use Rattle.board.proofs.Outcomes.{start_cases}
use Rattle.release.specs.Calls.{Call, vmalloc_call, vfree_call, mmap_call, munmap_call, play, after, Event, events, turned_away}
use Rattle.release.specs.Demand3.{none_turned_away, Region, live_step, live_from, book_step, book_from}
use Rattle.release.proofs.Regions.{KernelList, UserList}
use Rattle.release.proofs.Paged.{Paged}
use Rattle.release.proofs.Invariant.{Leftover, nothing_left, Inv, Tidy}
use Rattle.release.proofs.Kernel.{more_pages, vmalloc_step, vfree_step, vmalloc_tidy, vfree_tidy}
use Rattle.release.proofs.User.{mmap_step, munmap_step, mmap_tidy, munmap_tidy}
use Rattle.release.proofs.Refused.{left_from, list_from, run_any}

-- the pages ever mapped, call by call
abbrev pub ever_step : List ℕ → Call → Result ℕ Refusal → List ℕ
ever_step ever (vmalloc_call size) w = more_pages ever w (round_up 12 size)
ever_step ever (vfree_call a) w = ever
ever_step ever (mmap_call hint size prot flags) w = more_pages ever w (round_up 12 size)
ever_step ever (munmap_call a size) w = ever

abbrev pub ever_from : List ℕ → List Event → List ℕ
ever_from ever [] = ever
ever_from ever (e ∷ es) = ever_from (ever_step ever e.call e.answer) es

-- one call
pub step : {up : ℕ} {b : Board} {k : List VMRegion} {u : List MappedRegion} {l : List Region} {left : Leftover} → Inv up left b k u l → (c : Call) → turned_away (play b c).answer ≡ false
    → (u' : List MappedRegion) × Inv up left (play b c).board (book_step k c (play b c).answer) u' (live_step l c (play b c).answer)
unfolding play
step {u = u} h (vmalloc_call size) e = (u, vmalloc_step h size e)
step {u = u} h (vfree_call a) e = (u, vfree_step h a)
step h (mmap_call hint size prot flags) e = mmap_step h hint size prot flags e
step h (munmap_call a size) e = munmap_step h a size

pub tidy_step : {up : ℕ} {b : Board} {k : List VMRegion} {u : List MappedRegion} {l : List Region} {ever : List ℕ} {left : Leftover} → Inv up left b k u l → Tidy up b k ever
    → (c : Call) → turned_away (play b c).answer ≡ false → Tidy up (play b c).board (book_step k c (play b c).answer) (ever_step ever c (play b c).answer)
unfolding play
tidy_step h t (vmalloc_call size) e = vmalloc_tidy h t size e
tidy_step h t (vfree_call a) e = vfree_tidy h t a
tidy_step h t (mmap_call hint size prot flags) e = mmap_tidy h t hint size prot flags e
tidy_step h t (munmap_call a size) e = munmap_tidy h t a size

-- a list of calls
pub run_inv : (cs : List Call) {up : ℕ} {b : Board} {k : List VMRegion} {u : List MappedRegion} {l : List Region} {left : Leftover} → Inv up left b k u l → none_turned_away (events b cs) ≡ true
    → (u' : List MappedRegion) × Inv up left (after b cs) (book_from k (events b cs)) u' (live_from l (events b cs))
unfolding after events book_from live_from every
run_inv [] {u = u} h e = (u, h)
run_inv (c ∷ cs) {b = b} h e =
    let r = both_true (not (turned_away (play b c).answer)) _ e in
    let s = step h c (not-true (turned_away (play b c).answer) r.0) in
    run_inv cs s.1 r.1

pub run_tidy : (cs : List Call) {up : ℕ} {b : Board} {k : List VMRegion} {u : List MappedRegion} {l : List Region} {ever : List ℕ} {left : Leftover} → Inv up left b k u l → Tidy up b k ever
    → none_turned_away (events b cs) ≡ true → Tidy up (after b cs) (book_from k (events b cs)) (ever_from ever (events b cs))
unfolding after events book_from every
run_tidy [] h t e = t
run_tidy (c ∷ cs) {b = b} h t e =
    let r = both_true (not (turned_away (play b c).answer)) _ e in
    let q = not-true (turned_away (play b c).answer) r.0 in
    run_tidy cs (step h c q).1 (tidy_step h t c q) r.1

-- ---- a fresh board

fresh_kernel : KernelList (window ∷ []) []
unfolding used_size
fresh_kernel = record {
  rows = (record { from = omega arith; even = refl; whole = refl; some = omega arith }, omega arith);
  few = omega arith;
  used = λ a n e. absurd (unused (eqb window_start a) a n e);
  live = λ a n m. absurd (Memᴰ.not-nil m);
}
  where
    unused : (x : Bool) (a n : ℕ) → pick (both x false) (Ok (window_end - window_start)) (used_size a []) ≡ Ok n → ⊥
    unused true a n e = let z : ◌≡◌ {A = ℕ} 0 1 = cc in omega arith
    unused false a n e = let z : ◌≡◌ {A = ℕ} 0 1 = cc in omega arith

fresh_user : UserList [] []
unfolding holds
fresh_user = record {
  rising = rising_none 0;
  few = omega arith;
  held = λ a n e. absurd (false≢true e);
  live = λ a n m. absurd (Memᴰ.not-nil m);
}

-- a refused start is not met
refused : (n : Refusal) (a c : Board) → board_did (Err n) a ≡ board_did (Ok 0) c → ⊥
refused n a c e = apart (ap (λ (d : BoardDid). d.answer) e)
  where
    apart : ◌≡◌ {A = Result ℕ Refusal} (Err n) (Ok 0) → ⊥
    apart q = cc

module _ (old : Board) (up s t : ℕ) (may : is_levels (suc up) ≡ true) (some : 0 < t) (few : t ≤ 8192) (enough : t * 512 ≤ length old.mem.words) (low : s + t ≤ 2 ^ 40) where
  from_first : s ≡ (with_mark (untaken s t (suc up)) 0).fa.start
  from_first = sym (span_with (untaken s t (suc up)) 0).start

  -- only the root is reached
  root_only : (p : List ℕ) (f : ℕ) → reach_in (memory (zero_frame old.mem.words s s) (with_mark (untaken s t (suc up)) 0)) s p ≡ Ok f → p ≡ []
  root_only p f e = (fresh_only old.mem.words s t (suc up) some few enough low may p f e).0

  begun_inv : Inv up nothing_left (begun old s (with_mark (untaken s t (suc up)) 0)) (window ∷ []) [] []
  begun_inv = record {
    paged = subst (λ (x : ℕ). Paged up (memory (zero_frame old.mem.words x s) (with_mark (untaken s t (suc up)) 0)) s [] []) from_first (record {
      account = fresh_accounted old.mem.words s t (suc up) some few enough low may;
      plain = fresh_plain old.mem.words s t (suc up) some few enough low may;
      live = bare_live root_only;
    });
    first = from_first;
    kernel_is = refl;
    kernel_list = fresh_kernel;
    user_is = refl;
    user_list = fresh_user;
    next = refl;
    once = tt;
  }

  begun_tidy : Tidy up (begun old s (with_mark (untaken s t (suc up)) 0)) (window ∷ []) []
  begun_tidy = record {
    apart = tt;
    tabled = subst (λ (x : ℕ). Tabled (memory (zero_frame old.mem.words x s) (with_mark (untaken s t (suc up)) 0)) s up []) from_first (bare_tabled root_only);
  }

-- 'what any met start leaves, whatever the lent record held before'
module _ (old fresh : Board) (from to up : ℕ) where
  begun_cases : (P : Board → Type 0)
      → ((s t : ℕ) → is_levels (suc up) ≡ true → 0 < t → t ≤ 8192 → t * 512 ≤ length old.mem.words → s + t ≤ 2 ^ 40 → P (begun old s (with_mark (untaken s t (suc up)) 0)))
      → start old from to (suc up) ≡ board_did (Ok 0) fresh → P fresh
  begun_cases P holds =
      start_cases old from to (suc up) (λ (d : BoardDid). d ≡ board_did (Ok 0) fresh → P fresh)
      (λ may le top some enough e. subst P (ap (λ (d : BoardDid). d.board) e) (holds (from / 4096) (min ((to - from) / 4096) 8192) may some (omega arith) enough (omega arith)))
      (λ e. absurd (refused BrokenRecord old fresh e))
      (λ e. absurd (refused NoFreeFrame old fresh e))

  pub fresh_inv : start old from to (suc up) ≡ board_did (Ok 0) fresh → Inv up nothing_left fresh (window ∷ []) [] []
  fresh_inv = begun_cases (λ x. Inv up nothing_left x (window ∷ []) [] []) (begun_inv old up)

  pub fresh_tidy : start old from to (suc up) ≡ board_did (Ok 0) fresh → Tidy up fresh (window ∷ []) []
  fresh_tidy = begun_cases (λ x. Tidy up x (window ∷ []) []) (begun_tidy old up)

-- it is of 4 or 5 levels
pub met_levels : (old fresh : Board) (from to levels : ℕ) → start old from to levels ≡ board_did (Ok 0) fresh → is_levels levels ≡ true
met_levels old fresh from to levels =
    start_cases old from to levels (λ (d : BoardDid). d ≡ board_did (Ok 0) fresh → is_levels levels ≡ true) (λ may _ _ _ _ _. may)
    (λ e. absurd (refused BrokenRecord old fresh e)) (λ e. absurd (refused NoFreeFrame old fresh e))

pub some_levels : (old fresh : Board) (from to : ℕ) → start old from to 0 ≡ board_did (Ok 0) fresh → ⊥
some_levels old fresh from to e = false≢true (met_levels old fresh from to 0 e)

-- so from a fresh board on the invariant holds along every list of calls, with what those turned away leave behind
pub fresh_any : (old fresh : Board) (from to up : ℕ) → start old from to (suc up) ≡ board_did (Ok 0) fresh → (cs : List Call)
    → (u : List MappedRegion) × Inv up (left_from up nothing_left fresh cs) (after fresh cs) (list_from (window ∷ []) (events fresh cs)) u (live_from [] (events fresh cs))
fresh_any old fresh from to up st cs = run_any cs (fresh_inv old fresh from to up st)
