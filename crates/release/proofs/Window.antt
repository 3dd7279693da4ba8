-- The kernel window: while no vmalloc cuts a larger region at 256 the list has no gaps, and once nothing is used it is one free region.
use Prim.Native.Nat.{ℕ}
use mathlib.Core.Path.{◌≡◌, refl, sym, ◌∙◌, ap, subst}
use mathlib.Core.Bool.{Bool, true, false, not}
use mathlib.Core.List.Memᴰ
use mathlib.Core.List.{List, [], ◌∷◌, foldl}
use native.Mathlib.Omega.{arith}
use lib.Dec.{leb, ltb, eqb}
use lib.ListN.{length}
use borrow.Author.Tests.{le-leb, ltb-false, not-true}
use Rattle.answer.specs.declared.Refusal.{Refusal}
use Rattle.std.specs.Prelude.{Ok, Err}
use Rattle.answer.specs.declared.Refusal.TheVariants.{RegionNotFound}
use Rattle.bits.specs.Bit.{pick, both}
use Rattle.bits.proofs.Choice.{both_true}
use Rattle.allocator.specs.Round.{round_up}
use Rattle.slots.specs.Slots.{every}
use Rattle.regions.specs.declared.VMRegion.{VMRegion}
use Rattle.regions.specs.Regions.{window_start, window_end, window, first_fit, take_first, used_size, free_first, merge}
use Rattle.vmalloc.specs.Calls.{KernelDid, vmalloc_of}
use Rattle.regions.proofs.Merge.{freed_all}
use Rattle.regions.proofs.Rows.{freed_first}
use Rattle.regions.proofs.Used.{all_free}
use Rattle.regions.proofs.Tiles.{Apart, apart_merged, Tiled, tiled_freed, tiled_merge, tiled_taken, taken_exact, one_region_lem}
use Rattle.paging.proofs.Calls.{walked_cases}
use Rattle.mappings.specs.declared.MappedRegion.{MappedRegion}
use Rattle.board.specs.Board.{Board}
use Rattle.release.specs.Calls.{Call, vmalloc_call, vfree_call, mmap_call, munmap_call, kernel_of, play, events, turned_away}
use Rattle.release.specs.Demand3.{none_turned_away, Region, kernel_region, user_region, take_part, free_part, join_parts, exceeds, book_step, book_from, cuts, uncut_from}
use Rattle.release.proofs.Book.{take_cut, exceeds_larger, free_part_lem, join_parts_lem}
use Rattle.release.proofs.Regions.{KernelList, not_both}
use Rattle.release.proofs.Invariant.{Leftover, Inv}
use Rattle.release.proofs.Kernel.{vmalloc_outcomes}
use Rattle.release.proofs.Run.{step}
use Rattle.release.proofs.Ends.{kernel_after}

-- the window without gaps
abbrev pub Whole : List VMRegion → Type 0
Whole k = Tiled window_start window_end k

-- a vmalloc that is met answers the first region large enough
fit_of : {up : ℕ} {b : Board} {k : List VMRegion} {u : List MappedRegion} {l : List Region} {left : Leftover} → Inv up left b k u l → (size a : ℕ)
    → (vmalloc_of (kernel_of b) b.root size).answer ≡ Ok a → first_fit (round_up 12 size) k ≡ Ok a
fit_of {b = b} {k = k} h size a =
    vmalloc_outcomes h size (λ (d : KernelDid). d.answer ≡ Ok a → first_fit (round_up 12 size) k ≡ Ok a)
    (λ e _ q. absurd (not_both q refl)) (λ c x pos f met q. f ∙ q) (λ c e pos f met t q. absurd (not_both q refl))

-- one call
module _ {up : ℕ} {b : Board} {k : List VMRegion} {u : List MappedRegion} {l : List Region} {left : Leftover} (h : Inv up left b k u l) (t : Whole k) where
  whole_take : (n a : ℕ) → first_fit n k ≡ Ok a → both (leb 256 (length k)) (exceeds a n k) ≡ false → Whole (take_part a n (ltb (length k) 256) k)
  whole_take n a f q = rw (take_cut n a window_start window_end (ltb (length k) 256) k h.kernel_list.rows f) (by (ltb (length k) 256) refl)
    where
      by : (room : Bool) → ltb (length k) 256 ≡ room → Whole (take_first true n room k)
      by true e = tiled_taken true n window_start window_end k t
      by false e =
          let x : exceeds a n k ≡ false = subst (λ (y : Bool). both y (exceeds a n k) ≡ false) (le-leb 256 (length k) (ltb-false (length k) 256 e)) q in
          rw (taken_exact true false n k (sym (exceeds_larger n a window_start window_end k h.kernel_list.rows f) ∙ x)) (tiled_taken true n window_start window_end k t)

  whole_give : (a : ℕ) → Whole (join_parts (free_part a k))
  whole_give a =
      rw (free_part_lem a k, join_parts_lem (free_first a k), freed_first a window_start window_end k h.kernel_list.rows)
      (tiled_merge window_start window_end (freed_all a k) (tiled_freed a window_start window_end k t))

  whole_step : (c : Call) → cuts k c (play b c).answer ≡ false → Whole (book_step k c (play b c).answer)
  unfolding play
  whole_step (vmalloc_call size) =
      walked_cases (λ w. ((vmalloc_of (kernel_of b) b.root size).answer ≡ w) → cuts k (vmalloc_call size) w ≡ false → Whole (book_step k (vmalloc_call size) w))
      (vmalloc_of (kernel_of b) b.root size).answer
      (λ a _ e q. whole_take (round_up 12 size) a (fit_of h size a e) q) (λ n _ e q. t) refl
  whole_step (vfree_call a) = walked_cases (λ w. cuts k (vfree_call a) w ≡ false → Whole (book_step k (vfree_call a) w)) (play b (vfree_call a)).answer (λ x _ q. whole_give a) (λ n _ q. t)
  whole_step (mmap_call hint size prot flags) = λ q. t
  whole_step (munmap_call a size) = λ q. t

-- a list of calls
pub whole_run : (cs : List Call) {up : ℕ} {b : Board} {k : List VMRegion} {u : List MappedRegion} {l : List Region} {left : Leftover} → Inv up left b k u l → none_turned_away (events b cs) ≡ true
    → uncut_from k (events b cs) ≡ true → Whole k → Whole (book_from k (events b cs))
unfolding events book_from uncut_from every
whole_run [] h e q t = t
whole_run (c ∷ cs) {b = b} {k = k} h e q t =
    let r = both_true (not (turned_away (play b c).answer)) _ e in
    let s = both_true (not (cuts k c (play b c).answer)) _ q in
    whole_run cs (step h c (not-true (turned_away (play b c).answer) r.0)).1 r.1 s.1 (whole_step h t c (not-true (cuts k c (play b c).answer) s.0))

pub whole_window : Whole (window ∷ [])
whole_window = (refl, refl)

-- the releases
pub whole_end : (m : List Region) (k : List VMRegion) → Whole k → Whole (foldl kernel_after k m)
whole_end [] k t = t
whole_end (kernel_region a n ∷ m) k t = whole_end m (merge (freed_all a k)) (tiled_merge window_start window_end (freed_all a k) (tiled_freed a window_start window_end k t))
whole_end (user_region a n ∷ m) k t = whole_end m k t

-- a whole list with nothing used is the window
used_number : (a : ℕ) (e : Refusal) (k : List VMRegion) → used_size a k ≡ Err e → e ≡ RegionNotFound
unfolding used_size
used_number a e [] h = cc
used_number a e (r ∷ k) h = by (both (eqb r.start a) r.used) h (used_number a e k)
  where
    by : (x : Bool) → pick x (Ok r.size) (used_size a k) ≡ Err e → (used_size a k ≡ Err e → e ≡ RegionNotFound) → e ≡ RegionNotFound
    by true g more = absurd (not_both refl g)
    by false g more = more g

pub one_window : {k : List VMRegion} → KernelList k [] → Apart k → Whole k → k ≡ window ∷ []
one_window {k} h d t = sym (apart_merged k d) ∙ one_region_lem window_start window_end k (omega arith) (all_free k none) t
  where
    none : (a : ℕ) → used_size a k ≡ Err RegionNotFound
    none a = walked_cases (λ w. used_size a k ≡ w → used_size a k ≡ Err RegionNotFound) (used_size a k)
        (λ n _ e. absurd (Memᴰ.not-nil (h.used a n e))) (λ e _ q. q ∙ ap Err (used_number a e k q)) refl
