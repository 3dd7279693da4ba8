-- vmalloc and vfree keep the invariant, and step the live regions and the book as the statement says.
use Prim.Native.Nat.{ℕ, ◌/◌, ◌<◌, ◌≤◌}
use mathlib.Core.Path.{◌≡◌, refl, sym, ◌∙◌, ap, subst}
use mathlib.Core.Bool.{Bool, true, false, true≢false}
use mathlib.Core.List.{List, [], ◌∷◌, ◌++◌, Memᴰ}
use native.Mathlib.Omega.{arith}
use lib.Dec.{ltb}
use lib.ListN.{length}
use Rattle.std.specs.Prelude.{Ok, Err, Result}
use Rattle.answer.specs.declared.Refusal.{Refusal}
use Rattle.bits.proofs.Choice.{pick_cases}
use Rattle.allocator.specs.Round.{round_up}
use Rattle.allocator.proofs.Round.{round_multiple, round_pos}
use Rattle.paging.specs.Pages.{free_pages}
use Rattle.slots.specs.Slots.{Slots, listed, store}
use Rattle.slots.proofs.Filled.{filled, listed_filled, store_filled}
use Rattle.regions.specs.declared.VMRegion.{VMRegion}
use Rattle.regions.specs.Regions.{window_start, window_end, fits, first_fit, taken, taken_slots, used_size, free_first, merge}
use Rattle.regions.specs.Regions.{no_vm_region}
use Rattle.vmalloc.specs.Calls.{kernel, KernelDid, kernel_did, kernel_pages, kernel_mapped, vmalloc, vmalloc_of, vfree, vfree_of}
use Rattle.regions.proofs.Merge.{freed_all}
use Rattle.regions.proofs.Rows.{freed_first, taken_few, length_freed, length_merge}
use Rattle.regions.proofs.Used.{taken_was_free}
use Rattle.regions.proofs.Tiles.{apart_taken, apart_merge}
use Rattle.vmalloc.proofs.Calls.{vmalloc_cases, vfree_cases}
use Rattle.mappings.specs.declared.MappedRegion.{MappedRegion}
use Rattle.board.specs.Board.{Board}
use Rattle.release.specs.Calls.{vmalloc_call, vfree_call, kernel_of, with_kernel, turned_away}
use Rattle.release.specs.Demand3.{Region, kernel_region, drop_kernel, live_step, pages_from, take_part, free_part, join_parts, book_step}
use Rattle.release.proofs.Book.{take_cut, free_part_lem, join_parts_lem}
use Rattle.release.proofs.Regions.{kernel_take, kernel_give, user_more, user_fewer, drop_kernel_lem, not_both, same_at}
use Rattle.release.proofs.Paged.{paged_take, paged_stop, tabled_take, take_start, paged_give, tabled_give, give_start}
use Rattle.release.proofs.Invariant.{Leftover, Inv, Tidy, inv_perm}
use Rattle.release.proofs.Sound.{kernel_sound, above_is}

-- the pages ever mapped, after a region of n bytes at a
abbrev pub more_pages : List ℕ → Result ℕ Refusal → ℕ → List ℕ
more_pages ever (Ok a) n = pages_from a (n / 4096) ++ ever
more_pages ever (Err e) n = ever

-- where no region fits it is 15, which is neither 11 nor 13
fit_quiet : (n : ℕ) (l : List VMRegion) → turned_away (first_fit n l) ≡ false
unfolding first_fit
fit_quiet n [] = refl
fit_quiet n (r ∷ l) = pick_cases (λ (w : Result ℕ Refusal). turned_away w ≡ false) (fits n r) _ _ (λ _. refl) (λ _. fit_quiet n l)

module _ {up : ℕ} {b : Board} {k : List VMRegion} {u : List MappedRegion} {l : List Region} {left : Leftover} (h : Inv up left b k u l) where
  pub kernel_listed : listed b.kernel ≡ k
  kernel_listed = ap listed h.kernel_is ∙ listed_filled no_vm_region k

  -- a list stored in the kernel's slots
  kernel_stored : (k' : List VMRegion) → length k' ≤ 256 → store no_vm_region k' b.kernel ≡ filled no_vm_region k'
  kernel_stored k' few = ap (store no_vm_region k') h.kernel_is ∙ store_filled no_vm_region k k' h.kernel_list.few few

  slots_taken : (used : Bool) (n : ℕ) → taken_slots used n b.kernel ≡ filled no_vm_region (taken used n k)
  slots_taken used n =
      ap (λ (s : List VMRegion). store no_vm_region (taken used n s) b.kernel) kernel_listed ∙ kernel_stored (taken used n k) (taken_few used n k h.kernel_list.few)

  pub slots_freed : (a : ℕ) → store no_vm_region (merge (free_first a (listed b.kernel))) b.kernel ≡ filled no_vm_region (merge (freed_all a k))
  slots_freed a =
      ap (λ (x : List VMRegion). store no_vm_region (merge x) b.kernel) (ap (free_first a) kernel_listed ∙ freed_first a window_start window_end k h.kernel_list.rows)
      ∙ kernel_stored (merge (freed_all a k)) (omega (arith, length_merge (freed_all a k), length_freed a k, h.kernel_list.few))

  -- every outcome of a vmalloc: refused with nothing changed, met, turned away with 11 or 13
  pub vmalloc_outcomes : (size : ℕ) (P : KernelDid → Type 0) → let n = round_up 12 size in
      ((e : Refusal) → turned_away (Err e) ≡ false → P (kernel_did (Err e) (kernel_of b)))
      → ((a x : ℕ) → 0 < n → first_fit n k ≡ Ok a → (kernel_pages up b.mem b.root a n).walked ≡ Ok x
      → P (kernel_did (Ok a) (kernel (kernel_pages up b.mem b.root a n).mem (filled no_vm_region (taken true n k)))))
      → ((a : ℕ) (e : Refusal) → 0 < n → first_fit n k ≡ Ok a → (kernel_pages up b.mem b.root a n).walked ≡ Err e → turned_away (Err e) ≡ true
      → P (kernel_did (Err e) (kernel (kernel_pages up b.mem b.root a n).mem (filled no_vm_region (taken false n k)))))
      → P (vmalloc_of (kernel_of b) b.root size)
  vmalloc_outcomes size P refused met stopped =
      subst (λ (n : ℕ). P (vmalloc n (kernel_of b) b.root size)) (sym (above_is h)) (vmalloc_cases up (kernel_of b) b.root size P
      (λ e. absurd (true≢false (sym (kernel_sound h) ∙ e))) (refused _ refl) (refused _ refl)
      (λ e f. refused e (ap turned_away (sym f) ∙ fit_quiet n (listed b.kernel)))
      (λ s pos le a f. by a (subst (λ (x : List VMRegion). first_fit n x ≡ Ok a) kernel_listed f) (round_pos 12 size pos) (kernel_pages up b.mem b.root a n).walked refl))
    where
      n : ℕ
      n = round_up 12 size

      by : (a : ℕ) → first_fit n k ≡ Ok a → 0 < n → (w : Result ℕ Refusal) → (kernel_pages up b.mem b.root a n).walked ≡ w
          → P (kernel_mapped a n b.kernel w (kernel_pages up b.mem b.root a n).mem)
      by a f pos (Ok x) e = subst (λ (s : Slots VMRegion). P (kernel_did (Ok a) (kernel (kernel_pages up b.mem b.root a n).mem s))) (sym (slots_taken true n)) (met a x pos f e)
      by a f pos (Err x) e =
          subst (λ (s : Slots VMRegion). P (kernel_did (Err x) (kernel (kernel_pages up b.mem b.root a n).mem s))) (sym (slots_taken false n))
          (stopped a x pos f e (paged_stop true false h.paged a (n / 4096) x e))

  -- every outcome of a vfree
  pub vfree_outcomes : (a : ℕ) (P : KernelDid → Type 0)
      → ((e : Refusal) → P (kernel_did (Err e) (kernel_of b)))
      → ((n : ℕ) → used_size a k ≡ Ok n → P (kernel_did (Ok 0) (kernel (free_pages up b.mem b.root a (n / 4096)) (filled no_vm_region (merge (freed_all a k))))))
      → P (vfree_of (kernel_of b) b.root a)
  vfree_outcomes a P refused met =
      subst (λ (n : ℕ). P (vfree n (kernel_of b) b.root a)) (sym (above_is h)) (vfree_cases up (kernel_of b) b.root a P
      (λ e. absurd (true≢false (sym (kernel_sound h) ∙ e))) (λ e f. refused e)
      (λ s pos n e. subst (λ (s : Slots VMRegion). P (kernel_did (Ok 0) (kernel (free_pages up b.mem b.root a (n / 4096)) s))) (sym (slots_freed a))
      (met n (subst (λ (x : List VMRegion). used_size a x ≡ Ok n) kernel_listed e))))

  -- the book's list once a part is freed
  book_freed : (a : ℕ) → join_parts (free_part a k) ≡ merge (freed_all a k)
  book_freed a = ap join_parts (free_part_lem a k) ∙ join_parts_lem (free_first a k) ∙ ap merge (freed_first a window_start window_end k h.kernel_list.rows)

  -- ---- the invariant

  -- a region that is taken
  pub kernel_took : (size a x : ℕ) → let n = round_up 12 size in 0 < n → first_fit n k ≡ Ok a → (kernel_pages up b.mem b.root a n).walked ≡ Ok x
      → Inv up left (with_kernel b (kernel (kernel_pages up b.mem b.root a n).mem (filled no_vm_region (taken true n k)))) (take_part a n (ltb (length k) 256) k) u (kernel_region a n ∷ l)
  kernel_took size a x pos f met =
      let n = round_up 12 size in
      rw (take_cut n a window_start window_end (ltb (length k) 256) k h.kernel_list.rows f) (record {
        paged = paged_take true false h.paged a (n / 4096) x met;
        first = h.first ∙ sym (take_start true false h.paged a (n / 4096) x met);
        kernel_is = refl;
        kernel_list = kernel_take a n (round_multiple 12 size) pos h.kernel_list f;
        user_is = h.user_is;
        user_list = user_more a n h.user_list;
        next = h.next;
        once = ((λ m. new m), h.once);
      })
    where
      new : Memᴰ (kernel_region a (round_up 12 size)) l → ⊥
      new m = not_both (h.kernel_list.live a _ m) (taken_was_free (round_up 12 size) (ltb (length k) 256) a window_start window_end k h.kernel_list.rows f)

  -- a region that is released
  gave : (a n : ℕ) → used_size a k ≡ Ok n
      → Inv up left (with_kernel b (kernel (free_pages up b.mem b.root a (n / 4096)) (filled no_vm_region (merge (freed_all a k))))) (join_parts (free_part a k)) u (drop_kernel a l)
  gave a n e =
      let p = drop_kernel_lem a n l (h.kernel_list.used a n e) (λ m q. same_at (h.kernel_list.live a m q) e) in
      let g = inv_perm p h in
      rw (book_freed a) (record {
        paged = paged_give a (n / 4096) g.paged;
        first = h.first ∙ sym (give_start up b.mem b.root a (n / 4096));
        kernel_is = refl;
        kernel_list = kernel_give a n g.kernel_list g.once;
        user_is = h.user_is;
        user_list = user_fewer a n g.user_list;
        next = h.next;
        once = g.once.1;
      })

  pub vmalloc_step : (size : ℕ) → let d = vmalloc_of (kernel_of b) b.root size in turned_away d.answer ≡ false
      → Inv up left (with_kernel b d.kernel) (book_step k (vmalloc_call size) d.answer) u (live_step l (vmalloc_call size) d.answer)
  vmalloc_step size =
      vmalloc_outcomes size
      (λ (d : KernelDid). turned_away d.answer ≡ false → Inv up left (with_kernel b d.kernel) (book_step k (vmalloc_call size) d.answer) u (live_step l (vmalloc_call size) d.answer))
      (λ e _ _. h) (λ a x pos f met _. kernel_took size a x pos f met) (λ a e pos f met t ex. absurd (true≢false (sym t ∙ ex)))

  pub vfree_step : (a : ℕ) → let d = vfree_of (kernel_of b) b.root a in
      Inv up left (with_kernel b d.kernel) (book_step k (vfree_call a) d.answer) u (live_step l (vfree_call a) d.answer)
  vfree_step a =
      vfree_outcomes a (λ (d : KernelDid). Inv up left (with_kernel b d.kernel) (book_step k (vfree_call a) d.answer) u (live_step l (vfree_call a) d.answer))
      (λ e. h) (λ n e. gave a n e)

  -- ---- and what holds besides while no call is turned away with 11 or 13

  module _ {ever : List ℕ} (t : Tidy up b k ever) where
    pub vmalloc_tidy : (size : ℕ) → let d = vmalloc_of (kernel_of b) b.root size in turned_away d.answer ≡ false
        → Tidy up (with_kernel b d.kernel) (book_step k (vmalloc_call size) d.answer) (more_pages ever d.answer (round_up 12 size))
    vmalloc_tidy size =
        vmalloc_outcomes size
        (λ (d : KernelDid). turned_away d.answer ≡ false → Tidy up (with_kernel b d.kernel) (book_step k (vmalloc_call size) d.answer) (more_pages ever d.answer (round_up 12 size)))
        (λ e _ _. t)
        (λ a x pos f met _. rw (take_cut (round_up 12 size) a window_start window_end (ltb (length k) 256) k h.kernel_list.rows f) (record {
          apart = apart_taken (round_up 12 size) (ltb (length k) 256) k t.apart;
          tabled = tabled_take true false h.paged a (round_up 12 size / 4096) x met t.tabled;
        }))
        (λ a e pos f met s ex. absurd (true≢false (sym s ∙ ex)))

    pub vfree_tidy : (a : ℕ) → let d = vfree_of (kernel_of b) b.root a in Tidy up (with_kernel b d.kernel) (book_step k (vfree_call a) d.answer) ever
    vfree_tidy a =
        vfree_outcomes a (λ (d : KernelDid). Tidy up (with_kernel b d.kernel) (book_step k (vfree_call a) d.answer) ever)
        (λ e. t)
        (λ n e. rw (book_freed a) (record { apart = apart_merge (freed_all a k); tabled = tabled_give a (n / 4096) h.paged.account.order t.tabled }))
