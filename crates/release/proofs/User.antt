-- mmap and munmap keep the invariant, and step the live regions as the statement says.
use Prim.Native.Nat.{ℕ, zero, suc, ◌+◌, ◌-◌, ◌/◌, ◌<◌, ◌≤◌}
use mathlib.Core.Path.{◌≡◌, refl, sym, ◌∙◌, ap, subst}
use mathlib.Core.Bool.{Bool, true, false, true≢false, false≢true}
use mathlib.Core.Logic.{⊎_elim}
use mathlib.Core.List.Memᴰ
use mathlib.Core.List.{List, [], ◌∷◌, Memᴰ}
use native.Mathlib.Omega.{arith}
use lib.IntN.{ℤ}
use lib.Dec.{eqb, leb, ltb}
use lib.ListN.{length}
use borrow.Author.Tests.{eq-eqb}
use Rattle.std.specs.Prelude.{Ok, Err, Result, Option, None, Some}
use Rattle.answer.specs.declared.Refusal.{Refusal}
use Rattle.bits.specs.Bit.{pick}
use Rattle.bits.proofs.Choice.{pick_cases}
use Rattle.allocator.specs.Round.{round_up, last_page}
use Rattle.allocator.proofs.Round.{round_multiple, round_pos}
use Rattle.paging.specs.Map.{Memory}
use Rattle.paging.specs.Pages.{free_pages}
use Rattle.tree.proofs.Paths.{path}
use Rattle.tree.proofs.Ordered.{reach_in}
use Rattle.tree.proofs.Books.{Takes, none, more}
use Rattle.tree.proofs.Runs.{run, map_pages_met}
use Rattle.slots.specs.Slots.{Slots, listed, store}
use Rattle.slots.proofs.Filled.{filled, listed_filled, store_filled}
use Rattle.regions.specs.declared.VMRegion.{VMRegion}
use Rattle.mappings.specs.declared.MappedRegion.{MappedRegion}
use Rattle.mappings.specs.Regions.{mapped_region, start_key, starts, insert, holds, remove, no_mapped_region}
use Rattle.free_range.specs.Search.{user_end, in_the_way, or_past, search_from, find_free}
use Rattle.user_space.specs.Flags.{writable, fixed}
use Rattle.regions.proofs.Placed.{Placed}
use Rattle.user_space.specs.User.{User, user, UserDid, user_did, on_page}
use Rattle.mmap.specs.Calls.{chosen, full, user_pages, leftover, user_mapped, mmap, mmap_of}
use Rattle.munmap.specs.Calls.{munmap, munmap_of}
use Rattle.mappings.proofs.Rising.{holds_placed, holds_one, holds_none}
use Rattle.slots.specs.Sorted.{has_key}
use Rattle.slots.proofs.Sorted.{length_remove}
use Rattle.mmap.proofs.Calls.{room, mmap_cases, chosen_place}
use Rattle.munmap.proofs.Calls.{munmap_cases}
use Rattle.board.specs.Board.{Board}
use Rattle.release.specs.Calls.{mmap_call, munmap_call, user_of, with_user, turned_away}
use Rattle.release.specs.Demand3.{Region, user_region, drop_user, live_step, pages_from, pages_of}
use Rattle.release.proofs.Lists.{member_concat}
use Rattle.release.proofs.Regions.{kernel_more, kernel_fewer, user_take, user_give, drop_user_lem}
use Rattle.release.proofs.Paged.{paged_take, paged_stop, tabled_take, take_start, paged_give, tabled_give, give_start}
use Rattle.release.proofs.Invariant.{Leftover, with_is, Inv, Tidy, inv_perm}
use Rattle.release.proofs.Sound.{user_sound, above_is}
use Rattle.release.proofs.Kernel.{more_pages}

-- a region that starts at a has a size
starts_holds : (a : ℕ) (l : List MappedRegion) → starts a l ≡ true → (n : ℕ) × (holds a n l ≡ true)
unfolding has_key holds
starts_holds a [] h = absurd (false≢true h)
starts_holds a (r ∷ l) h = by (eqb r.start a) h (starts_holds a l)
  where
    by : (x : Bool) → pick x true (starts a l) ≡ true → (starts a l ≡ true → (n : ℕ) × (holds a n l ≡ true)) → (n : ℕ) × (pick x (eqb r.size n) (holds a n l) ≡ true)
    by true g later = (r.size, eq-eqb r.size r.size refl)
    by false g later = later g

-- a run of pages that is had begins at a page that was not reached
first_off : {root up v : ℕ} {m m' : Memory} (l : List ℕ) → Takes root up m l m' → (k : List ℕ) → l ≡ v ∷ k → (x : ℕ) → reach_in m root (path up v) ≡ Ok x → ⊥
first_off [] none k e x r = let z : ◌≡◌ {A = ℕ} 0 1 = cc in omega arith
first_off {root} {up} {v} {m} (v' ∷ l) (more t s) k e x r = let q : v' ≡ v = cc in t.off x (ap (λ (y : ℕ). reach_in m root (path up y)) q ∙ r)

-- where no range is found it is 2, 3 or 15, which are neither 11 nor 13
search_quiet : (j : ℕ) (l : List MappedRegion) (n a : ℕ) → turned_away (search_from j l n a) ≡ false
unfolding search_from
search_quiet zero l n a = refl
search_quiet (suc j) l n a = pick_cases (λ (w : Result ℕ Refusal). turned_away w ≡ false) (ltb (a + n) user_end) _ _ (λ _. by (in_the_way a n l) (search_quiet j l n)) (λ _. refl)
  where
    by : (y : Option ℕ) → ((e : ℕ) → turned_away (search_from j l n e) ≡ false) → turned_away (or_past y (Ok a) (search_from j l n)) ≡ false
    by None on = refl
    by (Some e) on = on e

chosen_quiet : (s : User) (hint : Option ℕ) (n : ℕ) (flags : ℤ) → turned_away (chosen s hint n flags) ≡ false
unfolding chosen
chosen_quiet s None n flags = search_quiet _ (listed s.regions) n s.next
chosen_quiet s (Some a) n flags =
    pick_cases Quiet (fixed flags) _ _
    (λ _. pick_cases Quiet (on_page a) _ _ (λ _. pick_cases Quiet (leb (a + n) last_page) _ _ (λ _. refl) (λ _. refl)) (λ _. refl))
    (λ _. pick_cases Quiet (on_page a) _ _ (λ _. pick_cases Quiet (leb (a + n) last_page) _ _ (λ _. by (in_the_way a n (listed s.regions))) (λ _. refl)) (λ _. found))
  where
    Quiet : Result ℕ Refusal → Type 0
    Quiet w = turned_away w ≡ false

    found : Quiet (find_free (listed s.regions) s.next n)
    found = search_quiet _ (listed s.regions) n s.next

    by : (y : Option ℕ) → Quiet (or_past y (Ok a) (λ _. find_free (listed s.regions) s.next n))
    by None = refl
    by (Some e) = found

module _ {up : ℕ} {b : Board} {k : List VMRegion} {u : List MappedRegion} {l : List Region} {left : Leftover} (h : Inv up left b k u l) where
  pub user_listed : listed b.user ≡ u
  user_listed = ap listed h.user_is ∙ listed_filled no_mapped_region u

  user_stored : (u' : List MappedRegion) → length u' ≤ 256 → store no_mapped_region u' b.user ≡ filled no_mapped_region u'
  user_stored u' few = ap (store no_mapped_region u') h.user_is ∙ store_filled no_mapped_region u u' h.user_list.few few

  pub slots_removed : (a : ℕ) → store no_mapped_region (remove a (listed b.user)) b.user ≡ filled no_mapped_region (remove a u)
  slots_removed a =
      ap (λ (x : List MappedRegion). store no_mapped_region (remove a x) b.user) user_listed
      ∙ user_stored (remove a u) (omega (arith, length_remove start_key a u, h.user_list.few))

  -- every outcome of an mmap: refused with nothing changed, met, turned away with 11 or 13
  pub mmap_outcomes : (hint : Option ℕ) (size : ℕ) (prot flags : ℤ) (P : UserDid → Type 0) → let n = round_up 12 size in
      ((e : Refusal) → turned_away (Err e) ≡ false → P (user_did (Err e) (user_of b)))
      → ((a x : ℕ) → Placed a n → full (user_of b) a ≡ false → (user_pages up b.mem b.root a n prot).walked ≡ Ok x
      → P (user_did (Ok a) (user (user_pages up b.mem b.root a n prot).mem (store no_mapped_region (insert (mapped_region a n prot flags) u) b.user) (a + n))))
      → ((a : ℕ) (e : Refusal) → chosen (user_of b) hint n flags ≡ Ok a → (user_pages up b.mem b.root a n prot).walked ≡ Err e → turned_away (Err e) ≡ true
      → P (user_did (Err e) (user (leftover up b.root a e (user_pages up b.mem b.root a n prot).done (user_pages up b.mem b.root a n prot).mem) b.user b.next)))
      → P (mmap_of (user_of b) b.root hint size prot flags)
  mmap_outcomes hint size prot flags P refused met stopped =
      subst (λ (n : ℕ). P (mmap n (user_of b) b.root hint size prot flags)) (sym (above_is h)) (mmap_cases up (user_of b) b.root hint size prot flags P
      (λ e. absurd (true≢false (sym (user_sound h) ∙ e))) (refused _ refl) (refused _ refl)
      (λ e f. refused e (ap turned_away (sym f) ∙ chosen_quiet (user_of b) hint n flags)) (refused _ refl)
      (λ s pos le a c f.
      let q = chosen_place (user_of b) hint n flags a (rw user_listed h.user_list.rising) h.next c in
      by a (record { even = q.0; whole = round_multiple 12 size; some = round_pos 12 size pos; end = q.1 }) c f (user_pages up b.mem b.root a n prot).walked refl))
    where
      n : ℕ
      n = round_up 12 size

      by : (a : ℕ) → Placed a n → chosen (user_of b) hint n flags ≡ Ok a → full (user_of b) a ≡ false → (w : Result ℕ Refusal) → (user_pages up b.mem b.root a n prot).walked ≡ w
          → P (user_mapped up (user_of b) b.root a n prot flags w (user_pages up b.mem b.root a n prot).done (user_pages up b.mem b.root a n prot).mem)
      by a p c f (Ok x) e =
          subst (λ (y : List MappedRegion). P (user_did (Ok a) (user (user_pages up b.mem b.root a n prot).mem (store no_mapped_region (insert (mapped_region a n prot flags) y) b.user) (a + n))))
          (sym user_listed) (met a x p f e)
      by a p c f (Err x) e = stopped a x c e (paged_stop (writable prot) true h.paged a (n / 4096) x e)

  -- every outcome of a munmap
  pub munmap_outcomes : (a size : ℕ) (P : UserDid → Type 0)
      → ((e : Refusal) → P (user_did (Err e) (user_of b)))
      → ((n : ℕ) → holds a n u ≡ true → P (user_did (Ok 0) (user (free_pages up b.mem b.root a (n / 4096)) (filled no_mapped_region (remove a u)) b.next)))
      → P (munmap_of (user_of b) b.root a size)
  munmap_outcomes a size P refused met =
      subst (λ (n : ℕ). P (munmap n (user_of b) b.root a size)) (sym (above_is h)) (munmap_cases up (user_of b) b.root a size P
      (λ e. absurd (true≢false (sym (user_sound h) ∙ e))) (λ e f. refused e)
      (λ s pos le e. subst (λ (s : Slots MappedRegion). P (user_did (Ok 0) (user (free_pages up b.mem b.root a (round_up 12 size / 4096)) s b.next))) (sym (slots_removed a))
      (met (round_up 12 size) (subst (λ (x : List MappedRegion). holds a (round_up 12 size) x ≡ true) user_listed e))))

  -- ---- the invariant

  -- the first page of a live region is mapped
  first_page : (a n : ℕ) → Memᴰ (user_region a n) l → Placed a n → (x : ℕ) × (reach_in b.mem b.root (path up a) ≡ Ok x)
  unfolding pages_from
  first_page a n m p =
      let q : (j : ℕ) × (n / 4096 ≡ suc j) = (n / 4096 - 1, omega (arith, p.whole, p.some)) in
      h.paged.live.here a (rw (with_is l left.stranded) (Memᴰ.append_left left.stranded (member_concat pages_of a (user_region a n) l m (subst (λ (j : ℕ). Memᴰ a (pages_from a j)) (sym q.1) (begin q.0)))))
    where
      begin : (j : ℕ) → Memᴰ a (pages_from a (suc j))
      begin j = Memᴰ.head refl

  -- so a range that is had does not start where a live region does
  new_start : (a n x : ℕ) (prot : ℤ) → Placed a n → (user_pages up b.mem b.root a n prot).walked ≡ Ok x → starts a u ≡ false
  new_start a n x prot p met = by (starts a u) refl
    where
      by : (y : Bool) → starts a u ≡ y → starts a u ≡ false
      by false e = e
      by true e =
          let s = starts_holds a u e in
          let r = first_page a s.0 (h.user_list.held a s.0 s.1) (holds_placed a s.0 0 u h.user_list.rising s.1) in
          let q : (j : ℕ) × (n / 4096 ≡ suc j) = (n / 4096 - 1, omega (arith, p.whole, p.some)) in
          absurd (first_off (run a (n / 4096)) (map_pages_met (writable prot) true (n / 4096) h.paged.account.order a 0 x met) (run (a + 4096) q.0) (ap (run a) q.1) r.0 r.1)

  -- a region that is taken
  pub user_took : (n a x : ℕ) (prot flags : ℤ) → Placed a n → full (user_of b) a ≡ false → (user_pages up b.mem b.root a n prot).walked ≡ Ok x
      → Inv up left (with_user b (user (user_pages up b.mem b.root a n prot).mem (store no_mapped_region (insert (mapped_region a n prot flags) u) b.user) (a + n))) k (insert (mapped_region a n prot flags) u) (user_region a n ∷ l)
  user_took n a x prot flags p f met =
      let s = new_start a n x prot p met in
      let few : length u < 256 = ⊎_elim (λ e. rw user_listed at e) (λ e. absurd (true≢false (sym (rw user_listed at e) ∙ s))) (room (user_of b) a f) in
      let r = user_take a n prot flags p h.user_list s few in
      record {
        paged = paged_take (writable prot) true h.paged a (n / 4096) x met;
        first = h.first ∙ sym (take_start (writable prot) true h.paged a (n / 4096) x met);
        kernel_is = h.kernel_is;
        kernel_list = kernel_more a n h.kernel_list;
        user_is = user_stored (insert (mapped_region a n prot flags) u) r.few;
        user_list = r;
        next = omega (arith, p.even, p.whole);
        once = ((λ m. true≢false (sym (h.user_list.live a n m) ∙ holds_none a n u s)), h.once);
      }

  -- a region that is released
  gave : (a n : ℕ) → holds a n u ≡ true
      → Inv up left (with_user b (user (free_pages up b.mem b.root a (n / 4096)) (filled no_mapped_region (remove a u)) b.next)) k (remove a u) (drop_user a l)
  gave a n e =
      let p = drop_user_lem a n l (h.user_list.held a n e) (λ m r. holds_one a m n u (h.user_list.live a m r) e) in
      let g = inv_perm p h in
      record {
        paged = paged_give a (n / 4096) g.paged;
        first = h.first ∙ sym (give_start up b.mem b.root a (n / 4096));
        kernel_is = h.kernel_is;
        kernel_list = kernel_fewer a n g.kernel_list;
        user_is = refl;
        user_list = user_give a n g.user_list g.once;
        next = h.next;
        once = g.once.1;
      }

  pub mmap_step : (hint : Option ℕ) (size : ℕ) (prot flags : ℤ) → let d = mmap_of (user_of b) b.root hint size prot flags in turned_away d.answer ≡ false
      → (u' : List MappedRegion) × Inv up left (with_user b d.user) k u' (live_step l (mmap_call hint size prot flags) d.answer)
  mmap_step hint size prot flags =
      mmap_outcomes hint size prot flags
      (λ (d : UserDid). turned_away d.answer ≡ false → (u' : List MappedRegion) × Inv up left (with_user b d.user) k u' (live_step l (mmap_call hint size prot flags) d.answer))
      (λ e _ _. (u, h)) (λ a x p f met _. (insert (mapped_region a (round_up 12 size) prot flags) u, user_took (round_up 12 size) a x prot flags p f met))
      (λ a e c met t ex. absurd (true≢false (sym t ∙ ex)))

  pub munmap_step : (a size : ℕ) → let d = munmap_of (user_of b) b.root a size in
      (u' : List MappedRegion) × Inv up left (with_user b d.user) k u' (live_step l (munmap_call a size) d.answer)
  munmap_step a size =
      munmap_outcomes a size (λ (d : UserDid). (u' : List MappedRegion) × Inv up left (with_user b d.user) k u' (live_step l (munmap_call a size) d.answer))
      (λ e. (u, h)) (λ n e. (remove a u, gave a n e))

  -- ---- and what holds besides while no call is turned away with 11 or 13

  module _ {ever : List ℕ} (t : Tidy up b k ever) where
    pub mmap_tidy : (hint : Option ℕ) (size : ℕ) (prot flags : ℤ) → let d = mmap_of (user_of b) b.root hint size prot flags in turned_away d.answer ≡ false
        → Tidy up (with_user b d.user) k (more_pages ever d.answer (round_up 12 size))
    mmap_tidy hint size prot flags =
        mmap_outcomes hint size prot flags (λ (d : UserDid). turned_away d.answer ≡ false → Tidy up (with_user b d.user) k (more_pages ever d.answer (round_up 12 size)))
        (λ e _ _. t)
        (λ a x p f met _. record { apart = t.apart; tabled = tabled_take (writable prot) true h.paged a (round_up 12 size / 4096) x met t.tabled })
        (λ a e c met s ex. absurd (true≢false (sym s ∙ ex)))

    pub munmap_tidy : (a size : ℕ) → Tidy up (with_user b (munmap_of (user_of b) b.root a size).user) k ever
    munmap_tidy a size =
        munmap_outcomes a size (λ (d : UserDid). Tidy up (with_user b d.user) k ever)
        (λ e. t) (λ n e. record { apart = t.apart; tabled = tabled_give a (n / 4096) h.paged.account.order t.tabled })
