-- Demand 3.
use Prim.Native.Nat.{ℕ, zero, suc, ◌+◌, ◌-◌, ◌/◌, ◌<◌, ◌≤◌}
use mathlib.Core.Bool.{true}
use mathlib.Core.Path.{◌≡◌, refl, sym, ◌∙◌, ap, subst}
use mathlib.Core.Logic.{◌⊎◌, inl, inr, ⊎_elim, ∥∥₁_elim}
use mathlib.Core.HLevel.{⊥_prop}
use mathlib.Core.List.{List, [], ◌∷◌, ◌++◌, Memᴰ, Nodup, Nodup-nil, Nodup-cons}
use native.Mathlib.Omega.{arith}
use native.Mathlib.Decide.{ℕ_discrete}
use lib.ListN.{length, take, length-take}
use lib.Seq.{take-take}
use borrow.Author.Tests.{le-leb}
use Rattle.std.specs.Prelude.{Ok, Err, Result}
use Rattle.answer.specs.declared.Refusal.{Refusal}
use Rattle.entry.specs.Entry.{indices}
use Rattle.entry.proofs.Entry.{length_indices}
use Rattle.frame.proofs.Laws.{inside_yes, inside_from, inside_under}
use Rattle.bitmap.specs.Bitmap.{marked}
use Rattle.allocator.specs.Round.{round_up}
use Rattle.paging.specs.Walk.{reach}
use Rattle.paging.specs.Map.{start_frame, total_of}
use Rattle.paging.proofs.Walk.{reach_end}
use Rattle.tree.proofs.Paths.{Leads, leads_take, leads_length, take_leads, path, upper, length_upper}
use Rattle.tree.proofs.Ordered.{reach_in, mark_in, Ordered, root_marked}
use Rattle.tree.proofs.Books.{Live, silent, tables_only}
use Rattle.tree.proofs.Counts.{counter_paths}
use Rattle.slots.proofs.Filled.{filled, listed_filled}
use Rattle.slots.specs.Slots.{listed}
use Rattle.regions.specs.declared.VMRegion.{VMRegion}
use Rattle.regions.specs.Regions.{window_start, window_end, window, no_vm_region}
use Rattle.regions.proofs.Rows.{Rows, rows_earlier}
use Rattle.mappings.specs.declared.MappedRegion.{MappedRegion}
use Rattle.board.specs.Board.{Board}
use Rattle.release.specs.Calls.{Call, vmalloc_call, vfree_call, mmap_call, munmap_call, Event, events}
use Rattle.release.specs.Demand3.{born_by, ever_live, pages_from, pages_of, runs_to, runs_of, concat, leading_runs, different, PageTable, book, never_cut, Ended, parts_rise, BookHolds, BookRises, Demand3At, Demand3}
use Rattle.release.proofs.Lists.{Once, concat_append, concat_member, member_concat}
use Rattle.release.proofs.Different.{among_member, member_among, different_from, different_all, different_once}
use Rattle.release.proofs.Invariant.{nothing_left, Inv, Tidy}
use Rattle.release.proofs.Run.{ever_step, ever_from, run_inv, run_tidy, fresh_inv, fresh_tidy, some_levels}
use Rattle.release.proofs.Orders.{order_end, one_board, ended_tidy}
use Rattle.release.proofs.Window.{whole_run, whole_window, whole_end, one_window}

-- ---- the pages ever mapped are those of the regions ever live

born_pages : (ever : List ℕ) (c : Call) (w : Result ℕ Refusal) (v : ℕ) → Memᴰ v (ever_step ever c w) → Memᴰ v ever ⊎ Memᴰ v (concat pages_of (born_by c w))
unfolding concat
born_pages ever (vmalloc_call size) (Ok a) v m = ⊎_elim (λ q. inr (mathlib.Core.List.Memᴰ.append_left [] q)) (λ q. inl q) (mathlib.Core.List.Memᴰ.append_cases (pages_from a (round_up 12 size / 4096)) m)
born_pages ever (vmalloc_call size) (Err e) v m = inl m
born_pages ever (vfree_call a) w v m = inl m
born_pages ever (mmap_call hint size prot flags) (Ok a) v m = ⊎_elim (λ q. inr (mathlib.Core.List.Memᴰ.append_left [] q)) (λ q. inl q) (mathlib.Core.List.Memᴰ.append_cases (pages_from a (round_up 12 size / 4096)) m)
born_pages ever (mmap_call hint size prot flags) (Err e) v m = inl m
born_pages ever (munmap_call a size) w v m = inl m

pages_born : (ever : List ℕ) (c : Call) (w : Result ℕ Refusal) (v : ℕ) → Memᴰ v ever ⊎ Memᴰ v (concat pages_of (born_by c w)) → Memᴰ v (ever_step ever c w)
unfolding concat
pages_born ever (vmalloc_call size) (Ok a) v m =
    ⊎_elim (λ q. mathlib.Core.List.Memᴰ.append_right (pages_from a (round_up 12 size / 4096)) q)
    (λ q. mathlib.Core.List.Memᴰ.append_left ever (⊎_elim (λ x. x) (λ x. absurd (mathlib.Core.List.Memᴰ.not-nil x)) (mathlib.Core.List.Memᴰ.append_cases (pages_from a (round_up 12 size / 4096)) q))) m
pages_born ever (vmalloc_call size) (Err e) v m = ⊎_elim (λ q. q) (λ q. absurd (mathlib.Core.List.Memᴰ.not-nil q)) m
pages_born ever (vfree_call a) w v m = ⊎_elim (λ q. q) (λ q. absurd (mathlib.Core.List.Memᴰ.not-nil q)) m
pages_born ever (mmap_call hint size prot flags) (Ok a) v m =
    ⊎_elim (λ q. mathlib.Core.List.Memᴰ.append_right (pages_from a (round_up 12 size / 4096)) q)
    (λ q. mathlib.Core.List.Memᴰ.append_left ever (⊎_elim (λ x. x) (λ x. absurd (mathlib.Core.List.Memᴰ.not-nil x)) (mathlib.Core.List.Memᴰ.append_cases (pages_from a (round_up 12 size / 4096)) q))) m
pages_born ever (mmap_call hint size prot flags) (Err e) v m = ⊎_elim (λ q. q) (λ q. absurd (mathlib.Core.List.Memᴰ.not-nil q)) m
pages_born ever (munmap_call a size) w v m = ⊎_elim (λ q. q) (λ q. absurd (mathlib.Core.List.Memᴰ.not-nil q)) m

ever_pages : (es : List Event) (ever : List ℕ) (v : ℕ) → Memᴰ v (ever_from ever es) → Memᴰ v ever ⊎ Memᴰ v (concat pages_of (ever_live es))
unfolding ever_live
ever_pages [] ever v m = inl m
ever_pages (e ∷ es) ever v m =
    ⊎_elim
    (λ q. ⊎_elim (λ x. inl x) (λ x. inr (rw (concat_append pages_of (born_by e.call e.answer) (ever_live es)) (mathlib.Core.List.Memᴰ.append_left (concat pages_of (ever_live es)) x))) (born_pages ever e.call e.answer v q))
    (λ q. inr (rw (concat_append pages_of (born_by e.call e.answer) (ever_live es)) (mathlib.Core.List.Memᴰ.append_right (concat pages_of (born_by e.call e.answer)) q)))
    (ever_pages es (ever_step ever e.call e.answer) v m)

pages_ever : (es : List Event) (ever : List ℕ) (v : ℕ) → Memᴰ v ever ⊎ Memᴰ v (concat pages_of (ever_live es)) → Memᴰ v (ever_from ever es)
unfolding ever_live concat
pages_ever [] ever v m = ⊎_elim (λ q. q) (λ q. absurd (mathlib.Core.List.Memᴰ.not-nil q)) m
pages_ever (e ∷ es) ever v m =
    pages_ever es (ever_step ever e.call e.answer) v
    (⊎_elim (λ q. inl (pages_born ever e.call e.answer v (inl q)))
    (λ q. ⊎_elim (λ x. inl (pages_born ever e.call e.answer v (inr x))) (λ x. inr x)
    (mathlib.Core.List.Memᴰ.append_cases (concat pages_of (born_by e.call e.answer)) (rw (concat_append pages_of (born_by e.call e.answer) (ever_live es)) at q))) m)

-- ---- runs of leading indices

runs_to_lem : (n : ℕ) (q p : List ℕ) → Memᴰ p (runs_to n q) → (j : ℕ) × (1 ≤ j) × (j ≤ n) × (p ≡ take j q)
unfolding runs_to
runs_to_lem zero q p m = absurd (mathlib.Core.List.Memᴰ.not-nil m)
runs_to_lem (suc n) q p m =
    ⊎_elim (λ i. let r = runs_to_lem n q p i in (r.0, r.1, omega (arith, r.2), r.3))
    (λ i. (suc n, omega arith, omega arith, ⊎_elim (λ e. e) (λ x. absurd (mathlib.Core.List.Memᴰ.not-nil x)) (mathlib.Core.List.Memᴰ.cases_cons i))) (mathlib.Core.List.Memᴰ.append_cases (runs_to n q) m)

to_runs : (n : ℕ) (q : List ℕ) (j : ℕ) → 1 ≤ j → j ≤ n → Memᴰ (take j q) (runs_to n q)
unfolding runs_to
to_runs zero q j ge le = absurd (omega arith)
to_runs (suc n) q j ge le = by (ℕ_discrete j (suc n)) (to_runs n q j ge)
  where
    by : Dec (j ≡ suc n) → (j ≤ n → Memᴰ (take j q) (runs_to n q)) → Memᴰ (take j q) (runs_to n q ++ (take (suc n) q ∷ []))
    by (yes e) more = mathlib.Core.List.Memᴰ.append_right (runs_to n q) (mathlib.Core.List.Memᴰ.head (ap (λ (x : ℕ). take x q) e))
    by (no d) more = mathlib.Core.List.Memᴰ.append_left (take (suc n) q ∷ []) (more (omega arith))

-- those of a page are the leading runs of the indices above its last, but the empty one
run_lead : (up v : ℕ) (p : List ℕ) → Memᴰ p (runs_of (suc up) v) → Leads p (upper up v) × (1 ≤ length p)
run_lead up v p m =
    let r = runs_to_lem _ (indices (suc up) v) p m in
    let j = r.0 in (
      subst (λ (x : List ℕ). Leads x (upper up v)) (sym (r.3 ∙ sym (take-take j up (indices (suc up) v) (omega (arith, r.2))))) (take_leads j (upper up v)),
      omega (arith, r.1, r.2, ap length r.3, length-take j (indices (suc up) v), length_indices (suc up) v),
    )

lead_run : (up v : ℕ) (p : List ℕ) → Leads p (upper up v) → 1 ≤ length p → Memᴰ p (runs_of (suc up) v)
lead_run up v p d ge =
    let le : length p ≤ up = omega (arith, leads_length d, length_upper up v) in
    subst (λ (x : List ℕ). Memᴰ x (runs_of (suc up) v)) (sym (leads_take d ∙ take-take (length p) up (indices (suc up) v) le))
    (to_runs _ (indices (suc up) v) (length p) ge (omega arith))

-- ---- a board with no live region

module _ {up : ℕ} {x : Board} {k : List VMRegion} {u : List MappedRegion} (es : List Event) (h : Inv up nothing_left x k u []) (t : Tidy up x k (ever_from [] es)) where
  none_live : Live x.mem x.root up []
  none_live = h.paged.live

  ordered : Ordered x.mem x.root (suc up)
  ordered = h.paged.account.order

  -- its page tables are the leading runs
  table_run : (p : List ℕ) (f : ℕ) → 1 ≤ length p → length p ≤ up → reach_in x.mem x.root p ≡ Ok f → Memᴰ p (leading_runs (suc up) es)
  table_run p f ge le r =
      let w = t.tabled.tables p f ge le r in
      let v : Memᴰ w.0 (concat pages_of (ever_live es)) = ⊎_elim (λ q. absurd (mathlib.Core.List.Memᴰ.not-nil q)) (λ q. q) (ever_pages es [] w.0 w.1) in
      member_concat (runs_of (suc up)) p w.0 (concat pages_of (ever_live es)) v (lead_run up w.0 p w.2 ge)

  run_table : (p : List ℕ) → Memᴰ p (leading_runs (suc up) es) → (f : ℕ) × (reach_in x.mem x.root p ≡ Ok f) × (1 ≤ length p) × (length p ≤ up)
  run_table p m =
      let c = concat_member (runs_of (suc up)) p (concat pages_of (ever_live es)) m in
      let d = run_lead up c.0 p c.2 in
      let w = t.tabled.runs c.0 (pages_ever es [] c.0 (inr c.1)) p d.0 in
      (w.0, w.1, d.1, omega (arith, leads_length d.0, length_upper up c.0))

  -- no whole path is reached
  no_page : (p : List ℕ) (f : ℕ) → length p ≡ suc up → reach_in x.mem x.root p ≡ Ok f → ⊥
  no_page p f e r = mathlib.Core.List.Memᴰ.not-nil (none_live.only p f e r).1

  -- the root and the tables are all that is reached
  all_reached : (p : List ℕ) (f : ℕ) → length p ≤ suc up → reach_in x.mem x.root p ≡ Ok f → Memᴰ p ([] ∷ different (leading_runs (suc up) es))
  all_reached [] f le r = mathlib.Core.List.Memᴰ.head refl
  all_reached (i ∷ p) f le r = mathlib.Core.List.Memᴰ.tail (different_all (i ∷ p) (leading_runs (suc up) es) (by (ℕ_discrete (length (i ∷ p)) (suc up))))
    where
      by : Dec (length (i ∷ p) ≡ suc up) → Memᴰ (i ∷ p) (leading_runs (suc up) es)
      by (yes e) = absurd (no_page (i ∷ p) f e r)
      by (no d) = table_run (i ∷ p) f (omega arith) (omega arith) r

  each_reached : (p : List ℕ) → Memᴰ p ([] ∷ different (leading_runs (suc up) es)) → (f : ℕ) × (length p ≤ suc up) × (reach_in x.mem x.root p ≡ Ok f)
  unfolding reach
  each_reached p m =
      ⊎_elim (λ e. (x.root, omega (arith, ap length e), ap (reach_in x.mem x.root) e))
      (λ q. let w = run_table p (different_from p (leading_runs (suc up) es) q) in (w.0, omega (arith, w.3), w.1)) (mathlib.Core.List.Memᴰ.cases_cons m)

  once_each : (l : List (List ℕ)) → Once l → Nodup l
  once_each [] o = Nodup-nil
  once_each (p ∷ l) o = Nodup-cons.1 ((λ m. ∥∥₁_elim m ⊥_prop o.0), once_each l o.1)

  nil_new : Memᴰ [] (different (leading_runs (suc up) es)) → ⊥
  nil_new m = let w = run_table [] (different_from [] (leading_runs (suc up) es) m) in omega (arith, w.2)

  pub counter_is : x.mem.frames.fa.allocated ≡ 1 + length (different (leading_runs (suc up) es))
  counter_is =
      counter_paths h.paged.account ([] ∷ different (leading_runs (suc up) es)) (once_each _ (nil_new, different_once (leading_runs (suc up) es))) each_reached all_reached
      ∙ omega arith

  pub root_kept : mark_in x.mem x.root ≡ 1
  root_kept = root_marked ordered

  pub other_marked : (f : ℕ) → f < total_of x.mem → marked x.mem.frames.bits f ≡ 1 → (f ≡ 0) ⊎ PageTable (suc up) x (start_frame x.mem + f)
  unfolding reach
  other_marked f lt mark =
      let back : start_frame x.mem + f - start_frame x.mem ≡ f = omega arith in
      let r = tables_only none_live h.paged.account (start_frame x.mem + f)
      (inside_yes (start_frame x.mem) (total_of x.mem) (start_frame x.mem + f) (omega arith) (omega arith)) (ap (marked x.mem.frames.bits) back ∙ mark) in
      by r.path r.short r.comes
    where
      by : (p : List ℕ) → length p ≤ up → reach_in x.mem x.root p ≡ Ok (start_frame x.mem + f) → (f ≡ 0) ⊎ PageTable (suc up) x (start_frame x.mem + f)
      by [] le e = let q : x.root ≡ start_frame x.mem + f = cc in inl (omega (arith, h.first))
      by (i ∷ p) le e = inr (record { path = i ∷ p; proper = omega arith; above = omega arith; reached = e })

nothing : (r s : ℕ) → r ≡ s → 0 ≡ r - s
nothing r s e = omega arith

-- ---- the theorem

-- an end is one with no live region
ended : {up : ℕ} {x : Board} {k : List VMRegion} {u : List MappedRegion} (es : List Event) → Inv up nothing_left x k u [] → Tidy up x k (ever_from [] es)
    → (never_cut es ≡ true → k ≡ window ∷ []) → Ended (suc up) es x
ended {up} {x} es g d whole =
    let tree = g.paged.account.order.tree in
    record {
      as_started = g.paged.account.order.levels;
      no_address = λ v. silent (none_live es g d) g.paged.account.order g.paged.plain v;
      root_first = g.first;
      root_marked = ap (marked x.mem.frames.bits) (nothing _ _ g.first) ∙ root_kept es g d;
      tables_marked = λ f t.
          let ins = tree.into t.path f (omega (arith, t.above)) t.reached in
          let from = inside_from (start_frame x.mem) (total_of x.mem) f ins in
          (from, omega (arith, from, inside_under (start_frame x.mem) (total_of x.mem) f ins), tree.kept t.path f (omega (arith, t.above)) t.reached);
      no_other_marked = other_marked es g d;
      counter = counter_is es g d;
      run_has_table = λ p m. let t = run_table es g d p (among_member p (leading_runs (suc up) es) m) in (t.0, t.1);
      table_has_run = λ f t. member_among t.path (leading_runs (suc up) es) (table_run es g d t.path f t.proper (omega (arith, t.above)) t.reached);
      one_run_each = λ f t t'. tree.once t.path t'.path f (omega (arith, t.above)) (omega (arith, t'.above)) t.reached t'.reached;
      root_no_table = λ t.
          let q = tree.once t.path [] x.root (omega (arith, t.above)) (omega arith) t.reached (reach_end x.mem.words (start_frame x.mem) (total_of x.mem) x.root refl) in
          omega (arith, ap length q, t.proper);
      one_window = λ q. g.kernel_is ∙ ap (filled no_vm_region) (whole q);
    }

pub demand3 : Demand3
demand3 zero old fresh from to st cs ne lr rs rs' o o' = absurd (some_levels old fresh from to st)
demand3 (suc up) old fresh from to st cs ne lr rs rs' o o' =
    let es = events fresh cs in
    let start = fresh_inv old fresh from to up st in
    let r = run_inv cs start ne in
    let e = order_end r.1 o in
    let t = ended_tidy r.1 (run_tidy cs start (fresh_tidy old fresh from to up st) ne) o.0 in
    record {
      met = e.met;
      same = one_board r.1 o o';
      ended = subst (Ended (suc up) es) (sym e.leaves) (ended es e.inv t (λ q.
          one_window e.inv.kernel_list t.apart (whole_end o.0 (book es) (whole_run cs start ne q whole_window))));
    }

-- .. for each kind of board to cite
pub four : Demand3At 4
four = demand3 4

pub five : Demand3At 5
five = demand3 5

pub book_holds : BookHolds
book_holds old fresh from to zero st cs ne = absurd (some_levels old fresh from to st)
book_holds old fresh from to (suc up) st cs ne =
    ap listed (run_inv cs (fresh_inv old fresh from to up st) ne).1.kernel_is ∙ listed_filled no_vm_region (book (events fresh cs))

rows_rise : (lo hi : ℕ) (l : List VMRegion) → Rows lo hi l → parts_rise lo l ≡ true
unfolding parts_rise
rows_rise lo hi [] h = refl
rows_rise lo hi (r ∷ l) h = rw (le-leb lo r.start h.0.from) (rows_rise (r.start + r.size) hi l h.1)

pub book_rises : BookRises
book_rises old fresh from to zero st cs ne = absurd (some_levels old fresh from to st)
book_rises old fresh from to (suc up) st cs ne =
    let r = (run_inv cs (fresh_inv old fresh from to up st) ne).1.kernel_list.rows in
    rows_rise 0 window_end (book (events fresh cs)) (rows_earlier 0 window_start window_end (book (events fresh cs)) (omega arith) r)
