-- A run of pages that is turned away with 11 or 13, on a board of up levels above the last: the pages before the one that it stops at were had, and with 13 a frame more
-- was taken. Left as they are those pages are stranded; cleared, as a refused mmap does it with 13, their frames are lost.
use Prim.Native.Nat.{ℕ, zero, suc, ◌+◌, ◌*◌, ◌^◌, ◌<◌}
use mathlib.Core.Path.{◌≡◌, refl, sym, ◌∙◌, ap, subst}
use mathlib.Core.Bool.{Bool}
use mathlib.Core.Logic.{◌⊎◌, inl, inr, ⊎_elim}
use mathlib.Core.List.Memᴰ
use mathlib.Core.List.Perm
use mathlib.Core.List.Permᴰ
use mathlib.Core.List.{List, [], ◌∷◌, ◌++◌, append_assoc, Memᴰ, rel_of_Pairwise-cons, Permᴰ}
use native.Mathlib.Omega.{arith}
use lib.ListN.{length, drop, length-append}
use lib.Seq.{drop-length, drop-append_seam}
use Rattle.std.specs.Prelude.{Ok, Err, Result}
use Rattle.answer.specs.declared.Refusal.{Refusal}
use Rattle.answer.specs.declared.Refusal.TheVariants.{NoFreeFrame, MapPageFailed}
use Rattle.address.specs.declared.Frame.{Frame}
use Rattle.bitmap.specs.Bitmap.{marked}
use Rattle.entry.specs.Entry.{entry_of}
use Rattle.frame.specs.Frames.{FramesDid}
use Rattle.frame.proofs.Laws.{take_cases}
use Rattle.paging.specs.Map.{Memory, start_frame, total_of, Out, out, go_on}
use Rattle.paging.specs.Calls.{map_at}
use Rattle.paging.specs.Pages.{zeroed, fresh_frame, or_failed, map_fresh, Ran, map_pages, clear_page, clear_pages}
use Rattle.tree.proofs.Paths.{leads_length, path, length_path, length_upper}
use Rattle.tree.proofs.Walks.{nowhere}
use Rattle.tree.proofs.Ordered.{reach_in, Ordered}
use Rattle.tree.proofs.Taken.{Took, Lost, map_frame, frame_took, frame_lost}
use Rattle.tree.proofs.Accounts.{Accounted, lost_accounted}
use Rattle.tree.proofs.Books.{Takes, none, more, takes_plain, takes_accounted, takes_live, Live, cut_live, perm_member}
use Rattle.tree.proofs.Freeing.{way_to, clear_cut, clear_accounted}
use Rattle.tree.proofs.Runs.{run, map_pages_on, map_pages_stop}
use Rattle.release.specs.Demand3.{pages_from}
use Rattle.release.proofs.Paged.{Paged, run_is, takes_start}

-- ---- the frames that a run takes

-- the frame that a step came to
abbrev pub frame_at : Result ℕ Refusal → List ℕ
frame_at (Ok f) = f ∷ []
frame_at (Err e) = []

-- what follows a page that was had
abbrev pub once_met : Result ℕ Refusal → List ℕ → List ℕ
once_met (Ok x) l = l
once_met (Err e) l = []

-- the frames that a run of n pages from v on takes for its pages, in their order, that of the page it stops at included
unfoldable pub frames_taken : ℕ → Bool → Bool → Memory → ℕ → ℕ → ℕ → List ℕ
frames_taken up w u m root v zero = []
frames_taken up w u m root v (suc n) =
    frame_at (fresh_frame m).walked
    ++ once_met (map_fresh up w u m root v).walked (frames_taken up w u (map_fresh up w u m root v).mem root (v + 4096) n)

-- the three outcomes of a page, with the frame that it takes
module _ {m : Memory} {root up : ℕ} (o : Ordered m root (suc up)) (w u : Bool) (v : ℕ) where
  pub page_cases : (P : Out → List ℕ → Type 0) → P (out (Err NoFreeFrame) m) []
      → ((f : ℕ) (m' : Memory) → Lost m root up v f m' → P (out (Err MapPageFailed) m') (f ∷ []))
      → ((f x : ℕ) (m' : Memory) → Took m root up v f m' → P (out (Ok x) m') (f ∷ [])) → P (map_fresh up w u m root v) (frame_at (fresh_frame m).walked)
  unfolding map_fresh fresh_frame
  page_cases P full fails met =
      take_cases m.frames
      (λ (d : FramesDid (Result Frame Refusal)). P (go_on (zeroed m d.answer d.frames) (λ f m'.
      let r = map_at up up u m' root v (entry_of (f * 2 ^ 12) w u) in out (or_failed r.walked) r.mem)) (frame_at (zeroed m d.answer d.frames).walked))
      (λ j lt free _. by j lt free (map_frame up w u m root v j).walked refl)
      (λ _. full)
    where
      by : (j : ℕ) (lt : j < total_of m) (free : marked m.frames.bits j ≡ 0) (x : Result ℕ Refusal) → (map_frame up w u m root v j).walked ≡ x
          → P (out (or_failed (map_frame up w u m root v j).walked) (map_frame up w u m root v j).mem) ((start_frame m + j) ∷ [])
      by j lt free (Ok x) h = rw h (met (start_frame m + j) x _ (frame_took o w u v j lt free x h))
      by j lt free (Err a) h = rw h (fails (start_frame m + j) _ (frame_lost o w u v j lt free a h))

  -- .. by what it came to
  pub page_met : (x : ℕ) → (map_fresh up w u m root v).walked ≡ Ok x → (f : ℕ) × Took m root up v f (map_fresh up w u m root v).mem × (frame_at (fresh_frame m).walked ≡ f ∷ [])
  page_met x =
      page_cases (λ (r : Out) (fs : List ℕ). r.walked ≡ Ok x → (f : ℕ) × Took m root up v f r.mem × (fs ≡ f ∷ []))
      (λ h. absurd (nowhere h)) (λ f m' l h. absurd (nowhere h)) (λ f y m' t h. (f, t, refl))

  pub page_stops : (e : Refusal) → (map_fresh up w u m root v).walked ≡ Err e
      → ((e ≡ NoFreeFrame) × ((map_fresh up w u m root v).mem ≡ m) × (frame_at (fresh_frame m).walked ≡ []))
      ⊎ ((e ≡ MapPageFailed) × ((f : ℕ) × Lost m root up v f (map_fresh up w u m root v).mem × (frame_at (fresh_frame m).walked ≡ f ∷ [])))
  page_stops e =
      page_cases (λ (r : Out) (fs : List ℕ). r.walked ≡ Err e
      → ((e ≡ NoFreeFrame) × (r.mem ≡ m) × (fs ≡ [])) ⊎ ((e ≡ MapPageFailed) × ((f : ℕ) × Lost m root up v f r.mem × (fs ≡ f ∷ []))))
      (λ h. inl (cc, refl, refl)) (λ f m' l h. inr (cc, (f, l, refl))) (λ f y m' t h. absurd (nowhere (sym h)))

module _ (up : ℕ) (w u : Bool) (m : Memory) (root v n : ℕ) where
  taken_on : (x : ℕ) → (map_fresh up w u m root v).walked ≡ Ok x
      → frames_taken up w u m root v (suc n) ≡ frame_at (fresh_frame m).walked ++ frames_taken up w u (map_fresh up w u m root v).mem root (v + 4096) n
  unfolding frames_taken
  taken_on x h = rw h

  taken_stop : (e : Refusal) → (map_fresh up w u m root v).walked ≡ Err e → frames_taken up w u m root v (suc n) ≡ frame_at (fresh_frame m).walked ++ []
  unfolding frames_taken
  taken_stop e h = rw h

-- ---- how it stops

-- each page of a list is mapped to its frame in another
pub data Homes (m : Memory) (root up : ℕ) : List ℕ → List ℕ → Type 0 where
  nowhere_yet : Homes m root up [] []
  home : {v f : ℕ} {l fs : List ℕ} → reach_in m root (path up v) ≡ Ok f → Homes m root up l fs → Homes m root up (v ∷ l) (f ∷ fs)

-- i pages were had, for the frames of `homes`, which led to `kept`; then 11 and no more, or 13 and a frame that nothing reaches
pub record Stopped (up : ℕ) (m : Memory) (root v i : ℕ) (e : Refusal) (taken : List ℕ) (m' : Memory) : Type 0 where
  pub kept : Memory
  pub frames : List ℕ
  pub takes : Takes root up m (run v i) kept
  pub homes : Homes kept root up (run v i) frames
  pub ends : ((e ≡ NoFreeFrame) × (m' ≡ kept) × (taken ≡ frames)) ⊎ ((e ≡ MapPageFailed) × ((x f : ℕ) × Lost kept root up x f m' × (taken ≡ frames ++ (f ∷ []))))

-- what was reached stays so
takes_stay : {root up : ℕ} {m m' : Memory} {l : List ℕ} → Takes root up m l m' → (v f : ℕ) → reach_in m root (path up v) ≡ Ok f → reach_in m' root (path up v) ≡ Ok f
takes_stay none v f h = h
takes_stay {up = up} (more t r) v f h = takes_stay r v f (t.grew.stay (path up v) f (omega (arith, length_path up v)) h)

homes_same : {m m' : Memory} {root up : ℕ} {l fs : List ℕ} → ((v f : ℕ) → Memᴰ v l → reach_in m root (path up v) ≡ Ok f → reach_in m' root (path up v) ≡ Ok f)
    → Homes m root up l fs → Homes m' root up l fs
homes_same stay nowhere_yet = nowhere_yet
homes_same stay (home {v = v} {f = f} h r) = home (stay v f (Memᴰ.head refl) h) (homes_same (λ x g i. stay x g (Memᴰ.tail i)) r)

homes_length : {m : Memory} {root up : ℕ} {l fs : List ℕ} → Homes m root up l fs → length fs ≡ length l
homes_length nowhere_yet = refl
homes_length (home h r) = ap suc (homes_length r)

run_length : (v n : ℕ) → length (run v n) ≡ n
run_length v zero = refl
run_length v (suc n) = ap suc (run_length (v + 4096) n)

-- a page had before
further : {up : ℕ} {m m₁ m' : Memory} {root v i : ℕ} {e : Refusal} {f : ℕ} {fs : List ℕ} → Took m root up v f m₁ → Stopped up m₁ root (v + 4096) i e fs m' → Stopped up m root v (suc i) e (f ∷ fs) m'
further {v = v} {f = f} t s = record {
  kept = s.kept;
  frames = f ∷ s.frames;
  takes = more t s.takes;
  homes = home (takes_stay s.takes v f t.page) s.homes;
  ends = ⊎_elim (λ q. inl (q.0, q.1, ap (λ (l : List ℕ). f ∷ l) q.2)) (λ q. inr (q.0, (q.1.0, q.1.1, q.1.2, ap (λ (l : List ℕ). f ∷ l) q.1.3))) s.ends;
}

abbrev StopsAs : ℕ → Bool → Bool → Memory → ℕ → ℕ → ℕ → ℕ → Refusal → Type 0
StopsAs up w u m root v k n e =
    (i : ℕ) × ((map_pages up w u m root v k n).done ≡ k + i) × Stopped up m root v i e (frames_taken up w u m root v n) (map_pages up w u m root v k n).mem

-- a run of n pages, k of them being mapped already
run_stops : {up : ℕ} (w u : Bool) (n : ℕ) {m : Memory} {root : ℕ} → Ordered m root (suc up) → (v k : ℕ) (e : Refusal) → (map_pages up w u m root v k n).walked ≡ Err e → StopsAs up w u m root v k n e
unfolding map_pages
run_stops w u zero o v k e h = let z : ◌≡◌ {A = ℕ} 0 1 = cc in cc
run_stops {up} w u (suc n) {m} {root} o v k e h = go (map_fresh up w u m root v).walked refl (λ g. run_stops w u n g (v + 4096) (suc k) e)
  where
    go : (y : Result ℕ Refusal) → (map_fresh up w u m root v).walked ≡ y
        → (Ordered (map_fresh up w u m root v).mem root (suc up) → (map_pages up w u (map_fresh up w u m root v).mem root (v + 4096) (suc k) n).walked ≡ Err e
        → StopsAs up w u (map_fresh up w u m root v).mem root (v + 4096) (suc k) n e)
        → StopsAs up w u m root v k (suc n) e
    go (Ok x) q later =
        let p = page_met o w u v x q in
        let on = map_pages_on up w u m root v k n x q in
        let r = later p.1.grew.order (ap (λ (q : Ran). q.walked) (sym on) ∙ h) in
        rw (on, taken_on up w u m root v n x q, p.2) (suc r.0, r.1 ∙ omega arith, further p.1 r.2)
    go (Err a) q later =
        let off = map_pages_stop up w u m root v k n a q in
        let y : ◌≡◌ {A = Result ℕ Refusal} (Err a) (Err e) = ap (λ (q : Ran). q.walked) (sym off) ∙ h in
        let z : a ≡ e = cc in
        rw (off, taken_stop up w u m root v n a q) (
          0,
          omega arith,
          record {
            kept = m;
            frames = [];
            takes = none;
            homes = nowhere_yet;
            ends = ⊎_elim (λ p. inl (sym z ∙ p.0, p.1, ap (λ (l : List ℕ). l ++ []) p.2))
                (λ p. inr (sym z ∙ p.0, (v, p.1.0, p.1.1, ap (λ (l : List ℕ). l ++ []) p.1.2))) (page_stops o w u v a q);
          },
        )

-- a run from its start: its `done` pages were had
pub run_stopped : {up : ℕ} (w u : Bool) (n : ℕ) {m : Memory} {root : ℕ} → Ordered m root (suc up) → (v : ℕ) (e : Refusal) → (map_pages up w u m root v 0 n).walked ≡ Err e
    → Stopped up m root v (map_pages up w u m root v 0 n).done e (frames_taken up w u m root v n) (map_pages up w u m root v 0 n).mem
run_stopped {up} w u n {m} {root} o v e h =
    let r = run_stops w u n o v 0 e h in
    let q : r.0 ≡ (map_pages up w u m root v 0 n).done = omega (arith, r.1) in
    subst (λ (i : ℕ). Stopped up m root v i e (frames_taken up w u m root v n) (map_pages up w u m root v 0 n).mem) q r.2

-- ---- what it leaves

-- a page not had though its frame was: no page is mapped for it
lost_live : {m m' : Memory} {root up v f : ℕ} {l : List ℕ} → Lost m root up v f m' → Live m root up l → Live m' root up l
lost_live {up = up} {v = v} t a = record {
  here = λ x i. let b = a.here x i in (b.0, t.grew.stay (path up x) b.0 (omega (arith, length_path up x)) b.1);
  only = λ p x lp h. ⊎_elim (λ b. a.only p x lp b) (λ b. absurd (omega (arith, leads_length b.0, length_upper up v))) (t.grew.grew p x (omega arith) h);
  apart = a.apart;
}

account_perm : {m : Memory} {root n : ℕ} {lost lost' : List ℕ} → Permᴰ lost lost' → Accounted m root n lost → Accounted m root n lost'
account_perm d c = record {
  order = c.order;
  found = λ f ins mark. ⊎_elim (λ r. inl r) (⊎_elim (λ i. inr (inl (perm_member d i))) (λ z. absurd z)) (c.found f ins mark);
  lent = λ f i. c.lent f (perm_member (Permᴰ.symm d) i);
  mine = λ f i. c.mine f (perm_member (Permᴰ.symm d) i);
  away = λ f i. c.away f (perm_member (Permᴰ.symm d) i);
  once = Perm.nodup ∣ d ∣₁ c.once;
}

module _ {up : ℕ} {m : Memory} {root : ℕ} {pages lost : List ℕ} (h : Paged up m root pages lost) where
  -- the pages that were had
  had : {m₁ : Memory} (v i : ℕ) → Takes root up m (run v i) m₁ → Paged up m₁ root (run v i ++ pages) lost
  had v i t = record { account = takes_accounted t h.account; plain = takes_plain t h.plain; live = takes_live t h.live }

  -- a frame lost
  lost_one : {m' : Memory} {x f : ℕ} → Lost m root up x f m' → Paged up m' root pages (f ∷ lost)
  lost_one t = record { account = lost_accounted h.account t; plain = t.grew.plain h.plain; live = lost_live t h.live }

module _ {up : ℕ} {m m' : Memory} {root v i : ℕ} {e : Refusal} {taken : List ℕ} (s : Stopped up m root v i e taken m') where
  long : length s.frames ≡ i
  long = homes_length s.homes ∙ run_length v i

  -- the run took a frame for each page that was had, and with 13 one more
  pub taken_full : e ≡ NoFreeFrame → length taken ≡ i
  taken_full n = ⊎_elim (λ q. ap length q.2 ∙ long) (λ q. let z : NoFreeFrame ≡ MapPageFailed = sym n ∙ q.0 in cc) s.ends

  pub taken_failed : e ≡ MapPageFailed → length taken ≡ i + 1
  taken_failed n =
      ⊎_elim (λ q. let z : MapPageFailed ≡ NoFreeFrame = sym n ∙ q.0 in cc)
      (λ q. ap length q.1.3 ∙ length-append s.frames (q.1.1 ∷ []) ∙ omega (arith, long)) s.ends

  -- behind the frames of the pages that were had the run took none, or one
  no_more : taken ≡ s.frames → drop i taken ≡ []
  no_more q = ap (drop i) q ∙ ap (λ (n : ℕ). drop n s.frames) (sym long) ∙ drop-length s.frames

  one_more : (f : ℕ) → taken ≡ s.frames ++ (f ∷ []) → drop i taken ≡ f ∷ []
  one_more f q = ap (drop i) q ∙ ap (λ (n : ℕ). drop n (s.frames ++ (f ∷ []))) (sym long) ∙ drop-append_seam s.frames (f ∷ [])

  -- 11, and a vmalloc's 13: the pages before stay mapped, and what the run took behind their frames is lost
  pub stopped_stranded : {pages lost : List ℕ} → Paged up m root pages lost → Paged up m' root (pages_from v i ++ pages) (drop i taken ++ lost)
  stopped_stranded {pages} {lost} h =
      subst (λ (l : List ℕ). Paged up m' root (l ++ pages) (drop i taken ++ lost)) (run_is v i)
      (⊎_elim (λ q. rw (q.1, no_more q.2) (had h v i s.takes)) (λ q. rw (one_more q.1.1 q.1.3) (lost_one (had h v i s.takes) q.1.2)) s.ends)

  -- with 11 that is nothing
  pub stopped_full : {pages lost : List ℕ} → e ≡ NoFreeFrame → Paged up m root pages lost → Paged up m' root (pages_from v i ++ pages) lost
  stopped_full {pages} {lost} n h =
      subst (λ (l : List ℕ). Paged up m' root (l ++ pages) lost) (run_is v i)
      (⊎_elim (λ q. rw q.1 (had h v i s.takes)) (λ q. let z : NoFreeFrame ≡ MapPageFailed = sym n ∙ q.0 in cc) s.ends)

-- ---- pages cleared: their frames are lost

clear_lost : {up root : ℕ} (v n : ℕ) {m : Memory} {fs pages lost : List ℕ} → Homes m root up (run v n) fs → Paged up m root (run v n ++ pages) lost
    → Paged up (clear_pages up m root v n) root pages (fs ++ lost)
unfolding clear_pages
clear_lost v zero nowhere_yet h = h
clear_lost {up} {root} v (suc n) {m} {pages = pages} {lost = lost} (home {f = f} {fs = fs} r s) h =
    let t = way_to up m root v f r in
    let c = clear_cut h.account.order v t.0 f t.1 r in
    let p = clear_lost (v + 4096) n (homes_same (λ x g i k. c.rest (path up x) (omega (arith, length_path up x)) (other x i) ∙ k) s) (record {
      account = clear_accounted h.account v t.0 f t.1 r;
      plain = c.plain h.plain;
      live = cut_live c h.live;
    }) in
    record { account = account_perm (Permᴰ.middle f fs lost) p.account; plain = p.plain; live = p.live }
  where
    other : (x : ℕ) → Memᴰ x (run (v + 4096) n) → path up x ≡ path up v → ⊥
    other x i e = rel_of_Pairwise-cons h.live.apart ∣ Memᴰ.append_left pages i ∣₁ (sym e)

pub clear_start : (up : ℕ) (m : Memory) (root v n : ℕ) → start_frame (clear_pages up m root v n) ≡ start_frame m
unfolding clear_pages clear_page
clear_start up m root v zero = refl
clear_start up m root v (suc n) = clear_start up (clear_page up m root v) root (v + 4096) n

-- an mmap's 13: the pages before are cleared, and all frames that the run took are lost
pub stopped_cleared : {up : ℕ} {m m' : Memory} {root v i : ℕ} {e : Refusal} {taken pages lost : List ℕ} → Stopped up m root v i e taken m' → e ≡ MapPageFailed → Paged up m root pages lost
    → Paged up (clear_pages up m' root v i) root pages (taken ++ lost)
stopped_cleared {up} {m} {m'} {root} {v} {i} {e} {taken} {pages} {lost} s n h = ⊎_elim (λ q. let z : MapPageFailed ≡ NoFreeFrame = sym n ∙ q.0 in cc) failed s.ends
  where
    failed : (e ≡ MapPageFailed) × ((x f : ℕ) × Lost s.kept root up x f m' × (taken ≡ s.frames ++ (f ∷ []))) → Paged up (clear_pages up m' root v i) root pages (taken ++ lost)
    failed q =
        let f = q.1.1 in
        let t = q.1.2 in
        let all : taken ++ lost ≡ s.frames ++ (f ∷ lost) = ap (λ (l : List ℕ). l ++ lost) q.1.3 ∙ append_assoc s.frames (f ∷ []) lost in
        rw all (clear_lost v i (homes_same (λ x g _ k. t.grew.stay (path up x) g (omega (arith, length_path up x)) k) s.homes) (lost_one (had h v i s.takes) t))

-- the frames start where they did
pub stopped_start : {up : ℕ} {m m' : Memory} {root v i : ℕ} {e : Refusal} {taken : List ℕ} → Stopped up m root v i e taken m' → start_frame m' ≡ start_frame m
stopped_start s = ⊎_elim (λ q. ap start_frame q.1 ∙ takes_start s.takes) (λ q. q.1.2.grew.start ∙ takes_start s.takes) s.ends
