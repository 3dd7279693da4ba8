-- How the two region lists and the live regions go together, step by step.
use Prim.Native.Nat.{ℕ, ◌+◌, ◌-◌, ◌%◌, ◌<◌, ◌≤◌}
use mathlib.Core.Path.{◌≡◌, refl, sym, ◌∙◌, ap, subst}
use mathlib.Core.Bool.{Bool, true, false, not, true≢false}
use mathlib.Core.Logic.{⊎_elim}
use mathlib.Core.List.Memᴰ
use mathlib.Core.List.Permᴰ
use mathlib.Core.List.{List, [], ◌∷◌, Memᴰ, Permᴰ}
use native.Mathlib.Omega.{arith}
use native.Mathlib.Decide.{ℕ_discrete}
use lib.IntN.{ℤ}
use lib.Dec.{eqb, leb, ltb}
use lib.ListN.{length}
use borrow.Author.Tests.{eqb-true, eqb-false, ltb-true, not-true}
use Rattle.std.specs.Prelude.{Ok, Err, Result}
use Rattle.answer.specs.declared.Refusal.{Refusal}
use Rattle.answer.specs.declared.Refusal.TheVariants.{RegionNotFound}
use Rattle.bits.specs.Bit.{pick, both}
use Rattle.bits.proofs.Choice.{both_true, both_false}
use Rattle.regions.specs.declared.VMRegion.{VMRegion}
use Rattle.regions.specs.Regions.{window_start, window_end, fits, first_fit, behind, take_first, taken, used_size, merge}
use Rattle.regions.specs.Regions.{vm_region}
use Rattle.regions.proofs.Merge.{freed_all}
use Rattle.regions.proofs.Rows.{Rows, rows_taken, taken_few, length_taken, rows_freed, length_freed, rows_merge, length_merge}
use Rattle.regions.proofs.Used.{used_merge, used_freed, used_gone, taken_used, taken_was_free, taken_others}
use Rattle.mappings.specs.declared.MappedRegion.{MappedRegion}
use Rattle.mappings.specs.Regions.{mapped_region, start_key, starts, holds, insert, remove}
use Rattle.regions.proofs.Placed.{Placed}
use Rattle.mappings.proofs.Rising.{Rising, rising_insert, holds_inserted, holds_others, holds_none, holds_one, rising_remove, holds_removed, holds_kept}
use Rattle.slots.proofs.Sorted.{length_insert, length_remove}
use Rattle.release.specs.Demand3.{Region, kernel_region, user_region, drop_kernel, drop_user}
use Rattle.release.proofs.Lists.{Once}

-- the kernel's list k, and the live regions l of the kernel
pub record KernelList (k : List VMRegion) (l : List Region) : Type 0 where
  pub rows : Rows window_start window_end k
  pub few : length k ≤ 256
  pub used : (a n : ℕ) → used_size a k ≡ Ok n → Memᴰ (kernel_region a n) l
  pub live : (a n : ℕ) → Memᴰ (kernel_region a n) l → used_size a k ≡ Ok n

-- the user's list u, and the live regions l of the user
pub record UserList (u : List MappedRegion) (l : List Region) : Type 0 where
  pub rising : Rising 0 u
  pub few : length u ≤ 256
  pub held : (a n : ℕ) → holds a n u ≡ true → Memᴰ (user_region a n) l
  pub live : (a n : ℕ) → Memᴰ (user_region a n) l → holds a n u ≡ true

-- regions differ by kind, start and size
pub kernel_start : {a b n m : ℕ} → kernel_region a n ≡ kernel_region b m → a ≡ b
kernel_start e = cc

kernel_size : {a b n m : ℕ} → kernel_region a n ≡ kernel_region b m → n ≡ m
kernel_size e = cc

user_start_lem : {a b n m : ℕ} → user_region a n ≡ user_region b m → a ≡ b
user_start_lem e = cc

user_size : {a b n m : ℕ} → user_region a n ≡ user_region b m → n ≡ m
user_size e = cc

pub two_kinds : {a b n m : ℕ} → kernel_region a n ≡ user_region b m → ⊥
two_kinds e = let z : ◌≡◌ {A = ℕ} 0 1 = cc in omega arith

pub not_both : {w : Result ℕ Refusal} {x : ℕ} {y : Refusal} → w ≡ Ok x → w ≡ Err y → ⊥
not_both e f = let z : ◌≡◌ {A = ℕ} 0 1 = cc in omega arith

pub same_at : {w : Result ℕ Refusal} {x y : ℕ} → w ≡ Ok x → w ≡ Ok y → x ≡ y
same_at e f = cc

-- ---- the kernel's list

-- a region of n bytes is taken at a
pub kernel_take : (a n : ℕ) {k : List VMRegion} {l : List Region} → n % 4096 ≡ 0 → 0 < n → KernelList k l → first_fit n k ≡ Ok a
    → KernelList (take_first true n (ltb (length k) 256) k) (kernel_region a n ∷ l)
kernel_take a n {k} {l} full pos h f = record {
  rows = rows_taken true n room full pos window_start window_end k h.rows;
  few = short room refl;
  used = λ b m e. by b m e (ℕ_discrete b a);
  live = λ b m e. ⊎_elim
      (λ q. subst (λ (x : ℕ). used_size x (take_first true n room k) ≡ Ok m) (sym (kernel_start q))
      (taken_used n room a window_start window_end k h.rows f ∙ ap Ok (sym (kernel_size q))))
      (λ q. taken_others n room true a b k f (λ d. not_both (subst (λ (x : ℕ). used_size x k ≡ Ok m) d (h.live b m q)) (taken_was_free n room a window_start window_end k h.rows f)) ∙ h.live b m q)
      (Memᴰ.cases_cons e);
}
  where
    room : Bool
    room = ltb (length k) 256

    short : (y : Bool) → ltb (length k) 256 ≡ y → length (take_first true n y k) ≤ 256
    short true e = omega (arith, length_taken true n true k, ltb-true (length k) 256 e)
    short false e = omega (arith, length_taken true n false k, h.few)

    by : (b m : ℕ) → used_size b (take_first true n room k) ≡ Ok m → Dec (b ≡ a) → Memᴰ (kernel_region b m) (kernel_region a n ∷ l)
    by b m e (yes d) =
        let z : m ≡ n = same_at (subst (λ (x : ℕ). used_size x (take_first true n room k) ≡ Ok m) d e) (taken_used n room a window_start window_end k h.rows f) in
        let q : kernel_region b m ≡ kernel_region a n = cc in
        Memᴰ.head q
    by b m e (no d) = Memᴰ.tail (h.used b m (sym (taken_others n room true a b k f d) ∙ e))

-- a region is cut and stays free: what is used is so still
used_cut : (n : ℕ) (room : Bool) (b : ℕ) (l : List VMRegion) → used_size b (take_first false n room l) ≡ used_size b l
unfolding take_first used_size
used_cut n room b [] = refl
used_cut n room b (r ∷ l) = by (fits n r) refl (used_cut n room b l)
  where
    rest : (x : Bool) → used_size b (pick x (vm_region (r.start + n) (r.size - n) false ∷ l) l) ≡ used_size b l
    rest true = rw (both_false (eqb (r.start + n) b))
    rest false = refl

    by : (x : Bool) → fits n r ≡ x → used_size b (take_first false n room l) ≡ used_size b l
        → used_size b (pick x (vm_region r.start n false ∷ behind n room r l) (r ∷ take_first false n room l)) ≡ used_size b (r ∷ l)
    by true f later =
        let free : r.used ≡ false = not-true r.used (both_true (not r.used) (leb n r.size) f).0 in
        rw (free, both_false (eqb r.start b)) (rest (both room (ltb n r.size)))
    by false f later = ap (pick (both (eqb r.start b) r.used) (Ok r.size)) later

pub kernel_cut : (n : ℕ) {k : List VMRegion} {l : List Region} → n % 4096 ≡ 0 → 0 < n → KernelList k l → KernelList (taken false n k) l
kernel_cut n {k} {l} full pos h = record {
  rows = rows_taken false n (ltb (length k) 256) full pos window_start window_end k h.rows;
  few = taken_few false n k h.few;
  used = λ b m e. h.used b m (sym (used_cut n (ltb (length k) 256) b k) ∙ e);
  live = λ b m e. used_cut n (ltb (length k) 256) b k ∙ h.live b m e;
}

-- the region at a is released
pub kernel_give : (a n : ℕ) {k : List VMRegion} {l : List Region} → KernelList k (kernel_region a n ∷ l) → Once (kernel_region a n ∷ l) → KernelList (merge (freed_all a k)) l
kernel_give a n {k} {l} h o = record {
  rows = rows_merge window_start window_end (freed_all a k) (rows_freed a window_start window_end k h.rows);
  few = omega (arith, length_merge (freed_all a k), length_freed a k, h.few);
  used = λ b m e. by b m e (ℕ_discrete b a);
  live = λ b m e. used_merge b (freed_all a k) ∙ used_freed a b k (other b m e) ∙ h.live b m (Memᴰ.tail e);
}
  where
    other : (b m : ℕ) → Memᴰ (kernel_region b m) l → b ≡ a → ⊥
    other b m e d =
        let s : m ≡ n = same_at (subst (λ (x : ℕ). used_size x k ≡ Ok m) d (h.live b m (Memᴰ.tail e))) (h.live a n (Memᴰ.head refl)) in
        o.0 (subst (λ (x : Region). Memᴰ x l) (cc) e)

    by : (b m : ℕ) → used_size b (merge (freed_all a k)) ≡ Ok m → Dec (b ≡ a) → Memᴰ (kernel_region b m) l
    by b m e (yes d) = absurd (not_both (sym (used_merge b (freed_all a k)) ∙ e) (subst (λ (x : ℕ). used_size x (freed_all a k) ≡ Err RegionNotFound) (sym d) (used_gone a k)))
    by b m e (no d) =
        ⊎_elim (λ q. absurd (d (kernel_start q))) (λ q. q)
        (Memᴰ.cases_cons (h.used b m (sym (used_freed a b k d) ∙ sym (used_merge b (freed_all a k)) ∙ e)))

-- a region of the user's makes no difference
pub kernel_more : (a n : ℕ) {k : List VMRegion} {l : List Region} → KernelList k l → KernelList k (user_region a n ∷ l)
kernel_more a n h = record {
  rows = h.rows;
  few = h.few;
  used = λ b m e. Memᴰ.tail (h.used b m e);
  live = λ b m e. ⊎_elim (λ q. absurd (two_kinds q)) (λ q. h.live b m q) (Memᴰ.cases_cons e);
}

pub kernel_fewer : (a n : ℕ) {k : List VMRegion} {l : List Region} → KernelList k (user_region a n ∷ l) → KernelList k l
kernel_fewer a n h = record {
  rows = h.rows;
  few = h.few;
  used = λ b m e. ⊎_elim (λ q. absurd (two_kinds q)) (λ q. q) (Memᴰ.cases_cons (h.used b m e));
  live = λ b m e. h.live b m (Memᴰ.tail e);
}

-- ---- the user's list

pub user_take : (a n : ℕ) (prot flags : ℤ) {u : List MappedRegion} {l : List Region} → Placed a n → UserList u l → starts a u ≡ false → length u < 256
    → UserList (insert (mapped_region a n prot flags) u) (user_region a n ∷ l)
user_take a n prot flags {u} {l} p h s few = record {
  rising = rising_insert (mapped_region a n prot flags) 0 u (omega arith) p h.rising;
  few = omega (arith, length_insert start_key (mapped_region a n prot flags) u s);
  held = λ b m e. by b m e (ℕ_discrete b a);
  live = λ b m e. ⊎_elim
      (λ q. subst (λ (x : ℕ). holds x m (insert (mapped_region a n prot flags) u) ≡ true) (sym (user_start_lem q))
      (subst (λ (y : ℕ). holds a y (insert (mapped_region a n prot flags) u) ≡ true) (sym (user_size q)) (holds_inserted (mapped_region a n prot flags) u)))
      (λ q. holds_others (mapped_region a n prot flags) b m u (λ d. true≢false (sym (subst (λ (x : ℕ). holds x m u ≡ true) d (h.live b m q)) ∙ holds_none a m u s)) ∙ h.live b m q)
      (Memᴰ.cases_cons e);
}
  where
    by : (b m : ℕ) → holds b m (insert (mapped_region a n prot flags) u) ≡ true → Dec (b ≡ a) → Memᴰ (user_region b m) (user_region a n ∷ l)
    by b m e (yes d) =
        let z : m ≡ n = holds_one a m n (insert (mapped_region a n prot flags) u) (subst (λ (x : ℕ). holds x m (insert (mapped_region a n prot flags) u) ≡ true) d e) (holds_inserted (mapped_region a n prot flags) u) in
        let q : user_region b m ≡ user_region a n = cc in
        Memᴰ.head q
    by b m e (no d) = Memᴰ.tail (h.held b m (sym (holds_others (mapped_region a n prot flags) b m u d) ∙ e))

pub user_give : (a n : ℕ) {u : List MappedRegion} {l : List Region} → UserList u (user_region a n ∷ l) → Once (user_region a n ∷ l) → UserList (remove a u) l
user_give a n {u} {l} h o = record {
  rising = rising_remove a 0 u h.rising;
  few = omega (arith, length_remove start_key a u, h.few);
  held = λ b m e. by b m e (ℕ_discrete b a);
  live = λ b m e. holds_kept a b m u (other b m e) ∙ h.live b m (Memᴰ.tail e);
}
  where
    other : (b m : ℕ) → Memᴰ (user_region b m) l → b ≡ a → ⊥
    other b m e d =
        let s : m ≡ n = holds_one a m n u (subst (λ (x : ℕ). holds x m u ≡ true) d (h.live b m (Memᴰ.tail e))) (h.live a n (Memᴰ.head refl)) in
        o.0 (subst (λ (x : Region). Memᴰ x l) (cc) e)

    by : (b m : ℕ) → holds b m (remove a u) ≡ true → Dec (b ≡ a) → Memᴰ (user_region b m) l
    by b m e (yes d) = absurd (true≢false (sym (subst (λ (x : ℕ). holds x m (remove a u) ≡ true) d e) ∙ holds_removed a m 0 u h.rising))
    by b m e (no d) =
        ⊎_elim (λ q. absurd (d (user_start_lem q))) (λ q. q) (Memᴰ.cases_cons (h.held b m (sym (holds_kept a b m u d) ∙ e)))

pub user_more : (a n : ℕ) {u : List MappedRegion} {l : List Region} → UserList u l → UserList u (kernel_region a n ∷ l)
user_more a n h = record {
  rising = h.rising;
  few = h.few;
  held = λ b m e. Memᴰ.tail (h.held b m e);
  live = λ b m e. ⊎_elim (λ q. absurd (two_kinds (sym q))) (λ q. h.live b m q) (Memᴰ.cases_cons e);
}

pub user_fewer : (a n : ℕ) {u : List MappedRegion} {l : List Region} → UserList u (kernel_region a n ∷ l) → UserList u l
user_fewer a n h = record {
  rising = h.rising;
  few = h.few;
  held = λ b m e. ⊎_elim (λ q. absurd (two_kinds (sym q))) (λ q. q) (Memᴰ.cases_cons (h.held b m e));
  live = λ b m e. h.live b m (Memᴰ.tail e);
}

-- ---- dropping a live region

pub drop_kernel_lem : (a n : ℕ) (l : List Region) → Memᴰ (kernel_region a n) l → ((m : ℕ) → Memᴰ (kernel_region a m) l → m ≡ n) → Permᴰ l (kernel_region a n ∷ drop_kernel a l)
unfolding drop_kernel
drop_kernel_lem a n [] e sole = absurd (Memᴰ.not-nil e)
drop_kernel_lem a n (kernel_region s m ∷ l) e sole = by (eqb s a) refl (drop_kernel_lem a n l)
  where
    by : (x : Bool) → eqb s a ≡ x → (Memᴰ (kernel_region a n) l → ((m : ℕ) → Memᴰ (kernel_region a m) l → m ≡ n) → Permᴰ l (kernel_region a n ∷ drop_kernel a l))
        → Permᴰ (kernel_region s m ∷ l) (kernel_region a n ∷ pick x l (kernel_region s m ∷ drop_kernel a l))
    by true q more =
        let z : s ≡ a = eqb-true s a q in
        let w : kernel_region a m ≡ kernel_region s m = cc in
        let y : m ≡ n = sole m (Memᴰ.head w) in
        let e : kernel_region s m ≡ kernel_region a n = cc in
        Permᴰ.cons e (Permᴰ.refl l)
    by false q more =
        Permᴰ.trans (Permᴰ.cons refl (more
        (⊎_elim (λ d. absurd (eqb-false s a q (sym (kernel_start d)))) (λ d. d) (Memᴰ.cases_cons e))
        (λ x d. sole x (Memᴰ.tail d))))
        (Permᴰ.swap refl refl)
drop_kernel_lem a n (user_region s m ∷ l) e sole =
    Permᴰ.trans (Permᴰ.cons refl (drop_kernel_lem a n l
    (⊎_elim (λ d. absurd (two_kinds d)) (λ d. d) (Memᴰ.cases_cons e))
    (λ x d. sole x (Memᴰ.tail d))))
    (Permᴰ.swap refl refl)

pub drop_user_lem : (a n : ℕ) (l : List Region) → Memᴰ (user_region a n) l → ((m : ℕ) → Memᴰ (user_region a m) l → m ≡ n) → Permᴰ l (user_region a n ∷ drop_user a l)
unfolding drop_user
drop_user_lem a n [] e sole = absurd (Memᴰ.not-nil e)
drop_user_lem a n (user_region s m ∷ l) e sole = by (eqb s a) refl (drop_user_lem a n l)
  where
    by : (x : Bool) → eqb s a ≡ x → (Memᴰ (user_region a n) l → ((m : ℕ) → Memᴰ (user_region a m) l → m ≡ n) → Permᴰ l (user_region a n ∷ drop_user a l))
        → Permᴰ (user_region s m ∷ l) (user_region a n ∷ pick x l (user_region s m ∷ drop_user a l))
    by true q more =
        let z : s ≡ a = eqb-true s a q in
        let w : user_region a m ≡ user_region s m = cc in
        let y : m ≡ n = sole m (Memᴰ.head w) in
        let e : user_region s m ≡ user_region a n = cc in
        Permᴰ.cons e (Permᴰ.refl l)
    by false q more =
        Permᴰ.trans (Permᴰ.cons refl (more
        (⊎_elim (λ d. absurd (eqb-false s a q (sym (user_start_lem d)))) (λ d. d) (Memᴰ.cases_cons e))
        (λ x d. sole x (Memᴰ.tail d))))
        (Permᴰ.swap refl refl)
drop_user_lem a n (kernel_region s m ∷ l) e sole =
    Permᴰ.trans (Permᴰ.cons refl (drop_user_lem a n l
    (⊎_elim (λ d. absurd (two_kinds (sym d))) (λ d. d) (Memᴰ.cases_cons e))
    (λ x d. sole x (Memᴰ.tail d))))
    (Permᴰ.swap refl refl)
