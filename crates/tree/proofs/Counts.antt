-- The counter: where no frame is lost, it is the number of paths that are reached.
use Prim.Native.Nat.{ℕ, ◌+◌, ◌-◌, ◌<◌, ◌≤◌}
use mathlib.Core.Path.{◌≡◌, refl, sym, ◌∙◌, ap, subst}
use mathlib.Core.List.Memᴰ
use mathlib.Core.List.{List, [], ◌∷◌, Memᴰ, Nodup, Nodup-cons}
use mathlib.Core.Logic.{⊎_elim}
use native.Mathlib.Omega.{arith}
use lib.ListN.{length}
use Rattle.std.specs.Prelude.{Ok}
use Rattle.bitmap.specs.Bitmap.{marked, unmark, count}
use Rattle.bitmap.proofs.Marks.{not_marked, unmark_own, unmark_other, count_none, count_unmark}
use Rattle.frame.proofs.Laws.{inside_yes, inside_from, inside_under}
use Rattle.paging.specs.Map.{Memory, start_frame, total_of}
use Rattle.tree.proofs.Ordered.{reach_in}
use Rattle.tree.proofs.Accounts.{Accounted}

-- the marks below n are those of the things in a list, one each
module _ {A : Type 0} (Has : A → ℕ → Type 0) (one : (x : A) (j k : ℕ) → Has x j → Has x k → j ≡ k) (own : (x y : A) (j : ℕ) → Has x j → Has y j → x ≡ y) (n : ℕ) where
  pub count_each : (l : List A) (bm : List ℕ) → Nodup l → ((x : A) → Memᴰ x l → (j : ℕ) × Has x j × (j < n) × (marked bm j ≡ 1))
      → ((j : ℕ) → j < n → marked bm j ≡ 1 → (x : A) × Memᴰ x l × Has x j) → count bm n ≡ length l
  count_each [] bm d each all = count_none bm n (λ k lt. not_marked bm k (λ h. Memᴰ.not-nil (all k lt h).1))
  count_each (x ∷ l) bm d each all =
      let h = each x (Memᴰ.head refl) in
      let j = h.0 in
      let there = h.3 in
      let c = count_unmark bm j n there h.2 in
      let r = count_each l (unmark bm j) (Nodup-cons.0 d).1
      (λ y i. let b = each y (Memᴰ.tail i) in
      (b.0, b.1, b.2, unmark_other bm j there b.0 (λ e. (Nodup-cons.0 d).0 ∣ subst (λ (z : A). Memᴰ z l) (own y x j (rw e at b.1) h.1) i ∣₁) ∙ b.3))
      (λ k lt mark.
      let off : k ≡ j → ⊥ = λ e. omega (arith, unmark_own bm j there, ap (marked (unmark bm j)) e) in
      let b = all k lt (sym (unmark_other bm j there k off) ∙ mark) in
      (b.0, ⊎_elim (λ e. absurd (off (one x k j (rw e at b.2) h.1))) (λ i. i) (Memᴰ.cases_cons b.1), b.2)) in
      omega arith

-- a list of paths, each once, that are just those reached
pub counter_paths : {m : Memory} {root n : ℕ} → Accounted m root n [] → (l : List (List ℕ)) → Nodup l
    → ((p : List ℕ) → Memᴰ p l → (f : ℕ) × (length p ≤ n) × (reach_in m root p ≡ Ok f))
    → ((p : List ℕ) (f : ℕ) → length p ≤ n → reach_in m root p ≡ Ok f → Memᴰ p l) → m.frames.fa.allocated ≡ length l
counter_paths {m} {root} {n} c l d each all =
    c.order.counted
    ∙ count_each Has (λ p j k a b. let x = a.1 in let y = b.1 in at_one p j k x y) (λ p q j a b. c.order.tree.once p q (start_frame m + j) a.0 b.0 a.1 b.1)
    (total_of m) l m.frames.bits d there found
  where
    Has : List ℕ → ℕ → Type 0
    Has p j = (length p ≤ n) × (reach_in m root p ≡ Ok (start_frame m + j))

    at_one : (p : List ℕ) (j k : ℕ) → reach_in m root p ≡ Ok (start_frame m + j) → reach_in m root p ≡ Ok (start_frame m + k) → j ≡ k
    at_one p j k x y = let e : start_frame m + j ≡ start_frame m + k = cc in omega arith

    there : (p : List ℕ) → Memᴰ p l → (j : ℕ) × Has p j × (j < total_of m) × (marked m.frames.bits j ≡ 1)
    there p i =
        let b = each p i in
        let f = b.0 in
        let ins = c.order.tree.into p f b.1 b.2 in
        let e : f ≡ start_frame m + (f - start_frame m) = omega (arith, inside_from (start_frame m) (total_of m) f ins) in
        (f - start_frame m, (b.1, b.2 ∙ ap Ok e), inside_under (start_frame m) (total_of m) f ins, c.order.tree.kept p f b.1 b.2)

    found : (j : ℕ) → j < total_of m → marked m.frames.bits j ≡ 1 → (p : List ℕ) × Memᴰ p l × Has p j
    found j lt mark =
        let back : start_frame m + j - start_frame m ≡ j = omega arith in
        ⊎_elim (λ r. (r.path, all r.path (start_frame m + j) r.short r.comes, (r.short, r.comes)))
        (⊎_elim (λ i. absurd (Memᴰ.not-nil i)) (λ z. absurd z))
        (c.found (start_frame m + j) (inside_yes (start_frame m) (total_of m) (start_frame m + j) (omega arith) (omega arith)) (ap (marked m.frames.bits) back ∙ mark))
