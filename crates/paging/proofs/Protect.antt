-- Pages whose WRITABLE is made to follow a choice: what changes, what a run of them comes to, and pages that have it so already.
use Prim.Native.Nat.{ℕ, zero, suc, ◌+◌, ◌*◌, ◌<◌}
use mathlib.Core.Path.{◌≡◌, refl, sym, ◌∙◌, ap, subst}
use mathlib.Core.Bool.{Bool, true, false, false≢true}
use mathlib.Core.List.{List}
use mathlib.Core.Logic.{◌⊎◌, inl, inr, ⊎_elim}
use native.Mathlib.Nat.{suc-add, zero-add}
use native.Mathlib.Decide.{dec_lt, ℕ_discrete}
use native.Mathlib.Omega.{arith}
use lib.Dec.{ltb}
use lib.ListN.{length, get_or, set, take, length-set, get_or-eq_default}
use lib.Seq.{set_out, set-get_or, get_or-set_same, get_or-set_other}
use borrow.Author.Tests.{lt-ltb}
use Rattle.std.specs.Prelude.{Ok, Err, Result}
use Rattle.answer.specs.declared.Refusal.{Refusal}
use Rattle.answer.specs.declared.Refusal.TheVariants.{NotMapped, TableOutside}
use Rattle.bits.specs.Bit.{pick, flag}
use Rattle.bits.proofs.Choice.{pick_cases}
use Rattle.answer.specs.Outcomes.{and_then}
use Rattle.entry.specs.Entry.{frame_of, index, indices, with_writable}
use Rattle.entry.proofs.Entry.{flag_zero, index_last}
use Rattle.entry.proofs.Writable.{Alike, alike_same, writable_alike, writable_flag, writable_same}
use Rattle.frame.specs.Frames.{inside}
use Rattle.paging.specs.Walk.{place, present, entry_at, reach}
use Rattle.paging.specs.Map.{left, take_leaf, unmap_entry}
use Rattle.paging.specs.Calls.{unmap_at}
use Rattle.paging.specs.Protect.{page_place, protect_page, protect_pages}
use Rattle.paging.proofs.Walk.{no_value}
use Rattle.paging.proofs.Alike.{AlikeWords, place_alike}

-- ---- words that differ in bit 1 at most, and there follow w

pub record Toward (w : Bool) (ws ws' : List ℕ) : Type 0 where
  pub number : length ws' ≡ length ws
  pub each : (x : ℕ) → (get_or ws' x 0 ≡ get_or ws x 0) ⊎ (get_or ws' x 0 ≡ with_writable w (get_or ws x 0))

pub toward_same : {w : Bool} (ws : List ℕ) → Toward w ws ws
toward_same ws = record { number = refl; each = λ x. inl refl }

-- asked for twice
writable_again : (w : Bool) (e : ℕ) → with_writable w (with_writable w e) ≡ with_writable w e
writable_again w e = writable_same w (with_writable w e) (writable_flag w e)

pub toward_then : {w : Bool} {ws ws' ws'' : List ℕ} → Toward w ws ws' → Toward w ws' ws'' → Toward w ws ws''
toward_then {w = w} a b = record {
  number = b.number ∙ a.number;
  each = λ x.
      ⊎_elim (λ q. ⊎_elim (λ p. inl (q ∙ p)) (λ p. inr (q ∙ p)) (a.each x))
      (λ q. ⊎_elim (λ p. inr (q ∙ ap (with_writable w) p)) (λ p. inr (q ∙ ap (with_writable w) p ∙ writable_again w _)) (a.each x)) (b.each x);
}

pub toward_alike : {w : Bool} {ws ws' : List ℕ} → Toward w ws ws' → AlikeWords ws ws'
toward_alike {w} {ws} t = record {
  word = λ x.
      ⊎_elim (λ p. subst (Alike (get_or ws x 0)) (sym p) (alike_same (get_or ws x 0))) (λ p. subst (Alike (get_or ws x 0)) (sym p) (writable_alike w (get_or ws x 0))) (t.each x);
}

-- a word that follows w goes on following it
pub toward_follows : {w : Bool} {ws ws' : List ℕ} → Toward w ws ws' → (x : ℕ) → flag 1 (get_or ws x 0) ≡ w → flag 1 (get_or ws' x 0) ≡ w
toward_follows {w} {ws} t x h = ⊎_elim (λ p. ap (flag 1) p ∙ h) (λ p. ap (flag 1) p ∙ writable_flag w (get_or ws x 0)) (t.each x)

-- one word made to follow w
pub toward_set : (w : Bool) (ws : List ℕ) (x : ℕ) → Toward w ws (set ws x (with_writable w (get_or ws x 0)))
toward_set w ws x = record { number = length-set ws x _; each = λ y. go y (ℕ_discrete y x) (dec_lt x (length ws)) }
  where
    go : (y : ℕ) → Dec (y ≡ x) → Dec (x < length ws)
        → (get_or (set ws x (with_writable w (get_or ws x 0))) y 0 ≡ get_or ws y 0) ⊎ (get_or (set ws x (with_writable w (get_or ws x 0))) y 0 ≡ with_writable w (get_or ws y 0))
    go y (no d) l = inl (get_or-set_other ws x y _ 0 d)
    go y (yes e) (yes l) = inr (rw e (get_or-set_same ws x _ 0 l))
    go y (yes e) (no l) = inl (ap (λ (s : List ℕ). get_or s y 0) (set_out ws x _ (omega arith)))

-- ---- a page

module _ (ws : List ℕ) (start total : ℕ) where
  -- its last entry is present, so that its word is one of those lent
  pub place_present : (up root v x : ℕ) → page_place up ws start total root v ≡ Ok x → flag 0 (get_or ws x 0) ≡ true
  unfolding page_place entry_at present
  place_present up root v x h = by-table (reach ws start total root (take up (indices (suc up) v))) h
    where
      by_word : (t i : ℕ) → and_then (entry_at ws start total t i) Err (λ _. Ok (place start t i)) ≡ Ok x → flag 0 (get_or ws x 0) ≡ true
      by_word t i =
          let P : Result ℕ Refusal → Type 0 = λ o. and_then o Err (λ _. Ok (place start t i)) ≡ Ok x → flag 0 (get_or ws x 0) ≡ true in
          pick_cases P (inside start total t) _ _
          (λ _. pick_cases P (ltb i 512) _ _
          (λ _. pick_cases P (flag 0 (get_or ws (place start t i) 0)) _ _
          (λ c g. let at : place start t i ≡ x = cc in subst (λ (n : ℕ). flag 0 (get_or ws n 0) ≡ true) at c)
          (λ _ g. absurd (no_value (sym g)))) (λ _ g. absurd (no_value (sym g)))) (λ _ g. absurd (no_value (sym g)))

      by-table : (o : Result ℕ Refusal) → and_then o Err (λ t. and_then (entry_at ws start total t (index 0 v)) Err (λ _. Ok (place start t (index 0 v)))) ≡ Ok x → flag 0 (get_or ws x 0) ≡ true
      by-table (Ok t) g = by_word t (index 0 v) g
      by-table (Err n) g = absurd (no_value (sym g))

  pub place_within : (up root v x : ℕ) → page_place up ws start total root v ≡ Ok x → x < length ws
  place_within up root v x h = go (dec_lt x (length ws))
    where
      go : Dec (x < length ws) → x < length ws
      go (yes l) = l
      go (no l) = absurd (false≢true (sym (ap (flag 0) (get_or-eq_default ws 0 (omega arith)) ∙ flag_zero 0) ∙ place_present up root v x h))

  module _ (w : Bool) (up root v : ℕ) where
    pub protect_none : (n : Refusal) → page_place up ws start total root v ≡ Err n → protect_page up w ws start total root v ≡ ws
    unfolding protect_page
    protect_none n h = rw h

    pub protect_at : (x : ℕ) → page_place up ws start total root v ≡ Ok x → protect_page up w ws start total root v ≡ set ws x (with_writable w (get_or ws x 0))
    unfolding protect_page
    protect_at x h = rw h

    pub page_toward : Toward w ws (protect_page up w ws start total root v)
    unfolding protect_page
    page_toward = go (page_place up ws start total root v)
      where
        go : (o : Result ℕ Refusal) → Toward w ws (and_then o (λ _. ws) (λ x. set ws x (with_writable w (get_or ws x 0))))
        go (Ok x) = toward_set w ws x
        go (Err n) = toward_same ws

    -- one that follows w already
    pub protect_same : ((x : ℕ) → page_place up ws start total root v ≡ Ok x → flag 1 (get_or ws x 0) ≡ w) → protect_page up w ws start total root v ≡ ws
    protect_same h = go (page_place up ws start total root v) refl
      where
        go : (o : Result ℕ Refusal) → page_place up ws start total root v ≡ o → protect_page up w ws start total root v ≡ ws
        go (Ok x) e = protect_at x e ∙ ap (set ws x) (writable_same w (get_or ws x 0) (h x e)) ∙ set-get_or ws x 0
        go (Err n) e = protect_none n e

    -- and one that was made to
    pub page_follows : (x : ℕ) → page_place up ws start total root v ≡ Ok x → flag 1 (get_or (protect_page up w ws start total root v) x 0) ≡ w
    page_follows x h =
        ap (λ (s : List ℕ). flag 1 (get_or s x 0)) (protect_at x h) ∙ ap (flag 1) (get_or-set_same ws x _ 0 (place_within up root v x h)) ∙ writable_flag w (get_or ws x 0)

-- ---- runs of pages

module _ (up : ℕ) (w : Bool) (start total root : ℕ) where
  pub protect_pages_add : (b a : ℕ) (ws : List ℕ) (v : ℕ)
      → protect_pages up w ws start total root v (a + b) ≡ protect_pages up w (protect_pages up w ws start total root v a) start total root (v + a * 4096) b
  unfolding protect_pages
  protect_pages_add b zero ws v =
      let e : v ≡ v + 0 * 4096 = omega arith in
      rw (zero-add b) (ap (λ (x : ℕ). protect_pages up w ws start total root x b) e)
  protect_pages_add b (suc a) ws v =
      let e : (v + 4096) + a * 4096 ≡ v + suc a * 4096 = omega arith in
      let ws' = protect_page up w ws start total root v in
      rw (suc-add a b)
      (protect_pages_add b a ws' (v + 4096)
      ∙ ap (λ (x : ℕ). protect_pages up w (protect_pages up w ws' start total root (v + 4096) a) start total root x b) e)

  pub pages_toward : (n : ℕ) (ws : List ℕ) (v : ℕ) → Toward w ws (protect_pages up w ws start total root v n)
  unfolding protect_pages
  pages_toward zero ws v = toward_same ws
  pages_toward (suc n) ws v = toward_then (page_toward ws start total w up root v) (pages_toward n (protect_page up w ws start total root v) (v + 4096))

  -- those that follow w already
  abbrev pub Follow : List ℕ → ℕ → ℕ → Type 0
  Follow ws v n = (j x : ℕ) → j < n → page_place up ws start total root (v + j * 4096) ≡ Ok x → flag 1 (get_or ws x 0) ≡ w

  pub pages_same : (n : ℕ) (ws : List ℕ) (v : ℕ) → Follow ws v n → protect_pages up w ws start total root v n ≡ ws
  unfolding protect_pages
  pages_same zero ws v h = refl
  pages_same (suc n) ws v h =
      let here : v + 0 * 4096 ≡ v = omega arith in
      rw (protect_same ws start total w up root v (λ x e. h 0 x (omega arith) (rw here e)))
      (pages_same n ws (v + 4096) (λ j x l e.
      let next : v + suc j * 4096 ≡ (v + 4096) + j * 4096 = omega arith in h (suc j) x (omega arith) (rw next e)))

  -- and those that were made to
  pub pages_follow : (n : ℕ) (ws : List ℕ) (v : ℕ) → Follow (protect_pages up w ws start total root v n) v n
  unfolding protect_pages
  pages_follow zero ws v j x l e = absurd (omega arith)
  pages_follow (suc n) ws v zero x l e =
      let ws' = protect_page up w ws start total root v in
      let here : v + 0 * 4096 ≡ v = omega arith in
      let t = pages_toward n ws' (v + 4096) in
      let there : page_place up ws start total root v ≡ Ok x =
      sym (place_alike (toward_alike (toward_then (page_toward ws start total w up root v) t)) start total up root v) ∙ ap (page_place up _ start total root) (sym here) ∙ e in
      toward_follows t x (page_follows ws start total w up root v x there)
  pages_follow (suc n) ws v (suc j) x l e =
      let next : (v + 4096) + j * 4096 ≡ v + suc j * 4096 = omega arith in
      pages_follow n (protect_page up w ws start total root v) (v + 4096) j x (omega arith) (rw next e)

-- ---- which words change

module _ (up : ℕ) (w : Bool) (start total root : ℕ) where
  -- word x as it was, or made to follow w as the last entry of one of n pages from v on
  abbrev pub Where : List ℕ → ℕ → ℕ → ℕ → ℕ → Type 0
  Where ws v n x e = (e ≡ get_or ws x 0) ⊎ ((e ≡ with_writable w (get_or ws x 0)) × ((j : ℕ) × ((j < n) × (page_place up ws start total root (v + j * 4096) ≡ Ok x))))

  page_where : (ws : List ℕ) (v x : ℕ) → Where ws v 1 x (get_or (protect_page up w ws start total root v) x 0)
  page_where ws v x = go (page_place up ws start total root v) refl
    where
      here : v + 0 * 4096 ≡ v
      here = omega arith

      by : (y : ℕ) → page_place up ws start total root v ≡ Ok y → Dec (x ≡ y) → Where ws v 1 x (get_or (set ws y (with_writable w (get_or ws y 0))) x 0)
      by y e (yes q) = inr (rw q (get_or-set_same ws y _ 0 (place_within ws start total up root v y e)), (0, (omega arith, rw here (e ∙ ap Ok (sym q)))))
      by y e (no q) = inl (get_or-set_other ws y x _ 0 q)

      go : (o : Result ℕ Refusal) → page_place up ws start total root v ≡ o → Where ws v 1 x (get_or (protect_page up w ws start total root v) x 0)
      go (Ok y) e = rw (protect_at ws start total w up root v y e) (by y e (ℕ_discrete x y))
      go (Err n) e = rw (protect_none ws start total w up root v n e) (inl refl)

  pub pages_where : (n : ℕ) (ws : List ℕ) (v x : ℕ) → Where ws v n x (get_or (protect_pages up w ws start total root v n) x 0)
  unfolding protect_pages
  pages_where zero ws v x = inl refl
  pages_where (suc n) ws v x = ⊎_elim same made (pages_where n ws' (v + 4096) x)
    where
      ws' : List ℕ
      ws' = protect_page up w ws start total root v

      last : ℕ
      last = get_or (protect_pages up w ws' start total root (v + 4096) n) x 0

      -- not by the pages behind the first
      same : last ≡ get_or ws' x 0 → Where ws v (suc n) x last
      same q = ⊎_elim (λ p. inl (q ∙ p)) (λ p. inr (q ∙ p.0, (p.1.0, (omega (arith, p.1.1.0), p.1.1.1)))) (page_where ws v x)

      made : ((last ≡ with_writable w (get_or ws' x 0)) × ((j : ℕ) × ((j < n) × (page_place up ws' start total root ((v + 4096) + j * 4096) ≡ Ok x)))) → Where ws v (suc n) x last
      made p =
          let j = p.1.0 in
          let next : v + suc j * 4096 ≡ (v + 4096) + j * 4096 = omega arith in
          let t = page_toward ws start total w up root v in
          inr (
            p.0 ∙ ⊎_elim (ap (with_writable w)) (λ q. ap (with_writable w) q ∙ writable_again w _) (t.each x),
            (suc j, (omega (arith, p.1.1.0), rw next (sym (place_alike (toward_alike t) start total up root _) ∙ p.1.1.1))),
          )

-- ---- `unmap_page` clears the word at the page's place, and stops where there is none

pub unmap_at_place : (up : ℕ) (ws : List ℕ) (start total root v : ℕ)
    → unmap_at up ws start total root v
    ≡ and_then (page_place up ws start total root v) (λ n. left (Err n) ws) (λ x. left (Ok (frame_of (get_or ws x 0))) (set ws x 0))
unfolding unmap_entry take_leaf page_place entry_at present
unmap_at_place up ws start total root v =
    rw (index_last up v, lt-ltb (index 0 v) 512 (omega arith)) (by-table (reach ws start total root (take up (indices (suc up) v))))
  where
    i : ℕ
    i = index 0 v

    by_word : (p e : ℕ) (b c : Bool)
        → pick b (pick c (left (Ok (frame_of (get_or ws p 0))) (set ws p 0)) (left (Err NotMapped) ws)) (left (Err TableOutside) ws)
        ≡ and_then (and_then (pick b (pick c (Ok e) (Err NotMapped)) (Err TableOutside)) Err (λ _. Ok p)) (λ n. left (Err n) ws) (λ x. left (Ok (frame_of (get_or ws x 0))) (set ws x 0))
    by_word p e true true = refl
    by_word p e true false = refl
    by_word p e false c = refl

    by-table : (o : Result ℕ Refusal)
        → and_then o (λ n. left (Err n) ws) (λ t. pick (inside start total t) (pick (flag 0 (get_or ws (place start t i) 0))
        (left (Ok (frame_of (get_or ws (place start t i) 0))) (set ws (place start t i) 0)) (left (Err NotMapped) ws)) (left (Err TableOutside) ws))
        ≡ and_then (and_then o Err (λ t. and_then (pick (inside start total t) (pick (flag 0 (get_or ws (place start t i) 0)) (Ok (get_or ws (place start t i) 0)) (Err NotMapped)) (Err TableOutside))
        Err (λ _. Ok (place start t i)))) (λ n. left (Err n) ws) (λ x. left (Ok (frame_of (get_or ws x 0))) (set ws x 0))
    by-table (Ok t) = by_word (place start t i) (get_or ws (place start t i) 0) (inside start total t) (flag 0 (get_or ws (place start t i) 0))
    by-table (Err n) = refl
