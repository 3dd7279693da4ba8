-- Walks: what they read, walks along two paths one after the other, and what leaves them as they are.
use Prim.Native.Nat.{ℕ, ◌<◌, ◌≤◌}
use mathlib.Core.Path.{◌≡◌, refl, sym, ◌∙◌, ap, subst}
use mathlib.Core.Bool.{Bool, true, false}
use mathlib.Core.List.{List, [], ◌∷◌, ◌++◌, append-nil}
use native.Mathlib.Omega.{arith}
use lib.Dec.{ltb}
use lib.ListN.{get_or}
use borrow.Author.Tests.{ltb-true}
use Rattle.std.specs.Prelude.{Ok, Err, Result}
use Rattle.answer.specs.declared.Refusal.{Refusal}
use Rattle.answer.specs.declared.Refusal.TheVariants.{NotMapped}
use Rattle.bits.specs.Bit.{pick, flag}
use Rattle.bits.proofs.Choice.{pick_cases}
use Rattle.answer.specs.Outcomes.{and_then}
use Rattle.entry.specs.Entry.{frame_of}
use Rattle.frame.specs.Frames.{inside}
use Rattle.paging.specs.Walk.{place, present, entry_at, reach, judge, leaf}
use Rattle.paging.proofs.Walk.{entry_in, present_yes, present_no}
use Rattle.tree.proofs.Paths.{Leads}

-- no step both stops and comes somewhere
pub nowhere : {n : Refusal} {x : ℕ} → Err n ≡ Ok x → ⊥
nowhere h = let z : ◌≡◌ {A = ℕ} 0 1 = cc in omega arith

-- two entries at one place are one entry of one table
pub place_table : (start s j t i : ℕ) → start ≤ s → start ≤ t → j < 512 → i < 512 → place start t i ≡ place start s j → t ≡ s
place_table start s j t i a b c d e = omega arith

pub place_index : (start s j t i : ℕ) → start ≤ s → start ≤ t → j < 512 → i < 512 → place start t i ≡ place start s j → i ≡ j
place_index start s j t i a b c d e = omega arith

-- ---- what walks read

module _ (ws : List ℕ) (start total : ℕ) where
  -- what a present entry says of its table, its index and its word
  pub record Entry (t i e : ℕ) : Type 0 where
    pub table : inside start total t ≡ true
    pub small : i < 512
    pub word : get_or ws (place start t i) 0 ≡ e
    pub bit : flag 0 e ≡ true

  pub entry_cases : (t i e : ℕ) → entry_at ws start total t i ≡ Ok e → Entry t i e
  unfolding entry_at present
  entry_cases t i e =
      let P : Result ℕ Refusal → Type 0 = λ x. x ≡ Ok e → Entry t i e in
      pick_cases P (inside start total t) _ _
      (λ a. pick_cases P (ltb i 512) _ _
      (λ b. pick_cases P (flag 0 (get_or ws (place start t i) 0)) _ _
      (λ c g.
      let w : get_or ws (place start t i) 0 ≡ e = cc in
      record { table = a; small = ltb-true _ _ b; word = w; bit = subst (λ (n : ℕ). flag 0 n ≡ true) w c })
      (λ _ g. absurd (nowhere g))) (λ _ g. absurd (nowhere g))) (λ _ g. absurd (nowhere g))

  -- and the other way round
  pub entry_there : (t i : ℕ) → inside start total t ≡ true → i < 512 → flag 0 (get_or ws (place start t i) 0) ≡ true
      → entry_at ws start total t i ≡ Ok (get_or ws (place start t i) 0)
  entry_there t i a b c = entry_in ws start total t i a b ∙ present_yes _ c

  pub entry_absent : (t i : ℕ) → inside start total t ≡ true → i < 512 → flag 0 (get_or ws (place start t i) 0) ≡ false
      → entry_at ws start total t i ≡ Err NotMapped
  entry_absent t i a b c = entry_in ws start total t i a b ∙ present_no _ c

  -- an entry that is 0, or past the last, is absent
  pub entry_zero : (t i : ℕ) → inside start total t ≡ true → (i < 512 → get_or ws (place start t i) 0 ≡ 0) → entry_at ws start total t i ≡ Err NotMapped
  unfolding entry_at
  entry_zero t i a h =
      rw a (pick_cases (λ (x : Result ℕ Refusal). x ≡ Err NotMapped) (ltb i 512) _ _ (λ e. rw (h (ltb-true _ _ e)) (present_no 0 refl)) (λ _. refl))

  -- a lent table's entry stops with 14 alone
  pub entry_stop : (t i : ℕ) (a : Refusal) → inside start total t ≡ true → entry_at ws start total t i ≡ Err a → a ≡ NotMapped
  unfolding entry_at present
  entry_stop t i a h =
      let P : Result ℕ Refusal → Type 0 = λ x. x ≡ Err a → a ≡ NotMapped in
      rw h (pick_cases P (ltb i 512) _ _ (λ _. pick_cases P (flag 0 (get_or ws (place start t i) 0)) _ _ (λ _ g. absurd (nowhere (sym g))) (λ _ g. cc)) (λ _ g. cc))

  -- ---- along two paths, one after the other

  pub reach_append : (p q : List ℕ) (t : ℕ) → reach ws start total t (p ++ q) ≡ and_then (reach ws start total t p) Err (λ f. reach ws start total f q)
  unfolding reach
  reach_append [] q t = refl
  reach_append (i ∷ is) q t = go (entry_at ws start total t i) (λ e. reach_append is q (frame_of e))
    where
      go : (x : Result ℕ Refusal) → ((e : ℕ) → reach ws start total (frame_of e) (is ++ q) ≡ and_then (reach ws start total (frame_of e) is) Err (λ f. reach ws start total f q))
          → and_then x Err (λ e. reach ws start total (frame_of e) (is ++ q)) ≡ and_then (and_then x Err (λ e. reach ws start total (frame_of e) is)) Err (λ f. reach ws start total f q)
      go (Ok e) h = h e
      go (Err n) h = refl

  -- one step further
  pub reach_step : (p : List ℕ) (root t i e : ℕ) → reach ws start total root p ≡ Ok t → entry_at ws start total t i ≡ Ok e
      → reach ws start total root (p ++ (i ∷ [])) ≡ Ok (frame_of e)
  unfolding reach
  reach_step p root t i e h k = reach_append p (i ∷ []) root ∙ rw (h, k)

  -- and no further
  pub reach_stuck : (p : List ℕ) (root t i : ℕ) (r : List ℕ) (n : Refusal) → reach ws start total root p ≡ Ok t → entry_at ws start total t i ≡ Err n
      → reach ws start total root (p ++ (i ∷ r)) ≡ Err n
  unfolding reach
  reach_stuck p root t i r n h k = reach_append p (i ∷ r) root ∙ rw (h, k)

  -- a walk that came somewhere came through the table before, by an entry of it
  pub record Last (root : ℕ) (p : List ℕ) (i f : ℕ) : Type 0 where
    pub table : ℕ
    pub word : ℕ
    pub way : reach ws start total root p ≡ Ok table
    pub entry : entry_at ws start total table i ≡ Ok word
    pub names : frame_of word ≡ f

  pub reach_back : (root : ℕ) (p : List ℕ) (i f : ℕ) → reach ws start total root (p ++ (i ∷ [])) ≡ Ok f → Last root p i f
  unfolding reach
  reach_back root p i f h = by_way (reach ws start total root p) refl (sym (reach_append p (i ∷ []) root) ∙ h)
    where
      by-entry : (t : ℕ) → reach ws start total root p ≡ Ok t → (y : Result ℕ Refusal) → entry_at ws start total t i ≡ y → and_then y Err (λ e. Ok (frame_of e)) ≡ Ok f → Last root p i f
      by-entry t w (Ok e) k g = record { table = t; word = e; way = w; entry = k; names = cc }
      by-entry t w (Err n) k g = absurd (nowhere g)

      by_way : (y : Result ℕ Refusal) → reach ws start total root p ≡ y → and_then y Err (λ t. reach ws start total t (i ∷ [])) ≡ Ok f → Last root p i f
      by_way (Ok t) w g = by-entry t w (entry_at ws start total t i) refl g
      by_way (Err n) w g = absurd (nowhere g)

  -- a walk that stops does so at an entry of a table that it came to
  pub record Halt (root : ℕ) (p : List ℕ) (a : Refusal) : Type 0 where
    pub before : List ℕ
    pub index : ℕ
    pub rest : List ℕ
    pub table : ℕ
    pub split : p ≡ before ++ (index ∷ rest)
    pub way : reach ws start total root before ≡ Ok table
    pub stop : entry_at ws start total table index ≡ Err a

  pub reach_halt : (p : List ℕ) (root : ℕ) (a : Refusal) → reach ws start total root p ≡ Err a → Halt root p a
  unfolding reach
  reach_halt [] root a h = absurd (nowhere (sym h))
  reach_halt (i ∷ is) root a h = go (entry_at ws start total root i) refl h (λ e. reach_halt is (frame_of e) a)
    where
      go : (x : Result ℕ Refusal) → entry_at ws start total root i ≡ x → and_then x Err (λ e. reach ws start total (frame_of e) is) ≡ Err a
          → ((e : ℕ) → reach ws start total (frame_of e) is ≡ Err a → Halt (frame_of e) is a) → Halt root (i ∷ is) a
      go (Ok e) k g r =
          let t = r e g in
          record {
            before = i ∷ t.before;
            index = t.index;
            rest = t.rest;
            table = t.table;
            split = ap (λ (l : List ℕ). i ∷ l) t.split;
            way = rw k t.way;
            stop = t.stop;
          }
      go (Err b) k g r = record { before = []; index = i; rest = is; table = root; split = refl; way = refl; stop = k ∙ g }

  -- each leading run of a path that is reached is reached
  pub reach_lead : {p q : List ℕ} (root f : ℕ) → Leads p q → reach ws start total root q ≡ Ok f → (t : ℕ) × (reach ws start total root p ≡ Ok t)
  reach_lead {p} {q} root f l h =
      go (reach ws start total root p) refl
      (sym (reach_append p l.rest root) ∙ ap (reach ws start total root) l.join ∙ h)
    where
      go : (y : Result ℕ Refusal) → reach ws start total root p ≡ y → and_then y Err (λ t. reach ws start total t l.rest) ≡ Ok f → (t : ℕ) × (reach ws start total root p ≡ Ok t)
      go (Ok t) w g = (t, w)
      go (Err n) w g = absurd (nowhere g)

-- ---- what leaves walks as they are

pick_agree : {A : Type 0} (t : Bool) (a a' b : A) → (t ≡ true → a ≡ a') → pick t a b ≡ pick t a' b
pick_agree true a a' b h = h refl
pick_agree false a a' b h = refl

-- two lists of words that agree at an entry, or have none there
pub entry_agree : (ws ws' : List ℕ) (start total t i : ℕ) → (inside start total t ≡ true → i < 512 → get_or ws' (place start t i) 0 ≡ get_or ws (place start t i) 0)
    → entry_at ws' start total t i ≡ entry_at ws start total t i
unfolding entry_at
entry_agree ws ws' start total t i h =
    pick_agree (inside start total t) _ _ _ (λ a. pick_agree (ltb i 512) _ _ _ (λ b. ap present (h a (ltb-true _ _ b))))

-- the entries that a walk from t along a path reads are the same in both
abbrev pub Same : List ℕ → List ℕ → ℕ → ℕ → ℕ → List ℕ → Type 0
Same ws ws' start total t [] = Unit {0}
Same ws ws' start total t (i ∷ is) =
    (entry_at ws' start total t i ≡ entry_at ws start total t i)
    × ((e : ℕ) → entry_at ws start total t i ≡ Ok e → Same ws ws' start total (frame_of e) is)

module _ (ws ws' : List ℕ) (start total : ℕ) where
  -- so it comes to the same frame
  pub same_reach : (p : List ℕ) (t : ℕ) → Same ws ws' start total t p → reach ws' start total t p ≡ reach ws start total t p
  unfolding reach
  same_reach [] t s = refl
  same_reach (i ∷ is) t s = rw s.0 (go (entry_at ws start total t i) refl (λ e h. same_reach is (frame_of e) (s.1 e h)))
    where
      go : (x : Result ℕ Refusal) → entry_at ws start total t i ≡ x → ((e : ℕ) → entry_at ws start total t i ≡ Ok e → reach ws' start total (frame_of e) is ≡ reach ws start total (frame_of e) is)
          → and_then x Err (λ e. reach ws' start total (frame_of e) is) ≡ and_then x Err (λ e. reach ws start total (frame_of e) is)
      go (Ok e) h k = k e h
      go (Err n) h k = refl

  -- and a path that begins with such reads ends at the same leaf, if what follows does
  pub same_then : (q r : List ℕ) (t : ℕ) → Same ws ws' start total t q
      → ((s : ℕ) → reach ws start total t q ≡ Ok s → leaf ws' start total s r ≡ leaf ws start total s r)
      → leaf ws' start total t (q ++ r) ≡ leaf ws start total t (q ++ r)
  unfolding leaf reach
  same_then [] r t s k = k t refl
  same_then (i ∷ is) r t s k =
      rw s.0 (go (entry_at ws start total t i) refl (λ e h. same_then is r (frame_of e) (s.1 e h) (λ x g. k x (rw h g))))
    where
      go : (x : Result ℕ Refusal) → entry_at ws start total t i ≡ x
          → ((e : ℕ) → entry_at ws start total t i ≡ Ok e → leaf ws' start total (frame_of e) (is ++ r) ≡ leaf ws start total (frame_of e) (is ++ r))
          → and_then x Err (λ e. judge (is ++ r) e (leaf ws' start total (frame_of e) (is ++ r))) ≡ and_then x Err (λ e. judge (is ++ r) e (leaf ws start total (frame_of e) (is ++ r)))
      go (Ok e) h k = ap (judge (is ++ r) e) (k e h)
      go (Err n) h k = refl

  pub same_leaf : (p : List ℕ) (t : ℕ) → Same ws ws' start total t p → leaf ws' start total t p ≡ leaf ws start total t p
  unfolding leaf
  same_leaf p t s = subst (λ (l : List ℕ). leaf ws' start total t l ≡ leaf ws start total t l) (append-nil p) (same_then p [] t s (λ _ _. refl))

  -- words that agree but at entries of D: a path along which no entry of D is met reads the same
  pub same_along : (D : ℕ → ℕ → Type 0)
      → ((t i : ℕ) → inside start total t ≡ true → i < 512 → (D t i → ⊥) → get_or ws' (place start t i) 0 ≡ get_or ws (place start t i) 0)
      → (p : List ℕ) (t : ℕ)
      → ((a : List ℕ) (i : ℕ) (r : List ℕ) (s : ℕ) → p ≡ a ++ (i ∷ r) → reach ws start total t a ≡ Ok s → inside start total s ≡ true → i < 512 → D s i → ⊥)
      → Same ws ws' start total t p
  unfolding reach
  same_along D rest [] t off = tt
  same_along D rest (i ∷ is) t off = (
    entry_agree ws ws' start total t i (λ a b. rest t i a b (off [] i is t refl refl a b)),
    λ e h. same_along D rest is (frame_of e) (λ a j r s k g. off (i ∷ a) j r s (ap (λ (l : List ℕ). i ∷ l) k) (rw h g)),
  )
