-- Paths: lists of indices, top level first. Which paths lead to which, whether a path goes through an entry, and the parts of an address's path.
use Prim.Native.Nat.{ℕ, zero, suc, ◌<◌, ◌≤◌}
use mathlib.Core.Path.{◌≡◌, refl, sym, ◌∙◌, ap}
use mathlib.Core.List.{List, [], ◌∷◌, ◌++◌, append_assoc, append-nil}
use mathlib.Core.Logic.{◌⊎◌, inl, inr, ⊎_elim}
use native.Mathlib.Omega.{arith}
use native.Mathlib.Decide.{ℕ_discrete}
use lib.ListN.{length, get_or, take, drop, length-append, length-take, take-append-drop}
use lib.Seq.{take-suc, take_all, take_at}
use Rattle.entry.specs.Entry.{indices}
use Rattle.entry.proofs.Entry.{indices_lt, length_indices}

pub nil_cons : (i : ℕ) (l : List ℕ) → ◌≡◌ {A = List ℕ} [] (i ∷ l) → ⊥
nil_cons i l h = let z : ◌≡◌ {A = ℕ} 0 1 = cc in omega arith

-- p is a run of leading indices of q
pub record Leads (p q : List ℕ) : Type 0 where
  pub rest : List ℕ
  pub join : p ++ rest ≡ q

pub leads_refl : (p : List ℕ) → Leads p p
leads_refl p = record { rest = []; join = append-nil p }

pub leads_trans : {p q r : List ℕ} → Leads p q → Leads q r → Leads p r
leads_trans {p} a b =
    record { rest = a.rest ++ b.rest; join = sym (append_assoc p a.rest b.rest) ∙ ap (λ (l : List ℕ). l ++ b.rest) a.join ∙ b.join }

pub leads_append : (p r : List ℕ) → Leads p (p ++ r)
leads_append p r = record { rest = r; join = refl }

pub leads_length : {p q : List ℕ} → Leads p q → length p ≤ length q
leads_length {p} a = omega (arith, length-append p a.rest, ap length a.join)

-- a run as long as the whole is the whole
pub leads_whole : {p q : List ℕ} → Leads p q → length q ≤ length p → p ≡ q
leads_whole {p} {q} a l = go a.rest a.join
  where
    go : (r : List ℕ) → p ++ r ≡ q → p ≡ q
    go [] e = sym (append-nil p) ∙ e
    go (i ∷ r) e = absurd (omega (arith, length-append p (i ∷ r), ap length e))

-- the leading runs are those that `take` gives
pub take_leads : (k : ℕ) (q : List ℕ) → Leads (take k q) q
take_leads k q = record { rest = drop k q; join = take-append-drop k q }

pub leads_take : {p q : List ℕ} → Leads p q → p ≡ take (length p) q
leads_take {p} a = rw (← a.join) (sym (take_at p a.rest (length p) refl))

-- a run of a path with one more index is a run of the path, or all of it
pub leads_snoc : (p q : List ℕ) (j : ℕ) → Leads p (q ++ (j ∷ [])) → Leads p q ⊎ (p ≡ q ++ (j ∷ []))
leads_snoc [] q j a = inl (record { rest = q; join = refl })
leads_snoc (i ∷ p) [] j a = inr (leads_whole a (omega arith))
leads_snoc (i ∷ p) (k ∷ q) j a =
    let e = a.join in
    let ik : i ≡ k = cc in
    let t : p ++ a.rest ≡ q ++ (j ∷ []) = cc in
    ⊎_elim (λ b. let h = b.join in inl (record { rest = b.rest; join = cc })) (λ b. inr (cc))
    (leads_snoc p q j (record { rest = a.rest; join = t }))

-- whether a path goes through entry j at the end of q
pub through : (q : List ℕ) (j : ℕ) (p : List ℕ) → ((r : List ℕ) × (p ≡ q ++ (j ∷ r))) ⊎ ((r : List ℕ) → p ≡ q ++ (j ∷ r) → ⊥)
through [] j [] = inr (λ r e. nil_cons j r e)
through [] j (i ∷ is) = go (ℕ_discrete i j)
  where
    go : Dec (i ≡ j) → ((r : List ℕ) × (i ∷ is ≡ j ∷ r)) ⊎ ((r : List ℕ) → i ∷ is ≡ j ∷ r → ⊥)
    go (yes e) = inl (is, ap (λ (x : ℕ). x ∷ is) e)
    go (no e) = inr (λ r h. e (cc))
through (k ∷ q) j [] = inr (λ r e. nil_cons k (q ++ (j ∷ r)) e)
through (k ∷ q) j (i ∷ is) = go (ℕ_discrete i k) (through q j is)
  where
    go : Dec (i ≡ k) → ((r : List ℕ) × (is ≡ q ++ (j ∷ r))) ⊎ ((r : List ℕ) → is ≡ q ++ (j ∷ r) → ⊥)
        → ((r : List ℕ) × (i ∷ is ≡ k ∷ q ++ (j ∷ r))) ⊎ ((r : List ℕ) → i ∷ is ≡ k ∷ q ++ (j ∷ r) → ⊥)
    go (no e) x = inr (λ r h. e (cc))
    go (yes e) (inl x) = let h = x.1 in inl (x.0, cc)
    go (yes e) (inr x) = inr (λ r h. x r (cc))

-- two paths are equal or not
pub same_path : (p q : List ℕ) → Dec (p ≡ q)
same_path [] [] = yes refl
same_path [] (j ∷ q) = no (nil_cons j q)
same_path (i ∷ p) [] = no (λ e. nil_cons i p (sym e))
same_path (i ∷ p) (j ∷ q) = go (ℕ_discrete i j) (same_path p q)
  where
    go : Dec (i ≡ j) → Dec (p ≡ q) → Dec (i ∷ p ≡ j ∷ q)
    go (yes a) (yes b) = yes (cc)
    go (yes a) (no b) = no (λ e. b (cc))
    go (no a) b = no (λ e. a (cc))

-- indices that a table has
abbrev pub Small : List ℕ → Type 0
Small p = (k : ℕ) → get_or p k 0 < 512

pub take_small : (k : ℕ) (p : List ℕ) → Small p → Small (take k p)
take_small zero p h i = omega arith
take_small (suc k) [] h i = omega arith
take_small (suc k) (x ∷ p) h zero = h 0
take_small (suc k) (x ∷ p) h (suc i) = take_small k p (λ a. h (suc a)) i

-- The path of address v on a board of up + 1 levels: the way to its last table, and the index there.
abbrev pub path : ℕ → ℕ → List ℕ
path up v = indices (suc up) v

abbrev pub upper : ℕ → ℕ → List ℕ
upper up v = take up (path up v)

abbrev pub last : ℕ → ℕ → ℕ
last up v = get_or (path up v) up 0

pub length_path : (up v : ℕ) → length (path up v) ≡ suc up
length_path up v = length_indices (suc up) v

pub length_upper : (up v : ℕ) → length (upper up v) ≡ up
length_upper up v = length-take up (path up v) ∙ omega (arith, length_path up v)

pub upper_small : (up v : ℕ) → Small (upper up v)
upper_small up v = take_small up (path up v) (indices_lt (suc up) v)

pub last_small : (up v : ℕ) → last up v < 512
last_small up v = indices_lt (suc up) v up

-- all of its indices
pub take_path : (up v : ℕ) → take (suc up) (path up v) ≡ path up v
take_path up v = take_all (suc up) (path up v) (omega (arith, length_path up v))

pub path_split : (up v : ℕ) → upper up v ++ (last up v ∷ []) ≡ path up v
path_split up v = sym (take-suc (path up v) up 0 (omega (arith, length_path up v))) ∙ take_path up v
