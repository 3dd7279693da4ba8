-- Lists without repetition, and what another order of a list keeps.
use mathlib.Core.Path.{◌≡◌, refl, sym, ◌∙◌, ap, subst}
use mathlib.Core.Logic.{⊎_elim}
use mathlib.Core.List.Memᴰ
use mathlib.Core.List.Permᴰ
use mathlib.Core.List.{List, [], ◌∷◌, ◌++◌, map, append_assoc, Memᴰ, Permᴰ}
use Rattle.tree.proofs.Books.{perm_member}
use Rattle.release.specs.Demand3.{concat, Region, Reordered, none, keep, swap, then}

-- a list without repetition
abbrev pub Once : {A : Type 0} → List A → Type 0
Once {A} [] = Unit {0}
Once {A} (a ∷ l) = (Memᴰ a l → ⊥) × Once l

pub perm_once : {A : Type 0} {l k : List A} → Permᴰ l k → Once l → Once k
perm_once Permᴰ.nil o = o
perm_once (Permᴰ.cons e d) o = ((λ m. o.0 (Memᴰ.cast e (perm_member (Permᴰ.symm d) m))), perm_once d o.1)
perm_once (Permᴰ.swap e e') o = (
  (λ m. ⊎_elim (λ q. o.0 (Memᴰ.head (e ∙ sym q ∙ sym e'))) (λ q. o.1.0 (Memᴰ.cast e' q)) (Memᴰ.cases_cons m)),
  ((λ m. o.0 (Memᴰ.tail (Memᴰ.cast e m))), o.1.1),
)
perm_once (Permᴰ.trans d d') o = perm_once d' (perm_once d o)

pub perm_map : {A B : Type 0} (f : A → B) {l k : List A} → Permᴰ l k → Permᴰ (map f l) (map f k)
perm_map f Permᴰ.nil = Permᴰ.nil
perm_map f (Permᴰ.cons e d) = Permᴰ.cons (ap f e) (perm_map f d)
perm_map f (Permᴰ.swap e e') = Permᴰ.swap (ap f e) (ap f e')
perm_map f (Permᴰ.trans d d') = Permᴰ.trans (perm_map f d) (perm_map f d')

-- two lists in front of a third change places
pub exchange : {A : Type 0} (a b c : List A) → Permᴰ (a ++ (b ++ c)) (b ++ (a ++ c))
exchange [] b c = Permᴰ.refl (b ++ c)
exchange (x ∷ a) b c = Permᴰ.trans (Permᴰ.cons refl (exchange a b c)) (Permᴰ.symm (Permᴰ.middle x b (a ++ c)))

pub perm_concat : {A B : Type 0} (f : A → List B) {l k : List A} → Permᴰ l k → Permᴰ (concat f l) (concat f k)
unfolding concat
perm_concat f Permᴰ.nil = Permᴰ.nil
perm_concat f (Permᴰ.cons {a = a} {b = b} {l₂ = k} e d) =
    Permᴰ.trans (Permᴰ.append_left (f a) (perm_concat f d)) (subst (λ x. Permᴰ (f a ++ concat f k) (f x ++ concat f k)) e (Permᴰ.refl (f a ++ concat f k)))
perm_concat f (Permᴰ.swap {a = a} {b = b} {a' = a'} {b' = b'} {l = l} e e') =
    subst (λ x. Permᴰ (f a ++ (f b ++ concat f l)) (f x ++ (f b' ++ concat f l))) e'
    (subst (λ x. Permᴰ (f a ++ (f b ++ concat f l)) (f b ++ (f x ++ concat f l))) e (exchange (f a) (f b) (concat f l)))
perm_concat f (Permᴰ.trans d d') = Permᴰ.trans (perm_concat f d) (perm_concat f d')

-- a member in front
pub perm_front : {A : Type 0} {x : A} (l : List A) → Memᴰ x l → (k : List A) × Permᴰ l (x ∷ k)
perm_front [] m = absurd (Memᴰ.not-nil m)
perm_front (y ∷ l) m =
    ⊎_elim (λ e. (l, Permᴰ.cons (sym e) (Permᴰ.refl l)))
    (λ q. let r = perm_front l q in (y ∷ r.0, Permᴰ.trans (Permᴰ.cons refl r.1) (Permᴰ.swap refl refl))) (Memᴰ.cases_cons m)

-- the statement's reorderings
pub reordered : {l k : List Region} → Reordered l k → Permᴰ l k
reordered none = Permᴰ.nil
reordered (keep d) = Permᴰ.cons refl (reordered d)
reordered swap = Permᴰ.swap refl refl
reordered (then d d') = Permᴰ.trans (reordered d) (reordered d')

-- members of joined lists
pub concat_member : {A B : Type 0} (f : A → List B) (b : B) (l : List A) → Memᴰ b (concat f l) → (a : A) × Memᴰ a l × Memᴰ b (f a)
unfolding concat
concat_member f b [] m = absurd (Memᴰ.not-nil m)
concat_member f b (a ∷ l) m =
    ⊎_elim (λ q. (a, Memᴰ.head refl, q)) (λ q. let r = concat_member f b l q in (r.0, Memᴰ.tail r.1, r.2)) (Memᴰ.append_cases (f a) m)

pub member_concat : {A B : Type 0} (f : A → List B) (b : B) (a : A) (l : List A) → Memᴰ a l → Memᴰ b (f a) → Memᴰ b (concat f l)
unfolding concat
member_concat f b a [] m q = absurd (Memᴰ.not-nil m)
member_concat f b a (x ∷ l) m q =
    ⊎_elim (λ e. Memᴰ.append_left (concat f l) (subst (λ y. Memᴰ b (f y)) e q)) (λ r. Memᴰ.append_right (f x) (member_concat f b a l r q)) (Memᴰ.cases_cons m)

pub concat_append : {A B : Type 0} (f : A → List B) (l k : List A) → concat f (l ++ k) ≡ concat f l ++ concat f k
unfolding concat
concat_append f [] k = refl
concat_append f (a ∷ l) k = ap (λ xs. f a ++ xs) (concat_append f l k) ∙ sym (append_assoc (f a) (concat f l) (concat f k))
