-- Steps that commute end in one state, in whatever order they are taken.
use mathlib.Core.Path.{◌≡◌, refl, ◌∙◌, ap, ap₂}
use mathlib.Core.List.{List, [], ◌∷◌, foldl, Permᴰ}

module _ {S A : Type 0} (f : S → A → S) (Good : S → Type 0) (step : (s : S) (a : A) → Good s → Good (f s a))
    (commute : (s : S) (a b : A) → Good s → f (f s a) b ≡ f (f s b) a) where
  pub one_end : {l k : List A} → Permᴰ l k → (s : S) → Good s → foldl f s l ≡ foldl f s k
  one_end Permᴰ.nil s g = refl
  one_end (Permᴰ.cons {a = a} {b = b} {l₂ = k} e d) s g = one_end d (f s a) (step s a g) ∙ ap (λ (x : A). foldl f (f s x) k) e
  one_end (Permᴰ.swap {a = a} {b = b} {a' = a'} {b' = b'} {l = l} e e') s g =
      ap (λ (x : S). foldl f x l) (commute s a b g ∙ ap₂ (λ (x y : A). f (f s x) y) e' e)
  one_end (Permᴰ.trans d d') s g = one_end d s g ∙ one_end d' s g

  -- what the steps keep holds at the end
  pub good_end : (l : List A) (s : S) → Good s → Good (foldl f s l)
  good_end [] s g = g
  good_end (a ∷ l) s g = good_end l (f s a) (step s a g)
