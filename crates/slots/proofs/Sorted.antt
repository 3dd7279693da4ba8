-- Lists sorted by a key: a key's place decides whether one has it, and where one is put in, put instead of another or taken out; and they stay sorted.
use Prim.Native.Nat.{ℕ, zero, suc, ◌<◌, ◌≤◌}
use mathlib.Core.Path.{◌≡◌, refl, sym, ◌∙◌, ap}
use mathlib.Core.Bool.{Bool, true, false, false≢true}
use mathlib.Core.List.{List, [], ◌∷◌}
use native.Mathlib.Decide.{dec_lt}
use native.Mathlib.Omega.{arith}
use lib.Dec.{eqb, leb, ltb}
use lib.ListN.{length, get_or, set, take, drop}
use borrow.Author.Tests.{lt-ltb, le-ltb, le-leb, lt-leb, leb-true, eqb-true, eqb-false, eq-eqb, ne_eqb}
use Rattle.bits.specs.Bit.{pick, both}
use Rattle.bits.proofs.Choice.{pick_cases, both_true}
use Rattle.slots.specs.Shifts.{put_in, taken_out}
use Rattle.slots.specs.Sorted.{rising_from, has_key, insert, remove, place_of}

-- below, at or above
by_order : {P : Type 0} (w v : ℕ) → (w < v → P) → (w ≡ v → P) → (v < w → P) → P
by_order {P} w v a b c = go (dec_lt w v) (dec_lt v w)
  where
    go : Dec (w < v) → Dec (v < w) → P
    go (yes h) k = a h
    go (no h) (yes k) = c k
    go (no h) (no k) = b (omega arith)

two : (a b : Bool) → a ≡ true → b ≡ true → both a b ≡ true
two a b h k = rw (h, k)

module _ {A : Type 0} (key : A → ℕ) where
  -- ---- the test that keys rise, by neighbours

  pub rise_first : (d : A) (n : ℕ) (l : List A) → rising_from key 0 (take n l) ≡ rising_from key (suc (key (get_or l 0 d))) (drop 1 (take n l))
  unfolding rising_from
  rise_first d zero l = refl
  rise_first d (suc n) [] = refl
  rise_first d (suc n) (a ∷ l) = rw (le-leb 0 (key a) (omega arith))

  module _ {p : List A} where
    pub rise_end : (k : ℕ) → p ≡ [] → rising_from key k p ≡ true
    unfolding rising_from
    rise_end k c = rw c

    module _ {a : A} {q : List A} (c : p ≡ a ∷ q) (u : ℕ) where
      pub rise_stop : key a ≤ u → rising_from key (suc u) p ≡ false
      unfolding rising_from
      rise_stop h = rw (c, lt-leb (suc u) (key a) (omega arith))

      pub rise_on : u < key a → rising_from key (suc u) p ≡ rising_from key (suc (key a)) q
      unfolding rising_from
      rise_on h = rw (c, le-leb (suc u) (key a) h)

  rise_head : (lo : ℕ) (a : A) (l : List A) → rising_from key lo (a ∷ l) ≡ true → lo ≤ key a
  unfolding rising_from
  rise_head lo a l e = leb-true lo (key a) (both_true (leb lo (key a)) (rising_from key (suc (key a)) l) e).0

  rise_tail : (lo : ℕ) (a : A) (l : List A) → rising_from key lo (a ∷ l) ≡ true → rising_from key (suc (key a)) l ≡ true
  unfolding rising_from
  rise_tail lo a l e = (both_true (leb lo (key a)) (rising_from key (suc (key a)) l) e).1

  -- no key is below the first
  rise_at : (d : A) (lo m : ℕ) (l : List A) → rising_from key lo l ≡ true → m < length l → lo ≤ key (get_or l m d)
  rise_at d lo m [] h k = absurd (omega arith)
  rise_at d lo zero (a ∷ l) h k = rise_head lo a l h
  rise_at d lo (suc m) (a ∷ l) h k = omega (arith, rise_head lo a l h, rise_at d (suc (key a)) m l (rise_tail lo a l h) (omega arith))

  module _ (v : ℕ) where
    -- ---- the search for a key's place

    module _ {p : List A} where
      pub place_end : p ≡ [] → place_of key v p ≡ 0
      unfolding place_of
      place_end c = rw c

      module _ {a : A} {q : List A} (c : p ≡ a ∷ q) where
        pub place_stop : v ≤ key a → place_of key v p ≡ 0
        unfolding place_of
        place_stop h = rw (c, le-ltb (key a) v h)

        pub place_on : key a < v → place_of key v p ≡ suc (place_of key v q)
        unfolding place_of
        place_on h = rw (c, lt-ltb (key a) v h)

    pub place_le : (l : List A) → place_of key v l ≤ length l
    unfolding place_of
    place_le [] = omega arith
    place_le (a ∷ l) = pick_cases (λ (k : ℕ). k ≤ suc (length l)) (ltb (key a) v) _ _ (λ _. let more = place_le l in omega arith) (λ _. omega arith)

    -- .. by halves: it is behind one with a lower key
    pub place_behind : (d : A) (lo m : ℕ) (l : List A) → rising_from key lo l ≡ true → m < length l → key (get_or l m d) < v → m < place_of key v l
    place_behind d lo m [] h k e = absurd (omega arith)
    place_behind d lo zero (a ∷ l) h k e = omega (arith, place_on {p = a ∷ l} refl e)
    place_behind d lo (suc m) (a ∷ l) h k e =
        let f = rise_tail lo a l h in
        let up = rise_at d (suc (key a)) m l f (omega arith) in
        omega (arith, place_on {p = a ∷ l} refl (omega arith), place_behind d (suc (key a)) m l f (omega arith) e)

    -- .. and not behind one that has no lower key
    pub place_until : (d : A) (m : ℕ) (l : List A) → m < length l → v ≤ key (get_or l m d) → place_of key v l ≤ m
    place_until d m [] k e = absurd (omega arith)
    place_until d zero (a ∷ l) k e = omega (arith, place_stop {p = a ∷ l} refl e)
    place_until d (suc m) (a ∷ l) k e = by (place_until d m l (omega arith) e) (dec_lt (key a) v)
      where
        by : place_of key v l ≤ m → Dec (key a < v) → place_of key v (a ∷ l) ≤ suc m
        by more (yes h) = omega (arith, place_on {p = a ∷ l} refl h)
        by more (no h) = omega (arith, place_stop {p = a ∷ l} refl (omega arith))

    -- ---- one with the key stands at its place

    -- below the first key none has it
    pub none_below : (lo : ℕ) (l : List A) → v < lo → rising_from key lo l ≡ true → has_key key v l ≡ false
    unfolding rising_from has_key
    none_below lo [] h e = refl
    none_below lo (a ∷ l) h e =
        let r = both_true (leb lo (key a)) (rising_from key (suc (key a)) l) e in
        let up : lo ≤ key a = leb-true lo (key a) r.0 in
        rw (ne_eqb (key a) v (λ q. omega arith)) (none_below (suc (key a)) l (omega arith) r.1)

    module _ (a : A) (l : List A) where
      has_on : (key a ≡ v → ⊥) → has_key key v (a ∷ l) ≡ has_key key v l
      unfolding has_key
      has_on h = rw (ne_eqb (key a) v h)

      has_here : key a ≡ v → has_key key v (a ∷ l) ≡ true
      unfolding has_key
      has_here h = rw (eq-eqb (key a) v h)

      has_above : (lo : ℕ) → v < key a → rising_from key lo (a ∷ l) ≡ true → has_key key v (a ∷ l) ≡ false
      has_above lo h e = has_on (λ q. omega arith) ∙ none_below (suc (key a)) l (omega arith) (rise_tail lo a l e)

    -- past the last none has it
    pub key_past : (l : List A) → length l ≤ place_of key v l → has_key key v l ≡ false
    unfolding has_key
    key_past [] h = refl
    key_past (a ∷ l) h =
        by_order (key a) v (λ k. has_on a l (λ q. omega arith) ∙ key_past l (let e = place_on {p = a ∷ l} refl k in omega arith))
        (λ k. absurd (let e = place_stop {p = a ∷ l} refl (omega arith) in omega arith))
        (λ k. absurd (let e = place_stop {p = a ∷ l} refl (omega arith) in omega arith))

    pub place_under : (l : List A) → has_key key v l ≡ true → place_of key v l < length l
    place_under l e = go (dec_lt (place_of key v l) (length l))
      where
        go : Dec (place_of key v l < length l) → place_of key v l < length l
        go (yes h) = h
        go (no h) = absurd (false≢true (sym (key_past l (omega arith)) ∙ e))

    pub key_at : (d : A) (lo : ℕ) (l : List A) → rising_from key lo l ≡ true → place_of key v l < length l
        → has_key key v l ≡ eqb (key (get_or l (place_of key v l) d)) v
    key_at d lo [] e h = absurd (omega arith)
    key_at d lo (a ∷ l) e h =
        by_order (key a) v
        (λ k. let s = place_on {p = a ∷ l} refl k in has_on a l (λ q. omega arith) ∙ rw s (key_at d (suc (key a)) l (rise_tail lo a l e) (omega arith)))
        (λ k. let s = place_stop {p = a ∷ l} refl (omega arith) in rw s (has_here a l k ∙ sym (eq-eqb (key a) v k)))
        (λ k. let s = place_stop {p = a ∷ l} refl (omega arith) in rw s (has_above a l lo k e ∙ sym (ne_eqb (key a) v (λ q. omega arith))))

    -- ---- the list without the one that has the key

    pub remove_none : (l : List A) → has_key key v l ≡ false → remove key v l ≡ l
    unfolding remove
    remove_none [] e = refl
    remove_none (a ∷ l) e =
        pick_cases (λ (x : List A). x ≡ a ∷ l) (eqb (key a) v) _ _ (λ k. absurd (false≢true (sym e ∙ has_here a l (eqb-true (key a) v k))))
        (λ k. ap (λ (x : List A). a ∷ x) (remove_none l (sym (has_on a l (eqb-false (key a) v k)) ∙ e)))

    pub remove_there : (lo : ℕ) (l : List A) → rising_from key lo l ≡ true → has_key key v l ≡ true → remove key v l ≡ taken_out (place_of key v l) l
    unfolding remove place_of has_key
    remove_there lo [] rise e = absurd (false≢true e)
    remove_there lo (a ∷ l) rise e =
        by_order (key a) v (λ k. rw (ne_eqb (key a) v (λ q. omega arith), lt-ltb (key a) v k)
        (ap (λ (x : List A). a ∷ x) (remove_there (suc (key a)) l (rise_tail lo a l rise) (sym (has_on a l (λ q. omega arith)) ∙ e))))
        (λ k. rw (eq-eqb (key a) v k, le-ltb (key a) v (omega arith))) (λ k. absurd (false≢true (sym (has_above a l lo k rise) ∙ e)))

    pub length_remove : (l : List A) → length (remove key v l) ≤ length l
    unfolding remove
    length_remove [] = omega arith
    length_remove (a ∷ l) =
        let more = length_remove l in
        pick_cases (λ (x : List A). length x ≤ suc (length l)) (eqb (key a) v) _ _ (λ _. omega arith) (λ _. omega arith)

  -- two keys are removed in either order
  pub remove_comm : (v w : ℕ) (l : List A) → remove key v (remove key w l) ≡ remove key w (remove key v l)
  unfolding remove
  remove_comm v w [] = refl
  remove_comm v w (a ∷ l) = by (eqb (key a) v) refl (eqb (key a) w) refl (remove_comm v w l)
    where
      by : (x : Bool) → eqb (key a) v ≡ x → (y : Bool) → eqb (key a) w ≡ y → remove key v (remove key w l) ≡ remove key w (remove key v l)
          → remove key v (pick y l (a ∷ remove key w l)) ≡ remove key w (pick x l (a ∷ remove key v l))
      by true e true f more = ap (λ (k : ℕ). remove key k l) (sym (eqb-true (key a) v e) ∙ eqb-true (key a) w f)
      by true e false f more = rw e
      by false e true f more = rw f
      by false e false f more = rw (e, f) (ap (λ (x : List A). a ∷ x) more)

  -- ---- the list with one more, or with one instead of another

  module _ (a : A) where
    pub insert_new : (l : List A) → has_key key (key a) l ≡ false → insert key a l ≡ put_in (place_of key (key a) l) a l
    unfolding insert place_of
    insert_new [] e = refl
    insert_new (b ∷ l) e =
        by_order (key b) (key a) (λ k. rw (le-ltb (key a) (key b) (omega arith), ne_eqb (key a) (key b) (λ q. omega arith), lt-ltb (key b) (key a) k)
        (ap (λ (x : List A). b ∷ x) (insert_new l (sym (has_on (key a) b l (λ q. omega arith)) ∙ e))))
        (λ k. absurd (false≢true (sym e ∙ has_here (key a) b l k))) (λ k. rw (lt-ltb (key a) (key b) k, le-ltb (key b) (key a) (omega arith)))

    pub insert_there : (lo : ℕ) (l : List A) → rising_from key lo l ≡ true → has_key key (key a) l ≡ true → insert key a l ≡ set l (place_of key (key a) l) a
    unfolding insert place_of has_key
    insert_there lo [] rise e = absurd (false≢true e)
    insert_there lo (b ∷ l) rise e =
        by_order (key b) (key a) (λ k. rw (le-ltb (key a) (key b) (omega arith), ne_eqb (key a) (key b) (λ q. omega arith), lt-ltb (key b) (key a) k)
        (ap (λ (x : List A). b ∷ x) (insert_there (suc (key b)) l (rise_tail lo b l rise) (sym (has_on (key a) b l (λ q. omega arith)) ∙ e))))
        (λ k. rw (le-ltb (key a) (key b) (omega arith), eq-eqb (key a) (key b) (sym k), le-ltb (key b) (key a) (omega arith)))
        (λ k. absurd (false≢true (sym (has_above (key a) b l lo k rise) ∙ e)))

    pub length_insert : (l : List A) → has_key key (key a) l ≡ false → length (insert key a l) ≡ suc (length l)
    unfolding insert
    length_insert [] e = refl
    length_insert (b ∷ l) e =
        by_order (key b) (key a) (λ k. rw (le-ltb (key a) (key b) (omega arith), ne_eqb (key a) (key b) (λ q. omega arith))
        (ap suc (length_insert l (sym (has_on (key a) b l (λ q. omega arith)) ∙ e))))
        (λ k. absurd (false≢true (sym e ∙ has_here (key a) b l k))) (λ k. rw (lt-ltb (key a) (key b) k))

  -- ---- they stay sorted

  -- keys that rise from a bound on rise from any below it
  pub rise_earlier : (k lo : ℕ) (l : List A) → k ≤ lo → rising_from key lo l ≡ true → rising_from key k l ≡ true
  unfolding rising_from
  rise_earlier k lo [] h e = refl
  rise_earlier k lo (a ∷ l) h e =
      let r = both_true (leb lo (key a)) (rising_from key (suc (key a)) l) e in
      two (leb k (key a)) (rising_from key (suc (key a)) l) (le-leb k (key a) (omega (arith, leb-true lo (key a) r.0))) r.1

  pub rise_insert : (lo : ℕ) (a : A) (l : List A) → lo ≤ key a → rising_from key lo l ≡ true → rising_from key lo (insert key a l) ≡ true
  unfolding rising_from insert
  rise_insert lo a [] h e = two (leb lo (key a)) true (le-leb lo (key a) h) refl
  rise_insert lo a (b ∷ l) h e =
      let r = both_true (leb lo (key b)) (rising_from key (suc (key b)) l) e in
      by_order (key b) (key a) (λ k. rw (le-ltb (key a) (key b) (omega arith), ne_eqb (key a) (key b) (λ q. omega arith))
      (two (leb lo (key b)) (rising_from key (suc (key b)) (insert key a l)) r.0 (rise_insert (suc (key b)) a l (omega arith) r.1)))
      (λ k. rw (le-ltb (key a) (key b) (omega arith), eq-eqb (key a) (key b) (sym k))
      (two (leb lo (key a)) (rising_from key (suc (key a)) l) (le-leb lo (key a) h) (rw k at r.1)))
      (λ k. rw (lt-ltb (key a) (key b) k)
      (two (leb lo (key a)) (both (leb (suc (key a)) (key b)) (rising_from key (suc (key b)) l)) (le-leb lo (key a) h)
      (two (leb (suc (key a)) (key b)) (rising_from key (suc (key b)) l) (le-leb (suc (key a)) (key b) (omega arith)) r.1)))

  pub rise_remove : (lo v : ℕ) (l : List A) → rising_from key lo l ≡ true → rising_from key lo (remove key v l) ≡ true
  unfolding rising_from remove
  rise_remove lo v [] e = refl
  rise_remove lo v (a ∷ l) e =
      let r = both_true (leb lo (key a)) (rising_from key (suc (key a)) l) e in
      let more = rise_remove (suc (key a)) v l r.1 in
      pick_cases (λ (x : List A). rising_from key lo x ≡ true) (eqb (key a) v) _ _
      (λ _. rise_earlier lo (suc (key a)) l (omega (arith, leb-true lo (key a) r.0)) r.1)
      (λ _. two (leb lo (key a)) (rising_from key (suc (key a)) (remove key v l)) r.0 more)
