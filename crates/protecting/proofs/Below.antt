-- Pages below one table, entry by entry, and tables below which every page follows w.
use Prim.Native.Nat.{ℕ, zero, suc, ◌+◌, ◌-◌, ◌*◌, ◌/◌, ◌%◌, ◌^◌, ◌<◌, ◌≤◌, min}
use mathlib.Core.Path.{◌≡◌, refl, sym, ◌∙◌, ap}
use mathlib.Core.Bool.{Bool, false}
use mathlib.Core.List.{List}
use native.Mathlib.Nat.{mod-lt, mod-eq_of_lt, div-add-mod', add-mul-mod_self_right}
use native.Mathlib.Decide.{dec_le}
use native.Mathlib.Omega.{arith}
use lib.ListN.{get_or, set, take}
use lib.Pow.{pow_pos}
use Rattle.std.specs.Prelude.{Ok, Err, Result}
use Rattle.answer.specs.declared.Refusal.{Refusal}
use Rattle.answer.specs.declared.Refusal.TheVariants.{TableOutside}
use Rattle.answer.specs.Outcomes.{and_then}
use Rattle.entry.specs.Entry.{frame_of, index, indices, with_writable}
use Rattle.entry.proofs.Entry.{index_last}
use Rattle.frame.specs.Frames.{inside}
use Rattle.paging.specs.Walk.{place, entry_at, reach}
use Rattle.paging.specs.Protect.{page_place, protect_page, protect_pages}
use Rattle.paging.proofs.Walk.{no_value, entry_out}
use Rattle.paging.proofs.Alike.{place_alike}
use Rattle.paging.proofs.Protect.{Toward, toward_alike, toward_follows, page_toward, protect_pages_add, pages_same, pages_follow}
use Rattle.spans.specs.Spans.{to_end}
use Rattle.spans.proofs.Addresses.{same_page, same_above, span_above}
use Rattle.protecting.specs.Protecting.{Follows}

-- ---- where a page's last entry stands

module _ (ws : List ℕ) (start total : ℕ) where
  -- by its indices alone
  place_by : (up root v v' : ℕ) → indices (suc up) v ≡ indices (suc up) v' → page_place up ws start total root v ≡ page_place up ws start total root v'
  unfolding page_place
  place_by up root v v' e =
      let last : index 0 v ≡ index 0 v' = sym (index_last up v) ∙ ap (λ (l : List ℕ). get_or l up 0) e ∙ index_last up v' in
      rw (e, last)

  -- one level further down
  place_down : (d t v : ℕ)
      → page_place (suc d) ws start total t v ≡ and_then (entry_at ws start total t (index (suc d) v)) Err (λ e. page_place d ws start total (frame_of e) v)
  unfolding page_place reach
  place_down d t v = go (entry_at ws start total t (index (suc d) v))
    where
      last : ℕ → Result ℕ Refusal
      last s = and_then (entry_at ws start total s (index 0 v)) Err (λ _. Ok (place start s (index 0 v)))

      go : (x : Result ℕ Refusal)
          → and_then (and_then x Err (λ e. reach ws start total (frame_of e) (take d (indices (suc d) v)))) Err last
          ≡ and_then x Err (λ e. and_then (reach ws start total (frame_of e) (take d (indices (suc d) v))) Err last)
      go (Ok e) = refl
      go (Err n) = refl

-- ---- runs of pages with the same places

module _ (w : Bool) (start total a b t f : ℕ) where
  page_agree : (ws : List ℕ) (v : ℕ) → page_place a ws start total t v ≡ page_place b ws start total f v → protect_page a w ws start total t v ≡ protect_page b w ws start total f v
  unfolding protect_page
  page_agree ws v e = ap (λ (x : Result ℕ Refusal). and_then x (λ _. ws) (λ y. set ws y (with_writable w (get_or ws y 0)))) e

  pages_agree : (k : ℕ) (ws : List ℕ) (v : ℕ)
      → ((j : ℕ) → j < k → page_place a ws start total t (v + j * 4096) ≡ page_place b ws start total f (v + j * 4096))
      → protect_pages a w ws start total t v k ≡ protect_pages b w ws start total f v k
  unfolding protect_pages
  pages_agree zero ws v h = refl
  pages_agree (suc k) ws v h =
      let here : v + 0 * 4096 ≡ v = omega arith in
      let one : protect_page a w ws start total t v ≡ protect_page b w ws start total f v = page_agree ws v (rw here at (h 0 (omega arith))) in
      let same = toward_alike (page_toward ws start total w b f v) in
      rw one
      (pages_agree k (protect_page b w ws start total f v) (v + 4096) (λ j l.
      let next : v + suc j * 4096 ≡ (v + 4096) + j * 4096 = omega arith in
      place_alike same start total a t _ ∙ rw next at (h (suc j) (omega arith)) ∙ sym (place_alike same start total b f _)))

-- ---- the pages of one entry's span

module _ (w : Bool) (ws : List ℕ) (start total t v k : ℕ) where
  -- they share the index down to it
  span_index : (d j : ℕ) → j < to_end d v → index d (v + j * 4096) ≡ index d v
  span_index d j h = ap (λ (x : ℕ). x % 512) (span_above d v j h)

  -- an absent entry, or one of a table that is not lent
  pub part_absent : (d : ℕ) (a : Refusal) → 0 < d → k ≤ to_end d v → entry_at ws start total t (index d v) ≡ Err a → protect_pages d w ws start total t v k ≡ ws
  part_absent zero a some fit e = absurd (omega arith)
  part_absent (suc d) a some fit e =
      pages_same (suc d) w start total t k ws v (λ j x l h.
      let stop : page_place (suc d) ws start total t (v + j * 4096) ≡ Err a = place_down ws start total d t (v + j * 4096) ∙ rw (span_index (suc d) j (omega arith), e) in
      absurd (no_value (sym h ∙ stop)))

  -- one that leads down
  pub part_down : (d e : ℕ) → 0 < d → k ≤ to_end d v → entry_at ws start total t (index d v) ≡ Ok e
      → protect_pages d w ws start total t v k ≡ protect_pages (d - 1) w ws start total (frame_of e) v k
  part_down zero e some fit h = absurd (omega arith)
  part_down (suc d) e some fit h =
      let low : suc d - 1 ≡ d = omega arith in
      rw low (pages_agree w start total (suc d) d t (frame_of e) k ws v (λ j l.
      place_down ws start total d t (v + j * 4096) ∙ rw (span_index (suc d) j (omega arith), h)))

-- ---- the pages of one last table

module _ (w : Bool) (ws : List ℕ) (start total up root v k : ℕ) (fit : k ≤ to_end 1 v) where
  -- the way to it is that of the first
  same_way : (j : ℕ) → j < k → reach ws start total root (take up (indices (suc up) (v + j * 4096))) ≡ reach ws start total root (take up (indices (suc up) v))
  same_way j l = ap (reach ws start total root) (same_above (suc up) 1 (v + j * 4096) v (span_above 1 v j (omega arith)) up (omega arith))

  pub last_none : (a : Refusal) → reach ws start total root (take up (indices (suc up) v)) ≡ Err a → protect_pages up w ws start total root v k ≡ ws
  unfolding page_place
  last_none a h =
      pages_same up w start total root k ws v (λ j x l e.
      let stop : page_place up ws start total root (v + j * 4096) ≡ Err a = rw (same_way j l ∙ h) in
      absurd (no_value (sym e ∙ stop)))

  pub last_there : (t : ℕ) → reach ws start total root (take up (indices (suc up) v)) ≡ Ok t → protect_pages up w ws start total root v k ≡ protect_pages 0 w ws start total t v k
  unfolding page_place reach
  last_there t h = pages_agree w start total up 0 root t k ws v (λ j l. rw (same_way j l ∙ h))

-- ---- every page there is, from any of them on

some_page : (n v v' : ℕ) → (j : ℕ) × ((j < 2 ^ (9 * n)) × (indices n v' ≡ indices n (v + j * 4096)))
some_page n v v' = go (dec_le (v / 2 ^ 12 % 2 ^ (9 * n)) (v' / 2 ^ 12 % 2 ^ (9 * n)))
  where
    -- so many pages on, and so often round
    there : (j q : ℕ) → v / 2 ^ 12 % 2 ^ (9 * n) + j ≡ v' / 2 ^ 12 % 2 ^ (9 * n) + q * 2 ^ (9 * n) → indices n v' ≡ indices n (v + j * 4096)
    there j q h =
        let all = 2 ^ (9 * n) in
        let x = v / 2 ^ 12 in
        let y = v' / 2 ^ 12 in
        let on : (v + j * 4096) / 2 ^ 12 ≡ (y % all + q * all) + x / all * all = omega (arith, h, div-add-mod' x all) in
        let back : (v + j * 4096) / 2 ^ 12 % all ≡ y % all =
        ap (λ (z : ℕ). z % all) on ∙ add-mul-mod_self_right (y % all + q * all) (x / all) all ∙ add-mul-mod_self_right (y % all) q all
        ∙ mod-eq_of_lt (mod-lt y (pow_pos (9 * n))) in
        same_page n v' (v + j * 4096) (sym back)

    go : Dec (v / 2 ^ 12 % 2 ^ (9 * n) ≤ v' / 2 ^ 12 % 2 ^ (9 * n)) → (j : ℕ) × ((j < 2 ^ (9 * n)) × (indices n v' ≡ indices n (v + j * 4096)))
    go (yes l) =
        let m = mod-lt (v' / 2 ^ 12) (pow_pos (9 * n)) in
        (v' / 2 ^ 12 % 2 ^ (9 * n) - v / 2 ^ 12 % 2 ^ (9 * n), (omega arith, there _ 0 (omega arith)))
    go (no l) =
        let m = mod-lt (v / 2 ^ 12) (pow_pos (9 * n)) in
        (v' / 2 ^ 12 % 2 ^ (9 * n) + 2 ^ (9 * n) - v / 2 ^ 12 % 2 ^ (9 * n), (omega arith, there _ 1 (omega arith)))

-- ---- tables below which every page follows w

module _ (d : ℕ) (w : Bool) (start total t : ℕ) where
  pub follows_same : (ws : List ℕ) (v n : ℕ) → Follows d w ws start total t → protect_pages d w ws start total t v n ≡ ws
  follows_same ws v n h = pages_same d w start total t n ws v (λ j x _ e. h.page (v + j * 4096) x e)

  pub follows_toward : {ws ws' : List ℕ} → Toward w ws ws' → Follows d w ws start total t → Follows d w ws' start total t
  follows_toward p h = record { page = λ v x e. toward_follows p x (h.page v x (sym (place_alike (toward_alike p) start total d t v) ∙ e)) }

  pub follows_all : (ws : List ℕ) (v n : ℕ) → 2 ^ (9 * suc d) ≤ n → Follows d w (protect_pages d w ws start total t v n) start total t
  follows_all ws v n all = record {
    page = λ v' x e.
        let p = some_page (suc d) v v' in
        pages_follow d w start total t n ws v p.0 x (omega (arith, p.1.0)) (sym (place_by _ start total d t v' (v + p.0 * 4096) p.1.1) ∙ e);
  }

  -- so that no more pages than there are need to be gone through
  pub all_pages : (ws : List ℕ) (v n : ℕ) → protect_pages d w ws start total t v n ≡ protect_pages d w ws start total t v (min n (2 ^ (9 * suc d)))
  all_pages ws v n = go (dec_le n (2 ^ (9 * suc d)))
    where
      go : Dec (n ≤ 2 ^ (9 * suc d)) → protect_pages d w ws start total t v n ≡ protect_pages d w ws start total t v (min n (2 ^ (9 * suc d)))
      go (yes l) = ap (protect_pages d w ws start total t v) (omega arith)
      go (no l) =
          let all = 2 ^ (9 * suc d) in
          let parts : n ≡ all + (n - all) = omega arith in
          let most : all ≡ min n all = omega arith in
          ap (protect_pages d w ws start total t v) parts ∙ protect_pages_add d w start total t (n - all) all ws v
          ∙ follows_same (protect_pages d w ws start total t v all) (v + all * 4096) (n - all) (follows_all ws v all (omega arith))
          ∙ ap (protect_pages d w ws start total t v) most

  -- .. by what code has in its hands
  pub most_pages : (ws : List ℕ) (v n : ℕ) {all most : ℕ} → all ≡ 2 ^ (9 * suc d) → most ≡ min n all → protect_pages d w ws start total t v most ≡ protect_pages d w ws start total t v n
  most_pages ws v n {most = most} e f =
      let same : most ≡ min n (2 ^ (9 * suc d)) = omega (arith, e, f) in
      ap (protect_pages d w ws start total t v) same ∙ sym (all_pages ws v n)

-- a table that is not lent has none
pub follows_outside : (d : ℕ) (w : Bool) (ws : List ℕ) (start total t : ℕ) → inside start total t ≡ false → Follows d w ws start total t
unfolding page_place reach
follows_outside zero w ws start total t h =
    record { page = λ v x e. let stop : page_place zero ws start total t v ≡ Err TableOutside = rw (entry_out ws start total t (index 0 v) h) in absurd (no_value (sym e ∙ stop)) }
follows_outside (suc d) w ws start total t h =
    record {
      page = λ v x e.
          let stop : page_place (suc d) ws start total t v ≡ Err TableOutside = place_down ws start total d t v ∙ rw (entry_out ws start total t (index (suc d) v) h) in
          absurd (no_value (sym e ∙ stop));
    }
