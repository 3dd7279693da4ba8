-- The test that listed pages rise, page by page: what is left of it behind a page that was read.
use Prim.Native.Nat.{ℕ, suc, ◌+◌, ◌≤◌, ◌<◌}
use mathlib.Core.Path.{◌≡◌, refl, ap, ◌∙◌}
use mathlib.Core.Bool.{Bool, true, false}
use mathlib.Core.List.{List}
use native.Mathlib.Omega.{arith}
use lib.ListN.{get_or}
use lib.Seq.{slice}
use Rattle.slots.specs.Sorted.{rising_from}
use Rattle.slots.proofs.Slices.{next, none}
use Rattle.slots.proofs.Sorted.{rise_stop, rise_on, rise_end}
use Rattle.cow.specs.Marked.{page_key}
use Rattle.cow.specs.Packed.{marked_in}
use Rattle.cow.proofs.RoundTrip.{slots_long}

module _ (bs : List ℕ) (n : ℕ) (few : n ≤ 256) (i u : ℕ) where
  abbrev l : List ℕ
  l = (marked_in bs).slots

  pub page_stops : i < n → get_or l i 0 ≤ u → rising_from page_key (suc u) (slice i n l) ≡ false
  page_stops in_list low = rise_stop page_key (next 0 l n (omega (arith, slots_long bs, few)) i in_list) u low

  pub page_rises : (j : ℕ) → i + 1 ≡ j → i < n → u < get_or l i 0 → rising_from page_key (suc u) (slice i n l) ≡ rising_from page_key (suc (get_or l i 0)) (slice j n l)
  page_rises j e in_list high = rise_on page_key (next 0 l n (omega (arith, slots_long bs, few)) i in_list) u high ∙ ap (λ (k : ℕ). rising_from page_key (suc (get_or l i 0)) (slice k n l)) e

  pub no_page_left : n ≤ i → rising_from page_key (suc u) (slice i n l) ≡ true
  no_page_left out = rise_end page_key (suc u) (none 0 l n (omega (arith, slots_long bs, few)) i out)

-- four of them, from i on
module _ (bs : List ℕ) (n : ℕ) (few : n ≤ 256) (i u : ℕ) (in_list : i + 3 < n) where
  abbrev page : ℕ → ℕ
  page k = get_or (marked_in bs).slots k 0

  abbrev left : ℕ → ℕ → Bool
  left above k = rising_from page_key (suc above) (slice k n (marked_in bs).slots)

  one_on : u < page i → left u i ≡ left (page i) (i + 1)
  one_on h = page_rises bs n few i u _ refl (omega (arith, in_list)) h

  pub stops_second : u < page i → page (i + 1) ≤ page i → left u i ≡ false
  stops_second h k = one_on h ∙ page_stops bs n few (i + 1) _ (omega (arith, in_list)) k

  two_on : u < page i → page i < page (i + 1) → left u i ≡ left (page (i + 1)) (i + 2)
  two_on h k = one_on h ∙ page_rises bs n few (i + 1) _ (i + 2) (omega arith) (omega (arith, in_list)) k

  pub stops_third : u < page i → page i < page (i + 1) → page (i + 2) ≤ page (i + 1) → left u i ≡ false
  stops_third h k m = two_on h k ∙ page_stops bs n few (i + 2) _ (omega (arith, in_list)) m

  three_on : u < page i → page i < page (i + 1) → page (i + 1) < page (i + 2) → left u i ≡ left (page (i + 2)) (i + 3)
  three_on h k m = two_on h k ∙ page_rises bs n few (i + 2) _ (i + 3) (omega arith) (omega (arith, in_list)) m

  pub stops_fourth : u < page i → page i < page (i + 1) → page (i + 1) < page (i + 2) → page (i + 3) ≤ page (i + 2) → left u i ≡ false
  stops_fourth h k m o = three_on h k m ∙ page_stops bs n few (i + 3) _ in_list o

  pub four_rise : u < page i → page i < page (i + 1) → page (i + 1) < page (i + 2) → page (i + 2) < page (i + 3) → left u i ≡ left (page (i + 3)) (i + 4)
  four_rise h k m o = three_on h k m ∙ page_rises bs n few (i + 3) _ (i + 4) (omega arith) in_list o
