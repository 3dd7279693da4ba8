-- The marked pages: the test for a broken list, what the calls come to by it, and what a call on packed bytes says.
use Prim.Native.Nat.{ℕ, ◌<◌, ◌≤◌}
use mathlib.Core.Path.{◌≡◌, refl, sym, ◌∙◌, ap}
use mathlib.Core.Bool.{Bool, true, false, false≢true}
use mathlib.Core.List.{List}
use native.Mathlib.Omega.{arith}
use lib.Dec.{leb}
use borrow.Author.Tests.{le-leb, lt-leb, leb-true, eqb-true, ne_eqb}
use lib.ListN.{length, get_or, set, take, length-take}
use lib.Seq.{set-get_or}
use Rattle.std.specs.Prelude.{Ok, Err, Result, ⊤}
use Rattle.answer.specs.declared.Refusal.{Refusal}
use Rattle.answer.specs.declared.Refusal.TheVariants.{BrokenRecord, ListFull}
use Rattle.bits.specs.Bit.{unless, both}
use Rattle.bits.proofs.Choice.{both_true}
use Rattle.packed.proofs.RoundTrip.{Bytes}
use Rattle.slots.specs.Slots.{Slots, listed}
use Rattle.slots.specs.Shifts.{put_in, taken_out}
use Rattle.slots.specs.Sorted.{rising_from, has_key, insert, remove, place_of, found}
use Rattle.slots.proofs.Search.{found_tells}
use Rattle.slots.proofs.Sorted.{place_le, place_under, key_past, key_at, insert_there, insert_new, remove_none, remove_there}
use Rattle.slots.proofs.Stored.{stored_again}
use Rattle.cow.specs.Marked.{page_of, page_key, sound_marked, store_pages, MarkedDid, marked_did, mark_cow, unmark_cow, is_cow}
use Rattle.cow.specs.Packed.{marked_size, marked_in, marked_out, marked_fit, marked_bytes, on_marked, MarkedReads}
use Rattle.cow.proofs.RoundTrip.{marked_back, slots_long}

-- ---- the test for a broken list, one comparison after the other

module _ (s : Slots ℕ) where
  sound_few : sound_marked s ≡ true → s.count ≤ 256
  unfolding sound_marked
  sound_few h = leb-true _ _ (both_true _ _ h).0

  sound_rise : sound_marked s ≡ true → rising_from page_key 0 (listed s) ≡ true
  unfolding sound_marked
  sound_rise h = (both_true (leb s.count 256) _ h).1

module _ (bs : List ℕ) where
  abbrev sound : Bool
  sound = both (marked_fit bs) (sound_marked (marked_in bs))

  pub other_length : (length bs ≡ marked_size → ⊥) → sound ≡ false
  other_length h = rw (ne_eqb (length bs) marked_size h)

  module _ (fit : marked_fit bs ≡ true) {n : ℕ} (e : n ≡ (marked_in bs).count) where
    pub too_many : 256 < n → sound ≡ false
    unfolding sound_marked
    too_many h = rw (fit, ← e, lt-leb n 256 h)

    pub few_enough : n ≤ 256 → sound ≡ rising_from page_key 0 (take n (marked_in bs).slots)
    unfolding sound_marked
    few_enough h = rw (fit, ← e, le-leb n 256 h)

-- ---- the three calls on slots

-- a page that is listed is put instead of itself
insert_same : (v : ℕ) (l : List ℕ) → rising_from page_key 0 l ≡ true → has_key page_key v l ≡ true → insert page_key v l ≡ l
insert_same v l rise e =
    let k = place_of page_key v l in
    let at : get_or l k 0 ≡ v = eqb-true (get_or l k 0) v (sym (key_at page_key v 0 0 l rise (place_under page_key v l e)) ∙ e) in
    insert_there page_key v 0 l rise e ∙ ap (set l k) (sym at) ∙ set-get_or l k 0

module _ (s : Slots ℕ) (a : ℕ) where
  mark_broken : sound_marked s ≡ false → mark_cow s a ≡ marked_did (Err BrokenRecord) s
  unfolding mark_cow
  mark_broken h = rw h

  unmark_broken : sound_marked s ≡ false → unmark_cow s a ≡ marked_did (Err BrokenRecord) s
  unfolding unmark_cow
  unmark_broken h = rw h

  cow_broken : sound_marked s ≡ false → is_cow s a ≡ Err BrokenRecord
  unfolding is_cow
  cow_broken h = rw h

  module _ (h : sound_marked s ≡ true) where
    mark_there : s.count ≤ length s.slots → has_key page_key (page_of a) (listed s) ≡ true → mark_cow s a ≡ marked_did (Ok tt) s
    unfolding mark_cow
    mark_there l e = rw (h, e, insert_same (page_of a) (listed s) (sound_rise s h) e) (ap (marked_did (Ok tt)) (stored_again 0 s.slots s.count l))

    module _ (e : has_key page_key (page_of a) (listed s) ≡ false) where
      mark-full : 256 ≤ length (listed s) → mark_cow s a ≡ marked_did (Err ListFull) s
      unfolding mark_cow
      mark-full k = rw (h, e, le-leb 256 (length (listed s)) k)

      mark-new : length (listed s) < 256
          → mark_cow s a ≡ marked_did (Ok tt) (store_pages (put_in (place_of page_key (page_of a) (listed s)) (page_of a) (listed s)) s)
      unfolding mark_cow
      mark-new k = rw (h, e, lt-leb 256 (length (listed s)) k, insert_new page_key (page_of a) (listed s) e)

    unmark-is : unmark_cow s a ≡ marked_did (Ok tt) (store_pages (remove page_key (page_of a) (listed s)) s)
    unfolding unmark_cow
    unmark-is = rw h

    cow-is : is_cow s a ≡ Ok (has_key page_key (page_of a) (listed s))
    unfolding is_cow
    cow-is = rw h

-- ---- what a call on packed bytes says: its answer and the bytes, and the pages that they stand for

module _ (call : Slots ℕ → MarkedDid) (bs : List ℕ) where
  abbrev Told : Result ⊤ Refusal → List ℕ → Type 0
  Told a left = (marked_bytes a left ≡ on_marked call bs) × MarkedReads call bs left

  -- pages are left, and the bytes stand for them
  told : marked_fit bs ≡ true → {a : Result ⊤ Refusal} {s : Slots ℕ} → call (marked_in bs) ≡ marked_did a s
      → (left : List ℕ) → marked_fit left ≡ true → Bytes left → marked_in left ≡ s → Told a left
  unfolding on_marked
  told fit {a = a} d left f b e = (
    rw fit (ap (marked_bytes a) (sym (marked_back left f b) ∙ ap marked_out e) ∙ ap (λ (x : MarkedDid). marked_bytes x.answer (marked_out x.marked)) (sym d)),
    λ _. (f, e ∙ ap (λ (x : MarkedDid). x.marked) (sym d)),
  )

  -- 10, where they stand for none or for a broken list
  told_broken : both (marked_fit bs) (sound_marked (marked_in bs)) ≡ false → Bytes bs
      → (sound_marked (marked_in bs) ≡ false → call (marked_in bs) ≡ marked_did (Err BrokenRecord) (marked_in bs)) → Told (Err BrokenRecord) bs
  unfolding on_marked
  told_broken h b k = by (marked_fit bs) refl
    where
      by : (x : Bool) → marked_fit bs ≡ x → Told (Err BrokenRecord) bs
      by true fit = told fit (k (rw fit at h)) bs fit b refl
      by false fit = (rw fit, λ f. absurd (false≢true (sym fit ∙ f)))

module _ (bs : List ℕ) (a : ℕ) where
  abbrev mark : Slots ℕ → MarkedDid
  mark s = mark_cow s a

  abbrev unmark : Slots ℕ → MarkedDid
  unmark s = unmark_cow s a

  module _ (h : both (marked_fit bs) (sound_marked (marked_in bs)) ≡ false) where
    pub mark_told_broken : Bytes bs → Told mark bs (Err BrokenRecord) bs
    mark_told_broken b = told_broken mark bs h b (mark_broken (marked_in bs) a)

    pub unmark_told_broken : Bytes bs → Told unmark bs (Err BrokenRecord) bs
    unmark_told_broken b = told_broken unmark bs h b (unmark_broken (marked_in bs) a)

    pub cow_told_broken : Err BrokenRecord ≡ unless (marked_fit bs) (Err BrokenRecord) (is_cow (marked_in bs) a)
    cow_told_broken = by (marked_fit bs) refl
      where
        by : (x : Bool) → marked_fit bs ≡ x → Err BrokenRecord ≡ unless x (Err BrokenRecord) (is_cow (marked_in bs) a)
        by true fit = sym (cow_broken (marked_in bs) a (rw fit at h))
        by false fit = refl

  module _ (h : both (marked_fit bs) (sound_marked (marked_in bs)) ≡ true) {v : ℕ} (page : v ≡ page_of a) where
    pub unmark_told : (left : List ℕ) → Bytes left → (marked_in left ≡ store_pages (remove page_key v (listed (marked_in bs))) (marked_in bs)) × (marked_fit left ≡ true)
        → Told unmark bs (Ok tt) left
    unmark_told left b (e, f) =
        let p = both_true (marked_fit bs) (sound_marked (marked_in bs)) h in
        told unmark bs p.0 (unmark-is (marked_in bs) a p.1) left f b (rw (← page) e)

    pub cow_told : {r : Bool} → r ≡ has_key page_key v (listed (marked_in bs)) → Ok r ≡ unless (marked_fit bs) (Err BrokenRecord) (is_cow (marked_in bs) a)
    cow_told q =
        let p = both_true (marked_fit bs) (sound_marked (marked_in bs)) h in
        rw (p.0, cow-is (marked_in bs) a p.1, ← page) (ap Ok q)

-- ---- where page v is listed, and what a list is by it

module _ (bs : List ℕ) (h : both (marked_fit bs) (sound_marked (marked_in bs)) ≡ true) where
  abbrev s : Slots ℕ
  s = marked_in bs

  pub fits : marked_fit bs ≡ true
  fits = (both_true (marked_fit bs) (sound_marked s) h).0

  good : sound_marked s ≡ true
  good = (both_true (marked_fit bs) (sound_marked s) h).1

  pub few_listed : s.count ≤ 256
  few_listed = sound_few s good

  pub pages_rising : rising_from page_key 0 (listed s) ≡ true
  pages_rising = sound_rise s good

  room : s.count ≤ length s.slots
  room = omega (arith, few_listed, slots_long bs)

  long : length (listed s) ≡ s.count
  long = omega (arith, length-take s.count s.slots, room)

  -- of none no page is listed
  pub none_listed : (page : ℕ) → s.count ≡ 0 → has_key page_key page (listed s) ≡ false
  none_listed page none = key_past page_key page (listed s) (omega (arith, long, none))

  module _ (v : ℕ) where
    -- page v is found in slot k
    module _ {k : ℕ} (e : Ok k ≡ found page_key v (listed s)) where
      there : (has_key page_key v (listed s) ≡ true) × (k ≡ place_of page_key v (listed s))
      there = found_tells page_key v (listed s) (Ok k) e

      pub place_below : k < s.count
      place_below = omega (arith, place_under page_key v (listed s) there.0, long, there.1)

      pub out_there : {z : Slots ℕ} → z ≡ store_pages (taken_out k (listed s)) s → z ≡ store_pages (remove page_key v (listed s)) s
      out_there z =
          z ∙ ap (λ (l : List ℕ). store_pages l s) (ap (λ (j : ℕ). taken_out j (listed s)) there.1 ∙ sym (remove_there page_key v 0 (listed s) pages_rising there.0))

      pub mark_told_there : (a : ℕ) → v ≡ page_of a → Bytes bs → Told (mark bs a) bs (Ok tt) bs
      mark_told_there a page b = told (mark bs a) bs fits (mark_there s a good room (rw (← page) there.0)) bs fits b refl

    -- it is not found, and would be put into slot k
    module _ {k : ℕ} (e : Err k ≡ found page_key v (listed s)) where
      lacking : (has_key page_key v (listed s) ≡ false) × (k ≡ place_of page_key v (listed s))
      lacking = found_tells page_key v (listed s) (Err k) e

      pub place_within : k ≤ s.count
      place_within = omega (arith, place_le page_key v (listed s), long, lacking.1)

      pub out_none : s ≡ store_pages (remove page_key v (listed s)) s
      out_none = sym (rw (remove_none page_key v (listed s) lacking.0) (stored_again 0 s.slots s.count room))

      module _ (a : ℕ) (page : v ≡ page_of a) where
        none : has_key page_key (page_of a) (listed s) ≡ false
        none = rw (← page) lacking.0

        pub mark_told_full : 256 ≤ s.count → Bytes bs → Told (mark bs a) bs (Err ListFull) bs
        mark_told_full m b = told (mark bs a) bs fits (mark-full s a good none (omega (arith, long, m))) bs fits b refl

        pub mark_told_new : s.count < 256 → (left : List ℕ) → Bytes left → marked_fit left ≡ true → marked_in left ≡ store_pages (put_in k v (listed s)) s
            → Told (mark bs a) bs (Ok tt) left
        mark_told_new m left b f z =
            told (mark bs a) bs fits (mark-new s a good none (omega (arith, long, m))) left f b
            (z ∙ (λ j. store_pages (put_in (lacking.1 j) v (listed s)) s) ∙ ap (λ (w : ℕ). store_pages (put_in (place_of page_key w (listed s)) w (listed s)) s) page)
