-- What the frame allocator's definitions come to, by the tests that code makes.
use Rattle.std.specs.Prelude.{Ok, Err, Result, ⊤}
use Rattle.answer.specs.declared.Refusal.{Refusal}
use Rattle.answer.specs.declared.Refusal.TheVariants.{BrokenRecord, NoFreeFrame}
use Rattle.address.specs.declared.Frame.{Frame}
use Rattle.std.proofs.Common.{◌≡◌, ℕ, ◌+◌, ◌-◌, ◌/◌, ◌%◌, ◌^◌, ◌<◌, ◌≤◌, min, Bool, true, false, eqb, ltb, leb, List, replicate, sym, refl, ap, ◌∙◌, arith, ltb-false, ltb-true, le-ltb, lt-ltb, eq-eqb, eqb-true, le-leb, leb-true}
use mathlib.Core.Bool.{false≢true}
use native.Mathlib.Decide.{dec_le}
use borrow.Author.Tests.{lt-leb}
use Rattle.bits.specs.Bit.{both}
use Rattle.bits.proofs.Choice.{pick_cases, both_true}
use Rattle.bitmap.specs.Bitmap.{marked, is_marked, free_from, count}
use Rattle.bitmap.proofs.Marks.{is_marked_lem, is_free, marked_true, marked_false, count_le}
use Rattle.bitmap.proofs.Search.{free_is_free, free_below_marked}
use Rattle.frame.specs.declared.Found.{Found}
use Rattle.frame.specs.declared.Found.TheVariants.{Freed, AlreadyFree, NotHere}
use Rattle.frame.specs.Frames.{Frames, frames, FramesDid, frames_did, inside, sound, init, with_mark, without_mark, take_frame, frame_marked, mark_frame, give_frame, is_allocated, mark_allocated, allocate, deallocate, counted, RoomToCount, is_levels, unused}

-- what a contract says of a call: what the code returns of it, and the bitmap that it leaves
pub parts : {A B : Type 0} (f : FramesDid A → B) {d e : FramesDid A} → d ≡ e → (f e ≡ f d) × (e.frames.bits ≡ d.frames.bits)
parts f h = (ap f (sym h), ap (λ x. x.frames.bits) (sym h))

-- what code learns past `if !r { return .. }`, and in it, where r is what the test means
pub passed : {r b : Bool} → r ≡ b → r ≡ true → b ≡ true
passed e h = sym e ∙ h

pub failed : {r b : Bool} → r ≡ b → r ≡ false → b ≡ false
failed e h = sym e ∙ h

-- whether a frame is one of those lent, by the two comparisons
module _ (start total n : ℕ) where
  pub inside_yes : start ≤ n → n - start < total → inside start total n ≡ true
  inside_yes h k = rw (le-leb _ _ h, lt-ltb _ _ k)

  pub inside_low : n < start → inside start total n ≡ false
  inside_low h = simp lt-leb

  pub inside_high : start ≤ n → total ≤ n - start → inside start total n ≡ false
  inside_high h k = simp (le-leb, le-ltb)

  pub inside_from : inside start total n ≡ true → start ≤ n
  inside_from h = leb-true _ _ (both_true (leb start n) (ltb (n - start) total) h).0

  pub inside_under : inside start total n ≡ true → n - start < total
  inside_under h = ltb-true _ _ (both_true (leb start n) (ltb (n - start) total) h).1

  pub inside_sum : inside start total n ≡ true → n ≡ start + (n - start)
  inside_sum h = omega (arith, inside_from h)

  pub inside_bit : total ≤ 8192 → inside start total n ≡ true → n - start < 8192
  inside_bit few h = omega (arith, inside_under h)

  -- .. or by one comparison with a difference that wraps
  pub inside_wrapped : (r : ℕ) → start + total ≤ 2 ^ 64 → n < 2 ^ 64 → r < 2 ^ 64 → (r + start) % 2 ^ 64 ≡ n → ltb r total ≡ inside start total n
  inside_wrapped r fit small low e = by (dec_le start n)
    where
      by : Dec (start ≤ n) → ltb r total ≡ inside start total n
      by (yes l) = let d : r ≡ n - start = omega arith in rw (le-leb _ _ l, d)
      by (no l) = le-ltb r total (omega arith) ∙ sym (inside_low (omega arith))

-- 4 or 5 levels
module _ (n : ℕ) where
  pub levels_few : n < 4 → is_levels n ≡ false
  levels_few h = simp lt-leb

  pub levels_by_most : 4 ≤ n → leb n 5 ≡ is_levels n
  levels_by_most h = simp le-leb

  pub levels_yes : 4 ≤ n → n ≤ 5 → is_levels n ≡ true
  levels_yes h k = simp (le-leb _ _ h, le-leb _ _ k)

  pub levels_least : is_levels n ≡ true → 4 ≤ n
  levels_least h = leb-true _ _ (both_true (leb 4 n) (leb n 5) h).0

  pub levels_most : is_levels n ≡ true → n ≤ 5
  levels_most h = leb-true _ _ (both_true (leb 4 n) (leb n 5) h).1

-- the test for a broken record, one comparison after the other
module _ (fr : Frames) where
  pub sound_many : 8192 < fr.fa.total → sound fr ≡ false
  unfolding sound
  sound_many h = simp lt-leb

  pub sound_high : fr.fa.total ≤ 8192 → 2 ^ 40 < fr.fa.start + fr.fa.total → sound fr ≡ false
  unfolding sound
  sound_high h k = simp (le-leb, lt-leb)

  pub sound_leveled : fr.fa.total ≤ 8192 → fr.fa.start + fr.fa.total ≤ 2 ^ 40 → is_levels fr.fa.levels ≡ false → sound fr ≡ false
  unfolding sound
  sound_leveled h k l = rw (le-leb _ _ h, le-leb _ _ k, l)

  pub sound_counted : fr.fa.total ≤ 8192 → fr.fa.start + fr.fa.total ≤ 2 ^ 40 → is_levels fr.fa.levels ≡ true
      → sound fr ≡ eqb fr.fa.allocated (count fr.bits fr.fa.total)
  unfolding sound
  sound_counted h k l = rw (le-leb _ _ h, le-leb _ _ k, l)

  pub sound_yes : fr.fa.total ≤ 8192 → fr.fa.start + fr.fa.total ≤ 2 ^ 40 → is_levels fr.fa.levels ≡ true
      → fr.fa.allocated ≡ count fr.bits fr.fa.total → sound fr ≡ true
  sound_yes h k l e = sound_counted h k l ∙ eq-eqb _ _ e

  -- what a sound record says
  pub sound_few : sound fr ≡ true → fr.fa.total ≤ 8192
  unfolding sound
  sound_few h = leb-true _ _ (both_true _ _ h).0

  -- .. past its first test
  past_few : sound fr ≡ true
      → both (leb (fr.fa.start + fr.fa.total) (2 ^ 40)) (both (is_levels fr.fa.levels) (eqb fr.fa.allocated (count fr.bits fr.fa.total))) ≡ true
  unfolding sound
  past_few h = (both_true (leb fr.fa.total 8192) _ h).1

  pub sound_low : sound fr ≡ true → fr.fa.start + fr.fa.total ≤ 2 ^ 40
  sound_low h = leb-true _ _ (both_true (leb (fr.fa.start + fr.fa.total) (2 ^ 40)) _ (past_few h)).0

  -- .. past its second
  past_low : sound fr ≡ true → both (is_levels fr.fa.levels) (eqb fr.fa.allocated (count fr.bits fr.fa.total)) ≡ true
  past_low h = (both_true (leb (fr.fa.start + fr.fa.total) (2 ^ 40)) _ (past_few h)).1

  pub sound_levels : sound fr ≡ true → is_levels fr.fa.levels ≡ true
  sound_levels h = (both_true (is_levels fr.fa.levels) _ (past_low h)).0

  pub sound_count : sound fr ≡ true → fr.fa.allocated ≡ count fr.bits fr.fa.total
  sound_count h = eqb-true _ _ (both_true (is_levels fr.fa.levels) _ (past_low h)).1

  -- so no more are marked than there are, and the counter has room for more
  pub sound_fits : sound fr ≡ true → fr.fa.allocated ≤ fr.fa.total
  sound_fits h = omega (arith, sound_count h, count_le fr.bits fr.fa.total)

  pub sound_held : (n : ℕ) → n ≤ 2 ^ 63 → sound fr ≡ true → RoomToCount fr.fa n
  sound_held n l h = record {
    few = sound_few h;
    low = sound_low h;
    room = omega (arith, sound_few h, sound_fits h);
  }

-- `init`: what it leaves if it is met, whatever was there before
abbrev pub fresh : ℕ → ℕ → Frames
fresh s e = frames (replicate 128 0) (unused (s / 4096) (min ((e - s) / 4096) 8192))

module _ (fr : Frames) (s e : ℕ) where
  pub init_crossed : e < s → init fr s e ≡ frames_did (Err BrokenRecord) fr
  unfolding init
  init_crossed h = simp lt-leb

  pub init_high : s ≤ e → 2 ^ 52 < e → init fr s e ≡ frames_did (Err BrokenRecord) fr
  unfolding init
  init_high h k = simp (le-leb, lt-leb)

  pub init_met : s ≤ e → e ≤ 2 ^ 52 → init fr s e ≡ frames_did (Ok tt) (fresh s e)
  unfolding init
  init_met h k = simp (le-leb _ _ h, le-leb _ _ k)

  -- both outcomes
  pub init_cases : (P : FramesDid (Result ⊤ Refusal) → Type 0) → (s ≤ e → e ≤ 2 ^ 52 → P (frames_did (Ok tt) (fresh s e))) → P (frames_did (Err BrokenRecord) fr) → P (init fr s e)
  unfolding init
  init_cases P met refused =
      pick_cases P (both (leb s e) (leb e (2 ^ 52))) _ _
      (λ h. let r = both_true (leb s e) (leb e (2 ^ 52)) h in met (leb-true _ _ r.0) (leb-true _ _ r.1)) (λ _. refused)

-- the lowest free frame, by its place among those lent
pub lowest_free : (bm : List ℕ) (n j : ℕ) → j ≡ free_from bm 0 n → j < n → marked bm j ≡ 0
lowest_free bm n j e h = rw e (free_is_free bm 0 n (omega arith))

module _ (fr : Frames) where
  pub take_none : fr.fa.total ≤ free_from fr.bits 0 fr.fa.total → take_frame fr ≡ frames_did (Err NoFreeFrame) fr
  unfolding take_frame
  take_none h = rw (le-ltb _ _ h)

  pub take_found : (j : ℕ) → j ≡ free_from fr.bits 0 fr.fa.total → j < fr.fa.total
      → take_frame fr ≡ frames_did (Ok (record { 0 = fr.fa.start + j })) (with_mark fr j)
  unfolding take_frame
  take_found j e h = rw (← e, lt-ltb _ _ h)

  -- both outcomes of taking a frame
  pub take_cases : (P : FramesDid (Result Frame Refusal) → Type 0)
      → ((j : ℕ) → j < fr.fa.total → marked fr.bits j ≡ 0 → ((k : ℕ) → k < j → marked fr.bits k ≡ 1) → P (frames_did (Ok (record { 0 = fr.fa.start + j })) (with_mark fr j)))
      → (((k : ℕ) → k < fr.fa.total → marked fr.bits k ≡ 1) → P (frames_did (Err NoFreeFrame) fr)) → P (take_frame fr)
  unfolding take_frame
  take_cases P found none =
      pick_cases P (ltb (free_from fr.bits 0 fr.fa.total) fr.fa.total) _ _
      (λ e. let h : free_from fr.bits 0 fr.fa.total < fr.fa.total = ltb-true _ _ e in
      found _ h (lowest_free _ _ _ refl h) (λ k l. free_below_marked fr.bits 0 fr.fa.total k (omega arith) l))
      (λ e. let h : fr.fa.total ≤ free_from fr.bits 0 fr.fa.total = ltb-false _ _ e in
      none (λ k l. free_below_marked fr.bits 0 fr.fa.total k (omega arith) (omega arith)))

-- marks of single frames
module _ (fr : Frames) (n : ℕ) where
  pub reads_outside : inside fr.fa.start fr.fa.total n ≡ false → frame_marked fr n ≡ true
  unfolding frame_marked
  reads_outside h = rw h

  pub reads_inside : inside fr.fa.start fr.fa.total n ≡ true → frame_marked fr n ≡ is_marked fr.bits (n - fr.fa.start)
  unfolding frame_marked
  reads_inside h = rw h

  pub reads_marked : (inside fr.fa.start fr.fa.total n ≡ true → marked fr.bits (n - fr.fa.start) ≡ 1) → frame_marked fr n ≡ true
  unfolding frame_marked
  reads_marked there =
      pick_cases (λ (r : Bool). r ≡ true) (inside fr.fa.start fr.fa.total n) _ _ (λ h. is_marked_lem _ _ (there h)) (λ _. refl)

  pub reads_free : inside fr.fa.start fr.fa.total n ≡ true → marked fr.bits (n - fr.fa.start) ≡ 0 → frame_marked fr n ≡ false
  reads_free h free = reads_inside h ∙ is_free _ _ free

  -- .. and back: a frame that reads free is one of those lent
  pub free_inside : frame_marked fr n ≡ false → inside fr.fa.start fr.fa.total n ≡ true
  unfolding frame_marked
  free_inside =
      pick_cases (λ (r : Bool). r ≡ false → inside fr.fa.start fr.fa.total n ≡ true) (inside fr.fa.start fr.fa.total n) _ _ (λ e _. e)
      (λ _ h. absurd (false≢true (sym h)))

  pub free_bit : frame_marked fr n ≡ false → marked fr.bits (n - fr.fa.start) ≡ 0
  free_bit h = marked_false _ _ (sym (reads_inside (free_inside h)) ∙ h)

  pub there_bit : inside fr.fa.start fr.fa.total n ≡ true → frame_marked fr n ≡ true → marked fr.bits (n - fr.fa.start) ≡ 1
  there_bit h there = marked_true _ _ (sym (reads_inside h) ∙ there)

  pub mark_there : frame_marked fr n ≡ true → mark_frame fr n ≡ fr
  unfolding mark_frame
  mark_there h = rw h

  pub mark_free : frame_marked fr n ≡ false → mark_frame fr n ≡ with_mark fr (n - fr.fa.start)
  unfolding mark_frame
  mark_free h = rw h

  -- both outcomes of marking a frame
  pub mark_cases : (P : Frames → Type 0) → (frame_marked fr n ≡ true → P fr) → (frame_marked fr n ≡ false → P (with_mark fr (n - fr.fa.start))) → P (mark_frame fr n)
  unfolding mark_frame
  mark_cases P there free = pick_cases P (frame_marked fr n) _ _ there free

  pub give_outside : inside fr.fa.start fr.fa.total n ≡ false → give_frame fr n ≡ frames_did NotHere fr
  unfolding give_frame
  give_outside h = rw h

  pub give_free : inside fr.fa.start fr.fa.total n ≡ true → is_marked fr.bits (n - fr.fa.start) ≡ false → give_frame fr n ≡ frames_did AlreadyFree fr
  unfolding give_frame
  give_free h k = rw (h, k)

  pub give_marked : inside fr.fa.start fr.fa.total n ≡ true → is_marked fr.bits (n - fr.fa.start) ≡ true
      → give_frame fr n ≡ frames_did Freed (without_mark fr (n - fr.fa.start))
  unfolding give_frame
  give_marked h k = rw (h, k)

  pub give_there : inside fr.fa.start fr.fa.total n ≡ true → frame_marked fr n ≡ true → give_frame fr n ≡ frames_did Freed (without_mark fr (n - fr.fa.start))
  give_there h there = give_marked h (sym (reads_inside h) ∙ there)

  -- the three outcomes of giving a frame back
  pub give_cases : (P : FramesDid Found → Type 0) → (inside fr.fa.start fr.fa.total n ≡ false → P (frames_did NotHere fr))
      → (inside fr.fa.start fr.fa.total n ≡ true → marked fr.bits (n - fr.fa.start) ≡ 0 → P (frames_did AlreadyFree fr))
      → (inside fr.fa.start fr.fa.total n ≡ true → marked fr.bits (n - fr.fa.start) ≡ 1 → P (frames_did Freed (without_mark fr (n - fr.fa.start))))
      → P (give_frame fr n)
  unfolding give_frame
  give_cases P out free there =
      pick_cases P (inside fr.fa.start fr.fa.total n) _ _
      (λ h. pick_cases P (is_marked fr.bits (n - fr.fa.start)) _ _ (λ e. there h (marked_true _ _ e)) (λ e. free h (marked_false _ _ e))) out

-- the calls: 10 on a broken record, and the step itself on a whole one
module _ (fr : Frames) where
  pub allocate_broken : sound fr ≡ false → allocate fr ≡ frames_did (Err BrokenRecord) fr
  unfolding allocate
  allocate_broken h = rw h

  pub allocate_whole : sound fr ≡ true → allocate fr ≡ take_frame fr
  unfolding allocate
  allocate_whole h = rw h

module _ (fr : Frames) (n : ℕ) where
  pub allocated_broken : sound fr ≡ false → is_allocated fr n ≡ Err BrokenRecord
  unfolding is_allocated
  allocated_broken h = rw h

  pub allocated_whole : sound fr ≡ true → is_allocated fr n ≡ Ok (frame_marked fr n)
  unfolding is_allocated
  allocated_whole h = rw h

  pub mark_broken : sound fr ≡ false → mark_allocated fr n ≡ frames_did (Err BrokenRecord) fr
  unfolding mark_allocated
  mark_broken h = rw h

  pub mark_whole : sound fr ≡ true → mark_allocated fr n ≡ frames_did (Ok tt) (mark_frame fr n)
  unfolding mark_allocated
  mark_whole h = rw h

  pub deallocate_broken : sound fr ≡ false → deallocate fr n ≡ frames_did (Err BrokenRecord) fr
  unfolding deallocate
  deallocate_broken h = rw h

  pub deallocate_whole : sound fr ≡ true → deallocate fr n ≡ frames_did (Ok (give_frame fr n).answer) (give_frame fr n).frames
  unfolding deallocate
  deallocate_whole h = rw h

  pub counted_broken : sound fr ≡ false → counted fr n ≡ Err BrokenRecord
  unfolding counted
  counted_broken h = rw h

  pub counted_whole : sound fr ≡ true → counted fr n ≡ Ok n
  unfolding counted
  counted_whole h = rw h
