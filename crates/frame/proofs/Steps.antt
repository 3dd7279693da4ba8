-- What the steps of the frame allocator keep, and what they change. The layers above cite these laws and open none of its definitions.
use Rattle.std.specs.Prelude.{Ok, Err, Result, ⊤}
use Rattle.answer.specs.declared.Refusal.{Refusal}
use Rattle.answer.specs.declared.Refusal.TheVariants.{NoFreeFrame}
use Rattle.std.proofs.Common.{◌≡◌, ℕ, ◌+◌, ◌-◌, ◌/◌, ◌^◌, ◌<◌, ◌≤◌, Bool, true, false, eqb, length, sym, refl, ap, ◌∙◌, subst, ap₂, add-sub_cancel, arith}
use native.Mathlib.Decide.{ℕ_discrete}
use lib.ListN.{length-replicate}
use Rattle.bits.specs.Bit.{pick, both}
use Rattle.bits.proofs.Choice.{pick_comm, both_same}
use Rattle.address.specs.declared.Frame.{Frame}
use Rattle.bitmap.specs.Bitmap.{marked, is_marked, mark, unmark}
use Rattle.bitmap.proofs.Marks.{Words, length_mark, length_unmark, mark_own, mark_other, unmark_own, unmark_other, mark_words, unmark_words, mark_unmark, unmark_mark, unmark_comm, is_marked_lem, is_free, count_mark, count_unmark, count_pos, count_all, count_replicate, marked_replicate, replicate_words}
use Rattle.frame.specs.declared.Found.{Found}
use Rattle.frame.specs.declared.Found.TheVariants.{Freed}
use Rattle.frame.specs.Frames.{Frames, FramesDid, frames_did, inside, sound, init, with_mark, without_mark, take_frame, frame_marked, mark_frame, give_frame}
use Rattle.frame.proofs.Laws.{inside_yes, inside_from, inside_under, inside_sum, sound_yes, sound_few, sound_low, sound_levels, sound_count, fresh, init_cases, take_cases, reads_marked, reads_free, free_inside, free_bit, there_bit, mark_free, mark_cases, give_cases, give_there}

-- an allocator in order: its record is not broken, and the lent bitmap is as long as the code's
pub record Sound (fr : Frames) : Type 0 where
  pub tested : sound fr ≡ true
  pub long : length fr.bits ≡ 128

-- so the bitmap has a word for each frame lent
word_lent : (fr : Frames) → Sound fr → (j : ℕ) → j < fr.fa.total → j / 64 < length fr.bits
word_lent fr s j below = omega (arith, sound_few fr s.tested, s.long)

-- what no step changes: which frames are lent, the levels of tables, and the number of bitmap words
pub record SameSpan (a b : Frames) : Type 0 where
  pub start : b.fa.start ≡ a.fa.start
  pub total : b.fa.total ≡ a.fa.total
  pub levels : b.fa.levels ≡ a.fa.levels
  pub long : length b.bits ≡ length a.bits

-- b is a with the one free frame n marked, and counted
pub record OneMore (a : Frames) (n : ℕ) (b : Frames) : Type 0 where
  pub span : SameSpan a b
  pub lent : inside a.fa.start a.fa.total n ≡ true
  pub free : frame_marked a n ≡ false
  pub there : frame_marked b n ≡ true
  pub others : (k : ℕ) → (k ≡ n → ⊥) → frame_marked b k ≡ frame_marked a k
  pub counted : b.fa.allocated ≡ a.fa.allocated + 1

span_refl : (fr : Frames) → SameSpan fr fr
span_refl fr = record { start = refl; total = refl; levels = refl; long = refl }

-- ---- one mark set

-- a choice, where only the first of its two values is another
pick_same : {A : Type 0} (t : Bool) (a b c : A) → (t ≡ true → a ≡ b) → pick t a c ≡ pick t b c
pick_same true a b c h = h refl
pick_same false a b c h = refl

module _ (fr : Frames) (j : ℕ) where
  pub bits_with : (with_mark fr j).bits ≡ mark fr.bits j
  unfolding with_mark
  bits_with = refl

  pub count_with : (with_mark fr j).fa.allocated ≡ fr.fa.allocated + 1
  unfolding with_mark
  count_with = refl

  pub span_with : SameSpan fr (with_mark fr j)
  unfolding with_mark
  span_with = record { start = refl; total = refl; levels = refl; long = length_mark fr.bits j }

  pub words_with : marked fr.bits j ≡ 0 → Words fr.bits → Words (with_mark fr j).bits
  unfolding with_mark
  words_with = mark_words fr.bits j

  -- every other frame reads as before
  pub other_with : marked fr.bits j ≡ 0 → (k : ℕ) → (k ≡ fr.fa.start + j → ⊥) → frame_marked (with_mark fr j) k ≡ frame_marked fr k
  unfolding with_mark frame_marked
  other_with free k d =
      pick_same (inside fr.fa.start fr.fa.total k) _ _ _ (λ h.
      ap (λ (x : ℕ). eqb x 1) (mark_other fr.bits j free (k - fr.fa.start) (λ z. d (omega (arith, inside_from fr.fa.start fr.fa.total k h)))))

  module _ (s : Sound fr) (below : j < fr.fa.total) (free : marked fr.bits j ≡ 0) where
    pub sound_with : Sound (with_mark fr j)
    unfolding with_mark
    sound_with = record {
      tested =
          sound_yes (with_mark fr j) (sound_few fr s.tested) (sound_low fr s.tested) (sound_levels fr s.tested)
          (omega (arith, sound_count fr s.tested, count_mark fr.bits j fr.fa.total free below (word_lent fr s j below)));
      long = length_mark fr.bits j ∙ s.long;
    }

    pub more_with : (n : ℕ) → n ≡ fr.fa.start + j → OneMore fr n (with_mark fr j)
    unfolding with_mark
    more_with n e =
        let d : n - fr.fa.start ≡ j = omega arith in
        let lent = inside_yes fr.fa.start fr.fa.total n (omega arith) (omega arith) in
        record {
          span = span_with;
          lent = lent;
          free = reads_free fr n lent (ap (marked fr.bits) d ∙ free);
          there = reads_marked (with_mark fr j) n (λ _. ap (marked (mark fr.bits j)) d ∙ mark_own fr.bits j free (word_lent fr s j below));
          others = λ k ne. other_with free k (λ z. ne (z ∙ sym e));
          counted = refl;
        }

-- ---- one mark cleared

module _ (fr : Frames) (j : ℕ) where
  pub bits_without : (without_mark fr j).bits ≡ unmark fr.bits j
  unfolding without_mark
  bits_without = refl

  pub count_without : (without_mark fr j).fa.allocated ≡ fr.fa.allocated - 1
  unfolding without_mark
  count_without = refl

  pub span_without : SameSpan fr (without_mark fr j)
  unfolding without_mark
  span_without = record { start = refl; total = refl; levels = refl; long = length_unmark fr.bits j }

  pub words_without : Words fr.bits → Words (without_mark fr j).bits
  unfolding without_mark
  words_without = unmark_words fr.bits j

  -- set and cleared again, or cleared and set again, it is as it was
  pub without_with : without_mark (with_mark fr j) j ≡ fr
  unfolding with_mark without_mark
  without_with = rw (unmark_mark fr.bits j, add-sub_cancel fr.fa.allocated 1)

  pub with_without : 0 < fr.fa.allocated → marked fr.bits j ≡ 1 → with_mark (without_mark fr j) j ≡ fr
  unfolding with_mark without_mark
  with_without some there =
      let n : fr.fa.allocated - 1 + 1 ≡ fr.fa.allocated = omega arith in
      rw (mark_unmark fr.bits j there, n)

  module _ (s : Sound fr) (below : j < fr.fa.total) (there : marked fr.bits j ≡ 1) where
    pub sound_without : Sound (without_mark fr j)
    unfolding without_mark
    sound_without = record {
      tested =
          sound_yes (without_mark fr j) (sound_few fr s.tested) (sound_low fr s.tested) (sound_levels fr s.tested)
          (omega (arith, sound_count fr s.tested, count_unmark fr.bits j fr.fa.total there below));
      long = length_unmark fr.bits j ∙ s.long;
    }

    pub more_without : (n : ℕ) → n ≡ fr.fa.start + j → OneMore (without_mark fr j) n fr
    unfolding without_mark
    more_without n e =
        subst (OneMore (without_mark fr j) n) (with_without (omega (arith, sound_count fr s.tested, count_pos fr.bits j fr.fa.total there below)) there)
        (more_with (without_mark fr j) j sound_without below (unmark_own fr.bits j there) n e)

-- two cleared in either order
pub without_comm : (fr : Frames) (i j : ℕ) → without_mark (without_mark fr i) j ≡ without_mark (without_mark fr j) i
unfolding without_mark
without_comm fr i j = rw (unmark_comm fr.bits i j)

-- ---- taking a frame

at_or_none : {f : Frame} {n : Refusal} → Err n ≡ Ok f → ⊥
at_or_none e = let z : ◌≡◌ {A = ℕ} 0 1 = cc in omega arith

module _ (fr : Frames) where
  pub span_take : SameSpan fr (take_frame fr).frames
  span_take = take_cases fr (λ (d : FramesDid (Result Frame Refusal)). SameSpan fr d.frames) (λ j _ _ _. span_with fr j) (λ _. span_refl fr)

  pub sound_take : Sound fr → Sound (take_frame fr).frames
  sound_take s = take_cases fr (λ (d : FramesDid (Result Frame Refusal)). Sound d.frames) (λ j below free _. sound_with fr j s below free) (λ _. s)

  pub words_take : Words fr.bits → Words (take_frame fr).frames.bits
  words_take w = take_cases fr (λ (d : FramesDid (Result Frame Refusal)). Words d.frames.bits) (λ j _ free _. words_with fr j free w) (λ _. w)

  -- the frame that is taken is free, and nothing but it is marked
  pub more_take : Sound fr → (f : Frame) → (take_frame fr).answer ≡ Ok f → OneMore fr f.0 (take_frame fr).frames
  more_take s f =
      take_cases fr (λ (d : FramesDid (Result Frame Refusal)). d.answer ≡ Ok f → OneMore fr f.0 d.frames)
      (λ j below free _ e. more_with fr j s below free f.0 (cc))
      (λ _ e. absurd (at_or_none e))

  -- no free frame lies below it
  pub take_lowest : (f : Frame) → (take_frame fr).answer ≡ Ok f → (n : ℕ) → n < f.0 → frame_marked fr n ≡ true
  take_lowest f =
      take_cases fr (λ (d : FramesDid (Result Frame Refusal)). d.answer ≡ Ok f → (n : ℕ) → n < f.0 → frame_marked fr n ≡ true)
      (λ j _ _ lower e n l. let z : fr.fa.start + j ≡ f.0 = cc in
      reads_marked fr n (λ h. lower (n - fr.fa.start) (omega (arith, inside_from fr.fa.start fr.fa.total n h))))
      (λ _ e. absurd (at_or_none e))

  -- a refused take, which is 11 only: nothing is changed and no frame is free
  pub take_refused : (k : Refusal) → (take_frame fr).answer ≡ Err k → take_frame fr ≡ frames_did (Err NoFreeFrame) fr
  take_refused k =
      take_cases fr (λ (d : FramesDid (Result Frame Refusal)). d.answer ≡ Err k → d ≡ frames_did (Err NoFreeFrame) fr)
      (λ j _ _ _ e. absurd (at_or_none (sym e))) (λ _ _. refl)

  pub take_full : (k : Refusal) → (take_frame fr).answer ≡ Err k → (n : ℕ) → frame_marked fr n ≡ true
  take_full k =
      take_cases fr (λ (d : FramesDid (Result Frame Refusal)). d.answer ≡ Err k → (n : ℕ) → frame_marked fr n ≡ true)
      (λ j _ _ _ e. absurd (at_or_none (sym e)))
      (λ all _ n. reads_marked fr n (λ h. all (n - fr.fa.start) (inside_under _ _ _ h)))

  -- it is refused just where the counter is total
  pub take_met : Sound fr → fr.fa.allocated < fr.fa.total → (f : Frame) × ((take_frame fr).answer ≡ Ok f)
  take_met s room =
      take_cases fr (λ (d : FramesDid (Result Frame Refusal)). (f : Frame) × (d.answer ≡ Ok f)) (λ j _ _ _. (_, refl))
      (λ all. absurd (omega (arith, sound_count fr s.tested, count_all fr.bits fr.fa.total all)))

  pub take_count : Sound fr → (k : Refusal) → (take_frame fr).answer ≡ Err k → fr.fa.allocated ≡ fr.fa.total
  take_count s k =
      take_cases fr (λ (d : FramesDid (Result Frame Refusal)). d.answer ≡ Err k → fr.fa.allocated ≡ fr.fa.total)
      (λ j _ _ _ e. absurd (at_or_none (sym e))) (λ all _. sound_count fr s.tested ∙ count_all fr.bits fr.fa.total all)

-- ---- marking a frame

module _ (fr : Frames) (n : ℕ) where
  pub span_mark : SameSpan fr (mark_frame fr n)
  span_mark = mark_cases fr n (SameSpan fr) (λ _. span_refl fr) (λ _. span_with fr (n - fr.fa.start))

  pub words_mark : Words fr.bits → Words (mark_frame fr n).bits
  words_mark w = mark_cases fr n (λ (x : Frames). Words x.bits) (λ _. w) (λ free. words_with fr (n - fr.fa.start) (free_bit fr n free) w)

  pub sound_mark : Sound fr → Sound (mark_frame fr n)
  sound_mark s =
      mark_cases fr n Sound (λ _. s)
      (λ free. sound_with fr (n - fr.fa.start) s (inside_under _ _ _ (free_inside fr n free)) (free_bit fr n free))

  -- a free frame is marked, and nothing but it; what is marked already stays as it is (`mark-there`)
  pub more_mark : Sound fr → frame_marked fr n ≡ false → OneMore fr n (mark_frame fr n)
  more_mark s free =
      subst (OneMore fr n) (sym (mark_free fr n free))
      (more_with fr (n - fr.fa.start) s (inside_under _ _ _ (free_inside fr n free)) (free_bit fr n free) n
      (inside_sum fr.fa.start fr.fa.total n (free_inside fr n free)))

-- ---- giving a frame back

module _ (fr : Frames) (n : ℕ) where
  pub span_give : SameSpan fr (give_frame fr n).frames
  span_give =
      give_cases fr n (λ (d : FramesDid Found). SameSpan fr d.frames) (λ _. span_refl fr) (λ _ _. span_refl fr)
      (λ _ _. span_without fr (n - fr.fa.start))

  pub words_give : Words fr.bits → Words (give_frame fr n).frames.bits
  words_give w =
      give_cases fr n (λ (d : FramesDid Found). Words d.frames.bits) (λ _. w) (λ _ _. w) (λ _ _. words_without fr (n - fr.fa.start) w)

  pub sound_give : Sound fr → Sound (give_frame fr n).frames
  sound_give s =
      give_cases fr n (λ (d : FramesDid Found). Sound d.frames) (λ _. s) (λ _ _. s)
      (λ h there. sound_without fr (n - fr.fa.start) s (inside_under _ _ _ h) there)

  -- a lent frame that is marked becomes free, and nothing but it
  pub more_give : Sound fr → inside fr.fa.start fr.fa.total n ≡ true → frame_marked fr n ≡ true → OneMore (give_frame fr n).frames n fr
  more_give s h there =
      subst (λ (d : FramesDid Found). OneMore d.frames n fr) (sym (give_there fr n h there))
      (more_without fr (n - fr.fa.start) s (inside_under _ _ _ h) (there_bit fr n h there) n (inside_sum fr.fa.start fr.fa.total n h))

-- ---- one after the other

-- marked and given back, the allocator is as it was
with_give : (fr : Frames) (j : ℕ) → Sound fr → j < fr.fa.total → marked fr.bits j ≡ 0
    → (n : ℕ) → n ≡ fr.fa.start + j → give_frame (with_mark fr j) n ≡ frames_did Freed fr
unfolding with_mark
with_give fr j s below free n e =
    let m = more_with fr j s below free n e in
    let d : n - fr.fa.start ≡ j = omega arith in
    give_there (with_mark fr j) n m.lent m.there
    ∙ ap (λ (i : ℕ). frames_did Freed (without_mark (with_mark fr j) i)) d ∙ ap (frames_did Freed) (without_with fr j)

pub take_give : (fr : Frames) → Sound fr → (f : Frame) → (take_frame fr).answer ≡ Ok f → give_frame (take_frame fr).frames f.0 ≡ frames_did Freed fr
take_give fr s f =
    take_cases fr (λ (d : FramesDid (Result Frame Refusal)). d.answer ≡ Ok f → give_frame d.frames f.0 ≡ frames_did Freed fr)
    (λ j below free _ e. with_give fr j s below free f.0 (cc)) (λ _ e. absurd (at_or_none e))

pub mark_give : (fr : Frames) (n : ℕ) → Sound fr → frame_marked fr n ≡ false → give_frame (mark_frame fr n) n ≡ frames_did Freed fr
mark_give fr n s free =
    let h = free_inside fr n free in
    ap (λ (x : Frames). give_frame x n) (mark_free fr n free)
    ∙ with_give fr (n - fr.fa.start) s (inside_under _ _ _ h) (free_bit fr n free) n (inside_sum fr.fa.start fr.fa.total n h)

-- Two frames are given back in either order: giving one back is a choice that the other frame does not decide.
-- whether a frame is lent and marked, and what giving it back leaves
abbrev held : Frames → ℕ → Bool
held fr n = both (inside fr.fa.start fr.fa.total n) (is_marked fr.bits (n - fr.fa.start))

abbrev given : Frames → ℕ → Frames
given fr n = pick (held fr n) (without_mark fr (n - fr.fa.start)) fr

give_pick : (fr : Frames) (n : ℕ) → (give_frame fr n).frames ≡ given fr n
give_pick fr n =
    give_cases fr n (λ (d : FramesDid Found). d.frames ≡ given fr n) (λ h. rw h) (λ h free. rw (h, is_free _ _ free)) (λ h there. rw (h, is_marked_lem _ _ there))

held_given : (fr : Frames) (m n : ℕ) → (m ≡ n → ⊥) → held (give_frame fr m).frames n ≡ held fr n
unfolding without_mark
held_given fr m n d =
    give_cases fr m (λ (x : FramesDid Found). held x.frames n ≡ held fr n) (λ _. refl) (λ _ _. refl)
    (λ h there. both_same (inside fr.fa.start fr.fa.total n) _ _
    (λ k. ap (λ (x : ℕ). eqb x 1) (unmark_other fr.bits (m - fr.fa.start) there (n - fr.fa.start)
    (λ z. d (omega (arith, inside_from fr.fa.start fr.fa.total m h, inside_from fr.fa.start fr.fa.total n k))))))

pub give_comm : (fr : Frames) (m n : ℕ) → (give_frame (give_frame fr m).frames n).frames ≡ (give_frame (give_frame fr n).frames m).frames
give_comm fr m n = go (ℕ_discrete m n)
  where
    -- the second of two different frames, by what stood there at first
    second : (m n : ℕ) → (m ≡ n → ⊥)
        → (give_frame (give_frame fr m).frames n).frames ≡ pick (held fr n) (without_mark (given fr m) (n - fr.fa.start)) (given fr m)
    second m n d =
        give_pick (give_frame fr m).frames n
        ∙ ap₂ (λ (t : Bool) (i : ℕ). pick t (without_mark (give_frame fr m).frames (n - i)) (give_frame fr m).frames) (held_given fr m n d) (span_give fr m).start
        ∙ ap (λ (x : Frames). pick (held fr n) (without_mark x (n - fr.fa.start)) x) (give_pick fr m)

    go : Dec (m ≡ n) → (give_frame (give_frame fr m).frames n).frames ≡ (give_frame (give_frame fr n).frames m).frames
    go (yes e) = ap₂ (λ (x y : ℕ). (give_frame (give_frame fr x).frames y).frames) e (sym e)
    go (no d) =
        second m n d
        ∙ pick_comm (held fr m) (held fr n) (λ (x : Frames). without_mark x (m - fr.fa.start)) (λ (x : Frames). without_mark x (n - fr.fa.start)) fr (without_comm fr _ _)
        ∙ sym (second n m (λ z. d (sym z)))

-- ---- a fresh allocator

-- all frames are free
pub record AllFree (fr : Frames) : Type 0 where
  pub ordered : Sound fr
  pub none : fr.fa.allocated ≡ 0
  pub free : (n : ℕ) → inside fr.fa.start fr.fa.total n ≡ true → frame_marked fr n ≡ false
  pub words : Words fr.bits

pub fresh_free : (s e : ℕ) → s ≤ e → e ≤ 2 ^ 52 → AllFree (fresh s e)
fresh_free s e crossed low = record {
  ordered = record {
    tested = sound_yes (fresh s e) (omega arith) (omega arith) refl (sym (count_replicate 128 (fresh s e).fa.total));
    long = length-replicate {A = ℕ} 128 0;
  };
  none = refl;
  free = λ n h. reads_free (fresh s e) n h (marked_replicate 128 (n - (fresh s e).fa.start));
  words = replicate_words 128;
}

-- what a met `init` leaves does not depend on what was there
pub init_fresh : (fr : Frames) (s e : ℕ) → (init fr s e).answer ≡ Ok tt → (init fr s e).frames ≡ fresh s e
init_fresh fr s e =
    init_cases fr s e (λ (d : FramesDid (Result ⊤ Refusal)). d.answer ≡ Ok tt → d.frames ≡ fresh s e) (λ _ _ _. refl)
    (λ h. let z : ◌≡◌ {A = ℕ} 0 1 = cc in absurd (omega arith))

pub init_free : (fr : Frames) (s e : ℕ) → (init fr s e).answer ≡ Ok tt → AllFree (init fr s e).frames
init_free fr s e =
    init_cases fr s e (λ (d : FramesDid (Result ⊤ Refusal)). d.answer ≡ Ok tt → AllFree d.frames) (λ a b _. fresh_free s e a b)
    (λ h. let z : ◌≡◌ {A = ℕ} 0 1 = cc in absurd (omega arith))
