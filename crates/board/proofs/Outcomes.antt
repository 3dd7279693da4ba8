-- What a start leaves, met or refused, by the tests that code makes before it writes.
use Prim.Native.Nat.{ℕ, zero, suc, ◌+◌, ◌-◌, ◌*◌, ◌^◌, ◌<◌, ◌≤◌}
use mathlib.Core.Path.{◌≡◌, refl, sym, ◌∙◌, ap, subst}
use mathlib.Core.Bool.{Bool, true, false}
use native.Mathlib.Decide.{dec_le}
use native.Mathlib.Omega.{arith}
use lib.ListN.{length}
use borrow.Author.Tests.{le-leb, lt-leb, eq-eqb, ne_eqb}
use Rattle.std.specs.Prelude.{Ok, Err, Result, ⊤}
use Rattle.answer.specs.declared.Refusal.{Refusal}
use Rattle.answer.specs.declared.Refusal.TheVariants.{BrokenRecord, NoFreeFrame}
use Rattle.address.specs.declared.Frame.{Frame}
use Rattle.bitmap.specs.Bitmap.{marked}
use Rattle.bitmap.proofs.Marks.{marked_replicate}
use Rattle.frame.specs.Frames.{Frames, FramesDid, frames_did, is_levels, inside, with_mark, take_frame, mark_frame}
use Rattle.frame.proofs.Laws.{fresh, init_crossed, init_high, init_met, take_none, take_cases, inside_yes, reads_free, mark_free}
use Rattle.board.specs.Board.{Board, BoardDid, board_did, begun, rooted, with_frame_levels, start, frame_count, may_start}

-- ---- fresh frames of a board of n levels: none is marked, so that the first is the lowest free one

abbrev pub unmarked : ℕ → ℕ → ℕ → Frames
unmarked from to n = with_frame_levels (fresh from to) n

module _ (from to n : ℕ) where
  none_marked : (j : ℕ) → marked (unmarked from to n).bits j ≡ 0
  none_marked j = marked_replicate 128 j

  take_nothing : frame_count from to ≡ 0 → take_frame (unmarked from to n) ≡ frames_did (Err NoFreeFrame) (unmarked from to n)
  take_nothing e = take_none (unmarked from to n) (omega arith)

  module _ (some : 0 < frame_count from to) where
    take-first : take_frame (unmarked from to n) ≡ frames_did {A = Result Frame Refusal} (Ok (record { 0 = (unmarked from to n).fa.start })) (with_mark (unmarked from to n) 0)
    take-first =
        take_cases (unmarked from to n) (λ (d : FramesDid (Result Frame Refusal)). d ≡ frames_did (Ok (record { 0 = (unmarked from to n).fa.start })) (with_mark (unmarked from to n) 0))
        (λ j _ _ below. first j below) (λ all. absurd (omega (arith, none_marked 0, all 0 some)))
      where
        add-zero : (s : ℕ) → s + 0 ≡ s
        add-zero s = omega arith

        first : (j : ℕ) → ((k : ℕ) → k < j → marked (unmarked from to n).bits k ≡ 1)
            → frames_did {A = Result Frame Refusal} (Ok (record { 0 = (unmarked from to n).fa.start + j })) (with_mark (unmarked from to n) j) ≡ frames_did {A = Result Frame Refusal} (Ok (record { 0 = (unmarked from to n).fa.start })) (with_mark (unmarked from to n) 0)
        first zero below = ap (λ (f : ℕ). frames_did {A = Result Frame Refusal} (Ok (record { 0 = f })) (with_mark (unmarked from to n) 0)) (add-zero (unmarked from to n).fa.start)
        first (suc j) below = absurd (omega (arith, none_marked 0, below 0 (omega arith)))

    inside-first : inside (unmarked from to n).fa.start (frame_count from to) (unmarked from to n).fa.start ≡ true
    inside-first = inside_yes (unmarked from to n).fa.start (frame_count from to) (unmarked from to n).fa.start (omega arith) (omega arith)

    -- marking the first is taking it
    pub mark_first : mark_frame (unmarked from to n) (unmarked from to n).fa.start ≡ with_mark (unmarked from to n) 0
    mark_first =
        let none : (s : ℕ) → s - s ≡ 0 = λ s. omega arith in
        mark_free (unmarked from to n) _ (reads_free (unmarked from to n) _ inside-first (none_marked _)) ∙ ap (with_mark (unmarked from to n)) (none (unmarked from to n).fa.start)

-- ---- the tests, one after the other

pub never : {n : Refusal} → ◌≡◌ {A = Result ⊤ Refusal} (Err n) (Ok tt) → ⊥
never e = cc

module _ (len from to levels : ℕ) where
  pub may_other : is_levels levels ≡ false → may_start len from to levels ≡ Err BrokenRecord
  unfolding may_start
  may_other o = rw o

  module _ (o : is_levels levels ≡ true) where
    pub may_crossed : to < from → may_start len from to levels ≡ Err BrokenRecord
    unfolding may_start
    may_crossed h = rw (o, lt-leb from to h)

    pub may_high : from ≤ to → 2 ^ 52 < to → may_start len from to levels ≡ Err BrokenRecord
    unfolding may_start
    may_high h k = rw (o, le-leb from to h, lt-leb to (2 ^ 52) k)

    module _ (h : from ≤ to) (k : to ≤ 2 ^ 52) where
      pub may_short : len < frame_count from to * 512 → may_start len from to levels ≡ Err BrokenRecord
      unfolding may_start
      may_short l = rw (o, le-leb from to h, le-leb to (2 ^ 52) k, lt-leb (frame_count from to * 512) len l)

      module _ (l : frame_count from to * 512 ≤ len) where
        pub may_none : frame_count from to ≡ 0 → may_start len from to levels ≡ Err NoFreeFrame
        unfolding may_start
        may_none e = rw (o, le-leb from to h, le-leb to (2 ^ 52) k, le-leb (frame_count from to * 512) len l, eq-eqb (frame_count from to) 0 e)

        pub may_met : (frame_count from to ≡ 0 → ⊥) → may_start len from to levels ≡ Ok tt
        unfolding may_start
        may_met e = rw (o, le-leb from to h, le-leb to (2 ^ 52) k, le-leb (frame_count from to * 512) len l, ne_eqb (frame_count from to) 0 e)

  may_cases : (P : Result ⊤ Refusal → Type 0) → (is_levels levels ≡ false → P (Err BrokenRecord)) → (is_levels levels ≡ true → to < from → P (Err BrokenRecord))
      → (is_levels levels ≡ true → from ≤ to → 2 ^ 52 < to → P (Err BrokenRecord))
      → (is_levels levels ≡ true → from ≤ to → to ≤ 2 ^ 52 → len < frame_count from to * 512 → P (Err BrokenRecord))
      → (is_levels levels ≡ true → from ≤ to → to ≤ 2 ^ 52 → frame_count from to * 512 ≤ len → frame_count from to ≡ 0 → P (Err NoFreeFrame))
      → (is_levels levels ≡ true → from ≤ to → to ≤ 2 ^ 52 → frame_count from to * 512 ≤ len → 0 < frame_count from to → P (Ok tt)) → P (may_start len from to levels)
  may_cases P other crossed high short none met =
      by (is_levels levels) refl (dec_le from to) (dec_le to (2 ^ 52)) (dec_le (frame_count from to * 512) len) (dec_le (frame_count from to) 0)
    where
      by : (x : Bool) → is_levels levels ≡ x → Dec (from ≤ to) → Dec (to ≤ 2 ^ 52) → Dec (frame_count from to * 512 ≤ len) → Dec (frame_count from to ≤ 0) → P (may_start len from to levels)
      by false o h k l e = rw (may_other o) (other o)
      by true o (no h) k l e = let i : to < from = omega arith in rw (may_crossed o i) (crossed o i)
      by true o (yes h) (no k) l e = let i : 2 ^ 52 < to = omega arith in rw (may_high o h i) (high o h i)
      by true o (yes h) (yes k) (no l) e = let i : len < frame_count from to * 512 = omega arith in rw (may_short o h k i) (short o h k i)
      by true o (yes h) (yes k) (yes l) (yes e) = let i : frame_count from to ≡ 0 = omega arith in rw (may_none o h k l i) (none o h k l i)
      by true o (yes h) (yes k) (yes l) (no e) = rw (may_met o h k l (λ i. e (omega arith))) (met o h k l (omega arith))

  -- what a met start is known by
  pub met_tests : may_start len from to levels ≡ Ok tt → (from ≤ to) × (to ≤ 2 ^ 52) × (frame_count from to * 512 ≤ len) × (0 < frame_count from to)
  met_tests =
      may_cases (λ (a : Result ⊤ Refusal). a ≡ Ok tt → (from ≤ to) × (to ≤ 2 ^ 52) × (frame_count from to * 512 ≤ len) × (0 < frame_count from to))
      (λ _ q. absurd (never q)) (λ _ _ q. absurd (never q)) (λ _ _ _ q. absurd (never q)) (λ _ _ _ _ q. absurd (never q)) (λ _ _ _ _ _ q. absurd (never q)) (λ _ h k l o _. (h, k, l, o))

-- ---- the start

module _ (b : Board) (from to levels : ℕ) where
  abbrev len : ℕ
  len = length b.mem.words

  -- the board that a met start leaves, whatever it held before
  abbrev pub started : Board
  started = begun b (fresh from to).fa.start (with_mark (unmarked from to levels) 0)

  -- .. a refused one leaves it as it was
  abbrev told : Result ⊤ Refusal → BoardDid
  told (Ok tt) = board_did (Ok 0) started
  told (Err n) = board_did (Err n) b

  start_other : is_levels levels ≡ false → start b from to levels ≡ board_did (Err BrokenRecord) b
  unfolding start
  start_other o = rw o

  start_rooted : is_levels levels ≡ true → from ≤ to → to ≤ 2 ^ 52 → frame_count from to * 512 ≤ len
      → start b from to levels ≡ rooted b (take_frame (unmarked from to levels)).answer (take_frame (unmarked from to levels)).frames
  unfolding start
  start_rooted o h k l = rw (o, init_met b.mem.frames from to h k, le-leb (frame_count from to * 512) len l)

  start_crossed : is_levels levels ≡ true → to < from → start b from to levels ≡ board_did (Err BrokenRecord) b
  unfolding start
  start_crossed o h = rw (o, init_crossed b.mem.frames from to h)

  start_high : is_levels levels ≡ true → from ≤ to → 2 ^ 52 < to → start b from to levels ≡ board_did (Err BrokenRecord) b
  unfolding start
  start_high o h k = rw (o, init_high b.mem.frames from to h k)

  start_short : is_levels levels ≡ true → from ≤ to → to ≤ 2 ^ 52 → len < frame_count from to * 512 → start b from to levels ≡ board_did (Err BrokenRecord) b
  unfolding start
  start_short o h k l = rw (o, init_met b.mem.frames from to h k, lt-leb (frame_count from to * 512) len l)

  start_told : start b from to levels ≡ told (may_start len from to levels)
  start_told =
      may_cases len from to levels (λ (a : Result ⊤ Refusal). start b from to levels ≡ told a) start_other start_crossed start_high start_short
      (λ o h k l e. start_rooted o h k l ∙ ap (λ (d : FramesDid (Result Frame Refusal)). rooted b d.answer d.frames) (take_nothing from to levels e))
      (λ o h k l e. start_rooted o h k l ∙ ap (λ (d : FramesDid (Result Frame Refusal)). rooted b d.answer d.frames) (take-first from to levels e))

  pub start_refused : (n : Refusal) → may_start len from to levels ≡ Err n → start b from to levels ≡ board_did (Err n) b
  start_refused n e = start_told ∙ ap told e

  pub start_met : may_start len from to levels ≡ Ok tt → start b from to levels ≡ board_did (Ok 0) started
  start_met e = start_told ∙ ap told e

  pub start_cases : (P : BoardDid → Type 0)
      → (is_levels levels ≡ true → from ≤ to → to ≤ 2 ^ 52 → 0 < (fresh from to).fa.total → (fresh from to).fa.total * 512 ≤ len → P (board_did (Ok 0) started))
      → P (board_did (Err BrokenRecord) b) → P (board_did (Err NoFreeFrame) b) → P (start b from to levels)
  start_cases P met broken none =
      subst P (sym start_told) (may_cases len from to levels (λ (a : Result ⊤ Refusal). P (told a)) (λ _. broken) (λ _ _. broken) (λ _ _ _. broken) (λ _ _ _ _. broken) (λ _ _ _ _ _. none)
      (λ o h k l e. met o h k e l))
