-- The frame allocator, document 01's 'Frames (frame.rs)'. Frame number n, one of the `total` from `start` on, is marked where bit n − start of the bitmap is 1.
use Rattle.std.specs.Prelude.{Ok, Err, Result, ⊤}
use Rattle.answer.specs.declared.Refusal.{Refusal}
use Rattle.answer.specs.declared.Refusal.TheVariants.{BrokenRecord, NoFreeFrame}
use Rattle.address.specs.declared.Frame.{Frame}
use Rattle.std.specs.Prelude.{ℕ, ◌+◌, ◌-◌, ◌/◌, ◌^◌, ◌<◌, ◌≤◌, min, Bool, true, List, replicate, ◌==◌, nat_le, nat_lt}
use Rattle.bits.specs.Bit.{pick, unless, both}
use Rattle.bitmap.specs.Bitmap.{is_marked, free_from, mark, unmark, count, marks_in}
use Rattle.frame.specs.declared.FrameAllocator.{FrameAllocator}
use Rattle.frame.specs.declared.Found.{Found}
use Rattle.frame.specs.declared.Found.TheVariants.{Freed, AlreadyFree, NotHere}

-- the allocator as a call sees it: the bitmap words lent to it, and its record
pub record Frames : Type 0 where
  pub bits : List ℕ
  pub fa : FrameAllocator

abbrev pub frames : List ℕ → FrameAllocator → Frames
frames bm fa = record { bits = bm; fa = fa }

-- .. where the bitmap stands as packed bytes, as code is lent it
abbrev pub lent_frames : List ℕ → FrameAllocator → Frames
lent_frames bytes fa = frames (marks_in bytes) fa

-- 'A board is started with 4 or 5 levels, 4 if none is named, as after a lone `init`'
abbrev pub is_levels : ℕ → Bool
is_levels n = both (nat_le 4 n) (nat_le n 5)

-- the record of `init`: nothing is marked, 4 levels, since none is named
abbrev pub unused : ℕ → ℕ → FrameAllocator
unused start total = record { start = start; total = total; allocated = 0; levels = 4 }

-- the record with n frames counted, and of a board of n levels
abbrev pub with_counter : FrameAllocator → ℕ → FrameAllocator
with_counter fa n = record { start = fa.start; total = fa.total; allocated = n; levels = fa.levels }

abbrev pub with_levels : FrameAllocator → ℕ → FrameAllocator
with_levels fa n = record { start = fa.start; total = fa.total; allocated = fa.allocated; levels = n }

-- 'end above 2^52' is 10: addresses end there, and the numbers of frames at 2^40
abbrev pub address_end : ℕ
address_end = 2 ^ 52

abbrev pub frames_end : ℕ
frames_end = 2 ^ 40

-- what a call answers, and the allocator that it leaves
pub record FramesDid (A : Type 0) : Type 0 where
  pub answer : A
  pub frames : Frames

abbrev pub frames_did : {A : Type 0} → A → Frames → FramesDid A
frames_did a fr = record { answer = a; frames = fr }

-- whether frame n is one of the `total` from `start` on
abbrev pub inside : ℕ → ℕ → ℕ → Bool
inside start total n = both (nat_le start n) (nat_lt (n - start) total)

-- not 'a broken record': total at most 8192, frames that end at most at 2^52, 4 or 5 levels ('another number .. in a lent record, is refused with 10'), and a counter
-- equal to the set bits below total
unfoldable pub sound : Frames → Bool
sound fr =
    both (nat_le fr.fa.total 8192)
    (both (nat_le (fr.fa.start + fr.fa.total) frames_end)
    (both (is_levels fr.fa.levels)
    (fr.fa.allocated == count fr.bits fr.fa.total)))

-- 'start_frame is start/4096 and total is (end − start)/4096, at most 8192, both rounded down'; 10 for 'start above end, end above 2^52'
unfoldable pub init : Frames → ℕ → ℕ → FramesDid (Result ⊤ Refusal)
init fr s e =
    unless (both (nat_le s e) (nat_le e address_end)) (frames_did (Err BrokenRecord) fr)
    (frames_did (Ok tt) (frames (replicate 128 0) (unused (s / 4096) (min ((e - s) / 4096) 8192))))

-- frame start + j marked, or free again; 'only a bit that changes moves the counter'
unfoldable pub with_mark : Frames → ℕ → Frames
with_mark fr j =
    frames (mark fr.bits j) (with_counter fr.fa (fr.fa.allocated + 1))

unfoldable pub without_mark : Frames → ℕ → Frames
without_mark fr j =
    frames (unmark fr.bits j) (with_counter fr.fa (fr.fa.allocated - 1))

-- 'takes the lowest free frame, else 11'
unfoldable pub take_frame : Frames → FramesDid (Result Frame Refusal)
take_frame fr =
    pick (nat_lt (free_from fr.bits 0 fr.fa.total) fr.fa.total)
    (frames_did (Ok (record { 0 = fr.fa.start + free_from fr.bits 0 fr.fa.total })) (with_mark fr (free_from fr.bits 0 fr.fa.total)))
    (frames_did (Err NoFreeFrame) fr)

-- 'a frame below start_frame or at index total or above reads as allocated'
unfoldable pub frame_marked : Frames → ℕ → Bool
frame_marked fr n = pick (inside fr.fa.start fr.fa.total n) (is_marked fr.bits (n - fr.fa.start)) true

-- '.. marking or freeing it does nothing'
unfoldable pub mark_frame : Frames → ℕ → Frames
mark_frame fr n = pick (frame_marked fr n) fr (with_mark fr (n - fr.fa.start))

-- a frame given back, with what it was found to be
unfoldable pub give_frame : Frames → ℕ → FramesDid Found
give_frame fr n =
    pick (inside fr.fa.start fr.fa.total n)
    (pick (is_marked fr.bits (n - fr.fa.start)) (frames_did Freed (without_mark fr (n - fr.fa.start))) (frames_did AlreadyFree fr))
    (frames_did NotHere fr)

-- The calls: 10 before every other check.
unfoldable pub tested : Frames → Result ⊤ Refusal
tested fr = unless (sound fr) (Err BrokenRecord) (Ok tt)

unfoldable pub is_allocated : Frames → ℕ → Result Bool Refusal
is_allocated fr n = unless (sound fr) (Err BrokenRecord) (Ok (frame_marked fr n))

unfoldable pub mark_allocated : Frames → ℕ → FramesDid (Result ⊤ Refusal)
mark_allocated fr n = unless (sound fr) (frames_did (Err BrokenRecord) fr) (frames_did (Ok tt) (mark_frame fr n))

unfoldable pub allocate : Frames → FramesDid (Result Frame Refusal)
allocate fr = unless (sound fr) (frames_did (Err BrokenRecord) fr) (take_frame fr)

-- '`deallocate_frame` answers one of three' (document 02, slip 5)
unfoldable pub deallocate : Frames → ℕ → FramesDid (Result Found Refusal)
deallocate fr n = unless (sound fr) (frames_did (Err BrokenRecord) fr) (let d = give_frame fr n in frames_did (Ok d.answer) d.frames)

-- the three counts
unfoldable pub counted : Frames → ℕ → Result ℕ Refusal
counted fr n = unless (sound fr) (Err BrokenRecord) (Ok n)

abbrev pub free_frames : Frames → Result ℕ Refusal
free_frames fr = counted fr (fr.fa.total - fr.fa.allocated)

abbrev pub allocated_frames : Frames → Result ℕ Refusal
allocated_frames fr = counted fr fr.fa.allocated

abbrev pub total_frames : Frames → Result ℕ Refusal
total_frames fr = counted fr fr.fa.total

-- what the inner functions ask of a tested record: sizes in range, and room for n more in the counter
pub record RoomToCount (fa : FrameAllocator) (n : ℕ) : Type 0 where
  pub few : fa.total ≤ 8192
  pub low : fa.start + fa.total ≤ frames_end
  pub room : fa.allocated + n < 2 ^ 64
