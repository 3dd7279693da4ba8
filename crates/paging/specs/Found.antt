-- What the frames of pages that are freed were found to be (document 02, slip 5), and what that tells of the memory before and after. A board has `up` levels above
-- the last.
use Rattle.std.specs.Prelude.{Ok, Err, Result}
use Rattle.answer.specs.declared.Refusal.{Refusal}
use Rattle.std.specs.Prelude.{ℕ, zero, suc, ◌+◌, ◌*◌, ◌≡◌, Bool, not, List, get_or}
use Rattle.bits.specs.Bit.{both, one, flag}
use Rattle.bitmap.specs.Bitmap.{count}
use Rattle.entry.specs.Entry.{frame_of}
use Rattle.answer.specs.Outcomes.{and_then}
use Rattle.frame.specs.declared.Tally.{Tally}
use Rattle.frame.specs.Frames.{Frames, inside, give_frame}
use Rattle.frame.specs.Found.{none_found, one_found, and_found, all_found}
use Rattle.paging.specs.Map.{Memory, start_frame, total_of}
use Rattle.paging.specs.Calls.{unmap_at}
use Rattle.paging.specs.Pages.{unmap_leaf, free_page}

-- the frame of a leaf that was cleared; none where `unmap_page` gives 14 or 19
abbrev pub frame_found : Result ℕ Refusal → Frames → Tally
frame_found (Ok f) fr = one_found (give_frame fr f).answer
frame_found (Err n) fr = none_found

-- .. of page v, as `free_page` frees it
unfoldable pub page_found : ℕ → Memory → ℕ → ℕ → Tally
page_found up m root v = frame_found (unmap_leaf up m root v).walked m.frames

-- .. of n pages from v on, as `free_pages` frees them
unfoldable pub pages_found : ℕ → Memory → ℕ → ℕ → ℕ → Tally
pages_found up m root v zero = none_found
pages_found up m root v (suc n) = and_found (page_found up m root v) (pages_found up (free_page up m root v) root (v + 4096) n)

-- 'the pages that were unmapped': of n pages from v on, unmapped one after the other, how many `unmap_page` finds
unfoldable pub unmapped_of : ℕ → List ℕ → ℕ → ℕ → ℕ → ℕ → ℕ → ℕ
unmapped_of up ws start total root v zero = 0
unmapped_of up ws start total root v (suc n) =
    let l = unmap_at up ws start total root v in
    and_then l.walked (λ _. 0) (λ _. 1) + unmapped_of up l.words start total root (v + 4096) n

-- ---- what a tally tells: whatever the words hold, it is what is gone from the board

-- how many of the first n words pass a test
unfoldable pub passing : (ℕ → Bool) → List ℕ → ℕ → ℕ
passing test ws zero = 0
passing test ws (suc n) = passing test ws n + one (test (get_or ws n 0))

-- the present entries in the lent frames, and those of them that name a frame off the board
abbrev pub present_entries : Memory → ℕ
present_entries m = passing (flag 0) m.words (total_of m * 512)

abbrev pub names_off : ℕ → ℕ → ℕ → Bool
names_off start total e = both (flag 0 e) (not (inside start total (frame_of e)))

abbrev pub off_entries : Memory → ℕ
off_entries m = passing (names_off (start_frame m) (total_of m)) m.words (total_of m * 512)

abbrev pub marked_frames : Memory → ℕ
marked_frames m = count m.frames.bits (total_of m)

-- from a memory to the one that is left
pub record Tells (before left : Memory) (t : Tally) : Type 0 where
  -- all three together are the entries that were cleared
  pub all : present_entries before ≡ present_entries left + all_found t
  -- freed: the frames that are no longer marked
  pub freed : marked_frames before ≡ marked_frames left + t.freed
  -- not on this board: the entries cleared that named a frame off the board
  pub off : off_entries before ≡ off_entries left + t.not_here
