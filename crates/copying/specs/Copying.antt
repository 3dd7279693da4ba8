-- The copy of a copy-on-write page, and the two steps that demand paging shares with it: a frame taken, and a page mapped to it. A board has `up` levels above the last.
use Rattle.std.specs.Prelude.{Ok, Err, Result}
use Rattle.answer.specs.declared.Refusal.{Refusal}
use Rattle.answer.specs.declared.Refusal.TheVariants.{PageTableError}
use Rattle.address.specs.declared.Frame.{Frame}
use Rattle.std.specs.Prelude.{ℕ, zero, suc, ◌*◌, ◌/◌, ◌^◌, Bool, true, false, List, get_or, set}
use Rattle.bits.specs.Bit.{unless}
use Rattle.answer.specs.Outcomes.{and_then}
use Rattle.entry.specs.Entry.{entry_of, indices}
use Rattle.frame.specs.declared.Tally.{Tally}
use Rattle.frame.specs.Frames.{Frames, inside, take_frame}
use Rattle.frame.specs.Found.{none_found}
use Rattle.paging.specs.Walk.{place, leaf, address}
use Rattle.paging.specs.Map.{Memory, memory, start_frame, total_of, Out, out, go_on}
use Rattle.paging.specs.Calls.{map_at}
use Rattle.paging.specs.Pages.{clear_page, free_page}
use Rattle.paging.specs.Found.{page_found}
use Rattle.paging.specs.declared.Entered.{Entered}
use Rattle.paging.specs.Kept.{lent_memory}

-- a frame taken as it is, unzeroed; 11 where there is none
abbrev pub as_taken : Memory → Result Frame Refusal → Frames → Out
as_taken m (Ok f) fr = out (Ok f.0) (memory m.words fr)
as_taken m (Err n) fr = out (Err n) (memory m.words fr)

unfoldable pub raw_frame : Memory → Out
raw_frame m = as_taken m (take_frame m.frames).answer (take_frame m.frames).frames

-- '18 mapping failed, by 11, 12 or 19, in the first fault path'
abbrev pub only_error : Result ℕ Refusal → Result ℕ Refusal
only_error (Ok x) = Ok x
only_error (Err n) = Err PageTableError

abbrev pub or_table_error : Out → Out
or_table_error o = out (only_error o.walked) o.mem

-- page v mapped to frame f
abbrev pub map_frame : ℕ → Memory → ℕ → ℕ → ℕ → Bool → Bool → Out
map_frame up m root v f w u = or_table_error (map_at up up u m root v (entry_of (f * 2 ^ 12) w u))

-- ---- the copy

-- 'A copy goes through page 0xFFFFFFFFFFFF0000'
abbrev pub temporary : ℕ
temporary = 0xFFFF_FFFF_FFFF_0000

-- where `translate` puts an address
abbrev pub translated : ℕ → Memory → ℕ → ℕ → Result ℕ Refusal
translated up m root v = address v (leaf m.words (start_frame m) (total_of m) root (indices (suc up) v))

-- 'unmap that page if mapped'
abbrev pub cleared_if : Result ℕ Refusal → ℕ → Memory → ℕ → ℕ → Memory
cleared_if (Ok a) up m root v = clear_page up m root v
cleared_if (Err n) up m root v = m

abbrev pub cleared_if_mapped : ℕ → Memory → ℕ → ℕ → Memory
cleared_if_mapped up m root v = cleared_if (translated up m root v) up m root v

-- n words from `from` on, copied to `to` on
unfoldable pub copy_words : List ℕ → ℕ → ℕ → ℕ → List ℕ
copy_words ws from to zero = ws
copy_words ws from to (suc n) = copy_words (set ws to (get_or ws from 0)) (suc from) (suc to) n

-- the words of the frame at address a, copied to frame f; '18 .. the page to copy is not in a lent frame'
abbrev pub copied : Memory → Result ℕ Refusal → ℕ → Out
copied m (Ok a) f =
    unless (inside (start_frame m) (total_of m) (a / 4096)) (out (Err PageTableError) m)
    (out (Ok 0) (memory (copy_words m.words (place (start_frame m) (a / 4096) 0) (place (start_frame m) f 0) 512) m.frames))
copied m (Err n) f = out (Err PageTableError) m

-- .. of the frame that page v is mapped to
abbrev pub copied_from : ℕ → Memory → ℕ → ℕ → ℕ → Out
copied_from up m root v f = copied m (translated up m root v) f

-- 'copy from where `translate` now puts the faulting page, unmap': 'An unreadable page to copy is found at the copy; the temporary page is then unmapped'
unfoldable pub copy_page : ℕ → Memory → ℕ → ℕ → ℕ → Out
copy_page up m root v f =
    go_on (map_frame up (cleared_if_mapped up m root temporary) root temporary f true false) (λ _ m'.
    let o = copied_from up m' root v f in
    out o.walked (clear_page up o.mem root temporary))

-- 'remap the faulting page, free the old frame'
abbrev pub remapped : ℕ → Memory → ℕ → ℕ → ℕ → Bool → Out
remapped up m root v f user = map_frame up (free_page up m root v) root v f true user

-- '.. copy .., remap ..', with the new frame in hand
abbrev pub copy_to : ℕ → Memory → ℕ → ℕ → ℕ → Bool → Out
copy_to up m root v f user = go_on (copy_page up m root v f) (λ _ m'. remapped up m' root v f user)

-- 'new frame', then the same
unfoldable pub copy_on_write : ℕ → Memory → ℕ → ℕ → Bool → Out
copy_on_write up m root v user = go_on (raw_frame m) (λ f m'. copy_to up m' root v f user)

-- what the remapping found of the old frame: 'its one, or none where the remapping unmapped no page'; none where it is refused. What is unmapped at the temporary page
-- is not counted
abbrev pub remap_found : ℕ → Memory → ℕ → ℕ → ℕ → Bool → Tally
remap_found up m root v f user = and_then (remapped up m root v f user).walked (λ _. none_found) (λ _. page_found up m root v)

abbrev pub copy_to_found : ℕ → Memory → ℕ → ℕ → ℕ → Bool → Tally
copy_to_found up m root v f user =
    let o = copy_page up m root v f in
    and_then o.walked (λ _. none_found) (λ _. remap_found up o.mem root v f user)

unfoldable pub copy_found : ℕ → Memory → ℕ → ℕ → Bool → Tally
copy_found up m root v user =
    let o = raw_frame m in
    and_then o.walked (λ _. none_found) (λ f. copy_to_found up o.mem root v f user)

-- what code returns of a step, beside the words and bitmap that it was lent
abbrev pub out_of : Entered → List ℕ → List ℕ → Out
out_of r words bitmap = out r.walked (lent_memory words bitmap r.frames)
