-- Runs of pages, shared by vmalloc and mmap: fresh frames mapped one page after the other, and pages unmapped. A board has `up` levels above the last.
use Rattle.std.specs.Prelude.{Ok, Err, Result}
use Rattle.answer.specs.declared.Refusal.{Refusal}
use Rattle.answer.specs.declared.Refusal.TheVariants.{MapPageFailed}
use Rattle.address.specs.declared.Frame.{Frame}
use Rattle.std.specs.Prelude.{ℕ, zero, suc, ◌+◌, ◌*◌, ◌^◌, Bool}
use Rattle.answer.specs.Outcomes.{and_then}
use Rattle.entry.specs.Entry.{entry_of}
use Rattle.frame.specs.Frames.{Frames, take_frame, give_frame}
use Rattle.paging.specs.Map.{Memory, memory, start_frame, total_of, Out, out, go_on, zero_frame, Left}
use Rattle.paging.specs.Calls.{map_at, unmap_at}

-- 'take a frame, zero it'
abbrev pub zeroed : Memory → Result Frame Refusal → Frames → Out
zeroed m (Ok f) fr = out (Ok f.0) (memory (zero_frame m.words (start_frame m) f.0) fr)
zeroed m (Err n) fr = out (Err n) (memory m.words fr)

unfoldable pub fresh_frame : Memory → Out
fresh_frame m = zeroed m (take_frame m.frames).answer (take_frame m.frames).frames

-- '13 `map_page` failed, by 11, 12 or 19, inside mmap or vmalloc'
abbrev pub or_failed : Result ℕ Refusal → Result ℕ Refusal
or_failed (Ok x) = Ok x
or_failed (Err n) = Err MapPageFailed

-- a page: 11 where it has no frame, 13 where its frame cannot be mapped
unfoldable pub map_fresh : ℕ → Bool → Bool → Memory → ℕ → ℕ → Out
map_fresh up w u m root v =
    go_on (fresh_frame m) (λ f m'.
    let o = map_at up up u m' root v (entry_of (f * 2 ^ 12) w u) in
    out (or_failed o.walked) o.mem)

-- how far a run of pages came, and the memory that it leaves
pub record Ran : Type 0 where
  pub walked : Result ℕ Refusal
  pub done : ℕ
  pub mem : Memory

abbrev pub ran : Result ℕ Refusal → ℕ → Memory → Ran
ran w k m = record { walked = w; done = k; mem = m }

-- n pages from v on, k of the run being mapped already; it stops at the first page that cannot be had
unfoldable pub map_pages : ℕ → Bool → Bool → Memory → ℕ → ℕ → ℕ → ℕ → Ran
map_pages up w u m root v k zero = ran (Ok 0) k m
map_pages up w u m root v k (suc n) =
    and_then (map_fresh up w u m root v).walked (λ a. ran (Err a) k (map_fresh up w u m root v).mem) (λ _.
    map_pages up w u (map_fresh up w u m root v).mem root (v + 4096) (suc k) n)

-- the leaf of page v, cleared; 'pass over a page whose `unmap_page` gives 14 or 19'
abbrev pub unmap_leaf : ℕ → Memory → ℕ → ℕ → Left
unmap_leaf up m root v = unmap_at up m.words (start_frame m) (total_of m) root v

unfoldable pub clear_page : ℕ → Memory → ℕ → ℕ → Memory
clear_page up m root v = memory (unmap_leaf up m root v).words m.frames

-- .. and its frame freed
abbrev pub freed : Result ℕ Refusal → Frames → Frames
freed (Ok f) fr = (give_frame fr f).frames
freed (Err n) fr = fr

unfoldable pub free_page : ℕ → Memory → ℕ → ℕ → Memory
free_page up m root v = memory (unmap_leaf up m root v).words (freed (unmap_leaf up m root v).walked m.frames)

-- n pages from v on, one after the other
unfoldable pub clear_pages : ℕ → Memory → ℕ → ℕ → ℕ → Memory
clear_pages up m root v zero = m
clear_pages up m root v (suc n) = clear_pages up (clear_page up m root v) root (v + 4096) n

unfoldable pub free_pages : ℕ → Memory → ℕ → ℕ → ℕ → Memory
free_pages up m root v zero = m
free_pages up m root v (suc n) = free_pages up (free_page up m root v) root (v + 4096) n
