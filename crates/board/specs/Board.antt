-- The board, all of its parts together, and its start.
use Rattle.std.specs.Prelude.{Ok, Err, Result, ⊤}
use Rattle.answer.specs.declared.Refusal.{Refusal}
use Rattle.answer.specs.declared.Refusal.TheVariants.{BrokenRecord, NoFreeFrame}
use Rattle.address.specs.declared.Frame.{Frame}
use Rattle.std.specs.Prelude.{ℕ, ◌-◌, ◌*◌, ◌/◌, min, eqb, leb, length}
use Rattle.bits.specs.Bit.{pick, unless, both}
use Rattle.frame.specs.Frames.{Frames, frames, address_end, is_levels, with_levels, init, take_frame}
use Rattle.paging.specs.Map.{Memory, memory, zero_frame}
use Rattle.slots.specs.Slots.{Slots}
use Rattle.regions.specs.declared.VMRegion.{VMRegion}
use Rattle.regions.specs.List.{one_region}
use Rattle.mappings.specs.declared.MappedRegion.{MappedRegion}
use Rattle.mappings.specs.Regions.{user_start, empty_slots}
use Rattle.cow.specs.Marked.{no_pages}

-- the lent words with the frame allocator, the root's frame number, the vmalloc list, the mmap list with next_addr, and the copy-on-write pages
pub record Board : Type 0 where
  pub mem : Memory
  pub root : ℕ
  pub kernel : Slots VMRegion
  pub user : Slots MappedRegion
  pub next : ℕ
  pub marked : Slots ℕ

pub record BoardDid : Type 0 where
  pub answer : Result ℕ Refusal
  pub board : Board

abbrev pub board_did : Result ℕ Refusal → Board → BoardDid
board_did a b = record { answer = a; board = b }

-- the board once its root is taken: the root zeroed, the window one free region, the other lists empty, all their slots zero
abbrev pub begun : Board → ℕ → Frames → Board
begun b root fr = record {
  mem = memory (zero_frame b.mem.words fr.fa.start root) fr;
  root = root;
  kernel = one_region;
  user = empty_slots;
  next = user_start;
  marked = no_pages;
}

abbrev pub rooted : Board → Result Frame Refusal → Frames → BoardDid
rooted b (Ok f) fr = board_did (Ok 0) (begun b f.0 fr)
rooted b (Err n) fr = board_did (Err n) b

-- 10 also for 'fewer lent words than total × 512'
abbrev pub ready : Board → Result ⊤ Refusal → Frames → BoardDid
ready b (Err n) fr = board_did (Err n) b
ready b (Ok tt) fr =
    unless (leb (fr.fa.total * 512) (length b.mem.words)) (board_did (Err BrokenRecord) b)
    (rooted b (take_frame fr).answer (take_frame fr).frames)

-- the allocator of a board of n levels
abbrev pub with_frame_levels : Frames → ℕ → Frames
with_frame_levels fr n = frames fr.bits (with_levels fr.fa n)

-- 'A board is started with 4 or 5 levels .. Another number, at the start .., is refused with 10'. It 'runs `FrameAllocator::init`, takes the lowest frame as root (11 if
-- total is 0), zeroes it, and makes the vmalloc window one free region'. A refused start changes nothing
unfoldable pub start : Board → ℕ → ℕ → ℕ → BoardDid
start b from to levels =
    unless (is_levels levels) (board_did (Err BrokenRecord) b)
    (ready b (init b.mem.frames from to).answer (with_frame_levels (init b.mem.frames from to).frames levels))

-- The same told before anything is written, as code has to: what a start answers by the words lent, the two addresses and the levels (law `start-refused` of proofs/Outcomes).
abbrev pub frame_count : ℕ → ℕ → ℕ
frame_count from to = min ((to - from) / 4096) 8192

unfoldable pub may_start : ℕ → ℕ → ℕ → ℕ → Result ⊤ Refusal
may_start len from to levels =
    unless (is_levels levels) (Err BrokenRecord)
    (unless (both (leb from to) (leb to address_end)) (Err BrokenRecord)
    (unless (leb (frame_count from to * 512) len) (Err BrokenRecord)
    (pick (eqb (frame_count from to) 0) (Err NoFreeFrame) (Ok tt))))
