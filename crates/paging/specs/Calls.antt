-- The mapper's calls, in document 01's order of checks: 10 first. A board has `up` levels above the last. The calls that are lent no frame record are lent its levels.
use Rattle.std.specs.Prelude.{Err, Result}
use Rattle.answer.specs.declared.Refusal.{Refusal}
use Rattle.answer.specs.declared.Refusal.TheVariants.{HugeUnaligned, BrokenRecord}
use Rattle.std.specs.Prelude.{ℕ, suc, ◌-◌, ◌^◌, Bool, List, length, get_or, take}
use Rattle.bits.specs.Bit.{unless, both}
use Rattle.answer.specs.Outcomes.{as_answer}
use Rattle.address.specs.Address.{aligned}
use Rattle.entry.specs.Entry.{entry_of, huge_entry_of, indices}
use Rattle.frame.specs.Frames.{is_levels, sound}
use Rattle.frame.specs.declared.Changed.{Changed}
use Rattle.paging.specs.declared.HugePageSize.{HugePageSize}
use Rattle.paging.specs.declared.HugePageSize.TheVariants.{Size2MB, Size1GB}
use Rattle.paging.specs.Walk.{leaf, address, may_walk}
use Rattle.paging.specs.Levels.{above_last}
use Rattle.paging.specs.Map.{Memory, start_frame, total_of, Out, out, Left, left, map_entry, unmap_entry}

-- the answer of a call that takes frames, beside the frame record that it leaves
abbrev pub as_changed : Out → Changed
as_changed o = record { answer = as_answer o.walked; frames = o.mem.frames.fa }

-- not broken: what a walk needs, and the frame allocator's part
abbrev pub whole : Memory → ℕ → Bool
whole m root = both (may_walk (length m.words) (start_frame m) (total_of m) root) (sound m.frames)

-- .. of the calls that are lent numbers alone
unfoldable pub lent_walk : ℕ → ℕ → ℕ → ℕ → ℕ → Bool
lent_walk levels len start total root = both (is_levels levels) (may_walk len start total root)

unfoldable pub translate : ℕ → List ℕ → ℕ → ℕ → ℕ → ℕ → Result ℕ Refusal
translate levels ws start total root v =
    unless (lent_walk levels (length ws) start total root) (Err BrokenRecord)
    (address v (leaf ws start total root (indices levels v)))

-- the entry e of address v, k steps below the root
abbrev pub map_at : ℕ → ℕ → Bool → Memory → ℕ → ℕ → ℕ → Out
map_at up k u m root v e = map_entry u m root (take k (indices (suc up) v)) (get_or (indices (suc up) v) k 0) e

-- '`map_page` walks' the levels above the last
unfoldable pub map_page : ℕ → Memory → ℕ → ℕ → ℕ → Bool → Bool → Out
map_page up m root v p w u = unless (whole m root) (out (Err BrokenRecord) m) (map_at up up u m root v (entry_of p w u))

-- on a board, by its own levels
abbrev pub map_page_of : Memory → ℕ → ℕ → ℕ → Bool → Bool → Out
map_page_of m root v p w u = map_page (above_last m) m root v p w u

abbrev pub size_of : HugePageSize → ℕ
size_of Size2MB = 2 ^ 21
size_of Size1GB = 2 ^ 30

-- '`map_huge_page` writes a 1 GiB entry at the' last level but one 'and a 2 MiB entry at the last'
abbrev pub tables_above : ℕ → HugePageSize → ℕ
tables_above up Size2MB = up
tables_above up Size1GB = up - 1

-- '4 huge addresses unaligned'
unfoldable pub map_huge : ℕ → Memory → ℕ → ℕ → ℕ → HugePageSize → Bool → Bool → Out
map_huge up m root v p s w u =
    unless (whole m root) (out (Err BrokenRecord) m)
    (unless (both (aligned v (size_of s)) (aligned p (size_of s))) (out (Err HugeUnaligned) m)
    (map_at up (tables_above up s) u m root v (huge_entry_of p w u)))

-- on a board, by its own levels
abbrev pub map_huge_of : Memory → ℕ → ℕ → ℕ → HugePageSize → Bool → Bool → Out
map_huge_of m root v p s w u = map_huge (above_last m) m root v p s w u

-- '`unmap_page` clears the leaf and returns its frame without freeing it'
abbrev pub unmap_at : ℕ → List ℕ → ℕ → ℕ → ℕ → ℕ → Left
unmap_at up ws start total root v = unmap_entry ws start total root (take up (indices (suc up) v)) (get_or (indices (suc up) v) up 0)

unfoldable pub unmap_page : ℕ → List ℕ → ℕ → ℕ → ℕ → ℕ → Left
unmap_page levels ws start total root v =
    unless (lent_walk levels (length ws) start total root) (left (Err BrokenRecord) ws)
    (unmap_at (levels - 1) ws start total root v)
