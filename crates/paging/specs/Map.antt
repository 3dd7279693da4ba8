-- Entering tables, mapping and unmapping, on a record that was tested. Each step gives where it came or the number it stopped with, and the memory it leaves.
use Rattle.std.specs.Prelude.{Ok, Err, Result}
use Rattle.answer.specs.declared.Refusal.{Refusal}
use Rattle.answer.specs.declared.Refusal.TheVariants.{AlreadyMapped, NotMapped, TableOutside}
use Rattle.address.specs.declared.Frame.{Frame}
use Rattle.std.specs.Prelude.{ℕ, zero, suc, ◌+◌, ◌-◌, ◌*◌, ◌^◌, ◌≤◌, Bool, true, List, [], ◌∷◌, length, get_or, set}
use Rattle.bits.specs.Bit.{pick, flag}
use Rattle.answer.specs.Outcomes.{and_then}
use Rattle.entry.specs.Entry.{frame_of, entry_of}
use Rattle.frame.specs.Frames.{Frames, inside, take_frame, RoomToCount}
use Rattle.paging.specs.Walk.{place, reach}

-- the lent words and the frame allocator
pub record Memory : Type 0 where
  pub words : List ℕ
  pub frames : Frames

abbrev pub memory : List ℕ → Frames → Memory
memory ws fr = record { words = ws; frames = fr }

abbrev pub start_frame : Memory → ℕ
start_frame m = m.frames.fa.start

abbrev pub total_of : Memory → ℕ
total_of m = m.frames.fa.total

-- where a step came, and the memory that it leaves
pub record Out : Type 0 where
  pub walked : Result ℕ Refusal
  pub mem : Memory

abbrev pub out : Result ℕ Refusal → Memory → Out
out w m = record { walked = w; mem = m }

-- what follows a step that has come somewhere
abbrev pub go_on : Out → (ℕ → Memory → Out) → Out
go_on o k = and_then o.walked (λ n m. out (Err n) m) k o.mem

-- n words from `at` on, set to 0
unfoldable pub clear : List ℕ → ℕ → ℕ → List ℕ
clear ws at zero = ws
clear ws at (suc n) = set (clear ws at n) (at + n) 0

-- all 512 words of frame f, set to 0
abbrev pub zero_frame : List ℕ → ℕ → ℕ → List ℕ
zero_frame ws start f = clear ws ((f - start) * 512) 512

-- 'takes the lowest frame, zeroes it, and enters it writable with the caller's user bit'
abbrev pub new_table : Bool → Memory → ℕ → Result Frame Refusal → Frames → Out
new_table u m p (Ok f) fr = out (Ok f.0) (memory (set (zero_frame m.words (start_frame m) f.0) p (entry_of (f.0 * 2 ^ 12) true u)) fr)
new_table u m p (Err n) fr = out (Err n) (memory m.words fr)

unfoldable pub create : Bool → Memory → ℕ → Out
create u m p = new_table u m p (take_frame m.frames).answer (take_frame m.frames).frames

-- the table below the entry at word p: 'present tables keep their bits'
unfoldable pub below : Bool → Memory → ℕ → Out
below u m p = pick (flag 0 (get_or m.words p 0)) (out (Ok (frame_of (get_or m.words p 0))) m) (create u m p)

-- the table below entry i of table t, made if there is none
unfoldable pub enter : Bool → Memory → ℕ → ℕ → Out
enter u m t i = pick (inside (start_frame m) (total_of m) t) (below u m (place (start_frame m) t i)) (out (Err TableOutside) m)

-- the tables along a path; it comes to the last one
unfoldable pub make : Bool → Memory → ℕ → List ℕ → Out
make u m t [] = out (Ok t) m
make u m t (i ∷ is) = go_on (enter u m t i) (λ f m'. make u m' f is)

-- where a store into one table came, and the words that it leaves
pub record Left : Type 0 where
  pub walked : Result ℕ Refusal
  pub words : List ℕ

abbrev pub left : Result ℕ Refusal → List ℕ → Left
left w ws = record { walked = w; words = ws }

-- the word e at entry i of table t: 'a present leaf is 12'
unfoldable pub put_entry : List ℕ → ℕ → ℕ → ℕ → ℕ → ℕ → Left
put_entry ws start total t i e =
    pick (inside start total t)
    (pick (flag 0 (get_or ws (place start t i) 0)) (left (Err AlreadyMapped) ws) (left (Ok 0) (set ws (place start t i) e)))
    (left (Err TableOutside) ws)

abbrev pub with_words : Memory → Left → Out
with_words m l = out l.walked (memory l.words m.frames)

-- the word e at index i below the tables along a path
unfoldable pub map_entry : Bool → Memory → ℕ → List ℕ → ℕ → ℕ → Out
map_entry u m root path i e = go_on (make u m root path) (λ t m'. with_words m' (put_entry m'.words (start_frame m') (total_of m') t i e))

-- the leaf at entry i of table t, cleared; it comes to the frame that the leaf named
unfoldable pub take_leaf : List ℕ → ℕ → ℕ → ℕ → ℕ → Left
take_leaf ws start total t i =
    pick (inside start total t)
    (pick (flag 0 (get_or ws (place start t i) 0)) (left (Ok (frame_of (get_or ws (place start t i) 0))) (set ws (place start t i) 0))
    (left (Err NotMapped) ws))
    (left (Err TableOutside) ws)

-- the leaf at index i below the tables along a path
unfoldable pub unmap_entry : List ℕ → ℕ → ℕ → ℕ → List ℕ → ℕ → Left
unmap_entry ws start total root path i = and_then (reach ws start total root path) (λ n. left (Err n) ws) (λ t. take_leaf ws start total t i)

-- what the inner functions that take frames ask: lent words enough, and room for n more frames in the counter
pub record RoomToTake (m : Memory) (n : ℕ) : Type 0 where
  pub enough : total_of m * 512 ≤ length m.words
  pub held : RoomToCount m.frames.fa n
