-- What the steps of a start come to, on a board whose lists stay packed bytes.
use Prim.Native.Nat.{ℕ, ◌-◌, ◌*◌}
use mathlib.Core.Path.{◌≡◌, sym, ◌∙◌, ap, subst}
use mathlib.Core.Bool.{true, false}
use mathlib.Core.List.{List}
use native.Mathlib.Omega.{arith}
use lib.ListN.{length}
use Rattle.std.specs.Prelude.{Ok, Err, Result, ⊤}
use Rattle.answer.specs.declared.Refusal.{Refusal}
use Rattle.answer.specs.declared.Refusal.TheVariants.{BrokenRecord}
use Rattle.frame.specs.declared.FrameAllocator.{FrameAllocator}
use Rattle.frame.specs.Frames.{Frames, frames, FramesDid, frames_did, with_levels, init, with_mark, mark_frame, RoomToCount}
use Rattle.frame.proofs.Laws.{fresh, init_met}
use Rattle.frame.proofs.Steps.{span_with}
use Rattle.paging.specs.Map.{memory, clear}
use Rattle.regions.specs.List.{one_region}
use Rattle.vm_list.specs.Packed.{vm_in, vm_out, vm_fit}
use Rattle.mappings.specs.Regions.{user_start, empty_slots}
use Rattle.mappings.specs.Packed.{mmap_out, MmapStands}
use Rattle.cow.specs.Marked.{no_pages}
use Rattle.cow.specs.Packed.{marked_in, marked_out, marked_fit}
use Rattle.board.specs.Board.{Board, BoardDid, with_frame_levels, start, may_start}
use Rattle.board.specs.Packed.{BoardBytes, board_in, board_out, BoardStands, lists_long, packed_by, start_on}
use Rattle.board.proofs.Outcomes.{unmarked, mark_first, met_tests, start_refused, start_met}

-- ---- the start on packed bytes, by the tests

module _ (p : BoardBytes) (from to levels : ℕ) where
  pub in_short : lists_long p ≡ false → start_on p from to levels ≡ record { answer = Err BrokenRecord; board = p }
  unfolding start_on
  in_short h = rw h

  module _ (long : lists_long p ≡ true) where
    in_long : {d : BoardDid} → start (board_in p) from to levels ≡ d → start_on p from to levels ≡ packed_by p d.answer d.board
    unfolding start_on
    in_long e = rw (long, e)

    pub in_refused : (n : Refusal) → may_start (length p.mem.words) from to levels ≡ Err n → start_on p from to levels ≡ record { answer = Err n; board = p }
    in_refused n h = in_long (start_refused (board_in p) from to levels n h)

    pub in_met : may_start (length p.mem.words) from to levels ≡ Ok tt
        → start_on p from to levels ≡ record { answer = Ok tt; board = board_out (start (board_in p) from to levels).board }
    in_met h = let e = start_met (board_in p) from to levels h in in_long e ∙ ap (λ (d : BoardDid). record { answer = Ok tt; board = board_out d.board }) (sym e)

-- ---- the steps of a start that is known to be met

module _ (b : Board) (from to levels : ℕ) (met : may_start (length b.mem.words) from to levels ≡ Ok tt) where
  -- after `init`, with the levels entered
  module _ {a : Result ⊤ Refusal} {anew : Frames} (e : frames_did a anew ≡ init b.mem.frames from to) where
    fresh-is : with_frame_levels anew levels ≡ unmarked from to levels
    fresh-is = ap (λ (d : FramesDid (Result ⊤ Refusal)). with_frame_levels d.frames levels) (e ∙ init_met b.mem.frames from to (met_tests _ from to levels met).0 (met_tests _ from to levels met).1)

    pub fresh_held : RoomToCount (with_levels anew.fa levels) 1
    fresh_held =
        subst (λ (fr : Frames). RoomToCount fr.fa 1) (sym fresh-is) (record { few = omega arith; low = omega (arith, met_tests _ from to levels met); room = omega arith })

    -- .. and after the other steps
    pub begun_told : {left : Frames} {ws k u m : List ℕ} → left ≡ mark_frame (with_frame_levels anew levels) anew.fa.start → ws ≡ clear b.mem.words 0 512
        → (k ≡ vm_out one_region) × ((vm_in k ≡ one_region) × (vm_fit k ≡ true)) → (u ≡ mmap_out empty_slots user_start) × MmapStands u empty_slots user_start
        → (m ≡ marked_out no_pages) × ((marked_in m ≡ no_pages) × (marked_fit m ≡ true))
        → let p : BoardBytes = record { mem = memory ws left; root = anew.fa.start; kernel = k; user = u; marked = m } in
        (p ≡ board_out (start b from to levels).board) × BoardStands p (start b from to levels).board
    begun_told {left = begun} {ws = ws} x z k u m =
        let left = sym (ap (λ (d : BoardDid). d.board) (start_met b from to levels met)) in
        let taken : begun ≡ with_mark (unmarked from to levels) 0
        = x ∙ ap (λ (f : Frames). mark_frame f f.fa.start) fresh-is ∙ mark_first from to levels (met_tests _ from to levels met).3 in
        let none : (s t : ℕ) → t ≡ s → (s - t) * 512 ≡ 0 = λ s t h. omega arith in
        let first = sym (none (fresh from to).fa.start _ (span_with (unmarked from to levels) 0).start) in
        let words = z ∙ ap (λ (n : ℕ). clear b.mem.words n 512) first in
        let root = ap (λ (f : Frames). f.fa.start) fresh-is in (
          (λ j. record { mem = memory (words j) (taken j); root = root j; kernel = k.0 j; user = u.0 j; marked = m.0 j }) ∙ ap board_out left,
          (
            rw (k.1.1, u.1.0, m.1.1),
            (λ j. record { mem = memory (words j) (taken j); root = root j; kernel = k.1.0 j; user = u.1.1 j; next = u.1.2 j; marked = m.1.0 j }) ∙ left,
          ),
        )
