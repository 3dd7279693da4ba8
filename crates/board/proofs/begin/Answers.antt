-- `begin`: the allocator anew, its first frame marked and zeroed, and the lists anew.
use Rattle.board.specs.Board.{Board}
use Rattle.board.specs.Packed.{board_of}
use native.Mathlib.Omega.{arith}
use Rattle.board.proofs.Outcomes.{met_tests}
use Rattle.board.proofs.Steps.{fresh_held, begun_told}
use Rattle.board.proofs.begin.Goals as goal

pub mark_frame-requires : goal.mark_frame-requires
mark_frame-requires c =
    let lent : Board = board_of c.args.words.now c.args.bitmap.now c.args.kernel.now c.args.user.now c.args.marked.now c.args.records in
    fresh_held (lent) c.args.from c.args.to c.args.levels c.requires.levels_value c.init.ensures

pub zero_frame-requires : goal.zero_frame-requires
zero_frame-requires c =
    omega (arith, met_tests _ c.args.from c.args.to c.args.levels c.requires.levels_value)

pub returns-clause-result_after : goal.returns-clause-result_after
returns-clause-result_after c =
    (let lent : Board = board_of c.args.words.now c.args.bitmap.now c.args.kernel.now c.args.user.now c.args.marked.now c.args.records in
    begun_told (lent) c.args.from c.args.to c.args.levels c.requires.levels_value c.init.ensures c.mark_frame.ensures
    c.zero_frame.ensures (c.start.ensures.list_after, (c.start.ensures.list_after_2, c.start.ensures.list_after_3)) (c.start-2.ensures.list_after, c.start-2.ensures.mmap_stands) (c.start-3.ensures.list_after, (c.start-3.ensures.list_after_2, c.start-3.ensures.list_after_3))).0

pub returns-clause-board_stands : goal.returns-clause-board_stands
returns-clause-board_stands c =
    (let lent : Board = board_of c.args.words.now c.args.bitmap.now c.args.kernel.now c.args.user.now c.args.marked.now c.args.records in
    begun_told (lent) c.args.from c.args.to c.args.levels c.requires.levels_value c.init.ensures c.mark_frame.ensures
    c.zero_frame.ensures (c.start.ensures.list_after, (c.start.ensures.list_after_2, c.start.ensures.list_after_3)) (c.start-2.ensures.list_after, c.start-2.ensures.mmap_stands) (c.start-3.ensures.list_after, (c.start-3.ensures.list_after_2, c.start-3.ensures.list_after_3))).1
