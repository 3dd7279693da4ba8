-- `is_sound`: the four tests of a broken record, in the definition's order.
use Rattle.std.proofs.Common.{sym, arith}
use Rattle.frame.proofs.Laws.{sound_many, sound_high, sound_leveled, sound_counted, passed, failed}
use Rattle.frame.proofs.FrameAllocator.is_sound.Goals as goal

pub returns-then-total-gt-MAX_FRAMES : goal.returns-then-total-gt-MAX_FRAMES
returns-then-total-gt-MAX_FRAMES c =
    sym (sound_many _ c.if-total-gt-MAX_FRAMES.true)

pub returns-then-self-total : goal.returns-then-self-total
returns-then-self-total c =
    sym (sound_high _ c.if-total-gt-MAX_FRAMES.false (omega arith))

pub returns-then-not-is_levels : goal.returns-then-not-is_levels
returns-then-not-is_levels c =
    sym (sound_leveled _ c.if-total-gt-MAX_FRAMES.false (omega arith) (failed c.is_levels.ensures c.if-not-is_levels.true))

pub returns : goal.returns
returns c =
    rw c.count.ensures (sym (sound_counted _ c.if-total-gt-MAX_FRAMES.false (omega arith) (passed c.is_levels.ensures c.if-not-is_levels.false)))
