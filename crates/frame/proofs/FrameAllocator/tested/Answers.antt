-- `tested`: a sound record's counter has room for one frame more, and counts at most all of them.
use Rattle.std.proofs.Common.{arith}
use Rattle.frame.proofs.Laws.{passed, sound_held, sound_fits}
use Rattle.frame.proofs.FrameAllocator.tested.Goals as goal

pub returns-then-is_sound-clause-room : goal.returns-then-is_sound-clause-room
returns-then-is_sound-clause-room c = sound_held _ 1 (omega arith) (passed c.is_sound.ensures c.if-is_sound.true)

pub returns-then-is_sound-clause-fits : goal.returns-then-is_sound-clause-fits
returns-then-is_sound-clause-fits c = sound_fits _ (passed c.is_sound.ensures c.if-is_sound.true)
