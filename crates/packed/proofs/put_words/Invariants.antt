-- `put_words`: the invariant: the first i numbers are packed, the bytes behind them are as they were.
use Rattle.std.proofs.Common.{◌≡◌, ◌*◌, ◌-◌, ◌≤◌, ◌++◌, length, take, drop}
use Rattle.packed.specs.Words.{pack}
use Rattle.packed.proofs.put_words.Given as goal

abbrev pub invariant-loop-i : goal.invariant-loop-i
invariant-loop-i l = (l.i ≤ l.i-end) × (length l.bytes ≡ length l.initial.bytes) × (l.bytes ≡ pack (take l.i l.words) ++ drop (l.i * 8) l.initial.bytes)

abbrev pub decreases-loop-i : goal.decreases-loop-i
decreases-loop-i l = l.i-end - l.i
