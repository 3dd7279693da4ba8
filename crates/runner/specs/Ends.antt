-- Where a run stands, by what code answers of a turn and of a whole run.
use Prim.{Unit}
use Rattle.std.specs.Prelude.{ℕ, Result, Ok, Err}
use Rattle.std.specs.declared.ops.ControlFlow.{ControlFlow}
use Rattle.turn.specs.Run.{Stage, Going, Ended, Unread, Unwritten, TooLong, stage_behind}
use Rattle.runner.specs.declared.error.RunError.{RunError}
use Rattle.runner.specs.declared.error.RunError.TheVariants.{NotStarted, ReadFailed, WriteFailed, TapeTooLong}

-- where a run stands that is stopped; one that is not started stands at its beginning
abbrev pub stage_stopped : RunError → Stage
stage_stopped NotStarted = Going
stage_stopped ReadFailed = Unread
stage_stopped WriteFailed = Unwritten
stage_stopped TapeTooLong = TooLong

abbrev pub stage_of_turn : Result (ControlFlow (Unit {0}) (Unit {0})) RunError → Stage
stage_of_turn (Ok f) = stage_behind f
stage_of_turn (Err e) = stage_stopped e

abbrev pub stage_of_run : Result (Unit {0}) RunError → Stage
stage_of_run (Ok u) = Ended
stage_of_run (Err e) = stage_stopped e

-- the status that a program ends with
abbrev pub status_of : Result (Unit {0}) RunError → ℕ
status_of (Ok u) = 0
status_of (Err e) = 1
