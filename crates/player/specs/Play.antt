-- One call of a tape on a board, document 01's 'The key program': its kind, what its line says, and the board that it leaves, as crate trace plays every call.
use Rattle.std.specs.Prelude.{ℕ}
use Rattle.answer.specs.declared.Line.{Line}
use Rattle.board.specs.Board.{Board}
use Rattle.release.specs.Calls.{vmalloc_call, vfree_call, mmap_call, munmap_call}
use Rattle.trace.specs.Trace.{AnyCall, region_call, fault_call, translate_call}
use Rattle.trace.specs.Trace.{play as play_any}
use Rattle.tape.specs.declared.Call.{Call}
use Rattle.tape.specs.declared.Call.TheVariants.{Vmalloc, Vfree, Mmap, Munmap, Fault, Translate}
use Rattle.tape.specs.Tape.{kind_of}

pub record Turn : Type 0 where
  pub kind : ℕ
  pub line : Line
  pub board : Board

abbrev pub turn : ℕ → Line → Board → Turn
turn k l b = record { kind = k; line = l; board = b }

-- a call of a tape as one of all calls
abbrev pub any_call : Call → AnyCall
any_call (Vmalloc n) = region_call (vmalloc_call n)
any_call (Vfree a) = region_call (vfree_call a)
any_call (Mmap c) = region_call (mmap_call c.addr c.size c.prot c.flags)
any_call (Munmap c) = region_call (munmap_call c.addr c.size)
any_call (Fault c) = fault_call c.addr c.code
any_call (Translate a) = translate_call a

abbrev pub play : Board → Call → Turn
play b c = turn (kind_of c) (play_any b (any_call c)).line (play_any b (any_call c)).board
