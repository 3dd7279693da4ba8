-- Lists of vmalloc, vfree, mmap and munmap calls, played on a board one after the other, as the definitions of the four calls (crates vmalloc, mmap and munmap) say.
use Rattle.std.specs.Prelude.{Ok, Err, Result, Option}
use Rattle.answer.specs.Numbers.{same_refusal}
use Rattle.answer.specs.declared.Refusal.{Refusal}
use Rattle.answer.specs.declared.Refusal.TheVariants.{NoFreeFrame, MapPageFailed}
use Rattle.std.specs.Prelude.{ℕ, Bool, true, false, List, [], ◌∷◌, ℤ, eqb}
use Rattle.bits.specs.Bit.{pick}
use Rattle.vmalloc.specs.Calls.{Kernel, kernel, vmalloc_of, vfree_of, KernelDid}
use Rattle.user_space.specs.User.{User, user, UserDid}
use Rattle.mmap.specs.Calls.{mmap_of}
use Rattle.munmap.specs.Calls.{munmap_of}
use Rattle.board.specs.Board.{Board, BoardDid, board_did}

-- the four calls with any arguments
pub data Call : Type 0 where
  vmalloc_call : ℕ → Call
  vfree_call : ℕ → Call
  mmap_call : Option ℕ → ℕ → ℤ → ℤ → Call
  munmap_call : ℕ → ℕ → Call

-- what the kernel's calls and the user's are lent of a board, and the board with what they leave
abbrev pub kernel_of : Board → Kernel
kernel_of b = kernel b.mem b.kernel

abbrev pub with_kernel : Board → Kernel → Board
with_kernel b k = record { mem = k.mem; root = b.root; kernel = k.regions; user = b.user; next = b.next; marked = b.marked }

abbrev pub user_of : Board → User
user_of b = user b.mem b.user b.next

abbrev pub with_user : Board → User → Board
with_user b u = record { mem = u.mem; root = b.root; kernel = b.kernel; user = u.regions; next = u.next; marked = b.marked }

abbrev pub by_kernel : Board → KernelDid → BoardDid
by_kernel b d = board_did d.answer (with_kernel b d.kernel)

abbrev pub by_user : Board → UserDid → BoardDid
by_user b d = board_did d.answer (with_user b d.user)

-- a call on a board, of 4 or 5 levels: its answer, and the board that it leaves
unfoldable pub play : Board → Call → BoardDid
play b (vmalloc_call size) = by_kernel b (vmalloc_of (kernel_of b) b.root size)
play b (vfree_call a) = by_kernel b (vfree_of (kernel_of b) b.root a)
play b (mmap_call hint size prot flags) = by_user b (mmap_of (user_of b) b.root hint size prot flags)
play b (munmap_call a size) = by_user b (munmap_of (user_of b) b.root a size)

-- the board after a list of calls, 'each call on the state the last one left'
unfoldable pub after : Board → List Call → Board
after b [] = b
after b (c ∷ cs) = after (play b c).board cs

-- a call with its answer
pub record Event : Type 0 where
  pub call : Call
  pub answer : Result ℕ Refusal

-- the calls of a list with their answers
unfoldable pub events : Board → List Call → List Event
events b [] = []
events b (c ∷ cs) = record { call = c; answer = (play b c).answer } ∷ events (play b c).board cs

abbrev pub is_met : Result ℕ Refusal → Bool
is_met (Ok x) = true
is_met (Err n) = false

-- turned away with 11 or 13
abbrev pub turned_away : Result ℕ Refusal → Bool
turned_away (Ok x) = false
turned_away (Err n) = pick (same_refusal n NoFreeFrame) true (same_refusal n MapPageFailed)
