-- A call on the bytes of a list, as a turn of the board that they are part of.
use Prim.Native.Nat.{ℕ}
use mathlib.Core.Path.{◌≡◌, ◌∙◌, ap}
use mathlib.Core.Bool.{true}
use mathlib.Core.List.{List}
use Rattle.std.specs.Prelude.{Result, ⊤}
use Rattle.answer.specs.declared.Refusal.{Refusal}
use Rattle.bits.proofs.Choice.{both_true}
use Rattle.answer.specs.Numbers.{answer_line}
use Rattle.answer.specs.Outcomes.{as_answer}
use Rattle.answer.specs.declared.Line.{Line}
use Rattle.frame.specs.declared.FrameAllocator.{FrameAllocator}
use Rattle.paging.specs.Map.{Memory}
use Rattle.paging.specs.Kept.{Kept, kept, lent_memory}
use Rattle.vm_list.specs.Packed.{vm_in, vm_fit}
use Rattle.mappings.specs.Packed.{mmap_in, next_in, mmap_fit}
use Rattle.cow.specs.Packed.{marked_in, marked_out, marked_fit}
use Rattle.vmalloc.specs.Calls.{Kernel, kernel, KernelDid}
use Rattle.vmalloc.specs.Packed.{kept_kernel, on_vm_list, KernelReads}
use Rattle.user_space.specs.User.{User, UserDid}
use Rattle.user_space.specs.Packed.{user_in, kept_user, on_mmap_list, UserReads}
use Rattle.fault.specs.Faults.{Faulting, faulting, FaultDid}
use Rattle.fault.specs.Packed.{on_pages, FaultReads}
use Rattle.board.specs.declared.Records.{Records}
use Rattle.board.specs.Packed.{board_of, lists_fit}
use Rattle.release.specs.Calls.{with_kernel, with_user}
use Rattle.trace.specs.Trace.{with_faulting}
use Rattle.player.specs.Play.{turn}

-- ---- where bytes stand for a list, a call on them is the call on the list

kernel_on : {A : Type 0} (form : Result ℕ Refusal → A) (call : Kernel → KernelDid) (m : Memory) (list : List ℕ) → vm_fit list ≡ true
    → on_vm_list form call m list ≡ kept_kernel form (call (kernel m (vm_in list)))
unfolding on_vm_list
kernel_on form call m list fit = rw fit

user_on : {A : Type 0} (form : Result ℕ Refusal → A) (call : User → UserDid) (m : Memory) (list : List ℕ) → mmap_fit list ≡ true
    → on_mmap_list form call m list ≡ kept_user form (call (user_in m list))
unfolding on_mmap_list
user_on form call m list fit = rw fit

pages_on : (call : Faulting → FaultDid) (m : Memory) (list : List ℕ) → marked_fit list ≡ true
    → let d = call (faulting m (marked_in list)) in on_pages call m list ≡ kept (as_answer d.answer) d.state.mem (marked_out d.state.marked)
unfolding on_pages
pages_on call m list fit = rw fit

-- ---- the turns: words, bitmap, list and frame record before the call and after it, and the line of its answer

module _ (records : Records) (ws bm list : List ℕ) (kind : ℕ) where
  abbrev lent : Memory
  lent = lent_memory ws bm records.frames

  abbrev left : FrameAllocator → Records
  left fr = record { frames = fr; root = records.root }

  module _ {A : Type 0} (form : Result ℕ Refusal → A) (line : A → Line) {l : Line} {a : A} {ws' list' : List ℕ} (bm' : List ℕ) {fr : FrameAllocator} (e : l ≡ line a) where
    pub kernel_turn : (call : Kernel → KernelDid) → vm_fit list ≡ true → kept a (lent_memory ws' bm' fr) list' ≡ on_vm_list form call lent list → KernelReads call lent list list'
        → let d = call (kernel lent (vm_in list)) in
        ((u m : List ℕ) → turn kind l (board_of ws' bm' list' u m (left fr)) ≡ turn kind (line (form d.answer)) (with_kernel (board_of ws bm list u m records) d.kernel))
        × (vm_fit list' ≡ true)
    kernel_turn call fit h reads =
        let o = h ∙ kernel_on form call lent list fit in (
          λ u m j. turn kind ((e ∙ ap (λ (x : Kept A). line x.answer) o) j)
              (record { mem = (o j).mem; root = records.root.0; kernel = (reads fit).1 j; user = mmap_in u; next = next_in u; marked = marked_in m }),
          (reads fit).0,
        )

    pub user_turn : (call : User → UserDid) → mmap_fit list ≡ true → kept a (lent_memory ws' bm' fr) list' ≡ on_mmap_list form call lent list → UserReads call lent list list'
        → let d = call (user_in lent list) in
        ((k m : List ℕ) → turn kind l (board_of ws' bm' k list' m (left fr)) ≡ turn kind (line (form d.answer)) (with_user (board_of ws bm k list m records) d.user))
        × (mmap_fit list' ≡ true)
    user_turn call fit h reads =
        let o = h ∙ user_on form call lent list fit in (
          λ k m j. turn kind ((e ∙ ap (λ (x : Kept A). line x.answer) o) j)
              (record { mem = (o j).mem; root = records.root.0; kernel = vm_in k; user = (reads fit).1 j; next = (reads fit).2 j; marked = marked_in m }),
          (reads fit).0,
        )

  pub fault_turn : {l : Line} {a : Result ⊤ Refusal} {ws' list' : List ℕ} (bm' : List ℕ) {fr : FrameAllocator} → l ≡ answer_line a → (call : Faulting → FaultDid) → marked_fit list ≡ true
      → kept a (lent_memory ws' bm' fr) list' ≡ on_pages call lent list → FaultReads call lent list list'
      → let d = call (faulting lent (marked_in list)) in
      ((k u : List ℕ) → turn kind l (board_of ws' bm' k u list' (left fr)) ≡ turn kind (answer_line (as_answer d.answer)) (with_faulting (board_of ws bm k u list records) d.state))
      × (marked_fit list' ≡ true)
  fault_turn bm' e call fit h reads =
      let o = h ∙ pages_on call lent list fit in (
        λ k u j. turn kind ((e ∙ ap (λ (x : Kept (Result ⊤ Refusal)). answer_line x.answer) o) j)
            (record { mem = (o j).mem; root = records.root.0; kernel = vm_in k; user = mmap_in u; next = next_in u; marked = (reads fit).1 j }),
        (reads fit).0,
      )

-- ---- the three lists

pub lists_apart : (k u m : List ℕ) → lists_fit k u m ≡ true → (vm_fit k ≡ true) × (mmap_fit u ≡ true) × (marked_fit m ≡ true)
lists_apart k u m h = let p = both_true (vm_fit k) _ h in let q = both_true (mmap_fit u) (marked_fit m) p.1 in (p.0, q.0, q.1)

pub lists_fit_lem : (k u m : List ℕ) → vm_fit k ≡ true → mmap_fit u ≡ true → marked_fit m ≡ true → lists_fit k u m ≡ true
lists_fit_lem k u m a b c = rw (a, b, c)
