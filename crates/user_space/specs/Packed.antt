-- A call on the list as packed bytes: what code is lent and what it leaves.
use Rattle.std.specs.Prelude.{Err, Result}
use Rattle.answer.specs.declared.Refusal.{Refusal}
use Rattle.answer.specs.declared.Refusal.TheVariants.{BrokenRecord}
use Rattle.std.specs.Prelude.{ℕ, ◌≡◌, true, List}
use Rattle.bits.specs.Bit.{unless}
use Rattle.frame.specs.declared.FrameAllocator.{FrameAllocator}
use Rattle.paging.specs.Map.{Memory}
use Rattle.paging.specs.Kept.{Kept, kept, lent_memory}
use Rattle.mappings.specs.Packed.{mmap_in, next_in, mmap_out, mmap_fit, MmapStands}
use Rattle.user_space.specs.User.{User, user, UserDid}

-- words and frames beside the list that packed bytes stand for
abbrev pub user_in : Memory → List ℕ → User
user_in m list = user m (mmap_in list) (next_in list)

-- .. as code is lent them
abbrev pub lent_user : List ℕ → List ℕ → FrameAllocator → List ℕ → User
lent_user words bitmap fr list = user_in (lent_memory words bitmap fr) list

-- what a call leaves, its list packed again
abbrev pub kept_user : {A : Type 0} → ((Result ℕ Refusal) → A) → UserDid → Kept A
kept_user told d = kept (told d.answer) d.user.mem (mmap_out d.user.regions d.user.next)

-- a call on the list that packed bytes stand for; 10 and nothing changed where they stand for none
unfoldable pub on_mmap_list : {A : Type 0} → ((Result ℕ Refusal) → A) → (User → UserDid) → Memory → List ℕ → Kept A
on_mmap_list told call m list = unless (mmap_fit list) (kept (told (Err BrokenRecord)) m list) (kept_user told (call (user_in m list)))

-- bytes that stood for a list stand for the one that the call leaves
abbrev pub UserReads : (User → UserDid) → Memory → List ℕ → List ℕ → Type 0
UserReads call m list left = mmap_fit list ≡ true → MmapStands left (call (user_in m list)).user.regions (call (user_in m list)).user.next

-- what code leaves is what was done, and its bytes stand for the list that was left
abbrev pub UserLeaves : {A : Type 0} → ((Result ℕ Refusal) → A) → Kept A → UserDid → Type 0
UserLeaves told k d = (k ≡ kept_user told d) × MmapStands k.list d.user.regions d.user.next
