-- The one equation of each C function of vmalloc and mmap, and what their refusals leave.
use Prim.Native.Nat.{ℕ, suc, ◌/◌}
use mathlib.Core.Path.{◌≡◌, refl, sym, ◌∙◌, ap, subst}
use mathlib.Core.Bool.{Bool, true, false}
use mathlib.Core.List.{List}
use lib.Dec.{eqb}
use lib.IntN.{ℤ}
use lib.ListN.{length}
use Rattle.std.specs.Prelude.{Ok, Err, Result, Option, ⊤}
use Rattle.answer.specs.declared.Refusal.{Refusal}
use Rattle.answer.specs.declared.Refusal.TheVariants.{BrokenRecord, RegionNotFound, SizeZero, TooLarge, Unaligned}
use Rattle.bits.specs.Bit.{unless}
use Rattle.bits.proofs.Choice.{pick_cases, both_true}
use Rattle.allocator.specs.Round.{rounded}
use Rattle.answer.specs.Numbers.{number_of, answer_line, count_line}
use Rattle.answer.specs.Outcomes.{as_answer}
use Rattle.answer.specs.declared.Line.{Line}
use Rattle.address.specs.Address.{virt_line, as_virt}
use Rattle.packed.proofs.RoundTrip.{Bytes}
use Rattle.frame.specs.declared.FrameAllocator.{FrameAllocator}
use Rattle.frame.specs.declared.Tally.{Tally}
use Rattle.frame.specs.Found.{none_found}
use Rattle.paging.specs.Levels.{above_last}
use Rattle.paging.specs.Map.{Memory}
use Rattle.paging.specs.Kept.{kept, lent_memory}
use Rattle.slots.specs.Slots.{listed}
use Rattle.regions.specs.Regions.{first_fit, used_size}
use Rattle.vm_list.specs.Packed.{vm_fit}
use Rattle.vm_list.proofs.RoundTrip.{vm_back}
use Rattle.vmalloc.specs.Calls.{Kernel, KernelDid, sound_kernel, kernel_pages, kernel_mapped, kernel_placed, kernel_sized, released, vmalloc, vmalloc_of, vfree, vfree_of}
use Rattle.vmalloc.specs.Packed.{kept_kernel, on_vm_list, vfree_found_on}
use Rattle.mappings.specs.declared.MappedRegion.{MappedRegion}
use Rattle.free_range.specs.declared.Searched.{Searched}
use Rattle.free_range.specs.Search.{find_free}
use Rattle.mappings.specs.Regions.{holds}
use Rattle.free_range.specs.Compared.{compared, searched}
use Rattle.mappings.specs.Packed.{mmap_in, next_in, mmap_fit, sound_list}
use Rattle.free_range.proofs.Search.{Ends, search_ends}
use Rattle.mappings.proofs.RoundTrip.{mmap_back}
use Rattle.user_space.specs.Flags.{writable}
use Rattle.user_space.specs.User.{User, UserDid, sound_user, on_page}
use Rattle.mmap.specs.Calls.{chosen, full, user_pages, user_mapped, user_placed, user_sized, mmap, mmap_of}
use Rattle.munmap.specs.Calls.{unmapped, munmap, munmap_of}
use Rattle.user_space.specs.Packed.{kept_user, on_mmap_list}
use Rattle.munmap.specs.Packed.{munmap_found_on}
use Rattle.mprotect.specs.Calls.{ProtectDid, protect_did, mprotect}
use Rattle.mprotect.specs.Packed.{ProtectKept, protect_kept, kept_protected, mprotect_on}
use Rattle.mprotect.proofs.Cases.{mprotect_cases}
use Rattle.layout.specs.Parts.{fields_in, fields_out, fields_fit}
use Rattle.layout.specs.Left.{Left, left, broken_line, unless_fit, IsRefusal, Unchanged, no_leftovers, region_leftovers}
use Rattle.layout.specs.Memory.{ListParts, list_parts, plain_line}
use Rattle.layout.proofs.Left.{broken_left, met_left, unchanged_left, fields_same, list_met}
use Rattle.layout.proofs.Numbers.{pages_listed}
use Rattle.desk_regions.specs.Regions.{address_line, kernel_fit, kernel_in, kernel_packed, on_kernel, user_fit, user_in, user_packed, on_user}
use Rattle.desk_regions.specs.Regions.{packed_vmalloc, packed_vfree, packed_vfree_found, packed_mmap, packed_munmap, packed_munmap_found, packed_find_free, search_leftovers, ProtectParts, protect_parts, protect_packed, packed_mprotect}

-- what is worked out for a call beside its parts
pub all_three : {A B C : Type 0} {a a' : A} {b b' : B} {c c' : C} → a ≡ a' → b ≡ b' → c ≡ c' → ◌≡◌ {A = A × (B × C)} (a, (b, c)) (a', (b', c'))
all_three e f g = λ j. (e j, (f j, g j))

-- ---- vmalloc and vfree

module _ {A : Type 0} (form : Result ℕ Refusal → A) (line : A → Line) (call : Kernel → KernelDid) (words fields bits list : List ℕ) where
  abbrev kernel_lent : ListParts
  kernel_lent = list_parts words fields bits list

  abbrev kernel_said : Result ℕ Refusal → Line
  kernel_said a = line (form a)

  pub kernel_broken : {r : Line} → fields_fit fields ≡ false → r ≡ broken_line → left r kernel_lent ≡ on_kernel kernel_said call kernel_lent
  unfolding on_kernel
  kernel_broken h e = broken_left {ok = kernel_fit kernel_lent} kernel_lent _ (rw h refl) e

  pub kernel_met : kernel_said (Err BrokenRecord) ≡ broken_line → {ws fs ls : List ℕ} (bs : List ℕ) {f g : FrameAllocator} {x : A} {r : Line}
      → fields_fit fields ≡ true → Bytes fields → f ≡ fields_in fields
      → kept x (lent_memory ws bs g) ls ≡ on_vm_list form call (lent_memory words bits f) list
      → r ≡ line x → fs ≡ fields_out g → left r (list_parts ws fs bs ls) ≡ on_kernel kernel_said call kernel_lent
  unfolding on_kernel on_vm_list
  kernel_met e =
      list_met line words fields bits list (λ (m : Memory). on_vm_list form call m list) (vm_fit list) (form (Err BrokenRecord))
      (kept_kernel form (call (kernel_in kernel_lent))) e refl

  kernel_unchanged : (leftovers : List Refusal) → Bytes fields → Bytes list
      → ((k : Kernel) → IsRefusal leftovers (kernel_said (call k).answer).number → (call k).kernel ≡ k)
      → Unchanged leftovers kernel_lent (on_kernel kernel_said call kernel_lent)
  unfolding on_kernel
  kernel_unchanged leftovers b c law =
      unchanged_left leftovers (kernel_fit kernel_lent) kernel_lent _ (λ fit n.
      let f = both_true (fields_fit fields) (vm_fit list) fit in
      ap kernel_packed (law _ n) ∙ (λ j. list_parts words (fields_same fields f.0 b j) bits (vm_back list f.1 c j)))

-- ---- mmap and munmap

module _ {A : Type 0} (form : Result ℕ Refusal → A) (line : A → Line) (call : User → UserDid) (words fields bits list : List ℕ) where
  abbrev user_lent : ListParts
  user_lent = list_parts words fields bits list

  abbrev user_said : Result ℕ Refusal → Line
  user_said a = line (form a)

  pub user_broken : {r : Line} → fields_fit fields ≡ false → r ≡ broken_line → left r user_lent ≡ on_user user_said call user_lent
  unfolding on_user
  user_broken h e = broken_left {ok = user_fit user_lent} user_lent _ (rw h refl) e

  pub user_met : user_said (Err BrokenRecord) ≡ broken_line → {ws fs ls : List ℕ} (bs : List ℕ) {f g : FrameAllocator} {x : A} {r : Line}
      → fields_fit fields ≡ true → Bytes fields → f ≡ fields_in fields
      → kept x (lent_memory ws bs g) ls ≡ on_mmap_list form call (lent_memory words bits f) list
      → r ≡ line x → fs ≡ fields_out g → left r (list_parts ws fs bs ls) ≡ on_user user_said call user_lent
  unfolding on_user on_mmap_list
  user_met e =
      list_met line words fields bits list (λ (m : Memory). on_mmap_list form call m list) (mmap_fit list) (form (Err BrokenRecord))
      (kept_user form (call (user_in user_lent))) e refl

  user_unchanged : (leftovers : List Refusal) → Bytes fields → Bytes list
      → ((u : User) → IsRefusal leftovers (user_said (call u).answer).number → (call u).user ≡ u)
      → Unchanged leftovers user_lent (on_user user_said call user_lent)
  unfolding on_user
  user_unchanged leftovers b c law =
      unchanged_left leftovers (user_fit user_lent) user_lent _ (λ fit n.
      let f = both_true (fields_fit fields) (mmap_fit list) fit in
      ap user_packed (law _ n) ∙ (λ j. list_parts words (fields_same fields f.0 b j) bits (mmap_back list f.1 c j)))

-- ---- what vfree and munmap find

module _ (words fields bits list : List ℕ) (root addr : ℕ) {t : Tally} where
  pub vfree_none : fields_fit fields ≡ false → t ≡ none_found → t ≡ packed_vfree_found (list_parts words fields bits list) root addr
  unfolding packed_vfree_found
  vfree_none h e = rw h e

  pub vfree_found_lem : {f : FrameAllocator} → fields_fit fields ≡ true → f ≡ fields_in fields → t ≡ vfree_found_on (lent_memory words bits f) list root addr
      → t ≡ packed_vfree_found (list_parts words fields bits list) root addr
  unfolding packed_vfree_found vfree_found_on
  vfree_found_lem h f e = rw h (e ∙ (λ j. vfree_found_on (lent_memory words bits (f j)) list root addr))

  module _ (size : ℕ) where
    pub munmap_none : fields_fit fields ≡ false → t ≡ none_found → t ≡ packed_munmap_found (list_parts words fields bits list) root addr size
    unfolding packed_munmap_found
    munmap_none h e = rw h e

    pub munmap_found_lem : {f : FrameAllocator} → fields_fit fields ≡ true → f ≡ fields_in fields → t ≡ munmap_found_on (lent_memory words bits f) list root addr size
        → t ≡ packed_munmap_found (list_parts words fields bits list) root addr size
    unfolding packed_munmap_found munmap_found_on
    munmap_found_lem h f e = rw h (e ∙ (λ j. munmap_found_on (lent_memory words bits (f j)) list root addr size))

-- ---- refusals of vmalloc: 10, 1, 3 and 15; 11 and 13 have leftovers

module _ (up : ℕ) (root size : ℕ) (k : Kernel) where
  vmalloc_clean : IsRefusal region_leftovers (address_line (vmalloc up k root size).answer).number → (vmalloc up k root size).kernel ≡ k
  unfolding vmalloc
  vmalloc_clean =
      pick_cases Clean (sound_kernel k root) _ _ (λ _. pick_cases Clean (eqb size 0) _ _ (λ _ _. refl) (λ _. by (rounded size))) (λ _ _. refl)
    where
      Clean : KernelDid → Type 0
      Clean d = IsRefusal region_leftovers (address_line d.answer).number → d.kernel ≡ k

      ran : (a n : ℕ) (m : Memory) (x : Result ℕ Refusal) → (kernel_pages up k.mem root a n).walked ≡ x → Clean (kernel_mapped a n k.regions x m)
      ran a n m (Ok x) e h = absurd (h.1.1 refl)
      ran a n m (Err b) e h = absurd (pages_listed up true false root (n / 4096) k.mem a 0 (subst (λ (x : Result ℕ Refusal). IsRefusal region_leftovers (plain_line x).number) (sym e) h))

      at : (n : ℕ) (x : Result ℕ Refusal) → Clean (kernel_placed up k root n x)
      at n (Ok a) = ran a n _ _ refl
      at n (Err e) = λ _. refl

      by : (n : Result ℕ Refusal) → Clean (kernel_sized up k root n)
      by (Ok n) = at n (first_fit n (listed k.regions))
      by (Err e) = λ _. refl

-- .. of vfree: 10 and 16

module _ (up : ℕ) (root addr : ℕ) (k : Kernel) where
  vfree_clean : IsRefusal no_leftovers (plain_line (vfree up k root addr).answer).number → (vfree up k root addr).kernel ≡ k
  unfolding vfree
  vfree_clean =
      pick_cases Clean (sound_kernel k root) _ _ (λ _. pick_cases Clean (eqb addr 0) _ _ (λ _ _. refl) (λ _. by (used_size addr (listed k.regions)))) (λ _ _. refl)
    where
      Clean : KernelDid → Type 0
      Clean d = IsRefusal no_leftovers (plain_line d.answer).number → d.kernel ≡ k

      by : (x : Result ℕ Refusal) → Clean (released up k root addr x)
      by (Ok n) h = absurd (h refl)
      by (Err e) h = refl

module _ (words fields bits list : List ℕ) (b : Bytes fields) (c : Bytes list) (root : ℕ) where
  pub vmalloc_refused : (size : ℕ) → let p = list_parts words fields bits list in Unchanged region_leftovers p (packed_vmalloc p root size)
  vmalloc_refused size = kernel_unchanged as_virt virt_line (λ (k : Kernel). vmalloc_of k root size) words fields bits list region_leftovers b c (λ k. vmalloc_clean (above_last k.mem) root size k)

  pub vfree_refused : (addr : ℕ) → let p = list_parts words fields bits list in Unchanged no_leftovers p (packed_vfree p root addr)
  vfree_refused addr = kernel_unchanged as_answer answer_line (λ (k : Kernel). vfree_of k root addr) words fields bits list no_leftovers b c (λ k. vfree_clean (above_last k.mem) root addr k)

-- ---- refusals of mmap: 10, 1, 3, 2, 15 and 20; 11 and 13 have leftovers

module _ (up : ℕ) (root : ℕ) (hint : Option ℕ) (size : ℕ) (prot flags : ℤ) (u : User) where
  mmap_clean : IsRefusal region_leftovers (address_line (mmap up u root hint size prot flags).answer).number → (mmap up u root hint size prot flags).user ≡ u
  unfolding mmap
  mmap_clean =
      pick_cases Clean (sound_user u root) _ _ (λ _. pick_cases Clean (eqb size 0) _ _ (λ _ _. refl) (λ _. by (rounded size))) (λ _ _. refl)
    where
      Clean : UserDid → Type 0
      Clean d = IsRefusal region_leftovers (address_line d.answer).number → d.user ≡ u

      ran : (a n done : ℕ) (m : Memory) (x : Result ℕ Refusal) → (user_pages up u.mem root a n prot).walked ≡ x → Clean (user_mapped up u root a n prot flags x done m)
      ran a n done m (Ok x) e h = absurd (h.1.1 refl)
      ran a n done m (Err b) e h = absurd (pages_listed up (writable prot) true root (n / 4096) u.mem a 0 (subst (λ (x : Result ℕ Refusal). IsRefusal region_leftovers (plain_line x).number) (sym e) h))

      at : (n : ℕ) (x : Result ℕ Refusal) → Clean (user_placed up u root n prot flags x)
      at n (Ok a) = pick_cases Clean (full u a) _ _ (λ _ _. refl) (λ _. ran a n _ _ _ refl)
      at n (Err e) = λ _. refl

      by : (n : Result ℕ Refusal) → Clean (user_sized up u root hint prot flags n)
      by (Ok n) = at n (chosen u hint n flags)
      by (Err e) = λ _. refl

-- .. of munmap: 10, 1, 2, 3 and 16

module _ (up : ℕ) (root a size : ℕ) (u : User) where
  munmap_clean : IsRefusal no_leftovers (plain_line (munmap up u root a size).answer).number → (munmap up u root a size).user ≡ u
  unfolding munmap
  munmap_clean =
      pick_cases Clean (sound_user u root) _ _
      (λ _. pick_cases Clean (eqb size 0) _ _ (λ _ _. refl) (λ _. pick_cases Clean (on_page a) _ _ (λ _. by (rounded size)) (λ _ _. refl))) (λ _ _. refl)
    where
      Clean : UserDid → Type 0
      Clean d = IsRefusal no_leftovers (plain_line d.answer).number → d.user ≡ u

      by : (n : Result ℕ Refusal) → Clean (unmapped up u root a n)
      by (Ok n) = pick_cases Clean (holds a n (listed u.regions)) _ _ (λ _ h. absurd (h refl)) (λ _ _. refl)
      by (Err e) = λ _. refl

module _ (words fields bits list : List ℕ) (b : Bytes fields) (c : Bytes list) (root : ℕ) where
  pub mmap_refused : (hint : Option ℕ) (size : ℕ) (prot flags : ℤ) → let p = list_parts words fields bits list in Unchanged region_leftovers p (packed_mmap p root hint size prot flags)
  mmap_refused hint size prot flags =
      user_unchanged as_virt virt_line (λ (u : User). mmap_of u root hint size prot flags) words fields bits list region_leftovers b c (λ u. mmap_clean (above_last u.mem) root hint size prot flags u)

  pub munmap_refused : (addr size : ℕ) → let p = list_parts words fields bits list in Unchanged no_leftovers p (packed_munmap p root addr size)
  munmap_refused addr size = user_unchanged as_answer answer_line (λ (u : User). munmap_of u root addr size) words fields bits list no_leftovers b c (λ u. munmap_clean (above_last u.mem) root addr size u)

-- ---- mprotect

module _ (words list : List ℕ) (start total levels root a size : ℕ) where
  abbrev protect_lent : ProtectParts
  protect_lent = protect_parts words list

  -- a signed number that is passed on is z, what its bits read back
  pub mprotect_left : {prot z : ℤ} → z ≡ prot → {ws ls : List ℕ} {x : Result ⊤ Refusal} {r : Line} → protect_kept x ws ls ≡ mprotect_on levels words start total root list a size z → r ≡ answer_line x
      → left r (protect_parts ws ls) ≡ packed_mprotect protect_lent start total levels root a size prot
  unfolding packed_mprotect mprotect_on
  mprotect_left {prot} q {ws} {ls} e f =
      ap (λ (l : Line). left l (protect_parts ws ls)) f ∙ ap said e ∙ ap (λ (y : ℤ). said (mprotect_on levels words start total root list a size y)) q ∙ by (mmap_fit list)
    where
      said : ProtectKept → Left ProtectParts
      said k = left (answer_line k.answer) (protect_parts k.words k.list)

      did : ProtectDid
      did = mprotect levels words start total root (mmap_in list) (next_in list) a size prot

      by : (fit : Bool) → said (unless fit (protect_kept (as_answer (Err BrokenRecord)) words list) (kept_protected did (next_in list)))
          ≡ unless_fit fit protect_lent (left (plain_line did.answer) (protect_packed did (next_in list)))
      by true = refl
      by false = refl

  -- its refusals: 10, 1, 2, 3 and 16
  pub mprotect_refused : (prot : ℤ) → Bytes list → Unchanged no_leftovers protect_lent (packed_mprotect protect_lent start total levels root a size prot)
  unfolding packed_mprotect
  mprotect_refused prot b =
      unchanged_left no_leftovers (mmap_fit list) protect_lent _ (λ fit.
      mprotect_cases levels words start total root (mmap_in list) (next_in list) a size prot Clean (λ _. kept fit BrokenRecord) (λ _. kept fit SizeZero) (λ _. kept fit Unaligned) (λ _. kept fit TooLarge) (λ _. kept fit RegionNotFound)
      (λ _ _ _ _ _ n. absurd (n refl)))
    where
      Clean : ProtectDid → Type 0
      Clean d = IsRefusal no_leftovers (plain_line d.answer).number → protect_packed d (next_in list) ≡ protect_lent

      kept : mmap_fit list ≡ true → (k : Refusal) → Clean (protect_did (Err k) words (mmap_in list))
      kept fit k n = ap (protect_parts words) (mmap_back list fit b)

-- ---- the search by itself

module _ (list : List ℕ) (size old : ℕ) where
  abbrev regions : List MappedRegion
  regions = listed (mmap_in list)

  pub search_broken : {r : Line} → sound_list list ≡ false → r ≡ broken_line → left r old ≡ packed_find_free list size old
  search_broken h e = broken_left old _ h e

  pub search_met : {x : Searched} {r : Line} → sound_list list ≡ true → x ≡ searched regions (next_in list) size → r ≡ count_line x.outcome
      → left r x.compared ≡ packed_find_free list size old
  search_met h e f = met_left old h (λ j. left ((f ∙ ap (λ (x : Searched). count_line x.outcome) e) j) (e j).compared)

  -- it is met, or it is 15
  pub search_unchanged : Unchanged search_leftovers old (packed_find_free list size old)
  search_unchanged = unchanged_left search_leftovers (sound_list list) old _ (λ _. by (find_free regions (next_in list) size) (search_ends (suc (length regions)) regions size (next_in list)))
    where
      by : (o : Result ℕ Refusal) → Ends o → IsRefusal search_leftovers (count_line o).number → compared regions (next_in list) size ≡ old
      by (Ok v) e n = absurd (n.1 refl)
      by (Err k) e n = absurd (n.0 (ap number_of e))
