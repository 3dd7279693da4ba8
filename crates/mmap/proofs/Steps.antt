-- What each step of an mmap comes to, by the tests that code makes.
use Prim.Native.Nat.{ℕ, zero, suc, ◌+◌, ◌*◌, ◌%◌, ◌<◌, ◌≤◌}
use mathlib.Core.Path.{◌≡◌, refl, sym, ◌∙◌, ap, subst}
use mathlib.Core.Bool.{Bool, true, false, not}
use mathlib.Core.List.{List}
use native.Mathlib.Omega.{arith}
use native.Mathlib.Nat.{mul-le-mul_left}
use native.Mathlib.Decide.{dec_le}
use lib.IntN.{ℤ}
use lib.Dec.{lit≤}
use lib.ListN.{length}
use borrow.Author.Tests.{eq-eqb, ne_eqb, le-leb, lt-leb}
use Rattle.std.specs.Prelude.{Ok, Err, Result, Option, None, Some}
use Rattle.answer.specs.declared.Refusal.{Refusal}
use Rattle.answer.proofs.Numbers.{same_no}
use Rattle.answer.specs.declared.Refusal.TheVariants.{SizeZero, Unaligned, TooLarge, BrokenRecord, MapPageFailed, ListFull}
use Rattle.slots.specs.Slots.{listed, store}
use Rattle.packed.proofs.RoundTrip.{Bytes}
use Rattle.allocator.specs.Round.{rounded, round_up, last_page}
use Rattle.allocator.proofs.Round.{rounded_met, rounded_above, round_multiple, round_last}
use Rattle.address.specs.Address.{as_virt}
use Rattle.frame.specs.declared.FrameAllocator.{FrameAllocator}
use Rattle.paging.specs.Levels.{most_levels, most_above}
use Rattle.paging.specs.Walk.{WordsLent}
use Rattle.paging.specs.Map.{Memory, start_frame, total_of, out, RoomToTake}
use Rattle.paging.specs.Pages.{Ran, ran, map_fresh, map_pages, clear_pages}
use Rattle.paging.proofs.Pages.{map_pages_none, map_pages_on, map_pages_stop, map_pages_roomy}
use Rattle.paging.proofs.Map.{roomy_less, roomy_lent}
use Rattle.mappings.specs.declared.MappedRegion.{MappedRegion}
use Rattle.mappings.specs.Regions.{mapped_region, no_mapped_region, starts, insert}
use Rattle.mappings.specs.Packed.{mmap_fit}
use Rattle.free_range.specs.Search.{in_the_way, find_free}
use Rattle.user_space.specs.Flags.{fixed}
use Rattle.user_space.specs.Packed.{lent_user, UserLeaves}
use Rattle.user_space.specs.User.{User, user, user_did, sound_user, UserDid}
use Rattle.user_space.proofs.Leaving.{leaves_alone}
use Rattle.mmap.specs.Calls.{fixed_at, hinted_at, chosen, full, user_pages, leftover, map_region, chosen_region, mmap}
use Rattle.mmap.specs.declared.Mmapped.{Mmapped}
use Rattle.mmap.specs.Packed.{mmapped}

-- ---- an address that is given

module _ (a n : ℕ) where
  pub fixed_odd : (a % 4096 ≡ 0 → ⊥) → fixed_at a n ≡ Err Unaligned
  fixed_odd h = rw (ne_eqb _ _ h)

  pub fixed_high : a % 4096 ≡ 0 → last_page < a + n → fixed_at a n ≡ Err TooLarge
  fixed_high h k = rw (eq-eqb _ _ h, lt-leb _ _ k)

  pub fixed_here : a % 4096 ≡ 0 → a + n ≤ last_page → fixed_at a n ≡ Ok a
  fixed_here h k = rw (eq-eqb _ _ h, le-leb _ _ k)

  module _ (l : List MappedRegion) (next : ℕ) where
    pub hint_odd : (a % 4096 ≡ 0 → ⊥) → hinted_at l next a n ≡ find_free l next n
    hint_odd h = rw (ne_eqb _ _ h)

    module _ (h : a % 4096 ≡ 0) where
      pub hint_high : last_page < a + n → hinted_at l next a n ≡ Err TooLarge
      hint_high k = rw (eq-eqb _ _ h, lt-leb _ _ k)

      pub hint_free : a + n ≤ last_page → in_the_way a n l ≡ None → hinted_at l next a n ≡ Ok a
      hint_free k e = rw (eq-eqb _ _ h, le-leb _ _ k, e)

      pub hint_taken : a + n ≤ last_page → (z : ℕ) → in_the_way a n l ≡ Some z → hinted_at l next a n ≡ find_free l next n
      hint_taken k z e = rw (eq-eqb _ _ h, le-leb _ _ k, e)

module _ (s : User) (n : ℕ) (flags : ℤ) where
  pub chosen_any : chosen s None n flags ≡ find_free (listed s.regions) s.next n
  unfolding chosen
  chosen_any = refl

  pub chosen_fixed : (a : ℕ) → fixed flags ≡ true → chosen s (Some a) n flags ≡ fixed_at a n
  unfolding chosen
  chosen_fixed a h = rw h

  pub chosen_hint : (a : ℕ) → fixed flags ≡ false → chosen s (Some a) n flags ≡ hinted_at (listed s.regions) s.next a n
  unfolding chosen
  chosen_hint a h = rw h

-- ---- whether the list is full

module _ (s : User) (a : ℕ) where
  pub full_few : length (listed s.regions) < 256 → full s a ≡ false
  full_few h = rw (lt-leb _ _ h)

  pub full_many : 256 ≤ length (listed s.regions) → full s a ≡ not (starts a (listed s.regions))
  full_many h = rw (le-leb _ _ h)

-- ---- the pages of a region

-- a run maps no more pages than it has
pub map_pages_done : (up : ℕ) (w u : Bool) (root n : ℕ) (m : Memory) (v k : ℕ) → (map_pages up w u m root v k n).done ≤ k + n
map_pages_done up w u root zero m v k = rw (map_pages_none up w u m root v k) (omega arith)
map_pages_done up w u root (suc n) m v k = go (map_fresh up w u m root v).walked refl (map_pages_done up w u root n (map_fresh up w u m root v).mem (v + 4096) (suc k))
  where
    came : {x : Result ℕ Refusal} → (map_fresh up w u m root v).walked ≡ x → map_fresh up w u m root v ≡ out x (map_fresh up w u m root v).mem
    came e = ap (λ (x : Result ℕ Refusal). out x (map_fresh up w u m root v).mem) e

    go : (x : Result ℕ Refusal) → (map_fresh up w u m root v).walked ≡ x → (map_pages up w u (map_fresh up w u m root v).mem root (v + 4096) (suc k) n).done ≤ suc k + n
        → (map_pages up w u m root v k (suc n)).done ≤ k + suc n
    go (Ok y) e f = rw (map_pages_on up w u m root v k n _ y (came e)) (omega arith)
    go (Err a) e f = rw (map_pages_stop up w u m root v k n _ a (came e)) (omega arith)

-- after `map_pages`: what is left is lent, and so many pages are mapped at most
module _ {w : Result ℕ Refusal} {k : ℕ} {m' : Memory} (up : ℕ) (wr u : Bool) (m : Memory) (root v n : ℕ) (h : ran w k m' ≡ map_pages up wr u m root v 0 n) where
  pub ran_lent : up ≤ most_above → RoomToTake m (n * most_levels) → WordsLent m'.words (start_frame m') (total_of m')
  ran_lent l r =
      let most : suc up ≤ most_levels = omega arith in
      roomy_lent (subst (λ (x : Memory). RoomToTake x 0) (sym (ap (λ (x : Ran). x.mem) h))
      (map_pages_roomy up wr u root n m v 0 0 (roomy_less _ (omega (arith, mul-le-mul_left n most)) r)))

  pub ran_few : k ≤ n
  ran_few = omega (arith, ap (λ (x : Ran). x.done) h, map_pages_done up wr u root n m v 0)

module _ (up root a : ℕ) (e : Refusal) (k : ℕ) (m : Memory) where
  pub left_failed : e ≡ MapPageFailed → leftover up root a e k m ≡ clear_pages up m root a k
  left_failed h = rw h refl

  pub left_other : (e ≡ MapPageFailed → ⊥) → leftover up root a e k m ≡ m
  left_other h = rw (same_no e MapPageFailed h)

-- the same region by equal numbers
pub region_same : (up : ℕ) (s : User) (root a n : ℕ) {p p' f f' : ℤ} → p ≡ p' → f ≡ f' → map_region up s root a n p f ≡ map_region up s root a n p' f'
region_same up s root a n e h j = map_region up s root a n (e j) (h j)

pub hint_same : (up : ℕ) (s : User) (root : ℕ) (hint : Option ℕ) (n : ℕ) {p p' f f' : ℤ} → p ≡ p' → f ≡ f'
    → chosen_region up s root hint n p f ≡ chosen_region up s root hint n p' f'
hint_same up s root hint n e h j = chosen_region up s root hint n (e j) (h j)

-- by where the run came, w, and the memory m that it left
module _ (up : ℕ) (s : User) (root a n : ℕ) (prot flags : ℤ) {w : Result ℕ Refusal} {k : ℕ} {m : Memory} (h : user_pages up s.mem root a n prot ≡ ran w k m) where
  pub region_met : (x : ℕ) → w ≡ Ok x
      → map_region up s root a n prot flags ≡ user_did (Ok a) (user m (store no_mapped_region (insert (mapped_region a n prot flags) (listed s.regions)) s.regions) (a + n))
  region_met x e = rw (h, e)

  pub region_stop : (e : Refusal) → w ≡ Err e → {m' : Memory} → m' ≡ leftover up root a e k m
      → map_region up s root a n prot flags ≡ user_did (Err e) (user m' s.regions s.next)
  region_stop e q l = rw (h, q, l)

module _ (up : ℕ) (s : User) (root : ℕ) (hint : Option ℕ) (n : ℕ) (prot flags : ℤ) where
  pub placed_stop : (e : Refusal) → chosen s hint n flags ≡ Err e → chosen_region up s root hint n prot flags ≡ user_did (Err e) s
  placed_stop e h = rw h

  module _ (a : ℕ) (h : chosen s hint n flags ≡ Ok a) where
    pub placed_full : full s a ≡ true → chosen_region up s root hint n prot flags ≡ user_did (Err ListFull) s
    placed_full k = rw (h, k)

    pub placed_room : full s a ≡ false → chosen_region up s root hint n prot flags ≡ map_region up s root a n prot flags
    placed_room k = rw (h, k)

-- ---- the call

module _ (up : ℕ) (s : User) (root : ℕ) (hint : Option ℕ) (size : ℕ) (prot flags : ℤ) where
  pub mmap_broken : sound_user s root ≡ false → mmap up s root hint size prot flags ≡ user_did (Err BrokenRecord) s
  unfolding mmap
  mmap_broken h = rw h

  module _ (h : sound_user s root ≡ true) where
    pub mmap_empty : size ≡ 0 → mmap up s root hint size prot flags ≡ user_did (Err SizeZero) s
    unfolding mmap
    mmap_empty z = rw (h, eq-eqb _ _ z)

    module _ (k : size ≡ 0 → ⊥) where
      pub mmap_large : (e : Refusal) → rounded size ≡ Err e → mmap up s root hint size prot flags ≡ user_did (Err e) s
      unfolding mmap
      mmap_large e r = rw (h, ne_eqb _ _ k, r)

      pub mmap_sized : (n : ℕ) → rounded size ≡ Ok n → mmap up s root hint size prot flags ≡ chosen_region up s root hint n prot flags
      unfolding mmap
      mmap_sized n r = rw (h, ne_eqb _ _ k, r)

-- what a rounded size is
pub rounded_whole : (size n : ℕ) → rounded size ≡ Ok n → (n % 4096 ≡ 0) × (n ≤ last_page)
rounded_whole size n h = by (dec_le size last_page)
  where
    by : Dec (size ≤ last_page) → (n % 4096 ≡ 0) × (n ≤ last_page)
    by (yes l) =
        let c : Ok n ≡ Ok (round_up 12 size) = sym h ∙ rounded_met size l in
        let e : n ≡ round_up 12 size = cc in
        (rw e (round_multiple 12 size), rw e (round_last 12 size (lit≤ tt) l))
    by (no l) =
        let c : Ok n ≡ Err TooLarge = sym h ∙ rounded_above size (omega arith) in
        let z : ◌≡◌ {A = ℕ} 0 1 = cc in
        absurd (omega arith)

-- ---- a refusal, as code returns it

module _ (bm : List ℕ) {e : Refusal} {fr : FrameAllocator} {ws list : List ℕ} {d : UserDid} (b : Bytes list) (fit : mmap_fit list ≡ true) (h : d ≡ user_did (Err e) (lent_user ws bm fr list)) where
  pub no_mapping_left : {r : Mmapped} → r ≡ record { answer = Err e; frames = fr } → UserLeaves as_virt (mmapped r ws bm list) d
  no_mapping_left q = subst (λ (x : Mmapped). UserLeaves as_virt (mmapped x ws bm list) d) (sym q) (leaves_alone as_virt b fit h)
