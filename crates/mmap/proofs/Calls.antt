-- What an mmap comes to, by the outcomes that document 01 names.
use Prim.Native.Nat.{ℕ, ◌+◌, ◌%◌, ◌<◌, ◌≤◌}
use mathlib.Core.Path.{◌≡◌, refl}
use mathlib.Core.Bool.{Bool, true, false, not}
use mathlib.Core.Logic.{◌⊎◌, inl, inr, ⊎_elim}
use native.Mathlib.Omega.{arith}
use lib.IntN.{ℤ}
use lib.Dec.{eqb, leb}
use lib.ListN.{length}
use borrow.Author.Tests.{eqb-true, eqb-false, leb-true, leb-false}
use Rattle.std.specs.Prelude.{Ok, Err, Result, Option, None, Some}
use Rattle.answer.specs.declared.Refusal.{Refusal}
use Rattle.answer.specs.declared.Refusal.TheVariants.{SizeZero, Unaligned, TooLarge, BrokenRecord, NoFreeFrame, MapPageFailed, ListFull}
use Rattle.bits.specs.Bit.{pick, both}
use Rattle.bits.proofs.Choice.{pick_cases}
use Rattle.slots.specs.Slots.{listed}
use Rattle.allocator.specs.Round.{rounded, round_up, last_page}
use Rattle.paging.specs.Map.{Memory}
use Rattle.paging.specs.Pages.{clear_pages}
use Rattle.paging.proofs.Calls.{walked_cases}
use Rattle.mappings.specs.Regions.{starts}
use Rattle.mappings.proofs.Rising.{Rising}
use Rattle.free_range.specs.Search.{in_the_way, or_past, find_free}
use Rattle.free_range.proofs.Search.{search_place}
use Rattle.user_space.specs.Flags.{fixed}
use Rattle.user_space.specs.User.{User, UserDid, user_did, sound_user, on_page}
use Rattle.mmap.specs.Calls.{in_range, chosen, full, user_pages, leftover, user_mapped, user_placed, user_sized, mmap}

-- the list has room for a new region, or the region replaces one
pub room : (s : User) (a : ℕ) → full s a ≡ false → (length (listed s.regions) < 256) ⊎ (starts a (listed s.regions) ≡ true)
room s a h = by (leb 256 (length (listed s.regions))) refl (starts a (listed s.regions)) refl h
  where
    by : (x : Bool) → leb 256 (length (listed s.regions)) ≡ x → (y : Bool) → starts a (listed s.regions) ≡ y → both x (not y) ≡ false
        → (length (listed s.regions) < 256) ⊎ (starts a (listed s.regions) ≡ true)
    by x e true f g = inr f
    by true e false f g = let z : ◌≡◌ {A = Bool} true false = g in let y : ◌≡◌ {A = ℕ} 0 1 = cc in absurd (omega arith)
    by false e false f g = inl (leb-false _ _ e)

module _ (up : ℕ) (s : User) (root : ℕ) where
  -- every outcome of an mmap
  pub mmap_cases : (hint : Option ℕ) (size : ℕ) (prot flags : ℤ) (P : UserDid → Type 0)
      → (sound_user s root ≡ false → P (user_did (Err BrokenRecord) s))
      → P (user_did (Err SizeZero) s)
      → P (user_did (Err TooLarge) s)
      → ((e : Refusal) → chosen s hint (round_up 12 size) flags ≡ Err e → P (user_did (Err e) s))
      → P (user_did (Err ListFull) s)
      → (sound_user s root ≡ true → 0 < size → size ≤ last_page → (a : ℕ) → chosen s hint (round_up 12 size) flags ≡ Ok a → full s a ≡ false
      → P (user_mapped up s root a (round_up 12 size) prot flags (user_pages up s.mem root a (round_up 12 size) prot).walked
      (user_pages up s.mem root a (round_up 12 size) prot).done (user_pages up s.mem root a (round_up 12 size) prot).mem))
      → P (mmap up s root hint size prot flags)
  unfolding mmap rounded
  mmap_cases hint size prot flags P broken empty large none many fits =
      pick_cases P (sound_user s root) _ _
      (λ t. pick_cases P (eqb size 0) _ _ (λ _. empty) (λ z.
      let pos : 0 < size = omega (arith, eqb-false size 0 z) in
      pick_cases (λ c. P (user_sized up s root hint prot flags c)) (leb size last_page) (Ok (round_up 12 size)) (Err TooLarge)
      (λ l. walked_cases (λ w. P (user_placed up s root (round_up 12 size) prot flags w)) (chosen s hint (round_up 12 size) flags)
      (λ a c. pick_cases P (full s a) _ _ (λ _. many) (λ f. fits t pos (leb-true _ _ l) a c f))
      none)
      (λ _. large)))
      broken

-- where a chosen range lies: aligned, and ending at most at the last page
pub chosen_place : (s : User) (hint : Option ℕ) (n : ℕ) (flags : ℤ) (a : ℕ) → Rising 0 (listed s.regions) → s.next % 4096 ≡ 0 → chosen s hint n flags ≡ Ok a
    → (a % 4096 ≡ 0) × (a + n ≤ last_page)
unfolding chosen
chosen_place s None n flags a h e c = let r = search_place _ (listed s.regions) n s.next a 0 h e c in (r.0, omega (arith, r.1))
chosen_place s (Some v) n flags a h e c = one (fixed flags) c
  where
    found : find_free (listed s.regions) s.next n ≡ Ok a → (a % 4096 ≡ 0) × (a + n ≤ last_page)
    found g = let r = search_place _ (listed s.regions) n s.next a 0 h e g in (r.0, omega (arith, r.1))

    here : on_page v ≡ true → (x : Bool) → leb (v + n) last_page ≡ x → (w : Result ℕ Refusal) → pick x w (Err TooLarge) ≡ Ok a → (w ≡ Ok a → (v ≡ a) ⊎ (find_free (listed s.regions) s.next n ≡ Ok a))
        → (a % 4096 ≡ 0) × (a + n ≤ last_page)
    here f true l w g more =
        ⊎_elim (λ q. (omega (arith, eqb-true (v % 4096) 0 f), omega (arith, leb-true (v + n) last_page l))) found (more g)
    here f false l w g more = let y : ◌≡◌ {A = ℕ} 0 1 = cc in absurd (omega arith)

    same : (x y : ℕ) → ◌≡◌ {A = Result ℕ Refusal} (Ok x) (Ok y) → x ≡ y
    same x y q = cc

    free : (w : Option ℕ) → or_past w (Ok v) (λ _. find_free (listed s.regions) s.next n) ≡ Ok a → (v ≡ a) ⊎ (find_free (listed s.regions) s.next n ≡ Ok a)
    free (Some z) g = inr g
    free None g = inl (same v a g)

    exact : (x : Bool) → on_page v ≡ x → pick x (in_range v n (Ok v)) (Err Unaligned) ≡ Ok a → (a % 4096 ≡ 0) × (a + n ≤ last_page)
    exact true f g = here f (leb (v + n) last_page) refl (Ok v) g (λ q. inl (same v a q))
    exact false f g = let y : ◌≡◌ {A = ℕ} 0 1 = cc in absurd (omega arith)

    hint : (x : Bool) → on_page v ≡ x
        → pick x (in_range v n (or_past (in_the_way v n (listed s.regions)) (Ok v) (λ _. find_free (listed s.regions) s.next n))) (find_free (listed s.regions) s.next n) ≡ Ok a
        → (a % 4096 ≡ 0) × (a + n ≤ last_page)
    hint true f g = here f (leb (v + n) last_page) refl _ g (free (in_the_way v n (listed s.regions)))
    hint false f g = found g

    one : (x : Bool)
        → pick x (pick (on_page v) (in_range v n (Ok v)) (Err Unaligned))
        (pick (on_page v) (in_range v n (or_past (in_the_way v n (listed s.regions)) (Ok v) (λ _. find_free (listed s.regions) s.next n))) (find_free (listed s.regions) s.next n)) ≡ Ok a
        → (a % 4096 ≡ 0) × (a + n ≤ last_page)
    one true g = exact (on_page v) refl g
    one false g = hint (on_page v) refl g

-- what a refused mmap leaves: after 11 the pages that were mapped stay, after 13 their leaves are cleared; frames stay marked in both
pub left_by_11 : (up root a done : ℕ) (m : Memory) → leftover up root a NoFreeFrame done m ≡ m
left_by_11 up root a done m = refl

pub left_by_13 : (up root a done : ℕ) (m : Memory) → leftover up root a MapPageFailed done m ≡ clear_pages up m root a done
left_by_13 up root a done m = refl
