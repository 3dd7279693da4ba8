-- What a munmap comes to, by the outcomes that document 01 names.
use Prim.Native.Nat.{ℕ, ◌/◌, ◌<◌, ◌≤◌}
use mathlib.Core.Path.{◌≡◌, refl, subst}
use mathlib.Core.Bool.{true, false}
use native.Mathlib.Omega.{arith}
use lib.Dec.{eqb, leb}
use borrow.Author.Tests.{eqb-true, eqb-false, ne_eqb, leb-true}
use Rattle.answer.specs.declared.Refusal.{Refusal}
use Rattle.std.specs.Prelude.{Ok, Err}
use Rattle.answer.specs.declared.Refusal.TheVariants.{SizeZero, Unaligned, TooLarge, BrokenRecord, RegionNotFound}
use Rattle.bits.proofs.Choice.{pick_cases}
use Rattle.slots.specs.Slots.{listed, store}
use Rattle.allocator.specs.Round.{rounded, round_up, last_page}
use Rattle.paging.specs.Pages.{free_pages}
use Rattle.mappings.specs.Regions.{no_mapped_region, holds, remove}
use Rattle.user_space.specs.User.{User, user, UserDid, user_did, sound_user, on_page}
use Rattle.munmap.specs.Calls.{unmapped, munmap}

-- every outcome of a munmap
pub munmap_cases : (up : ℕ) (s : User) (root a size : ℕ) (P : UserDid → Type 0)
    → (sound_user s root ≡ false → P (user_did (Err BrokenRecord) s))
    → ((e : Refusal) → ((n : ℕ) → rounded size ≡ Ok n → on_page a ≡ true → 0 < size → holds a n (listed s.regions) ≡ false) → P (user_did (Err e) s))
    → (sound_user s root ≡ true → 0 < size → size ≤ last_page → holds a (round_up 12 size) (listed s.regions) ≡ true
    → P (user_did (Ok 0) (user (free_pages up s.mem root a (round_up 12 size / 4096)) (store no_mapped_region (remove a (listed s.regions)) s.regions) s.next)))
    → P (munmap up s root a size)
unfolding munmap rounded
munmap_cases up s root a size P broken none met =
    pick_cases P (sound_user s root) _ _
    (λ t. pick_cases P (eqb size 0) _ _
    (λ z. none SizeZero (λ n r e pos. absurd (omega (arith, eqb-true size 0 z))))
    (λ z. pick_cases P (on_page a) _ _
    (λ e. pick_cases (λ c. c ≡ rounded size → P (unmapped up s root a c)) (leb size last_page) (Ok (round_up 12 size)) (Err TooLarge)
    (λ l q. pick_cases P (holds a (round_up 12 size) (listed s.regions)) _ _
    (λ h. met t (omega (arith, eqb-false size 0 z)) (leb-true _ _ l) h)
    (λ h. none RegionNotFound (λ n r _ _. let m : round_up 12 size ≡ n = cc in subst (λ (k : ℕ). holds a k (listed s.regions) ≡ false) m h)))
    (λ l q. none TooLarge (λ n r _ _. let y : ◌≡◌ {A = ℕ} 0 1 = cc in absurd (omega arith)))
    refl)
    (λ e. none Unaligned (λ n r f _. let y : ◌≡◌ {A = ℕ} 0 1 = cc in absurd (omega arith)))))
    broken

-- a munmap that is met
pub munmap_met : (up : ℕ) (s : User) (root a size n : ℕ) → sound_user s root ≡ true → 0 < size → on_page a ≡ true → rounded size ≡ Ok n → holds a n (listed s.regions) ≡ true
    → munmap up s root a size ≡ user_did (Ok 0) (user (free_pages up s.mem root a (n / 4096)) (store no_mapped_region (remove a (listed s.regions)) s.regions) s.next)
unfolding munmap
munmap_met up s root a size n t pos e r h = rw (t, ne_eqb size 0 (λ z. omega arith), e, r, h)
