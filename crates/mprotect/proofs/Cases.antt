-- What an mprotect comes to, by the outcomes that document 02 names: munmap's.
use Prim.Native.Nat.{ℕ, ◌-◌, ◌/◌, ◌<◌, ◌≤◌}
use mathlib.Core.Path.{◌≡◌}
use mathlib.Core.Bool.{true, false}
use mathlib.Core.List.{List}
use native.Mathlib.Omega.{arith}
use lib.IntN.{ℤ}
use lib.Dec.{eqb, leb}
use lib.ListN.{length}
use borrow.Author.Tests.{eqb-true, eqb-false, leb-true, leb-false}
use Rattle.std.specs.Prelude.{Ok, Err}
use Rattle.answer.specs.declared.Refusal.TheVariants.{SizeZero, Unaligned, TooLarge, BrokenRecord, RegionNotFound}
use Rattle.bits.specs.Bit.{both}
use Rattle.bits.proofs.Choice.{pick_cases, both_true}
use Rattle.allocator.specs.Round.{rounded, round_up, last_page}
use Rattle.paging.specs.Calls.{lent_walk}
use Rattle.paging.specs.Protect.{protect_pages}
use Rattle.slots.specs.Slots.{Slots, listed, store}
use Rattle.mappings.specs.declared.MappedRegion.{MappedRegion}
use Rattle.mappings.specs.Regions.{no_mapped_region, sound_mappings, holds, with_prot}
use Rattle.user_space.specs.Flags.{writable}
use Rattle.user_space.specs.User.{on_page}
use Rattle.mprotect.specs.Calls.{ProtectDid, protect_did, protect_sized, mprotect}

-- every outcome of an mprotect, in the order of its checks. One on a board has those of its words, with what they leave put back (`keep_user`)
pub mprotect_cases : (levels : ℕ) (ws : List ℕ) (start total root : ℕ) (s : Slots MappedRegion) (next a size : ℕ) (prot : ℤ) (P : ProtectDid → Type 0)
    → (both (lent_walk levels (length ws) start total root) (sound_mappings s next) ≡ false → P (protect_did (Err BrokenRecord) ws s))
    → (size ≡ 0 → P (protect_did (Err SizeZero) ws s))
    → (on_page a ≡ false → P (protect_did (Err Unaligned) ws s))
    → (last_page < size → P (protect_did (Err TooLarge) ws s))
    → (holds a (round_up 12 size) (listed s) ≡ false → P (protect_did (Err RegionNotFound) ws s))
    → (lent_walk levels (length ws) start total root ≡ true → sound_mappings s next ≡ true → 0 < size → size ≤ last_page → holds a (round_up 12 size) (listed s) ≡ true
    → P (protect_did (Ok 0) (protect_pages (levels - 1) (writable prot) ws start total root a (round_up 12 size / 4096)) (store no_mapped_region (with_prot a prot (listed s)) s)))
    → P (mprotect levels ws start total root s next a size prot)
unfolding mprotect rounded
mprotect_cases levels ws start total root s next a size prot P broken empty odd large none met =
    pick_cases P (both (lent_walk levels (length ws) start total root) (sound_mappings s next)) _ _
    (λ t. pick_cases P (eqb size 0) _ _ (λ z. empty (eqb-true size 0 z))
    (λ z. pick_cases P (on_page a) _ _
    (λ _. pick_cases (λ c. P (protect_sized levels ws start total root s a prot c)) (leb size last_page) (Ok (round_up 12 size)) (Err TooLarge)
    (λ l. pick_cases P (holds a (round_up 12 size) (listed s)) _ _
    (let w = both_true (lent_walk levels (length ws) start total root) _ t in met w.0 w.1 (omega (arith, eqb-false size 0 z)) (leb-true _ _ l)) none)
    (λ l. large (leb-false _ _ l)))
    odd))
    broken
