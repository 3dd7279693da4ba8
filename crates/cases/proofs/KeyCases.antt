-- The key cases hold.
use Prim.Native.Nat.{ℕ, zero, suc, ◌%◌}
use mathlib.Core.Path.{◌≡◌, refl, ap, subst}
use mathlib.Core.Bool.{Bool, true, false, false≢true}
use mathlib.Core.List.{List, [], ◌∷◌}
use native.Mathlib.Omega.{arith}
use lib.Dec.{eqb, leb}
use lib.ListN.{replicate}
use borrow.Author.Tests.{eqb-true}
use Rattle.std.specs.Prelude.{Result}
use Rattle.answer.specs.declared.Refusal.{Refusal}
use Rattle.std.specs.Prelude.{Ok, Err}
use Rattle.bits.specs.Bit.{pick}
use Rattle.bits.proofs.Choice.{both_true}
use Rattle.allocator.specs.Round.{rounded}
use Rattle.paging.specs.Calls.{whole}
use Rattle.frame.specs.Frames.{init, is_allocated}
use Rattle.frame.proofs.Laws.{inside_low, inside_high, reads_outside}
use Rattle.slots.specs.Slots.{listed, every}
use Rattle.regions.specs.Regions.{window, first_fit}
use Rattle.regions.specs.Regions.{no_vm_region}
use Rattle.vmalloc.specs.Calls.{sound_kernel, vmalloc}
use Rattle.mappings.specs.declared.MappedRegion.{MappedRegion}
use Rattle.mappings.specs.Regions.{user_start, empty_slots, rising_from, well_placed_mapping, sound_mappings, holds}
use Rattle.free_range.specs.Search.{in_the_way, search_from}
use Rattle.user_space.specs.User.{User, on_page, sound_user}
use Rattle.mmap.specs.Calls.{mmap}
use Rattle.munmap.specs.Calls.{munmap}
use Rattle.mappings.proofs.Rising.{holds_one}
use Rattle.board.specs.Board.{Board, BoardDid, board_did, start}
use Rattle.board.proofs.Outcomes.{start_cases}
use Rattle.release.specs.Calls.{kernel_of}
use Rattle.release.proofs.Sound.{kernel_sound}
use Rattle.release.proofs.Run.{fresh_inv, some_levels}
use Rattle.cases.specs.KeyCases.{KeyCases}

-- a region of two pages has no other size
one_size : (a : ℕ) (l : List MappedRegion) → holds a 8192 l ≡ true → holds a 4096 l ≡ false
one_size a l h = by (holds a 4096 l) refl
  where
    by : (x : Bool) → holds a 4096 l ≡ x → holds a 4096 l ≡ false
    by false e = e
    by true e = let z : ◌≡◌ {A = ℕ} 8192 4096 = holds_one a 8192 4096 l h e in absurd (omega arith)

-- a recorded region starts at a page
placed_start : (a n : ℕ) (l : List MappedRegion) → every well_placed_mapping l ≡ true → holds a n l ≡ true → on_page a ≡ true
unfolding every holds
placed_start a n [] h g = absurd (false≢true g)
placed_start a n (r ∷ l) h g = by (eqb r.start a) refl g (placed_start a n l (both_true (well_placed_mapping r) _ h).1)
  where
    by : (x : Bool) → eqb r.start a ≡ x → pick x (eqb r.size n) (holds a n l) ≡ true → (holds a n l ≡ true → on_page a ≡ true) → on_page a ≡ true
    by true e g more =
        subst (λ (s : ℕ). on_page s ≡ true) (eqb-true r.start a e) (both_true (eqb (r.start % 4096) 0) _ (both_true (well_placed_mapping r) _ h).0).0
    by false e g more = more g

sound_start : (s : User) (root a n : ℕ) → sound_user s root ≡ true → holds a n (listed s.regions) ≡ true → on_page a ≡ true
unfolding sound_mappings
sound_start s root a n h g =
    let m = (both_true (whole s.mem root) _ h).1 in
    let t = (both_true (rising_from 0 (listed s.regions)) _ (both_true (leb s.regions.count 256) _ m).1).1 in
    placed_start a n (listed s.regions) (both_true (every well_placed_mapping (listed s.regions)) _ t).0 g

-- the lists that a met start leaves
pub record Fresh (b : Board) : Type 0 where
  pub kernel : b.kernel ≡ record { slots = window ∷ replicate 255 no_vm_region; count = 1 }
  pub user : b.user ≡ empty_slots
  pub next : b.next ≡ user_start

fresh_lists : (old fresh : Board) (from to levels : ℕ) → start old from to levels ≡ board_did (Ok 0) fresh → Fresh fresh
fresh_lists old fresh from to levels =
    start_cases old from to levels (λ (d : BoardDid). d ≡ board_did (Ok 0) fresh → Fresh fresh)
    (λ _ _ _ _ _ e. subst Fresh (ap (λ (d : BoardDid). d.board) e) (record { kernel = refl; user = refl; next = refl }))
    (λ e. absurd (refused (ap (λ (d : BoardDid). d.answer) e))) (λ e. absurd (refused (ap (λ (d : BoardDid). d.answer) e)))
  where
    refused : {n : Refusal} → ◌≡◌ {A = Result ℕ Refusal} (Err n) (Ok 0) → ⊥
    refused q = let z : ◌≡◌ {A = ℕ} 0 1 = cc in omega arith

-- and it is not broken
fresh_sound : (old fresh : Board) (from to levels : ℕ) → start old from to levels ≡ board_did (Ok 0) fresh → sound_kernel (kernel_of fresh) fresh.root ≡ true
fresh_sound old fresh from to zero h = absurd (some_levels old fresh from to h)
fresh_sound old fresh from to (suc up) h = kernel_sound (fresh_inv old fresh from to up h)

pub key_cases : KeyCases
unfolding rounded init is_allocated in_the_way search_from first_fit vmalloc mmap munmap
key_cases = record {
  k1 = refl;
  k2 = refl;
  k3 = refl;
  k4 = refl;
  k5 = refl;
  k6 = refl;
  k7 = λ fr. (refl, refl, refl);
  k8 = λ fr s t h. (
    rw h (ap Ok (reads_outside fr 255 (inside_low fr.fa.start fr.fa.total 255 (omega arith)))),
    rw h (ap Ok (reads_outside fr 8448 (inside_high fr.fa.start fr.fa.total 8448 (omega arith) (omega arith)))),
  );
  k9 = λ old fresh from to levels h. let f = fresh_lists old fresh from to levels h in (rw (f.user, f.next), rw (f.user, f.next));
  k10 = λ old fresh from to levels h. let f = fresh_lists old fresh from to levels h in rw (fresh_sound old fresh from to levels h, ap listed f.kernel);
  k11 = λ s root a h g. let e = sound_start s root a 8192 h g in (rw (h, e, g), rw (h, e, one_size a _ g));
  k12 = λ s root hint prot flags h. rw h;
}
