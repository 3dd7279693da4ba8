-- What mprotect does and does not: the proofs of specs/Protects.
use Prim.Native.Nat.{ℕ, suc, ◌+◌, ◌*◌, ◌/◌}
use mathlib.Core.Path.{◌≡◌, refl, sym, ◌∙◌, ap}
use mathlib.Core.Bool.{Bool, true, false, true≢false}
use mathlib.Core.List.{List, [], ◌∷◌, map}
use mathlib.Core.Logic.{inl}
use native.Mathlib.Omega.{arith}
use lib.IntN.{ℤ}
use lib.Dec.{eqb, leb}
use lib.ListN.{length}
use lib.Seq.{take-append_seam}
use borrow.Author.Tests.{eqb-true, eq-eqb}
use Rattle.std.specs.Prelude.{Ok, Err, Result}
use Rattle.answer.specs.declared.Refusal.{Refusal}
use Rattle.answer.specs.declared.Refusal.TheVariants.{SizeZero, Unaligned, TooLarge, BrokenRecord, RegionNotFound}
use Rattle.bits.specs.Bit.{pick, unless, both}
use Rattle.bits.proofs.Choice.{both_true}
use Rattle.allocator.specs.Round.{rounded, round_up}
use Rattle.bitmap.specs.Bitmap.{count}
use Rattle.frame.specs.Frames.{frames_end, is_levels, inside, sound}
use Rattle.paging.specs.Walk.{may_walk}
use Rattle.paging.specs.Map.{start_frame, total_of}
use Rattle.paging.specs.Calls.{lent_walk}
use Rattle.paging.specs.Levels.{levels_of, above_last}
use Rattle.paging.specs.Protect.{protect_pages}
use Rattle.paging.proofs.Walk.{no_value}
use Rattle.paging.proofs.Alike.{place_alike, translate_alike}
use Rattle.paging.proofs.Protect.{toward_alike, pages_toward, pages_follow, pages_where, unmap_at_place}
use Rattle.slots.specs.Slots.{Slots, listed, store}
use Rattle.slots.specs.Sorted.{rising_from as rising_by, has_key}
use Rattle.slots.proofs.Sorted.{none_below}
use Rattle.mappings.specs.declared.MappedRegion.{MappedRegion}
use Rattle.mappings.specs.Regions.{mapped_region, no_mapped_region, start_key, rising_from, starts, sound_mappings, holds, with_prot}
use Rattle.user_space.specs.Flags.{writable}
use Rattle.user_space.specs.User.{User, UserDid, user_did, sound_user, on_page}
use Rattle.munmap.specs.Calls.{unmapped, munmap, munmap_of}
use Rattle.mprotect.specs.Calls.{ProtectDid, protect_did, protect_sized, mprotect, keep_user, mprotect_of}
use Rattle.mprotect.specs.Protects.{PlaceIsFound, with_new_prot, counter_right, ProtectAnswer, is0, is10, is1, is2, is3, is16, ProtectsOnly, MprotectProtects}
use Rattle.mprotect.proofs.Cases.{mprotect_cases}

pub place_is_found : PlaceIsFound
place_is_found = unmap_at_place

-- ---- the list

module _ (a : ℕ) (prot : ℤ) where
  -- none that starts elsewhere is touched
  none_new : (l : List MappedRegion) → starts a l ≡ false → map (with_new_prot a prot) l ≡ l
  unfolding has_key
  none_new [] h = refl
  none_new (r ∷ l) h = by (eqb r.start a) h (none_new l)
    where
      by : (x : Bool) → pick x true (starts a l) ≡ false → (starts a l ≡ false → map (with_new_prot a prot) l ≡ l)
          → mapped_region r.start r.size (pick x prot r.prot) r.flags ∷ map (with_new_prot a prot) l ≡ r ∷ l
      by true g more = absurd (true≢false g)
      by false g more = ap (λ (m : List MappedRegion). r ∷ m) (more g)

  -- in rising order one region starts at a, so that the first that does is each that does
  new_prot : (lo : ℕ) (l : List MappedRegion) → rising_from lo l ≡ true → with_prot a prot l ≡ map (with_new_prot a prot) l
  unfolding with_prot rising_by
  new_prot lo [] h = refl
  new_prot lo (r ∷ l) h = by (eqb r.start a) refl (new_prot (suc r.start) l above)
    where
      above : rising_from (suc r.start) l ≡ true
      above = (both_true (leb lo r.start) (rising_from (suc r.start) l) h).1

      by : (x : Bool) → eqb r.start a ≡ x → with_prot a prot l ≡ map (with_new_prot a prot) l
          → pick x (mapped_region r.start r.size prot r.flags ∷ l) (r ∷ with_prot a prot l)
          ≡ mapped_region r.start r.size (pick x prot r.prot) r.flags ∷ map (with_new_prot a prot) l
      by true e more =
          ap (λ (m : List MappedRegion). mapped_region r.start r.size prot r.flags ∷ m)
          (sym (none_new l (none_below start_key a (suc r.start) l (omega (arith, eqb-true r.start a e)) above)))
      by false e more = ap (λ (m : List MappedRegion). r ∷ m) more

-- the slots list what was stored
listed_store : {A : Type 0} (blank : A) (l : List A) (s : Slots A) → listed (store blank l s) ≡ l
unfolding store
listed_store blank l s = take-append_seam l _

sound_rises : (s : Slots MappedRegion) (next : ℕ) → sound_mappings s next ≡ true → rising_from 0 (listed s) ≡ true
unfolding sound_mappings
sound_rises s next h = (both_true (rising_from 0 (listed s)) _ (both_true (leb s.count 256) _ h).1).0

-- ---- the theorem

module _ (u : User) (root a size : ℕ) (prot : ℤ) where
  -- munmap's test for what is broken: the counter is in order, and what is left of its test is tested of a walk
  same_test : both (lent_walk (levels_of u.mem) (length u.mem.words) (start_frame u.mem) (total_of u.mem) root) (sound_mappings u.regions u.next)
      ≡ sound_user (counter_right u) root
  unfolding lent_walk may_walk sound
  same_test =
      rw (eq-eqb (count u.mem.frames.bits (total_of u.mem)) (count u.mem.frames.bits (total_of u.mem)) refl)
      (go (is_levels (levels_of u.mem)) (leb (total_of u.mem) 8192) (leb (total_of u.mem * 512) (length u.mem.words)) (leb (start_frame u.mem + total_of u.mem) frames_end)
      (inside (start_frame u.mem) (total_of u.mem) root))
    where
      go : (l a b c d : Bool)
          → both (both l (both a (both b (both c d)))) (sound_mappings u.regions u.next)
          ≡ both (both (both a (both b (both c d))) (both a (both c (both l true)))) (sound_mappings u.regions u.next)
      go true true true true true = refl
      go true true true true false = refl
      go true true true false d = refl
      go true true false c d = refl
      go true false b c d = refl
      go false true true true true = refl
      go false true true true false = refl
      go false true true false d = refl
      go false true false c d = refl
      go false false b c d = refl

  same_answer : (mprotect_of u root a size prot).answer ≡ (munmap_of (counter_right u) root a size).answer
  unfolding mprotect munmap
  same_answer = rw same_test (by (sound_user (counter_right u) root) (eqb size 0) (on_page a) (rounded size))
    where
      v : User
      v = counter_right u

      ws : List ℕ
      ws = u.mem.words

      by-held : (b : Bool) (d : ProtectDid) (e : UserDid) → d.answer ≡ e.answer
          → (unless b (protect_did (Err RegionNotFound) ws u.regions) d).answer ≡ (unless b (user_did (Err RegionNotFound) v) e).answer
      by-held true d e k = k
      by-held false d e k = refl

      by : (t z o : Bool) (r : Result ℕ Refusal)
          → (unless t (protect_did (Err BrokenRecord) ws u.regions) (pick z (protect_did (Err SizeZero) ws u.regions) (unless o (protect_did (Err Unaligned) ws u.regions)
          (protect_sized (levels_of u.mem) ws (start_frame u.mem) (total_of u.mem) root u.regions a prot r)))).answer
          ≡ (unless t (user_did (Err BrokenRecord) v) (pick z (user_did (Err SizeZero) v) (unless o (user_did (Err Unaligned) v) (unmapped (above_last v.mem) v root a r)))).answer
      by false z o r = refl
      by true true o r = refl
      by true false false r = refl
      by true false true (Ok n) = by-held (holds a n (listed u.regions)) _ _ refl
      by true false true (Err e) = refl

  mprotect_refuses : (n : Refusal) → ProtectAnswer (Err n) → Err n ≡ (munmap_of (counter_right u) root a size).answer → ProtectsOnly u root a size prot (user_did (Err n) u)
  mprotect_refuses n k same = record {
    answers = k;
    ordered = same;
    frames = refl;
    translated = λ levels from v. refl;
    number = refl;
    words = λ x. inl refl;
    others = λ x. (refl, refl);
    found = λ v. refl;
    follows = λ e. absurd (no_value (sym e));
    stored = λ e. absurd (no_value (sym e));
    slots = λ e. absurd (no_value (sym e));
    next = refl;
    refused = λ m e. refl;
  }

  mprotect_meets : sound_mappings u.regions u.next ≡ true → Ok 0 ≡ (munmap_of (counter_right u) root a size).answer
      → ProtectsOnly u root a size prot (keep_user u (protect_did (Ok 0)
      (protect_pages (above_last u.mem) (writable prot) u.mem.words (start_frame u.mem) (total_of u.mem) root a (round_up 12 size / 4096))
      (store no_mapped_region (with_prot a prot (listed u.regions)) u.regions)))
  mprotect_meets rises same =
      let up = above_last u.mem in
      let start = start_frame u.mem in
      let total = total_of u.mem in
      let n = round_up 12 size / 4096 in
      let t = pages_toward up (writable prot) start total root n u.mem.words a in
      let e = toward_alike t in
      let l = new_prot a prot 0 (listed u.regions) (sound_rises u.regions u.next rises) in
      record {
        answers = is0;
        ordered = same;
        frames = refl;
        translated = λ levels from v. translate_alike e start total t.number levels from v;
        number = t.number;
        words = pages_where up (writable prot) start total root n u.mem.words a;
        others = λ x. ((e.word x).low, (e.word x).high);
        found = place_alike e start total up root;
        follows = λ _. pages_follow up (writable prot) start total root n u.mem.words a;
        stored = λ _. listed_store no_mapped_region _ u.regions ∙ l;
        slots = λ _. ap (λ (m : List MappedRegion). store no_mapped_region m u.regions) l;
        next = refl;
        refused = λ m q. absurd (no_value q);
      }

pub mprotect_protects : MprotectProtects
mprotect_protects u root a size prot =
    mprotect_cases (levels_of u.mem) u.mem.words (start_frame u.mem) (total_of u.mem) root u.regions u.next a size prot
    (λ (d : ProtectDid). d.answer ≡ (munmap_of (counter_right u) root a size).answer → ProtectsOnly u root a size prot (keep_user u d))
    (λ _. mprotect_refuses u root a size prot BrokenRecord is10)
    (λ _. mprotect_refuses u root a size prot SizeZero is1)
    (λ _. mprotect_refuses u root a size prot Unaligned is2)
    (λ _. mprotect_refuses u root a size prot TooLarge is3)
    (λ _. mprotect_refuses u root a size prot RegionNotFound is16)
    (λ _ h _ _ _. mprotect_meets u root a size prot h)
    (same_answer u root a size prot)
