-- What the mapper's calls come to: broken, or the step below.
use Prim.Native.Nat.{ℕ, ◌-◌, ◌^◌, ◌≤◌}
use mathlib.Core.Path.{◌≡◌, refl, sym, ap}
use mathlib.Core.Bool.{Bool, true, false}
use mathlib.Core.List.{List}
use native.Mathlib.Omega.{arith}
use lib.ListN.{length}
use Rattle.std.specs.Prelude.{Ok, Err, Result}
use Rattle.answer.specs.declared.Refusal.{Refusal}
use Rattle.answer.specs.declared.Refusal.TheVariants.{HugeUnaligned, BrokenRecord}
use Rattle.bits.proofs.Choice.{both_true}
use Rattle.address.specs.Address.{aligned}
use Rattle.entry.specs.Entry.{entry_of, huge_entry_of, indices}
use Rattle.frame.specs.Frames.{is_levels, sound}
use Rattle.frame.proofs.Laws.{levels_least, levels_most, sound_levels, sound_held}
use Rattle.paging.specs.declared.HugePageSize.{HugePageSize}
use Rattle.paging.specs.declared.HugePageSize.TheVariants.{Size2MB, Size1GB}
use Rattle.paging.specs.Walk.{leaf, address, may_walk}
use Rattle.paging.specs.Map.{Memory, start_frame, total_of, Out, out, Left, left, RoomToTake}
use Rattle.paging.specs.Calls.{as_changed, whole, translate, lent_walk, map_at, map_page, size_of, tables_above, map_huge, unmap_at, unmap_page}
use Rattle.paging.specs.Levels.{levels_of, above_last, most_above}
use Rattle.paging.proofs.Walk.{lent_enough}

-- the two ways of a step
pub walked_cases : (P : Result ℕ Refusal → Type 0) (w : Result ℕ Refusal) → ((x : ℕ) → w ≡ Ok x → P (Ok x)) → ((e : Refusal) → w ≡ Err e → P (Err e)) → P w
walked_cases P (Ok x) a b = a x refl
walked_cases P (Err e) a b = b e refl

-- what code says of an outcome, part by part
pub told : {o p : Out} → o ≡ p → (as_changed p ≡ as_changed o) × ((p.mem.words ≡ o.mem.words) × (p.mem.frames.bits ≡ o.mem.frames.bits))
told e = (ap as_changed (sym e), (ap (λ (x : Out). x.mem.words) (sym e), ap (λ (x : Out). x.mem.frames.bits) (sym e)))

pub told_left : {l k : Left} → l ≡ k → (k.walked ≡ l.walked) × (k.words ≡ l.words)
told_left e = (ap (λ (x : Left). x.walked) (sym e), ap (λ (x : Left). x.words) (sym e))

-- ---- what the test of all that is lent says

module _ (m : Memory) (root : ℕ) (h : whole m root ≡ true) where
  pub whole_lent : may_walk (length m.words) (start_frame m) (total_of m) root ≡ true
  whole_lent = (both_true (may_walk (length m.words) (start_frame m) (total_of m) root) _ h).0

  pub whole_sound : sound m.frames ≡ true
  whole_sound = (both_true (may_walk (length m.words) (start_frame m) (total_of m) root) _ h).1

  pub whole_levels : is_levels (levels_of m) ≡ true
  whole_levels = sound_levels m.frames whole_sound

  -- so levels lie above the last, and no more than four
  pub whole_up : 1 ≤ levels_of m
  whole_up = omega (arith, levels_least (levels_of m) whole_levels)

  pub whole_some : 1 ≤ above_last m
  whole_some = omega (arith, levels_least (levels_of m) whole_levels)

  pub whole_above : above_last m ≤ most_above
  whole_above = omega (arith, levels_most (levels_of m) whole_levels)

  pub whole_roomy : (n : ℕ) → n ≤ 2 ^ 63 → RoomToTake m n
  whole_roomy n l = record { enough = lent_enough _ _ _ _ whole_lent; held = sound_held m.frames n l whole_sound }

-- a huge page's entry stands below no more tables than a page's
pub tables_few : (up : ℕ) (s : HugePageSize) → tables_above up s ≤ up
tables_few up Size2MB = omega arith
tables_few up Size1GB = omega arith

-- ---- the calls

-- the test of numbers alone, and what it says
module _ (levels len start total root : ℕ) where
  pub walk_other : is_levels levels ≡ false → lent_walk levels len start total root ≡ false
  unfolding lent_walk
  walk_other h = rw h

  pub walk_by_lent : is_levels levels ≡ true → lent_walk levels len start total root ≡ may_walk len start total root
  unfolding lent_walk
  walk_by_lent h = rw h

  module _ (h : lent_walk levels len start total root ≡ true) where
    pub walk_levels : is_levels levels ≡ true
    unfolding lent_walk
    walk_levels = (both_true (is_levels levels) _ h).0

    pub walk_lent : may_walk len start total root ≡ true
    unfolding lent_walk
    walk_lent = (both_true (is_levels levels) _ h).1

module _ (levels : ℕ) (ws : List ℕ) (start total root v : ℕ) where
  pub translate_broken : lent_walk levels (length ws) start total root ≡ false → translate levels ws start total root v ≡ Err BrokenRecord
  unfolding translate
  translate_broken h = rw h

  pub translate_is : lent_walk levels (length ws) start total root ≡ true
      → translate levels ws start total root v ≡ address v (leaf ws start total root (indices levels v))
  unfolding translate
  translate_is h = rw h

  pub unmap_broken : lent_walk levels (length ws) start total root ≡ false → unmap_page levels ws start total root v ≡ left (Err BrokenRecord) ws
  unfolding unmap_page
  unmap_broken h = rw h

  pub unmap_is : lent_walk levels (length ws) start total root ≡ true → unmap_page levels ws start total root v ≡ unmap_at (levels - 1) ws start total root v
  unfolding unmap_page
  unmap_is h = rw h

module _ (up : ℕ) (m : Memory) (root v p : ℕ) (w u : Bool) where
  pub map_broken : whole m root ≡ false → map_page up m root v p w u ≡ out (Err BrokenRecord) m
  unfolding map_page
  map_broken h = rw h

  pub map_is : whole m root ≡ true → map_page up m root v p w u ≡ map_at up up u m root v (entry_of p w u)
  unfolding map_page
  map_is h = rw h

  module _ (s : HugePageSize) where
    pub huge_broken : whole m root ≡ false → map_huge up m root v p s w u ≡ out (Err BrokenRecord) m
    unfolding map_huge
    huge_broken h = rw h

    module _ (h : whole m root ≡ true) where
      pub huge_virt : aligned v (size_of s) ≡ false → map_huge up m root v p s w u ≡ out (Err HugeUnaligned) m
      unfolding map_huge
      huge_virt a = rw (h, a)

      pub huge_phys : aligned v (size_of s) ≡ true → aligned p (size_of s) ≡ false → map_huge up m root v p s w u ≡ out (Err HugeUnaligned) m
      unfolding map_huge
      huge_phys a b = rw (h, a, b)

      pub huge_is : aligned v (size_of s) ≡ true → aligned p (size_of s) ≡ true
          → map_huge up m root v p s w u ≡ map_at up (tables_above up s) u m root v (huge_entry_of p w u)
      unfolding map_huge
      huge_is a b = rw (h, a, b)
