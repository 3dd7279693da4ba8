-- The merge pass over the slots, turn by turn.
use Rattle.std.proofs.Common.{◌≡◌, ℕ, suc, ◌+◌, ◌-◌, ◌<◌, ◌≤◌, true, false, List, [], ◌∷◌, ◌++◌, length, get_or, take, drop, set, replicate, sym, refl, ap, ◌∙◌, append_assoc, add-one, arith, length-append, length-drop, take-append-drop, length-take-le, get_or-take, take-suc, take-take, take_at, drop_at}
use lib.ListN.{get_or-append}
use lib.Seq.{slice, length-slice, append_snoc}
use Rattle.bits.proofs.Choice.{both_true}
use Rattle.slots.specs.Slots.{Slots, listed, every, store}
use Rattle.regions.specs.declared.VMRegion.{VMRegion}
use Rattle.regions.specs.Regions.{vm_region, no_vm_region, well_placed_vm, joins, merge_from, merge}
use Rattle.slots.specs.Shifts.{shifted_down}
use Rattle.regions.specs.List.{marked_at}
use Rattle.regions.proofs.Merge.{join, joined}
use Rattle.slots.proofs.Slices.{next, set_last}
use Rattle.regions.proofs.Placed.{Placed, placed_back, placed_at, every_append}
use Rattle.slots.proofs.Stored.{store_shorter}

-- what the pass over the slots of s has come to: of `count` regions the first i are done
pub record Merging (s : Slots VMRegion) (l : List VMRegion) (count i : ℕ) : Type 0 where
  pub long : length l ≡ length s.slots
  pub few : count ≤ length l
  pub fewer : count ≤ s.count
  pub low : i ≤ count
  pub rest : drop count l ≡ replicate (s.count - count) no_vm_region ++ drop s.count s.slots
  pub same : take i (take count l) ++ merge (slice i count l) ≡ merge (listed s)
  pub lie : every well_placed_vm (take count l) ≡ true

pub merge_start : (s : Slots VMRegion) → s.count ≤ length s.slots → every well_placed_vm (listed s) ≡ true → Merging s s.slots s.count 0
merge_start s few lie =
    let z : s.count - s.count ≡ 0 = omega arith in
    record { long = refl; few = few; fewer = omega arith; low = omega arith; rest = rw z; same = refl; lie = lie }

-- a list of one region at most is merged
one_merged : (l : List VMRegion) → length l ≤ 1 → merge l ≡ l
unfolding merge merge_from
one_merged [] h = refl
one_merged (r ∷ []) h = refl
one_merged (r ∷ s ∷ l) h = absurd (omega arith)

module _ (s : Slots VMRegion) (l : List VMRegion) (count i : ℕ) (m : Merging s l count i) where
  pub lies : (k : ℕ) → k < count → Placed (get_or l k no_vm_region).start (get_or l k no_vm_region).size
  lies k h = placed_at (record { slots = l; count = count }) m.lie m.few k h

  pub merge_end : count ≤ i + 1 → record { slots = l; count = count } ≡ store no_vm_region (merge (listed s)) s
  merge_end h =
      let e : take count l ≡ merge (listed s) =
      sym (take-append-drop i (take count l))
      ∙ ap (λ (xs : List VMRegion). take i (take count l) ++ xs) (sym (one_merged (slice i count l) (omega (arith, length-slice i count l m.few))))
      ∙ m.same in
      let n : length (merge (listed s)) ≡ count = ap length (sym e) ∙ length-take-le count l m.few in
      sym (store_shorter no_vm_region (merge (listed s)) s count n m.fewer
      ∙ λ j. record { slots = ((λ k. sym e k ++ sym m.rest k) ∙ take-append-drop count l) j; count = count })

  module _ (h : i + 1 < count) where
    abbrev this : VMRegion
    this = get_or l i no_vm_region

    abbrev that : VMRegion
    that = get_or l (i + 1) no_vm_region

    pair : slice i count l ≡ this ∷ that ∷ slice (i + 1 + 1) count l
    pair = next no_vm_region l count m.few i (omega arith) ∙ ap (λ (xs : List VMRegion). this ∷ xs) (next no_vm_region l count m.few (i + 1) h)

    -- region i keeps its start where the slots behind it move down: marked with both sizes it is the two joined
    pub marked_join : marked_at i (this.size + that.size) false (shifted_down no_vm_region l (i + 1) count) ≡ set (shifted_down no_vm_region l (i + 1) count) i (join this that)
    unfolding shifted_down
    marked_join =
        let rest = slice (i + 1 + 1) count l ++ (no_vm_region ∷ drop count l) in
        let same : get_or (take (i + 1) l ++ rest) i no_vm_region ≡ this =
        get_or-append (take (i + 1) l) rest no_vm_region i (omega (arith, length-take-le (i + 1) l (omega (arith, m.few)))) ∙ get_or-take (i + 1) l i no_vm_region (omega arith) in
        ap (λ (r : VMRegion). set (take (i + 1) l ++ rest) i (vm_region r.start (this.size + that.size) false)) same

    -- regions i and i + 1 stay apart
    apart : joins this that ≡ false → merge (slice i count l) ≡ this ∷ merge (slice (i + 1) count l)
    unfolding merge merge_from
    apart e = rw (pair, e, next no_vm_region l count m.few (i + 1) h)

    pub merge_on : joins this that ≡ false → Merging s l count (i + 1)
    merge_on e =
        let one : take (i + 1) (take count l) ≡ take i (take count l) ++ (this ∷ []) =
        rw (add-one i, ← get_or-take count l i no_vm_region (omega arith)) (take-suc (take count l) i no_vm_region (omega (arith, length-take-le count l m.few))) in
        record {
          long = m.long;
          few = m.few;
          fewer = m.fewer;
          low = omega arith;
          rest = m.rest;
          same = rw (one, append_snoc (take i (take count l)) this (merge (slice (i + 1) count l)), ← apart e) m.same;
          lie = m.lie;
        }

    -- .. or become one
    module _ (e : joins this that ≡ true) where
      both-joined : VMRegion
      both-joined = join this that

      front : List VMRegion
      front = take i l ++ (both-joined ∷ slice (i + 1 + 1) count l)

      after : List VMRegion
      after = set (shifted_down no_vm_region l (i + 1) count) i both-joined

      split : after ≡ front ++ (no_vm_region ∷ drop count l)
      unfolding after front shifted_down
      split =
          set_last no_vm_region l i both-joined (slice (i + 1 + 1) count l ++ (no_vm_region ∷ drop count l)) (omega (arith, m.few))
          ∙ sym (append_assoc (take i l) (both-joined ∷ slice (i + 1 + 1) count l) (no_vm_region ∷ drop count l))

      front_length : length front ≡ count - 1
      unfolding front
      front_length =
          length-append (take i l) (both-joined ∷ slice (i + 1 + 1) count l)
          ∙ omega (arith, length-take-le i l (omega (arith, m.few)), length-slice (i + 1 + 1) count l m.few)

      now-listed : take (count - 1) after ≡ front
      now-listed = rw split (take_at front (no_vm_region ∷ drop count l) (count - 1) front_length)

      now-rest : drop (count - 1) after ≡ no_vm_region ∷ drop count l
      now-rest = rw split (drop_at front (no_vm_region ∷ drop count l) (count - 1) front_length)

      merged : merge (slice i count l) ≡ merge (both-joined ∷ slice (i + 1 + 1) count l)
      unfolding both-joined merge merge_from
      merged = rw (pair, e)

      pub joined_lies : Placed this.start (this.size + that.size)
      joined_lies =
          let a = lies i (omega arith) in
          let b = lies (i + 1) h in
          record {
            even = a.even;
            whole = omega (arith, a.whole, b.whole);
            some = omega (arith, a.some);
            end = omega (arith, (joined this that e).meet, b.end);
          }

      all_lie : every well_placed_vm front ≡ true
      unfolding both-joined front every
      all_lie =
          let whole : every well_placed_vm (take i l ++ (this ∷ that ∷ slice (i + 1 + 1) count l)) ≡ true =
          rw (← pair, ← take-take i count l (omega arith), take-append-drop i (take count l)) m.lie in
          let parts = both_true (every well_placed_vm (take i l)) _ (sym (every_append well_placed_vm (take i l) _) ∙ whole) in
          let more = both_true (well_placed_vm that) _ (both_true (well_placed_vm this) _ parts.1).1 in
          let one = placed_back this.start (this.size + that.size) joined_lies in
          rw (every_append well_placed_vm (take i l) (both-joined ∷ slice (i + 1 + 1) count l), parts.0, one) more.1

      as_long : length (set (shifted_down no_vm_region l (i + 1) count) i (join this that)) ≡ length l
      unfolding both-joined front after
      as_long = ap length split ∙ length-append front (no_vm_region ∷ drop count l) ∙ omega (arith, front_length, length-drop count l, m.few)

      pub merge_joined : Merging s (set (shifted_down no_vm_region l (i + 1) count) i (join this that)) (count - 1) i
      unfolding both-joined front after
      merge_joined =
          let f : s.count - (count - 1) ≡ suc (s.count - count) = omega (arith, m.fewer) in
          let n : length (take i l) ≡ i = length-take-le i l (omega (arith, m.few)) in
          let rest = both-joined ∷ slice (i + 1 + 1) count l in
          record {
            long = as_long ∙ m.long;
            few = omega (arith, as_long, m.few);
            fewer = omega (arith, m.fewer);
            low = omega arith;
            rest = now-rest ∙ rw f (ap (λ (xs : List VMRegion). no_vm_region ∷ xs) m.rest);
            same = rw (now-listed, take_at (take i l) rest i n, drop_at (take i l) rest i n, ← merged, ← take-take i count l (omega arith)) m.same;
            lie = rw now-listed all_lie;
          }
