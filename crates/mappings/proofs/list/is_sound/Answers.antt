-- The length, the count and next_addr, then one region after the other.
use Rattle.std.proofs.Common.{rules, ◌≡◌, ◌+◌, ◌≤◌, ◌<◌, ℕ, ◌%◌, List, ◌∷◌}
use Rattle.mappings.specs.Packed.{mmap_in}
use mathlib.Core.Path.{sym, ◌∙◌, ap}
use native.Mathlib.Omega.{arith}
use Rattle.frame.proofs.Laws.{passed, failed}
use Rattle.mappings.proofs.Loops.{left, more, no_more}
use Rattle.mappings.proofs.Sound.{sound_many, sound_odd, sound_sorted, sorted_end, sorted_low, sorted_bad, sorted_on}
use Rattle.mappings.proofs.list.is_sound.Goals as goal

pub returns-then-count-gt-MAX_REGIONS : goal.returns-then-count-gt-MAX_REGIONS
returns-then-count-gt-MAX_REGIONS c =
    let bytes : List ℕ = c.args.list.now in
    sym (sound_many (bytes) (omega (arith, c.if-count-gt-MAX_REGIONS.true, c.count-count.ensures)))

pub returns-then-next_addr-ne0 : goal.returns-then-next_addr-ne0
returns-then-next_addr-ne0 c =
    let bytes : List ℕ = c.args.list.now in
    sym (sound_odd (bytes) (λ e. c.if-next_addr-ne0.true (ap (λ (x : ℕ). x % 4096) c.next_addr.ensures ∙ e)))

pub loop-i-init : goal.loop-i-init
loop-i-init c =
    let bytes : List ℕ = c.args.list.now in let few : (mmap_in (bytes)).count ≤ 256 = omega (arith, c.if-count-gt-MAX_REGIONS.false, c.count-count.ensures) in
    (search rules, sym (sound_sorted (bytes) c.if-list-ne-MMAP_SIZE.false (few) (sym (ap (λ (x : ℕ). x % 4096) c.next_addr.ensures) ∙ c.if-next_addr-ne0.false)))

pub returns-then-r-from : goal.returns-then-r-from
returns-then-r-from c =
    let bytes : List ℕ = c.args.list.now in let below : c.loop-i.i < (mmap_in (bytes)).count = omega (arith, c.loop-i-test.true, c.count-count.ensures) in let few : (mmap_in (bytes)).count ≤ 256 = omega (arith, c.if-count-gt-MAX_REGIONS.false, c.count-count.ensures) in let one : let bs = bytes in left bs c.loop-i.i ≡ c.slot-r.result ∷ left bs (c.loop-i.i + 1) = more (bytes) (few) c.loop-i.i (below) c.slot-r.ensures in
    sym (sorted_low _ (one) c.if-r-from.true) ∙ c.loop-i.invariant.1

pub returns-then-not-is_well_placed : goal.returns-then-not-is_well_placed
returns-then-not-is_well_placed c =
    let bytes : List ℕ = c.args.list.now in let below : c.loop-i.i < (mmap_in (bytes)).count = omega (arith, c.loop-i-test.true, c.count-count.ensures) in let few : (mmap_in (bytes)).count ≤ 256 = omega (arith, c.if-count-gt-MAX_REGIONS.false, c.count-count.ensures) in let one : let bs = bytes in left bs c.loop-i.i ≡ c.slot-r.result ∷ left bs (c.loop-i.i + 1) = more (bytes) (few) c.loop-i.i (below) c.slot-r.ensures in
    sym (sorted_bad _ (one) (failed c.is_well_placed.ensures c.if-not-is_well_placed.true)) ∙ c.loop-i.invariant.1

pub loop-i-preserved : goal.loop-i-preserved
loop-i-preserved c =
    let bytes : List ℕ = c.args.list.now in let below : c.loop-i.i < (mmap_in (bytes)).count = omega (arith, c.loop-i-test.true, c.count-count.ensures) in let few : (mmap_in (bytes)).count ≤ 256 = omega (arith, c.if-count-gt-MAX_REGIONS.false, c.count-count.ensures) in let one : let bs = bytes in left bs c.loop-i.i ≡ c.slot-r.result ∷ left bs (c.loop-i.i + 1) = more (bytes) (few) c.loop-i.i (below) c.slot-r.ensures in
    (search rules, sym (sorted_on _ (one) c.if-r-from.false (passed c.is_well_placed.ensures c.if-not-is_well_placed.false)) ∙ c.loop-i.invariant.1)

pub returns : goal.returns
returns c =
    let bytes : List ℕ = c.args.list.now in let few : (mmap_in (bytes)).count ≤ 256 = omega (arith, c.if-count-gt-MAX_REGIONS.false, c.count-count.ensures) in
    sym (sorted_end _ (no_more (bytes) (few) c.loop-i.i (omega (arith, c.loop-i-test.false, c.count-count.ensures)))) ∙ c.loop-i.invariant.1
