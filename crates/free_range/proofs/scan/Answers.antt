-- A region is in the way or it is not; from one that starts past the range on, none is.
use Rattle.std.proofs.Common.{ℕ, ◌≡◌, ◌+◌, ◌<◌, true, List, ◌∷◌, length, sym, ◌∙◌, arith, rules, get_or}
use Rattle.slots.specs.Slots.{listed}
use Rattle.mappings.specs.declared.MappedRegion.{MappedRegion}
use Rattle.mappings.specs.Regions.{no_mapped_region}
use Rattle.mappings.specs.Packed.{mmap_in, sound_list}
use Rattle.mappings.proofs.Loops.{left, more, no_more, placed_slot, rising_slot}
use Rattle.mappings.proofs.Sound.{sound_few, listed_long}
use Rattle.free_range.proofs.Scans.{way_end, way_beyond, way_here, way_on, compared_last, compared_on, scan_reports, scan_free}
use Rattle.free_range.proofs.scan.Goals as goal

-- one more region is left
one : (bs : List ℕ) (i : ℕ) (r : MappedRegion) → sound_list bs ≡ true → i < (mmap_in bs).count → r ≡ get_or (mmap_in bs).slots i no_mapped_region → left bs i ≡ r ∷ left bs (i + 1)
one bs i r sound below e = more bs (sound_few bs sound) i below e

-- as many regions as the count says
long : (bs : List ℕ) (n : ℕ) → sound_list bs ≡ true → n ≡ (mmap_in bs).count → n ≡ length (listed (mmap_in bs))
long bs n sound e = e ∙ sym (listed_long bs sound)

pub slot-r-requires-clause-i_bound : goal.slot-r-requires-clause-i_bound
slot-r-requires-clause-i_bound c =
    omega (arith, c.loop-i-test.true, c.count-count.ensures, sound_few c.args.list.now c.requires.list_value)

pub returns-then-r-past : goal.returns-then-r-past
returns-then-r-past c =
    let bs = c.args.list.now in
    let below : c.loop-i.i < (mmap_in bs).count = omega (arith, c.loop-i-test.true, c.count-count.ensures) in
    let e = one bs c.loop-i.i c.slot-r.result c.requires.list_value below c.slot-r.ensures in
    let above = rising_slot bs c.requires.list_value c.loop-i.i below c.slot-r.ensures in
    scan_free _ _ _ (sym c.loop-i.invariant.1 ∙ way_beyond _ _ e above c.if-r-past.true) (long bs c.count-count.result c.requires.list_value c.count-count.ensures)

pub overflow_add-end : goal.overflow_add-end
overflow_add-end c =
    let bs = c.args.list.now in
    let below : c.loop-i.i < (mmap_in bs).count = omega (arith, c.loop-i-test.true, c.count-count.ensures) in
    let p = placed_slot bs c.requires.list_value c.loop-i.i below c.slot-r.ensures in
    omega (arith, p.end)

pub returns-then-a-end : goal.returns-then-a-end
returns-then-a-end c =
    let bs = c.args.list.now in
    let below : c.loop-i.i < (mmap_in bs).count = omega (arith, c.loop-i-test.true, c.count-count.ensures) in
    let e = one bs c.loop-i.i c.slot-r.result c.requires.list_value below c.slot-r.ensures in
    scan_reports _ _ _ (sym (way_here _ _ e c.if-r-past.false c.if-a-end.true) ∙ c.loop-i.invariant.1)
    (omega (arith, compared_last c.args.a c.args.n e c.if-r-past.false c.if-a-end.true, c.loop-i.invariant.2))

pub loop-i-preserved : goal.loop-i-preserved
loop-i-preserved c =
    let bs = c.args.list.now in
    let below : c.loop-i.i < (mmap_in bs).count = omega (arith, c.loop-i-test.true, c.count-count.ensures) in
    let e = one bs c.loop-i.i c.slot-r.result c.requires.list_value below c.slot-r.ensures in
    (search rules, sym (way_on _ _ e c.if-a-end.false) ∙ c.loop-i.invariant.1, omega (arith, compared_on c.args.a c.args.n e c.if-a-end.false, c.loop-i.invariant.2))

pub returns : goal.returns
returns c =
    let bs = c.args.list.now in
    let none = no_more bs (sound_few bs c.requires.list_value) c.loop-i.i (omega (arith, c.loop-i-test.false, c.count-count.ensures)) in
    scan_free _ _ _ (sym c.loop-i.invariant.1 ∙ way_end _ _ none) (long bs c.count-count.result c.requires.list_value c.count-count.ensures)
