-- A region at the start, then its size.
use Rattle.std.proofs.Common.{ℕ, ◌≡◌, true, sym, ◌∙◌, ap, arith, get_or, List, Ok, Err, Some, None}
use Rattle.std.proofs.Math.Seq.{get_or-take}
use lib.Dec.{eqb}
use borrow.Author.Tests.{eq-eqb, ne_eqb}
use Rattle.bits.specs.Bit.{pick}
use Rattle.slots.specs.Slots.{listed}
use Rattle.slots.specs.Sorted.{place_of}
use Rattle.slots.proofs.Search.{found_tells}
use Rattle.mappings.specs.declared.MappedRegion.{MappedRegion}
use Rattle.mappings.specs.Regions.{no_mapped_region, start_key, starts, holds}
use Rattle.mappings.specs.Packed.{mmap_in, sound_list}
use Rattle.mappings.proofs.Rising.{holds_none, holds_at}
use Rattle.mappings.proofs.Sound.{sound_few, sound_rising}
use Rattle.mappings.proofs.Placing.{place_below}
use Rattle.mappings.proofs.list.find_sized.Goals as goal

-- the region at the start
held : (bs : List ℕ) (a n place : ℕ) (r : MappedRegion) → sound_list bs ≡ true → place ≡ place_of start_key a (listed (mmap_in bs)) → starts a (listed (mmap_in bs)) ≡ true
    → r ≡ get_or (mmap_in bs).slots place no_mapped_region → eqb r.size n ≡ holds a n (listed (mmap_in bs))
held bs a n place r sound at h e =
    let l = mmap_in bs in
    ap (λ (x : MappedRegion). eqb x.size n) (e ∙ sym (get_or-take l.count l.slots place no_mapped_region (place_below bs sound a place at h)))
    ∙ ap (λ (k : ℕ). eqb (get_or (listed l) k no_mapped_region).size n) at
    ∙ sym (holds_at a n 0 (listed l) (sound_rising bs sound) h)

pub slot-requires-clause-i_bound : goal.slot-requires-clause-i_bound
slot-requires-clause-i_bound c =
    let bs = c.args.list.now in
    let t = found_tells start_key c.args.a (listed (mmap_in bs)) (Ok c.in-Ok.at) (sym c.in-Ok.is ∙ c.find.ensures) in
    omega (arith, place_below bs c.requires c.args.a c.in-Ok.at t.1 t.0, sound_few bs c.requires)

pub returns-in-Ok : goal.returns-in-Ok
returns-in-Ok c =
    let bs = c.args.list.now in
    let t = found_tells start_key c.args.a (listed (mmap_in bs)) (Ok c.in-Ok.at) (sym c.in-Ok.is ∙ c.find.ensures) in
    let h = sym (held bs c.args.a c.args.n c.in-Ok.at c.slot.result c.requires t.1 t.0 c.slot.ensures) ∙ eq-eqb c.slot.result.size c.args.n c.if-slot-n.true in
    (λ j. pick (sym h j) (Some (t.1 j)) None)

pub returns-in_default : goal.returns-in_default
returns-in_default c =
    let bs = c.args.list.now in
    let t = found_tells start_key c.args.a (listed (mmap_in bs)) (Ok c.in-Ok.at) (sym c.in-Ok.is ∙ c.find.ensures) in
    let h = sym (held bs c.args.a c.args.n c.in-Ok.at c.slot.result c.requires t.1 t.0 c.slot.ensures) ∙ ne_eqb c.slot.result.size c.args.n c.if-slot-n.false in
    (λ j. pick (sym h j) (Some (place_of start_key c.args.a (listed (mmap_in bs)))) None)

pub returns-in_default-2 : goal.returns-in_default-2
returns-in_default-2 c =
    let bs = c.args.list.now in
    let l = listed (mmap_in bs) in
    let t = found_tells start_key c.args.a l (Err c.in_default.field-0) (sym c.in_default.is ∙ c.find.ensures) in
    let h = holds_none c.args.a c.args.n l t.0 in
    (λ j. pick (sym h j) (Some (place_of start_key c.args.a l)) None)
