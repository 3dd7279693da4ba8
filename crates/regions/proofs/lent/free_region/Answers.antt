-- `lent::free_region`: with region i free its regions still lie well, and what merging them leaves is asked for.
use Rattle.std.proofs.Common.{◌≡◌, true, List, take, arith, sym, ap, ◌∙◌, subst}
use Rattle.slots.specs.Slots.{slotted, every, store}
use Rattle.regions.specs.declared.VMRegion.{VMRegion}
use Rattle.regions.specs.Regions.{no_vm_region, well_placed_vm, merge}
use Rattle.regions.proofs.Stored.{freed_lie, freed_stored}
use Rattle.regions.proofs.lent.free_region.Goals as goal

pub merge_free_regions-requires : goal.merge_free_regions-requires
merge_free_regions-requires c = (
  omega (arith, c.mark.auto.regions),
  subst (λ (us : List VMRegion). every well_placed_vm (take c.args.count us) ≡ true) (sym c.mark.ensures)
      (freed_lie (slotted c.args.regions.now c.args.count) c.requires.0 c.args.i c.requires.2 c.requires.1),
)

pub returns : goal.returns
returns c =
    c.merge_free_regions.ensures
    ∙ ap (λ (us : List VMRegion). store no_vm_region (merge (take c.args.count us)) (slotted us c.args.count)) c.mark.ensures
    ∙ freed_stored (slotted c.args.regions.now c.args.count) c.requires.0 c.args.i c.requires.2
