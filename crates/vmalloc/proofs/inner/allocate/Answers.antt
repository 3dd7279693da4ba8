-- `allocate`: 15, or the pages of the first region large enough mapped, then the region cut.
use Rattle.std.specs.Prelude.{Ok, Err}
use Rattle.answer.specs.declared.Refusal.TheVariants.{NoRegion}
use Rattle.std.proofs.Common.{rules, ◌≡◌, true, ℕ, ◌-◌, ◌<◌, ◌≤◌, length, Fits, w64}
use Rattle.address.specs.Address.{as_virt}
use Rattle.paging.specs.Kept.{lent_memory}
use mathlib.Core.Path.{refl, sym, ap}
use native.Mathlib.Omega.{arith}
use lib.ListN.{get_or}
use Rattle.paging.specs.Map.{Memory}
use Rattle.paging.proofs.Calls.{whole_up, whole_above, whole_roomy}
use Rattle.slots.specs.Slots.{listed, first_at}
use Rattle.regions.specs.declared.VMRegion.{VMRegion}
use Rattle.regions.specs.Regions.{no_vm_region, sound_regions, fits, first_fit}
use Rattle.vm_list.specs.Packed.{vm_size, vm_in, vm_fit}
use Rattle.regions.proofs.Placed.{Placed}
use Rattle.vmalloc.specs.Calls.{kernel, kernel_placed}
use Rattle.vmalloc.proofs.Calls.{placed_met, placed_stop}
use Rattle.vmalloc.proofs.Told.{left}
use Rattle.vmalloc.proofs.Found.{lent_fit, lent_long, lent_whole, lent_sound, lent_few, in_list, lies, none_fits, found}
use Rattle.vmalloc.proofs.inner.allocate.Goals as goal

pub first_fit-requires-clause-n_bound : goal.first_fit-requires-clause-n_bound
first_fit-requires-clause-n_bound c =
    let lent : Memory = lent_memory c.args.words.now c.args.bitmap.now c.args.frames in let few : (n : ℕ) → n ≡ (vm_in c.args.list.now).count → n ≤ 256 = lent_few (lent) c.args.list.now c.args.root.0 c.requires in let long : length c.args.list.now ≡ vm_size = lent_long (lent) c.args.list.now c.args.root.0 c.requires in few c.count-n.result c.count-n.ensures

pub returns-in_default-clause-list_after : goal.returns-in_default-clause-list_after
returns-in_default-clause-list_after c =
    (let lent : Memory = lent_memory c.args.words.now c.args.bitmap.now c.args.frames in let fit : vm_fit c.args.list.now ≡ true = lent_fit (lent) c.args.list.now c.args.root.0 c.requires in
    let none = none_fits (lent) c.args.list.now c.args.root.0 c.requires c.count-n.result c.count-n.ensures c.count-n.result c.args.size (sym c.in_default.ensures) refl in
    left as_virt (Err NoRegion) (lent) (ap (kernel_placed (c.args.frames.levels - 1) (kernel (lent) (vm_in c.args.list.now)) c.args.root.0 c.args.size) none)
    c.args.list.now (fit) (λ j. (c.slice_known-2-1.given j).fits) refl).0

pub returns-in_default-clause-kernel_stands : goal.returns-in_default-clause-kernel_stands
returns-in_default-clause-kernel_stands c =
    (let lent : Memory = lent_memory c.args.words.now c.args.bitmap.now c.args.frames in let fit : vm_fit c.args.list.now ≡ true = lent_fit (lent) c.args.list.now c.args.root.0 c.requires in
    let none = none_fits (lent) c.args.list.now c.args.root.0 c.requires c.count-n.result c.count-n.ensures c.count-n.result c.args.size (sym c.in_default.ensures) refl in
    left as_virt (Err NoRegion) (lent) (ap (kernel_placed (c.args.frames.levels - 1) (kernel (lent) (vm_in c.args.list.now)) c.args.root.0 c.args.size) none)
    c.args.list.now (fit) (λ j. (c.slice_known-2-1.given j).fits) refl).1

pub slot-r-requires-clause-i_bound : goal.slot-r-requires-clause-i_bound
slot-r-requires-clause-i_bound c =
    let lent : Memory = lent_memory c.args.words.now c.args.bitmap.now c.args.frames in let few : (n : ℕ) → n ≡ (vm_in c.args.list.now).count → n ≤ 256 = lent_few (lent) c.args.list.now c.args.root.0 c.requires in let long : length c.args.list.now ≡ vm_size = lent_long (lent) c.args.list.now c.args.root.0 c.requires in let small : c.in-Some.i < c.count-n.result = c.in-Some.ensures.1 in omega (arith, small, few c.count-n.result c.count-n.ensures)

pub overflow_sub-up : goal.overflow_sub-up
overflow_sub-up c =
    let lent : Memory = lent_memory c.args.words.now c.args.bitmap.now c.args.frames in
    whole_up (lent) c.args.root.0 (lent_whole (lent) c.args.list.now c.args.root.0 c.requires)

pub map_pages-run-requires-clause-room_to_take : goal.map_pages-run-requires-clause-room_to_take
map_pages-run-requires-clause-room_to_take c =
    let lent : Memory = lent_memory c.args.words.now c.args.bitmap.now c.args.frames in let small : c.in-Some.i < c.count-n.result = c.in-Some.ensures.1 in let fits-there : (r : VMRegion) → r ≡ get_or (vm_in c.args.list.now).slots c.in-Some.i no_vm_region → (first_fit c.args.size (listed (vm_in c.args.list.now)) ≡ Ok r.start) × (c.args.size ≤ r.size) = λ r h. found (lent) c.args.list.now c.args.root.0 c.requires c.count-n.result c.count-n.ensures c.in-Some.i (small) r h c.args.size c.in-Some.ensures.0 in let lies-well : (r : VMRegion) → r ≡ get_or (vm_in c.args.list.now).slots c.in-Some.i no_vm_region → Placed r.start r.size = λ r h. lies (lent) c.args.list.now c.args.root.0 c.requires c.count-n.result c.count-n.ensures c.in-Some.i (small) r h in let w : Fits w64 c.args.size = search rules in let p = lies-well c.slot-r.result c.slot-r.ensures in whole_roomy (lent) c.args.root.0 (lent_whole (lent) c.args.list.now c.args.root.0 c.requires) _ (search rules)

pub map_pages-run-requires-clause-n_bound : goal.map_pages-run-requires-clause-n_bound
map_pages-run-requires-clause-n_bound c =
    let lent : Memory = lent_memory c.args.words.now c.args.bitmap.now c.args.frames in let small : c.in-Some.i < c.count-n.result = c.in-Some.ensures.1 in let fits-there : (r : VMRegion) → r ≡ get_or (vm_in c.args.list.now).slots c.in-Some.i no_vm_region → (first_fit c.args.size (listed (vm_in c.args.list.now)) ≡ Ok r.start) × (c.args.size ≤ r.size) = λ r h. found (lent) c.args.list.now c.args.root.0 c.requires c.count-n.result c.count-n.ensures c.in-Some.i (small) r h c.args.size c.in-Some.ensures.0 in let lies-well : (r : VMRegion) → r ≡ get_or (vm_in c.args.list.now).slots c.in-Some.i no_vm_region → Placed r.start r.size = λ r h. lies (lent) c.args.list.now c.args.root.0 c.requires c.count-n.result c.count-n.ensures c.in-Some.i (small) r h in let w : Fits w64 c.args.size = search rules in let p = lies-well c.slot-r.result c.slot-r.ensures in omega (arith, (fits-there c.slot-r.result c.slot-r.ensures).1, p.some, p.whole, p.end)

pub map_pages-run-requires-clause-up_le_most_above : goal.map_pages-run-requires-clause-up_le_most_above
map_pages-run-requires-clause-up_le_most_above c =
    let lent : Memory = lent_memory c.args.words.now c.args.bitmap.now c.args.frames in let small : c.in-Some.i < c.count-n.result = c.in-Some.ensures.1 in let fits-there : (r : VMRegion) → r ≡ get_or (vm_in c.args.list.now).slots c.in-Some.i no_vm_region → (first_fit c.args.size (listed (vm_in c.args.list.now)) ≡ Ok r.start) × (c.args.size ≤ r.size) = λ r h. found (lent) c.args.list.now c.args.root.0 c.requires c.count-n.result c.count-n.ensures c.in-Some.i (small) r h c.args.size c.in-Some.ensures.0 in let lies-well : (r : VMRegion) → r ≡ get_or (vm_in c.args.list.now).slots c.in-Some.i no_vm_region → Placed r.start r.size = λ r h. lies (lent) c.args.list.now c.args.root.0 c.requires c.count-n.result c.count-n.ensures c.in-Some.i (small) r h in let w : Fits w64 c.args.size = search rules in let p = lies-well c.slot-r.result c.slot-r.ensures in whole_above (lent) c.args.root.0 (lent_whole (lent) c.args.list.now c.args.root.0 c.requires)

pub take_region-requires-clause-i_value : goal.take_region-requires-clause-i_value
take_region-requires-clause-i_value c =
    (let lent : Memory = lent_memory c.args.words.now c.args.bitmap.now c.args.frames in let fit : vm_fit c.args.list.now ≡ true = lent_fit (lent) c.args.list.now c.args.root.0 c.requires in let small : c.in-Some.i < c.count-n.result = c.in-Some.ensures.1 in let asked : ((vm_fit c.args.list.now ≡ true) × (sound_regions (vm_in c.args.list.now) ≡ true) × (c.count-n.result ≡ (vm_in c.args.list.now).count)) × ((c.in-Some.i ≡ first_at (fits c.args.size) (listed (vm_in c.args.list.now))) × (c.in-Some.i < c.count-n.result)) = let first = in_list (lent) c.args.list.now c.args.root.0 c.requires c.count-n.result c.count-n.ensures (fits c.args.size) c.in-Some.i c.in-Some.ensures.0 in
    ((fit, lent_sound (lent) c.args.list.now c.args.root.0 c.requires, c.count-n.ensures), (first, small)) in
    asked).1

pub take_region-requires-in-Ok-clause-i_value : goal.take_region-requires-in-Ok-clause-i_value
take_region-requires-in-Ok-clause-i_value c =
    (let lent : Memory = lent_memory c.args.words.now c.args.bitmap.now c.args.frames in let fit : vm_fit c.args.list.now ≡ true = lent_fit (lent) c.args.list.now c.args.root.0 c.requires in let small : c.in-Some.i < c.count-n.result = c.in-Some.ensures.1 in let asked : ((vm_fit c.args.list.now ≡ true) × (sound_regions (vm_in c.args.list.now) ≡ true) × (c.count-n.result ≡ (vm_in c.args.list.now).count)) × ((c.in-Some.i ≡ first_at (fits c.args.size) (listed (vm_in c.args.list.now))) × (c.in-Some.i < c.count-n.result)) = let first = in_list (lent) c.args.list.now c.args.root.0 c.requires c.count-n.result c.count-n.ensures (fits c.args.size) c.in-Some.i c.in-Some.ensures.0 in
    ((fit, lent_sound (lent) c.args.list.now c.args.root.0 c.requires, c.count-n.ensures), (first, small)) in
    asked).1

pub returns-in-Err-clause-list_after : goal.returns-in-Err-clause-list_after
returns-in-Err-clause-list_after c =
    (let lent : Memory = lent_memory c.args.words.now c.args.bitmap.now c.args.frames in let small : c.in-Some.i < c.count-n.result = c.in-Some.ensures.1 in let fits-there : (r : VMRegion) → r ≡ get_or (vm_in c.args.list.now).slots c.in-Some.i no_vm_region → (first_fit c.args.size (listed (vm_in c.args.list.now)) ≡ Ok r.start) × (c.args.size ≤ r.size) = λ r h. found (lent) c.args.list.now c.args.root.0 c.requires c.count-n.result c.count-n.ensures c.in-Some.i (small) r h c.args.size c.in-Some.ensures.0 in
    left as_virt (Err c.in-Err.e) (lent_memory c.map_pages-run.new.words c.map_pages-run.new.bitmap c.map_pages-run.result.frames)
    (placed_stop (c.args.frames.levels - 1) (kernel (lent) (vm_in c.args.list.now)) c.args.root.0 c.args.size c.slot-r.result.start
    (fits-there c.slot-r.result c.slot-r.ensures).0 c.map_pages-run.ensures _ c.in-Err.is)
    c.take_region.new.list c.take_region.ensures.list_after_2 (λ j. (c.slice_known-in-Err-1.given j).fits) c.take_region.ensures.list_after).0

pub returns-in-Err-clause-kernel_stands : goal.returns-in-Err-clause-kernel_stands
returns-in-Err-clause-kernel_stands c =
    (let lent : Memory = lent_memory c.args.words.now c.args.bitmap.now c.args.frames in let small : c.in-Some.i < c.count-n.result = c.in-Some.ensures.1 in let fits-there : (r : VMRegion) → r ≡ get_or (vm_in c.args.list.now).slots c.in-Some.i no_vm_region → (first_fit c.args.size (listed (vm_in c.args.list.now)) ≡ Ok r.start) × (c.args.size ≤ r.size) = λ r h. found (lent) c.args.list.now c.args.root.0 c.requires c.count-n.result c.count-n.ensures c.in-Some.i (small) r h c.args.size c.in-Some.ensures.0 in
    left as_virt (Err c.in-Err.e) (lent_memory c.map_pages-run.new.words c.map_pages-run.new.bitmap c.map_pages-run.result.frames)
    (placed_stop (c.args.frames.levels - 1) (kernel (lent) (vm_in c.args.list.now)) c.args.root.0 c.args.size c.slot-r.result.start
    (fits-there c.slot-r.result c.slot-r.ensures).0 c.map_pages-run.ensures _ c.in-Err.is)
    c.take_region.new.list c.take_region.ensures.list_after_2 (λ j. (c.slice_known-in-Err-1.given j).fits) c.take_region.ensures.list_after).1

pub returns-in-Ok-clause-list_after : goal.returns-in-Ok-clause-list_after
returns-in-Ok-clause-list_after c =
    (let lent : Memory = lent_memory c.args.words.now c.args.bitmap.now c.args.frames in let small : c.in-Some.i < c.count-n.result = c.in-Some.ensures.1 in let fits-there : (r : VMRegion) → r ≡ get_or (vm_in c.args.list.now).slots c.in-Some.i no_vm_region → (first_fit c.args.size (listed (vm_in c.args.list.now)) ≡ Ok r.start) × (c.args.size ≤ r.size) = λ r h. found (lent) c.args.list.now c.args.root.0 c.requires c.count-n.result c.count-n.ensures c.in-Some.i (small) r h c.args.size c.in-Some.ensures.0 in
    left as_virt (Ok c.slot-r.result.start) (lent_memory c.map_pages-run.new.words c.map_pages-run.new.bitmap c.map_pages-run.result.frames)
    (placed_met (c.args.frames.levels - 1) (kernel (lent) (vm_in c.args.list.now)) c.args.root.0 c.args.size c.slot-r.result.start
    (fits-there c.slot-r.result c.slot-r.ensures).0 c.map_pages-run.ensures _ c.in-Ok.is)
    c.take_region-in-Ok.new.list c.take_region-in-Ok.ensures.list_after_2 (λ j. (c.slice_known-in-Ok-1.given j).fits) c.take_region-in-Ok.ensures.list_after).0

pub returns-in-Ok-clause-kernel_stands : goal.returns-in-Ok-clause-kernel_stands
returns-in-Ok-clause-kernel_stands c =
    (let lent : Memory = lent_memory c.args.words.now c.args.bitmap.now c.args.frames in let small : c.in-Some.i < c.count-n.result = c.in-Some.ensures.1 in let fits-there : (r : VMRegion) → r ≡ get_or (vm_in c.args.list.now).slots c.in-Some.i no_vm_region → (first_fit c.args.size (listed (vm_in c.args.list.now)) ≡ Ok r.start) × (c.args.size ≤ r.size) = λ r h. found (lent) c.args.list.now c.args.root.0 c.requires c.count-n.result c.count-n.ensures c.in-Some.i (small) r h c.args.size c.in-Some.ensures.0 in
    left as_virt (Ok c.slot-r.result.start) (lent_memory c.map_pages-run.new.words c.map_pages-run.new.bitmap c.map_pages-run.result.frames)
    (placed_met (c.args.frames.levels - 1) (kernel (lent) (vm_in c.args.list.now)) c.args.root.0 c.args.size c.slot-r.result.start
    (fits-there c.slot-r.result c.slot-r.ensures).0 c.map_pages-run.ensures _ c.in-Ok.is)
    c.take_region-in-Ok.new.list c.take_region-in-Ok.ensures.list_after_2 (λ j. (c.slice_known-in-Ok-1.given j).fits) c.take_region-in-Ok.ensures.list_after).1
