-- `free`: 16, or the pages of the used region freed, then the region.
use Rattle.std.specs.Prelude.{Ok, Err}
use Rattle.answer.specs.declared.Refusal.TheVariants.{RegionNotFound}
use Rattle.std.proofs.Common.{rules, ◌≡◌, true, ℕ, ◌-◌, ◌<◌, ◌≤◌, length}
use Rattle.answer.specs.Outcomes.{as_answer}
use Rattle.paging.specs.Kept.{lent_memory}
use mathlib.Core.Path.{refl, sym, ◌∙◌, ap}
use native.Mathlib.Omega.{arith}
use lib.ListN.{get_or}
use Rattle.paging.specs.Map.{Memory}
use Rattle.paging.proofs.Calls.{whole_up, whole_above, whole_roomy}
use Rattle.slots.specs.Slots.{listed}
use Rattle.regions.specs.declared.VMRegion.{VMRegion}
use Rattle.regions.specs.Regions.{no_vm_region, used_size, free_first}
use Rattle.regions.specs.List.{used_at, freed_at}
use Rattle.vm_list.specs.Packed.{vm_size, vm_in, vm_fit}
use Rattle.regions.proofs.Placed.{Placed}
use Rattle.vmalloc.specs.Calls.{kernel, released, released_found}
use Rattle.vmalloc.proofs.Calls.{released_met}
use Rattle.vmalloc.proofs.Told.{left}
use Rattle.vmalloc.proofs.Found.{lent_fit, lent_long, lent_whole, lent_few, lies, none_used, found_used, found_freed}
use Rattle.vmalloc.proofs.inner.free.Goals as goal

pub find_used-requires-clause-n_bound : goal.find_used-requires-clause-n_bound
find_used-requires-clause-n_bound c =
    let lent : Memory = lent_memory c.args.words.now c.args.bitmap.now c.args.frames in let few : (n : ℕ) → n ≡ (vm_in c.args.list.now).count → n ≤ 256 = lent_few (lent) c.args.list.now c.args.root.0 c.requires in let long : length c.args.list.now ≡ vm_size = lent_long (lent) c.args.list.now c.args.root.0 c.requires in few c.count-n.result c.count-n.ensures

pub returns-in_default-clause-list_after : goal.returns-in_default-clause-list_after
returns-in_default-clause-list_after c =
    let lent : Memory = lent_memory c.args.words.now c.args.bitmap.now c.args.frames in let fit : vm_fit c.args.list.now ≡ true = lent_fit (lent) c.args.list.now c.args.root.0 c.requires in let up = c.args.frames.levels - 1 in let n = kernel (lent) (vm_in c.args.list.now) in let none = none_used (lent) c.args.list.now c.args.root.0 c.requires c.count-n.result c.count-n.ensures c.count-n.result c.args.addr.0 (sym c.in_default.ensures) refl in let l = left as_answer (Err RegionNotFound) (lent) (ap (released up n c.args.root.0 c.args.addr.0) none)
    c.args.list.now (fit) (λ j. (c.slice_known-2-1.given j).fits) refl in l.0

pub returns-in_default-clause-kernel_stands : goal.returns-in_default-clause-kernel_stands
returns-in_default-clause-kernel_stands c =
    let lent : Memory = lent_memory c.args.words.now c.args.bitmap.now c.args.frames in let fit : vm_fit c.args.list.now ≡ true = lent_fit (lent) c.args.list.now c.args.root.0 c.requires in let up = c.args.frames.levels - 1 in let n = kernel (lent) (vm_in c.args.list.now) in let none = none_used (lent) c.args.list.now c.args.root.0 c.requires c.count-n.result c.count-n.ensures c.count-n.result c.args.addr.0 (sym c.in_default.ensures) refl in let l = left as_answer (Err RegionNotFound) (lent) (ap (released up n c.args.root.0 c.args.addr.0) none)
    c.args.list.now (fit) (λ j. (c.slice_known-2-1.given j).fits) refl in l.1

pub returns-in_default-clause-found_value : goal.returns-in_default-clause-found_value
returns-in_default-clause-found_value c =
    let lent : Memory = lent_memory c.args.words.now c.args.bitmap.now c.args.frames in let fit : vm_fit c.args.list.now ≡ true = lent_fit (lent) c.args.list.now c.args.root.0 c.requires in let up = c.args.frames.levels - 1 in let n = kernel (lent) (vm_in c.args.list.now) in let none = none_used (lent) c.args.list.now c.args.root.0 c.requires c.count-n.result c.count-n.ensures c.count-n.result c.args.addr.0 (sym c.in_default.ensures) refl in let l = left as_answer (Err RegionNotFound) (lent) (ap (released up n c.args.root.0 c.args.addr.0) none)
    c.args.list.now (fit) (λ j. (c.slice_known-2-1.given j).fits) refl in c.none.ensures ∙ sym (ap (released_found up n c.args.root.0 c.args.addr.0) none)

pub slot-r-requires-clause-i_bound : goal.slot-r-requires-clause-i_bound
slot-r-requires-clause-i_bound c =
    let lent : Memory = lent_memory c.args.words.now c.args.bitmap.now c.args.frames in let few : (n : ℕ) → n ≡ (vm_in c.args.list.now).count → n ≤ 256 = lent_few (lent) c.args.list.now c.args.root.0 c.requires in let long : length c.args.list.now ≡ vm_size = lent_long (lent) c.args.list.now c.args.root.0 c.requires in let small : c.in-Some.i < c.count-n.result = c.in-Some.ensures.1 in omega (arith, small, few c.count-n.result c.count-n.ensures)

pub overflow_sub-up : goal.overflow_sub-up
overflow_sub-up c =
    let lent : Memory = lent_memory c.args.words.now c.args.bitmap.now c.args.frames in
    whole_up (lent) c.args.root.0 (lent_whole (lent) c.args.list.now c.args.root.0 c.requires)

pub free_pages-given-requires-clause-room_to_take : goal.free_pages-given-requires-clause-room_to_take
free_pages-given-requires-clause-room_to_take c =
    let lent : Memory = lent_memory c.args.words.now c.args.bitmap.now c.args.frames in let small : c.in-Some.i < c.count-n.result = c.in-Some.ensures.1 in let lies-well : (r : VMRegion) → r ≡ get_or (vm_in c.args.list.now).slots c.in-Some.i no_vm_region → Placed r.start r.size = λ r h. lies (lent) c.args.list.now c.args.root.0 c.requires c.count-n.result c.count-n.ensures c.in-Some.i (small) r h in let used-there : (r : VMRegion) → r ≡ get_or (vm_in c.args.list.now).slots c.in-Some.i no_vm_region → (used_size c.args.addr.0 (listed (vm_in c.args.list.now)) ≡ Ok r.size) × (r.start ≡ c.args.addr.0) = λ r h. found_used (lent) c.args.list.now c.args.root.0 c.requires c.count-n.result c.count-n.ensures c.in-Some.i (small) r h c.args.addr.0 c.in-Some.ensures.0 in let p = lies-well c.slot-r.result c.slot-r.ensures in whole_roomy (lent) c.args.root.0 (lent_whole (lent) c.args.list.now c.args.root.0 c.requires) 0 (search rules)

pub free_pages-given-requires-clause-n_bound : goal.free_pages-given-requires-clause-n_bound
free_pages-given-requires-clause-n_bound c =
    let lent : Memory = lent_memory c.args.words.now c.args.bitmap.now c.args.frames in let small : c.in-Some.i < c.count-n.result = c.in-Some.ensures.1 in let lies-well : (r : VMRegion) → r ≡ get_or (vm_in c.args.list.now).slots c.in-Some.i no_vm_region → Placed r.start r.size = λ r h. lies (lent) c.args.list.now c.args.root.0 c.requires c.count-n.result c.count-n.ensures c.in-Some.i (small) r h in let used-there : (r : VMRegion) → r ≡ get_or (vm_in c.args.list.now).slots c.in-Some.i no_vm_region → (used_size c.args.addr.0 (listed (vm_in c.args.list.now)) ≡ Ok r.size) × (r.start ≡ c.args.addr.0) = λ r h. found_used (lent) c.args.list.now c.args.root.0 c.requires c.count-n.result c.count-n.ensures c.in-Some.i (small) r h c.args.addr.0 c.in-Some.ensures.0 in let p = lies-well c.slot-r.result c.slot-r.ensures in omega (arith, (used-there c.slot-r.result c.slot-r.ensures).1, p.whole, p.end)

pub free_pages-given-requires-clause-up_le_most_above : goal.free_pages-given-requires-clause-up_le_most_above
free_pages-given-requires-clause-up_le_most_above c =
    let lent : Memory = lent_memory c.args.words.now c.args.bitmap.now c.args.frames in let small : c.in-Some.i < c.count-n.result = c.in-Some.ensures.1 in let lies-well : (r : VMRegion) → r ≡ get_or (vm_in c.args.list.now).slots c.in-Some.i no_vm_region → Placed r.start r.size = λ r h. lies (lent) c.args.list.now c.args.root.0 c.requires c.count-n.result c.count-n.ensures c.in-Some.i (small) r h in let used-there : (r : VMRegion) → r ≡ get_or (vm_in c.args.list.now).slots c.in-Some.i no_vm_region → (used_size c.args.addr.0 (listed (vm_in c.args.list.now)) ≡ Ok r.size) × (r.start ≡ c.args.addr.0) = λ r h. found_used (lent) c.args.list.now c.args.root.0 c.requires c.count-n.result c.count-n.ensures c.in-Some.i (small) r h c.args.addr.0 c.in-Some.ensures.0 in let p = lies-well c.slot-r.result c.slot-r.ensures in whole_above (lent) c.args.root.0 (lent_whole (lent) c.args.list.now c.args.root.0 c.requires)

pub free_region-requires-clause-i_lt_n : goal.free_region-requires-clause-i_lt_n
free_region-requires-clause-i_lt_n c =
    let lent : Memory = lent_memory c.args.words.now c.args.bitmap.now c.args.frames in let fit : vm_fit c.args.list.now ≡ true = lent_fit (lent) c.args.list.now c.args.root.0 c.requires in let small : c.in-Some.i < c.count-n.result = c.in-Some.ensures.1 in small

pub returns-clause-list_after : goal.returns-clause-list_after
returns-clause-list_after c =
    let lent : Memory = lent_memory c.args.words.now c.args.bitmap.now c.args.frames in let small : c.in-Some.i < c.count-n.result = c.in-Some.ensures.1 in let freed-there : (r : VMRegion) → r ≡ get_or (vm_in c.args.list.now).slots c.in-Some.i no_vm_region → free_first c.args.addr.0 (listed (vm_in c.args.list.now)) ≡ freed_at c.in-Some.i (listed (vm_in c.args.list.now)) = λ r h. found_freed (lent) c.args.list.now c.args.root.0 c.requires c.count-n.result c.count-n.ensures c.in-Some.i (small) r h c.args.addr.0 c.in-Some.ensures.0 in let used-there : (r : VMRegion) → r ≡ get_or (vm_in c.args.list.now).slots c.in-Some.i no_vm_region → (used_size c.args.addr.0 (listed (vm_in c.args.list.now)) ≡ Ok r.size) × (r.start ≡ c.args.addr.0) = λ r h. found_used (lent) c.args.list.now c.args.root.0 c.requires c.count-n.result c.count-n.ensures c.in-Some.i (small) r h c.args.addr.0 c.in-Some.ensures.0 in let up = c.args.frames.levels - 1 in let n = kernel (lent) (vm_in c.args.list.now) in let used = (used-there c.slot-r.result c.slot-r.ensures).0 in let l = left as_answer (Ok 0) (lent_memory c.free_pages-given.new.words c.free_pages-given.new.bitmap c.free_pages-given.result.frames)
    (released_met up n c.args.root.0 c.args.addr.0 c.slot-r.result.size used c.free_pages-given.ensures.frames_after (freed-there c.slot-r.result c.slot-r.ensures))
    c.free_region.new.list c.free_region.ensures.list_after_2 (λ j. (c.slice_known-4-1.given j).fits) c.free_region.ensures.list_after in l.0

pub returns-clause-kernel_stands : goal.returns-clause-kernel_stands
returns-clause-kernel_stands c =
    let lent : Memory = lent_memory c.args.words.now c.args.bitmap.now c.args.frames in let small : c.in-Some.i < c.count-n.result = c.in-Some.ensures.1 in let freed-there : (r : VMRegion) → r ≡ get_or (vm_in c.args.list.now).slots c.in-Some.i no_vm_region → free_first c.args.addr.0 (listed (vm_in c.args.list.now)) ≡ freed_at c.in-Some.i (listed (vm_in c.args.list.now)) = λ r h. found_freed (lent) c.args.list.now c.args.root.0 c.requires c.count-n.result c.count-n.ensures c.in-Some.i (small) r h c.args.addr.0 c.in-Some.ensures.0 in let used-there : (r : VMRegion) → r ≡ get_or (vm_in c.args.list.now).slots c.in-Some.i no_vm_region → (used_size c.args.addr.0 (listed (vm_in c.args.list.now)) ≡ Ok r.size) × (r.start ≡ c.args.addr.0) = λ r h. found_used (lent) c.args.list.now c.args.root.0 c.requires c.count-n.result c.count-n.ensures c.in-Some.i (small) r h c.args.addr.0 c.in-Some.ensures.0 in let up = c.args.frames.levels - 1 in let n = kernel (lent) (vm_in c.args.list.now) in let used = (used-there c.slot-r.result c.slot-r.ensures).0 in let l = left as_answer (Ok 0) (lent_memory c.free_pages-given.new.words c.free_pages-given.new.bitmap c.free_pages-given.result.frames)
    (released_met up n c.args.root.0 c.args.addr.0 c.slot-r.result.size used c.free_pages-given.ensures.frames_after (freed-there c.slot-r.result c.slot-r.ensures))
    c.free_region.new.list c.free_region.ensures.list_after_2 (λ j. (c.slice_known-4-1.given j).fits) c.free_region.ensures.list_after in l.1

pub returns-clause-found_value : goal.returns-clause-found_value
returns-clause-found_value c =
    let lent : Memory = lent_memory c.args.words.now c.args.bitmap.now c.args.frames in let small : c.in-Some.i < c.count-n.result = c.in-Some.ensures.1 in let freed-there : (r : VMRegion) → r ≡ get_or (vm_in c.args.list.now).slots c.in-Some.i no_vm_region → free_first c.args.addr.0 (listed (vm_in c.args.list.now)) ≡ freed_at c.in-Some.i (listed (vm_in c.args.list.now)) = λ r h. found_freed (lent) c.args.list.now c.args.root.0 c.requires c.count-n.result c.count-n.ensures c.in-Some.i (small) r h c.args.addr.0 c.in-Some.ensures.0 in let used-there : (r : VMRegion) → r ≡ get_or (vm_in c.args.list.now).slots c.in-Some.i no_vm_region → (used_size c.args.addr.0 (listed (vm_in c.args.list.now)) ≡ Ok r.size) × (r.start ≡ c.args.addr.0) = λ r h. found_used (lent) c.args.list.now c.args.root.0 c.requires c.count-n.result c.count-n.ensures c.in-Some.i (small) r h c.args.addr.0 c.in-Some.ensures.0 in let up = c.args.frames.levels - 1 in let n = kernel (lent) (vm_in c.args.list.now) in let used = (used-there c.slot-r.result c.slot-r.ensures).0 in let l = left as_answer (Ok 0) (lent_memory c.free_pages-given.new.words c.free_pages-given.new.bitmap c.free_pages-given.result.frames)
    (released_met up n c.args.root.0 c.args.addr.0 c.slot-r.result.size used c.free_pages-given.ensures.frames_after (freed-there c.slot-r.result c.slot-r.ensures))
    c.free_region.new.list c.free_region.ensures.list_after_2 (λ j. (c.slice_known-4-1.given j).fits) c.free_region.ensures.list_after in c.free_pages-given.ensures.found_value ∙ sym (ap (released_found up n c.args.root.0 c.args.addr.0) used)
