-- A frame record that does not fit, or the call on it unpacked; words, bitmap and list are changed where they stand.
use Rattle.std.specs.Prelude.{Option, ℕ}
use Rattle.std.proofs.Common.{w32, ℤ, to_z, of_z}
use Rattle.mmap.specs.Packed.{opt_addr}
use Rattle.layout.specs.Left.{region_leftovers}
use Rattle.layout.specs.Memory.{list_parts}
use Rattle.desk_regions.specs.Regions.{address_line, on_user}
use mathlib.Core.Path.{refl, ◌∙◌, ap}
use borrow.Author.Tests.{eq-eqb, ne_eqb}
use Rattle.address.specs.Address.{virt_line, as_virt}
use Rattle.user_space.specs.User.{User, UserDid}
use Rattle.mmap.specs.Calls.{mmap_of}
use Rattle.layout.specs.Parts.{fields_size}
use Rattle.layout.proofs.Left.{contract_broken, contract_met}
use mir.Facts.{to_z-of_z}
use Rattle.desk_regions.proofs.LeftRegions.{all_three, user_broken, user_met, mmap_refused}
use Rattle.desk_regions.proofs.user.gadulnos_mmap.Goals as goal

pub returns-then-fields-ne-FIELDS_SIZE-clause-list_after : goal.returns-then-fields-ne-FIELDS_SIZE-clause-list_after
returns-then-fields-ne-FIELDS_SIZE-clause-list_after c =
    (let call : (Option ℕ) × (ℤ × ℤ) → User → UserDid = λ v u. mmap_of u c.args.root v.0 c.args.size v.1.0 v.1.1 in
    contract_broken region_leftovers
    (user_broken as_virt virt_line (call (opt_addr c.args.given c.args.addr, (c.args.prot, c.args.flags))) c.args.words.now c.args.fields.now c.args.bits.now c.args.list.now (ne_eqb _ fields_size c.if-fields-ne-FIELDS_SIZE.true) c.broken.ensures)).0

pub returns-clause-list_after : goal.returns-clause-list_after
returns-clause-list_after c =
    (let call : (Option ℕ) × (ℤ × ℤ) → User → UserDid = λ v u. mmap_of u c.args.root v.0 c.args.size v.1.0 v.1.1 in
    contract_met region_leftovers
    (user_met as_virt virt_line (call (c.opt_addr-hint.result, (to_z w32 (of_z w32 c.args.prot), to_z w32 (of_z w32 c.args.flags)))) c.args.words.now c.args.fields.now c.args.bits.now c.args.list.now refl c.mmap-did.new.bitmap
    (eq-eqb _ fields_size c.if-fields-ne-FIELDS_SIZE.false) (λ i. (c.slice_known-2-1.given i).fits) c.get_fields.ensures c.mmap-did.ensures.list_after c.line_of.ensures c.put_fields.ensures
    ∙ ap (λ (v : (Option ℕ) × (ℤ × ℤ)). let p = list_parts c.args.words.now c.args.fields.now c.args.bits.now c.args.list.now in on_user address_line (call v) p)
    (all_three c.opt_addr-hint.ensures (to_z-of_z c.ranges.prot) (to_z-of_z c.ranges.flags)))
    (mmap_refused c.args.words.now c.args.fields.now c.args.bits.now c.args.list.now (λ i. (c.slice_known-2-1.given i).fits) (λ i. (c.slice_known-3-1.given i).fits) c.args.root (opt_addr c.args.given c.args.addr) c.args.size c.args.prot c.args.flags)).0

pub returns-clause-refused : goal.returns-clause-refused
returns-clause-refused c =
    (let call : (Option ℕ) × (ℤ × ℤ) → User → UserDid = λ v u. mmap_of u c.args.root v.0 c.args.size v.1.0 v.1.1 in
    contract_met region_leftovers
    (user_met as_virt virt_line (call (c.opt_addr-hint.result, (to_z w32 (of_z w32 c.args.prot), to_z w32 (of_z w32 c.args.flags)))) c.args.words.now c.args.fields.now c.args.bits.now c.args.list.now refl c.mmap-did.new.bitmap
    (eq-eqb _ fields_size c.if-fields-ne-FIELDS_SIZE.false) (λ i. (c.slice_known-2-1.given i).fits) c.get_fields.ensures c.mmap-did.ensures.list_after c.line_of.ensures c.put_fields.ensures
    ∙ ap (λ (v : (Option ℕ) × (ℤ × ℤ)). let p = list_parts c.args.words.now c.args.fields.now c.args.bits.now c.args.list.now in on_user address_line (call v) p)
    (all_three c.opt_addr-hint.ensures (to_z-of_z c.ranges.prot) (to_z-of_z c.ranges.flags)))
    (mmap_refused c.args.words.now c.args.fields.now c.args.bits.now c.args.list.now (λ i. (c.slice_known-2-1.given i).fits) (λ i. (c.slice_known-3-1.given i).fits) c.args.root (opt_addr c.args.given c.args.addr) c.args.size c.args.prot c.args.flags)).1
