-- `is_sound`: the tests in their order.
use Rattle.std.proofs.Common.{◌≤◌, ◌<◌, ℕ}
use mathlib.Core.Path.{◌∙◌, subst}
use Rattle.vm_list.proofs.Places.{too_many, live_broken, live_right}
use Rattle.vm_list.proofs.is_sound.Goals as goal

pub returns-then-n-gt-MAX_VM_REGIONS : goal.returns-then-n-gt-MAX_VM_REGIONS
returns-then-n-gt-MAX_VM_REGIONS c =
    too_many c.args.list.now (subst (λ (n : ℕ). 256 < n) c.count-n.ensures c.if-n-gt-MAX_VM_REGIONS.true)

pub returns-then-live_sound : goal.returns-then-live_sound
returns-then-live_sound c =
    live_right c.args.list.now c.if-list-ne-VM_SIZE.false (subst (λ (k : ℕ). k ≤ 256) c.count-n.ensures c.if-n-gt-MAX_VM_REGIONS.false) c.count-n.result c.count-n.ensures c.live_sound.ensures c.if-live_sound.true c.rest_zero.ensures

pub returns-else-live_sound : goal.returns-else-live_sound
returns-else-live_sound c =
    c.if-live_sound.false ∙ live_broken c.args.list.now c.if-list-ne-VM_SIZE.false (subst (λ (k : ℕ). k ≤ 256) c.count-n.ensures c.if-n-gt-MAX_VM_REGIONS.false) c.count-n.result c.count-n.ensures c.live_sound.ensures c.if-live_sound.false
