-- `is_full`: by the count, then by whether one is found at the address.
use Rattle.std.proofs.Common.{ℕ, Bool, true, false, ◌≡◌, refl, sym, ◌∙◌, ap, arith, Ok, Err}
use Rattle.std.specs.Prelude.{Result}
use Rattle.std.specs.Result.{is_err}
use mathlib.Core.Bool.{not}
use Rattle.bits.specs.Bit.{pick}
use Rattle.slots.specs.Slots.{listed}
use Rattle.slots.specs.Sorted.{has_key, place_of}
use Rattle.mappings.specs.Regions.{start_key}
use Rattle.mappings.specs.Packed.{mmap_in}
use Rattle.mappings.proofs.Sound.{listed_long}
use Rattle.user_space.specs.Packed.{user_in}
use Rattle.mmap.proofs.Steps.{full_many}
use Rattle.mmap.proofs.inner.is_full.Goals as goal

-- none is found where none starts
none : (k : ℕ) (b : Bool) → is_err (pick {A = Result ℕ ℕ} b (Ok k) (Err k)) ≡ not b
none k true = refl
none k false = refl

pub returns-then-count-ge-MAX_REGIONS : goal.returns-then-count-ge-MAX_REGIONS
returns-then-count-ge-MAX_REGIONS c m =
    let l = listed (mmap_in c.args.list.now) in
    c.is_err.ensures.value
    ∙ ap is_err c.find.ensures
    ∙ none (place_of start_key c.args.a l) (has_key start_key c.args.a l)
    ∙ sym (full_many (user_in m c.args.list.now) c.args.a (omega (arith, listed_long c.args.list.now c.requires, c.if-count-ge-MAX_REGIONS.true, c.count.ensures)))
