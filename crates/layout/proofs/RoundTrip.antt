-- The frame record comes back: bytes that are unpacked and packed again, and a record that is packed and unpacked again.
use Prim.Native.Nat.{ℕ, zero, suc, ◌^◌, ◌<◌}
use mathlib.Core.Path.{◌≡◌, refl, ◌∙◌, ap}
use mathlib.Core.Bool.{true}
use mathlib.Core.List.{List, [], ◌∷◌}
use native.Mathlib.Omega.{arith}
use lib.ListN.{length, get_or}
use borrow.Author.Tests.{eq-eqb}
use Rattle.packed.specs.Words.{pack, unpack}
use Rattle.packed.proofs.Words.{length_pack, unpack_pack, pack_unpack}
use Rattle.packed.proofs.RoundTrip.{Bytes, Words}
use Rattle.frame.specs.declared.FrameAllocator.{FrameAllocator}
use Rattle.layout.specs.Parts.{fields_size, fields_in, fields_out, fields_fit}

four_words : (bs : List ℕ) → get_or (unpack 4 bs) 0 0 ∷ get_or (unpack 4 bs) 1 0 ∷ get_or (unpack 4 bs) 2 0 ∷ get_or (unpack 4 bs) 3 0 ∷ [] ≡ unpack 4 bs
unfolding unpack
four_words bs = refl

pub fields_back : (bs : List ℕ) → length bs ≡ fields_size → Bytes bs → fields_out (fields_in bs) ≡ bs
fields_back bs n b = ap pack (four_words bs) ∙ pack_unpack 4 bs n b

pub fields_kept : (fa : FrameAllocator) → fa.start < 2 ^ 64 → fa.total < 2 ^ 64 → fa.allocated < 2 ^ 64 → fa.levels < 2 ^ 64 → fields_in (fields_out fa) ≡ fa
fields_kept fa s t a l =
    let e = unpack_pack (fa.start ∷ fa.total ∷ fa.allocated ∷ fa.levels ∷ []) each in
    λ j. record { start = get_or (e j) 0 0; total = get_or (e j) 1 0; allocated = get_or (e j) 2 0; levels = get_or (e j) 3 0 }
  where
    each : Words (fa.start ∷ fa.total ∷ fa.allocated ∷ fa.levels ∷ [])
    each zero = s
    each (suc zero) = t
    each (suc (suc zero)) = a
    each (suc (suc (suc zero))) = l
    each (suc (suc (suc (suc i)))) = omega arith

-- what one call packs, the next call takes
pub fields_fit_out : (fa : FrameAllocator) → fields_fit (fields_out fa) ≡ true
fields_fit_out fa = eq-eqb _ fields_size (length_pack (fa.start ∷ fa.total ∷ fa.allocated ∷ fa.levels ∷ []))
