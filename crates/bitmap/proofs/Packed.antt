-- The words of a bitmap decide its bytes, so that a contract which tells the words tells every byte.
use Prim.Native.Nat.{ℕ}
use mathlib.Core.Path.{◌≡◌, sym, ◌∙◌, ap}
use mathlib.Core.List.{List}
use lib.ListN.{length}
use Rattle.packed.specs.Words.{pack}
use Rattle.packed.proofs.Words.{pack_unpack}
use Rattle.packed.proofs.RoundTrip.{Bytes}
use Rattle.bitmap.specs.Bitmap.{bitmap_size, marks_in}

pub marks_decide : (a b : List ℕ) → length a ≡ bitmap_size → Bytes a → length b ≡ bitmap_size → Bytes b → marks_in a ≡ marks_in b → a ≡ b
marks_decide a b m x n y e = sym (pack_unpack 128 a m x) ∙ ap pack e ∙ pack_unpack 128 b n y
