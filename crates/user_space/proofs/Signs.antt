-- The flag tests at minus one, whose bits are all set, at the smallest value, which has bit 31 alone, and on both sides of each flag.
use mathlib.Core.Path.{◌≡◌, refl}
use mathlib.Core.Bool.{true, false}
use lib.IntN.{pos, negsuc}
use Rattle.user_space.specs.Flags.{writable, fixed}

pub fixed_at_lem : (fixed (negsuc 0) ≡ true) × (fixed (negsuc 2147483647) ≡ false) × (fixed (pos 16) ≡ true) × (fixed (pos 15) ≡ false)
fixed_at_lem = (refl, refl, refl, refl)

pub writable_at : (writable (negsuc 0) ≡ true) × (writable (negsuc 2147483647) ≡ false) × (writable (pos 2) ≡ true) × (writable (pos 5) ≡ false)
writable_at = (refl, refl, refl, refl)
