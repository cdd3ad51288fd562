-- The tests of times, as the code makes them. Assumes nothing.
use mathlib.Core.Path.{◌≡◌, refl}
use lib.Ieee.{Float, nan, inf, fin, binary64, of_bits, of_int}
use Rattle.std.specs.Float.{float_is_finite}
use Rattle.floats.specs.Number.{num}
use Rattle.grip.specs.Times.{is_finite}

pub zero_is : of_bits binary64 0 ≡ num 0
unfolding of_bits of_int
zero_is = refl

pub finite_is : (x : Float) → float_is_finite x ≡ is_finite x
unfolding float_is_finite is_finite
finite_is nan = refl
finite_is (inf s) = refl
finite_is (fin s m e) = refl
