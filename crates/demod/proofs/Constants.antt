-- The constants of the code, as the check has them, by bit patterns, are those of specs. Assumes nothing.
use mathlib.Core.Path.{◌≡◌, refl}
use lib.Ieee.{binary32, round, of_int, of_bits}
use Rattle.floats.specs.Number.{num}

pub zero32_is : of_bits binary32 0 ≡ num 0
unfolding of_bits of_int round
zero32_is = refl
