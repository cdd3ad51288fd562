-- The constants of the code, by their bit patterns, are those of specs. Assumes nothing.
use mathlib.Core.Path.{◌≡◌, refl}
use lib.Ieee.{binary64, of_bits, round, of_int}
use Rattle.floats.specs.Number.{num}
use Rattle.frequency_tuning.specs.Ranges.{highest_step}

pub zero_is : of_bits binary64 0 ≡ num 0
unfolding of_bits round of_int
zero_is = refl

pub step_is : of_bits binary64 0x40c3_8800_0000_0000 ≡ num highest_step
unfolding of_bits round of_int
step_is = refl
