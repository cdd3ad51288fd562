-- The constants of the code, by their bit patterns, are those of specs. Assumes nothing.
use mathlib.Core.Path.{◌≡◌, refl}
use lib.Ieee.{binary64, of_bits, round, of_int}
use Rattle.floats.specs.Number.{num}
use Rattle.rates.specs.Numbers.{settle_s}
use Rattle.frequency_measure.specs.Measured.{max_offset_hz, delta_hz, spacing_low, spacing_high}

pub max_offset_is : of_bits binary64 0x40c3_8800_0000_0000 ≡ max_offset_hz
unfolding of_bits round of_int
max_offset_is = refl

pub delta_is : of_bits binary64 0x40b7_7000_0000_0000 ≡ delta_hz
unfolding of_bits round of_int
delta_is = refl

pub low_is : of_bits binary64 0x3ff8_0000_0000_0000 ≡ spacing_low
unfolding of_bits round
low_is = refl

pub high_is : of_bits binary64 0x4004_0000_0000_0000 ≡ spacing_high
unfolding of_bits round
high_is = refl

pub settle_is : of_bits binary64 0x3fd3_3333_3333_3333 ≡ settle_s
unfolding of_bits round
settle_is = refl

pub two_is : of_bits binary64 0x4000_0000_0000_0000 ≡ num 2
unfolding of_bits round of_int
two_is = refl
