-- The constants of frequency.rs, as their bit patterns say them. Assumes nothing.
use mathlib.Core.Path.{◌≡◌, refl}
use lib.Ieee.{binary64, of_bits, round, of_int}
use Rattle.floats.specs.Number.{num, near}

pub one : of_bits binary64 0x3ff0_0000_0000_0000 ≡ num 1
unfolding of_bits round of_int
one = refl

pub two : of_bits binary64 0x4000_0000_0000_0000 ≡ num 2
unfolding of_bits round of_int
two = refl

pub four : of_bits binary64 0x4010_0000_0000_0000 ≡ num 4
unfolding of_bits round of_int
four = refl

pub eight : of_bits binary64 0x4020_0000_0000_0000 ≡ num 8
unfolding of_bits round of_int
eight = refl

pub xtal : of_bits binary64 0x417e_8480_0000_0000 ≡ num 32000000
unfolding of_bits round of_int
xtal = refl

pub bits12 : of_bits binary64 0x40b0_0000_0000_0000 ≡ num 4096
unfolding of_bits round of_int
bits12 = refl

pub scale : of_bits binary64 0x3fed_c28f_5c28_f5c3 ≡ near 93 100
unfolding of_bits round
scale = refl
