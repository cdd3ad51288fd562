-- The constants of the code, as the check has them, by bit patterns, are those of specs. Assumes nothing.
use mathlib.Core.Path.{◌≡◌, refl}
use lib.Ieee.{binary32, binary64, round, neg, of_int, of_bits}
use Rattle.limits.specs.Limits.{lowest_dbm, highest_dbm, farthest_s}

pub lowest_is : of_bits binary32 0xc348_0000 ≡ lowest_dbm
unfolding of_bits of_int round neg
lowest_is = refl

pub highest_is : of_bits binary32 0x42c8_0000 ≡ highest_dbm
unfolding of_bits of_int round
highest_is = refl

pub farthest_is : of_bits binary64 0x41cd_cd65_0000_0000 ≡ farthest_s
unfolding of_bits of_int round
farthest_is = refl
