-- The constants of the code, as the check has them, by bit patterns, are those of specs. Assumes nothing.
use Rattle.std.proofs.Common.{◌≡◌, refl}
use lib.Ieee.{binary32, round, neg, of_int, of_bits}
use Rattle.dips.specs.Numbers.{lowest_side}

pub lowest-side_is : of_bits binary32 0xc348_0000 ≡ lowest_side
unfolding of_bits of_int round neg
lowest-side_is = refl
