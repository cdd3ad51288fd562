-- The constants of the code, as the check has them, by bit patterns, are those of specs. Assumes nothing.
use Rattle.std.proofs.Common.{◌≡◌, refl}
use lib.Ieee.{binary64, round, of_int, of_bits}
use Rattle.clock.specs.Numbers.{million}

pub million_is : of_bits binary64 0x412e_8480_0000_0000 ≡ million
unfolding of_bits of_int round
million_is = refl
