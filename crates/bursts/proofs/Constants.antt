-- The constants of the code, as the check has them, by bit patterns, are those of specs. Assumes nothing.
use Rattle.std.proofs.Common.{◌≡◌, refl}
use lib.Ieee.{binary32, binary64, round, neg, of_int, of_bits}
use Rattle.rates.specs.Numbers.{ms_per_s}
use Rattle.bursts.specs.Numbers.{most_db, most_ms, silence, lowest_peak}

pub ms_per_s_is : of_bits binary64 0x408f_4000_0000_0000 ≡ ms_per_s
unfolding of_bits of_int round
ms_per_s_is = refl

pub most_db_is : of_bits binary64 0x4059_0000_0000_0000 ≡ most_db
unfolding of_bits of_int round
most_db_is = refl

pub most_ms_is : of_bits binary64 0x40c3_8800_0000_0000 ≡ most_ms
unfolding of_bits of_int round
most_ms_is = refl

pub silence_is : of_bits binary32 0xc2f0_0000 ≡ silence
unfolding of_bits of_int round neg
silence_is = refl

pub lowest-peak_is : of_bits binary32 0xc348_0000 ≡ lowest_peak
unfolding of_bits of_int round neg
lowest-peak_is = refl
