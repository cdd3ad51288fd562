-- Worked examples, computed. Assumes nothing.
use mathlib.Core.Path.{◌≡◌, refl}
use mathlib.Core.Bool.{true, false}
use lib.Ieee.{binary64, round, neg, add, div, le, lt, eq, of_int, of_bits}
use Rattle.floats.specs.Floor.{floor, round_half_up}
use Rattle.floats.specs.Number.{num, near}
use Rattle.rates.specs.Rounding.{round_half_away}
use Rattle.rates.specs.Rates.{long_at}

-- 2.5 rounds to 3, and -2.5 to -3 where `round_half_up` gives -2
half-away : (round_half_away (near 5 2) ≡ num 3) × (round_half_away (neg (near 5 2)) ≡ neg (num 3)) × (round_half_up (neg (near 5 2)) ≡ neg (num 2))
unfolding round_half_away round_half_up floor add round of_int of_bits neg
half-away = (refl, refl, refl)

-- the float next below a half rounds to 0; the sum with a half is rounded to 1, so that `round_half_up` gives 1
under_half : (round_half_away (of_bits binary64 0x3fdf_ffff_ffff_ffff) ≡ num 0) × (round_half_up (of_bits binary64 0x3fdf_ffff_ffff_ffff) ≡ num 1)
unfolding round_half_away round_half_up floor add round of_int of_bits
under_half = (refl, refl)

-- a shortest burst of 1,000 ms and one of 300, at 1,000/s and at 201/s, where 300 ms are 60.3 samples
lengths : (long_at (num 1000) 1000 1000 ≡ true) × (long_at (num 1000) 1000 999 ≡ false) × (long_at (num 1000) 201 201 ≡ true) × (long_at (num 1000) 201 200 ≡ false)
    × (long_at (num 300) 1000 300 ≡ true) × (long_at (num 300) 1000 299 ≡ false) × (long_at (num 300) 201 61 ≡ true) × (long_at (num 300) 201 60 ≡ false)
unfolding div le lt eq round of_int
lengths = (refl, refl, refl, refl, refl, refl, refl, refl)
