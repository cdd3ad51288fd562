-- Depths worked out: 'half decibels, rounded down, 255 if more'. Assumes nothing.
use mathlib.Core.Path.{◌≡◌, refl}
use Prim.Native.Nat.{ℕ}
use lib.Ieee.{binary64, of_int, of_bits, mul, div, round, to_unsigned}
use Rattle.floats.specs.Floor.{floor}
use Rattle.floats.specs.Number.{num}
use Rattle.demod.specs.Decode.{depth_byte}

-- quarters of a decibel
abbrev quarters : ℕ → ℕ
quarters n = depth_byte (div binary64 (num n) (num 4))

-- 0, 12, 12.25, 12.5, 12.75 dB; 127.25 and 127.5; 128, where a byte is full, and the most, 300
worked_out : (quarters 0 ≡ 0) × (quarters 48 ≡ 24) × (quarters 49 ≡ 24) × (quarters 50 ≡ 25) × (quarters 51 ≡ 25)
    × (quarters 509 ≡ 254) × (quarters 510 ≡ 255) × (quarters 512 ≡ 255) × (quarters 1200 ≡ 255)
unfolding depth_byte floor of_int of_bits mul div round to_unsigned
worked_out = (refl, refl, refl, refl, refl, refl, refl, refl, refl)
