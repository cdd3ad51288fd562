-- Worked examples, computed. Assumes nothing.
use mathlib.Core.Path.{◌≡◌, refl}
use mathlib.Core.Bool.{false}
use mathlib.Core.List.{[], ◌∷◌}
use Prim.Native.Nat.{ℕ, ◌*◌, ◌^◌}
use lib.IntN.{pos, negsuc}
use lib.Ieee.{nan, inf, binary32, binary64, of_bits, to_bits, top}
use Rattle.endian.specs.Bytes.{bytes_of, number_of, bits_of, signed_bits, signed_of}

-- the least significant byte comes first
order : (bytes_of 4 0x12345678 ≡ 0x78 ∷ 0x56 ∷ 0x34 ∷ 0x12 ∷ []) × (number_of (0x78 ∷ 0x56 ∷ 0x34 ∷ 0x12 ∷ []) ≡ 0x12345678)
unfolding bytes_of number_of
order = (refl, refl)

-- Rust's f32::NAN and f64::NAN
nan-bits : (bits_of binary32 nan ≡ 0x7fc0_0000) × (bits_of binary64 nan ≡ 0x7ff8_0000_0000_0000)
unfolding to_bits
nan-bits = (refl, refl)

-- a NaN with another payload and the sign set; the infinity one below the first NaN pattern
patterns : (of_bits binary32 0xff80_0001 ≡ nan) × (of_bits binary64 0x7ff0_0000_0000_0001 ≡ nan) × (of_bits binary64 0x7ff0_0000_0000_0000 ≡ inf false)
unfolding of_bits
patterns = (refl, refl, refl)

-- -1, -2 ^ 31 and 2 ^ 31 - 1
signs : (signed_bits 32 (negsuc 0) ≡ 0xffff_ffff) × (signed_of 32 0x8000_0000 ≡ negsuc 0x7fff_ffff) × (signed_of 32 0x7fff_ffff ≡ pos 0x7fff_ffff)
unfolding signed_bits signed_of
signs = (refl, refl, refl)

-- the widths at which the laws of Values are used
widths : (2 * top binary32 ≡ 256 ^ 4) × (2 * top binary64 ≡ 256 ^ 8) × (◌≡◌ {A = ℕ} (2 ^ 32) (256 ^ 4))
widths = (refl, refl, refl)
