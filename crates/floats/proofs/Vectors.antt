-- Worked examples, computed; the bits are those that the same operations give on the machine. Assumes nothing.
use Rattle.std.proofs.Common.{◌≡◌, ℕ, ◌+◌, ◌-◌, ◌*◌, ◌≤◌, true, false, pos, negsuc, refl, ap, arith}
use lib.Ieee.{nan, inf, binary64, round, neg, add, sub, mul, div, lt, eq, of_int, of_bits, to_bits, to_unsigned, to_signed}
use Rattle.floats.specs.Floor.{floor}
use Rattle.floats.specs.Trig.{reduce, series, cosine, sine, atan_from, atan, magnitude, arctangent}
use Rattle.floats.specs.Number.{num, near}

floor_bits : ℕ → ℕ
floor_bits n = to_bits binary64 (floor (of_bits binary64 n))

-- the smallest subnormal number and its negative, and both zeros
floor-small : (floor_bits 1 ≡ 0) × (floor_bits 0x8000_0000_0000_0001 ≡ 0xbff0_0000_0000_0000) × (floor_bits 0x8000_0000_0000_0000 ≡ 0x8000_0000_0000_0000) × (floor_bits 0 ≡ 0)
unfolding floor_bits floor round of_bits to_bits
floor-small = (refl, refl, refl, refl)

-- 2 ^ 52 less a half, its negative, 2 ^ 52 + 1, and the infinities
floor-large : (floor_bits 0x432f_ffff_ffff_ffff ≡ 0x432f_ffff_ffff_fffe) × (floor_bits 0xc32f_ffff_ffff_ffff ≡ 0xc330_0000_0000_0000) × (floor_bits 0x4330_0000_0000_0001 ≡ 0x4330_0000_0000_0001) × (floor_bits 0x7ff0_0000_0000_0000 ≡ 0x7ff0_0000_0000_0000) × (floor_bits 0xfff0_0000_0000_0000 ≡ 0xfff0_0000_0000_0000)
unfolding floor_bits floor round of_bits to_bits
floor-large = (refl, refl, refl, refl, refl)

floor-nan : floor nan ≡ nan
unfolding floor
floor-nan = refl

-- `as`: NaN, the ends of the range, and toward zero
casts : (to_signed 31 nan ≡ pos 0) × (to_signed 31 (inf true) ≡ negsuc 2147483647) × (to_signed 31 (num 2147483648) ≡ pos 2147483647) × (to_signed 31 (neg (near 5 2)) ≡ negsuc 1) × (to_unsigned 32 (neg (num 1)) ≡ 0) × (to_unsigned 32 (inf false) ≡ 4294967295)
unfolding to_signed to_unsigned of_int round neg
casts = (refl, refl, refl, refl, refl, refl)

-- the divisors of 01, (2n−1)×2n and 2n×(2n+1)
pub cosine-divisor : (n : ℕ) → (2 * n - 1 + 0) * (2 * n + 0) ≡ (2 * n - 1) * (2 * n)
cosine-divisor n = rw (plus (2 * n - 1), plus (2 * n))
  where
    plus : (k : ℕ) → k + 0 ≡ k
    plus k = omega arith

pub sine-divisor : (n : ℕ) → 1 ≤ n → (2 * n - 1 + 1) * (2 * n + 1) ≡ 2 * n * (2 * n + 1)
sine-divisor n h = ap (λ (k : ℕ). k * (2 * n + 1)) (go n h)
  where
    go : (n : ℕ) → 1 ≤ n → 2 * n - 1 + 1 ≡ 2 * n
    go n h = omega arith

-- cos 1 and sin -20, whole
cos_one : to_bits binary64 (cosine (num 1)) ≡ 4603041830072026764
unfolding cosine series reduce floor add sub mul div round of_int of_bits neg to_bits
cos_one = refl

sin_far : to_bits binary64 (sine (neg (num 20))) ≡ 13829770336182025442
unfolding sine series reduce floor add sub mul div round of_int of_bits neg to_bits
sin_far = refl

-- atan2(0.1, -3) and atan2(-5, 4): each side of 0.4, and two quadrants
atan-flat : to_bits binary64 (arctangent (near 1 10) (neg (num 3))) ≡ 4614181624339735404
unfolding arctangent atan atan_from magnitude floor add sub mul div round of_int of_bits neg to_bits lt eq
atan-flat = refl

atan-steep : to_bits binary64 (arctangent (neg (num 5)) (num 4)) ≡ 13829618205792169886
unfolding arctangent atan atan_from magnitude floor add sub mul div round of_int of_bits neg to_bits lt eq
atan-steep = refl
