-- Little-endian bytes of whole numbers, signed numbers and floats, as Rust's to_le_bytes and from_le_bytes. Assumes nothing.
use Rattle.std.specs.Prelude.{ℕ, zero, suc, ◌+◌, ◌-◌, ◌*◌, ◌/◌, ◌%◌, ◌^◌, cond, List, [], ◌∷◌, take, drop, ltb, ℤ, pos, negsuc, Float}
use Rattle.std.specs.Float.{Format}
use Rattle.std.specs.Float.Ieee.{to_bits, of_bits}

-- the low k bytes of n, least significant first
unfoldable pub bytes_of : ℕ → ℕ → List ℕ
bytes_of zero n = []
bytes_of (suc k) n = n % 256 ∷ bytes_of k (n / 256)

-- the number whose bytes stand in a list, least significant first
unfoldable pub number_of : List ℕ → ℕ
number_of [] = 0
number_of (b ∷ bs) = b + 256 * number_of bs

-- the number of the k bytes at a place of a list
unfoldable pub number_at : ℕ → List ℕ → ℕ → ℕ
number_at k l at = number_of (take k (drop at l))

-- a float's pattern. At a NaN, where Rust names no single one, it is 7FC00000 or 7FF8000000000000 (hexadecimal).
abbrev pub bits_of : Format → Float → ℕ
bits_of f x = to_bits f x

-- the float of the k bytes at a place; each NaN pattern gives nan
abbrev pub float_at : Format → ℕ → List ℕ → ℕ → Float
float_at f k l at = of_bits f (number_at k l at)

-- two's complement in w bits of a number from -2 ^ (w - 1) to 2 ^ (w - 1) - 1; negsuc k is -(k + 1)
unfoldable pub signed_bits : ℕ → ℤ → ℕ
signed_bits w (pos n) = n
signed_bits w (negsuc k) = 2 ^ w - suc k

-- and back
unfoldable pub signed_of : ℕ → ℕ → ℤ
signed_of w n = cond (ltb n (2 ^ (w - 1))) (pos n) (negsuc (2 ^ w - suc n))
