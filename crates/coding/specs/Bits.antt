-- Bits: their sum over GF(2), binary digits, and bits written as bytes 0 and 1. Assumes nothing.
use Rattle.std.specs.Prelude.{ℕ, zero, suc, ◌+◌, ◌/◌, ◌%◌, ◌^◌, Bool, true, false, not, cond, ◌&&◌, List, [], ◌∷◌, ◌++◌, eqb, leb, length, take, drop}

-- the sum of two bits
abbrev pub plus : Bool → Bool → Bool
plus true b = not b
plus false b = b

abbrev pub odd : ℕ → Bool
odd x = eqb (x % 2) 1

-- a bit as a number
abbrev pub bit_of : Bool → ℕ
bit_of b = cond b 1 0

-- the n lowest binary digits of x, the highest first (frame.rs push_bits)
unfoldable pub digits : ℕ → ℕ → List Bool
digits zero x = []
digits (suc n) x = odd (x / 2 ^ n) ∷ digits n x

-- the number that a list of digits stands for, the highest first (frame.rs bits_value)
unfoldable pub value : List Bool → ℕ
value [] = 0
value (b ∷ l) = cond b (2 ^ length l) 0 + value l

-- the bits of bytes, each byte's highest first
unfoldable pub bytes_bits : List ℕ → List Bool
bytes_bits [] = []
bytes_bits (b ∷ bs) = digits 8 b ++ bytes_bits bs

-- the first n bytes of a list of bits, each byte's highest bit first (frame.rs to_bytes)
unfoldable pub to_bytes : ℕ → List Bool → List ℕ
to_bytes zero l = []
to_bytes (suc n) l = value (take 8 l) ∷ to_bytes n (drop 8 l)

-- each is 0 or 1 (01, cause 9: 'bit byte over 1')
unfoldable pub are_bits : List ℕ → Bool
are_bits [] = true
are_bits (b ∷ l) = leb b 1 && are_bits l
