-- The frame's CRC: the remainder of the message polynomial times x^16 by x^16 + x^12 + x^5 + 1 over GF(2), its bits inverted
-- (Sigfox radio specifications; 01, frame.rs: 'polynomial 1021 hexadecimal, start 0, high bit first, all bits inverted at the end').
-- A polynomial is the list of its coefficients, the highest first. Assumes nothing.
use Rattle.std.specs.Prelude.{ℕ, zero, suc, Bool, true, false, not, List, [], ◌∷◌, ◌++◌, map, length, replicate}
use Rattle.coding.specs.Bits.{plus, digits, value, bytes_bits}

-- d added to the leading coefficients of p
unfoldable pub onto : List Bool → List Bool → List Bool
onto [] p = p
onto (a ∷ d) [] = []
onto (a ∷ d) (b ∷ p) = plus a b ∷ onto d p

-- 01's polynomial: x^12 + x^5 + 1, the divisor after its leading coefficient x^16
abbrev pub polynomial : ℕ
polynomial = 0x1021

unfoldable pub divisor : List Bool
divisor = digits 16 polynomial

-- n steps of long division: where the leading coefficient is 1 the divisor is taken off; then the leading coefficient is 0, and is dropped
unfoldable pub remainder : ℕ → List Bool → List Bool
unfolding onto divisor
remainder zero p = p
remainder (suc n) [] = []
remainder (suc n) (false ∷ p) = remainder n p
remainder (suc n) (true ∷ p) = remainder n (onto divisor p)

-- the leading coefficients that these steps meet
unfoldable pub quotient : ℕ → List Bool → List Bool
unfolding onto divisor
quotient zero p = []
quotient (suc n) [] = []
quotient (suc n) (false ∷ p) = false ∷ quotient n p
quotient (suc n) (true ∷ p) = true ∷ quotient n (onto divisor p)

-- a polynomial times the whole divisor: 16 more coefficients
abbrev pub times : Bool → List Bool
times true = true ∷ divisor
times false = []

unfoldable pub product : List Bool → List Bool
unfolding onto divisor
product [] = replicate 16 false
product (b ∷ q) = onto (times b) (false ∷ product q)

-- a message times x^16
abbrev pub shifted : List Bool → List Bool
shifted m = m ++ replicate 16 false

-- divided until 16 coefficients are left
unfoldable pub crc_remainder : List Bool → List Bool
crc_remainder m = remainder (length m) (shifted m)

-- the CRC of a message of bits
unfoldable pub crc_bits : List Bool → ℕ
crc_bits m = value (map not (crc_remainder m))

-- the CRC of bytes (frame.rs crc16)
unfoldable pub crc_of : List ℕ → ℕ
crc_of bytes = crc_bits (bytes_bits bytes)
