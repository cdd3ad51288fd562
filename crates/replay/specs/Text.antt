-- How numbers are printed. Assumes nothing.
use Rattle.std.specs.Prelude.{ℕ, ◌+◌, ◌/◌, ◌%◌, cond, List, [], ◌∷◌, ltb, Float}
use Rattle.std.specs.Float.{Format}
use Rattle.std.specs.Float.Ieee.{eq}
use Rattle.floats.specs.Number.{num}
use Rattle.endian.specs.Bytes.{bits_of}

-- a float's pattern, either zero's as that of +0
abbrev pub plain_bits : Format → Float → ℕ
plain_bits f x = cond (eq x (num 0)) 0 (bits_of f x)

-- a lower-case hexadecimal digit
abbrev pub hex_digit : ℕ → ℕ
hex_digit d = cond (ltb d 10) (48 + d) (87 + d)

-- two digits a byte
unfoldable pub hex_text : List ℕ → List ℕ
hex_text [] = []
hex_text (b ∷ bs) = hex_digit (b / 16) ∷ hex_digit (b % 16) ∷ hex_text bs
