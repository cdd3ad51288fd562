-- What an argument of `charges` means (README.md, 'The charges of a month'): a decimal number, in characters' numbers. Assumes nothing.
use Rattle.std.specs.Prelude.{ℕ, ◌+◌, ◌-◌, ◌*◌, min, Bool, true, ◌&&◌, List, [], ◌∷◌, leb, ltb, length}

abbrev pub is_digit : ℕ → Bool
is_digit c = leb 48 c && leb c 57

unfoldable pub are_digits : List ℕ → Bool
are_digits [] = true
are_digits (c ∷ l) = is_digit c && are_digits l

-- a digit at least, and nothing else
abbrev pub is_decimal : List ℕ → Bool
is_decimal l = ltb 0 (length l) && are_digits l

-- a number that is more is taken for this, which is more than any that is accepted
abbrev pub most_number : ℕ
most_number = 1000000000000000000

-- the number that goes on with these digits after n
unfoldable pub number_from : ℕ → List ℕ → ℕ
number_from n [] = n
number_from n (c ∷ l) = number_from (min (10 * n + (c - 48)) most_number) l
