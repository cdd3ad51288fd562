-- Numbers as text, and what adding a text to a lent buffer leaves there. Assumes nothing.
use Rattle.std.specs.Prelude.{ℕ, zero, suc, ◌+◌, ◌/◌, ◌%◌, ◌≡◌, cond, List, [], ◌∷◌, ◌++◌, ltb, length, take, drop}

-- the decimal digits of a number below 10 ^ k, the most significant first, with no zero in front; 48 is `0`
unfoldable pub decimal_by : ℕ → ℕ → List ℕ
decimal_by zero n = []
decimal_by (suc k) n = cond (ltb n 10) ((48 + n) ∷ []) (decimal_by k (n / 10) ++ ((48 + n % 10) ∷ []))

-- 01's "decimal": a u64 has at most 20 digits
unfoldable pub decimal : ℕ → List ℕ
unfolding decimal_by
decimal n = decimal_by 20 n

-- 01's "lower-case": 48 is `0`, and 87 + 10 is `a`
abbrev pub hex_digit : ℕ → ℕ
hex_digit d = cond (ltb d 10) (48 + d) (87 + d)

-- w hexadecimal digits, the most significant first
unfoldable pub hex : ℕ → ℕ → List ℕ
hex zero n = []
hex (suc w) n = hex w (n / 16) ++ (hex_digit (n % 16) ∷ [])

-- two for each byte
unfoldable pub hex_bytes : List ℕ → List ℕ
hex_bytes [] = []
hex_bytes (b ∷ l) = hex 2 b ++ hex_bytes l

-- the room that a line is given: more than any has
abbrev pub widest : ℕ
widest = 128

-- text was put at a place of the buffer old, r is the place behind it: what stands in front of it and from r on is as it was
pub record Added (old : List ℕ) (at : ℕ) (text : List ℕ) (r : ℕ) (new : List ℕ) : Type 0 where
  pub end : r ≡ at + length text
  pub front : take r new ≡ take at old ++ text
  pub rest : drop r new ≡ drop r old
  pub room : length new ≡ length old
