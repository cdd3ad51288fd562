-- Rust's f64::floor and demod.rs's round. Assumes nothing.
use Rattle.std.specs.Prelude.{ℕ, ◌+◌, ◌-◌, ◌*◌, ◌/◌, Bool, true, false, from_bits, Float}
use Rattle.std.specs.Float.{nan, inf, fin, binary64}
use Rattle.std.specs.Float.Ieee.{up, down, round, add}

-- a / c, to the whole number below, or where the sign is negative to the one above
abbrev pub part : Bool → ℕ → ℕ → ℕ
part false a c = a / c
part true a c = (a + (c - 1)) / c

-- f64::floor, the largest whole number that is not above x: a positive magnitude m * 2 ^ e goes down, a negative one's up.
-- A zero keeps its sign; an infinity and a NaN stay. `round` of a whole number that the format holds is that number, with the sign.
unfoldable pub floor : Float → Float
floor nan = nan
floor (inf s) = inf s
floor (fin s m e) = round binary64 s (part s (m * up e) (down e)) 1

-- demod.rs round, `(x + 0.5).floor()`: "Math.round of the TypeScript host: halves go up". The pattern is that of 0.5.
unfoldable pub round_half_up : Float → Float
round_half_up x = floor (add binary64 x (from_bits binary64 0x3fe0_0000_0000_0000))
