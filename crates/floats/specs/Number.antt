-- Numbers as binary64 floats. Assumes nothing.
use Rattle.std.specs.Prelude.{ℕ, false, pos, Float}
use Rattle.std.specs.Float.{binary64}
use Rattle.std.specs.Float.Ieee.{of_int, round}

-- a whole number
abbrev pub num : ℕ → Float
num n = of_int binary64 (pos n)

-- the float nearest to a / c: a decimal of the Rust, as 0.35 = near 35 100
abbrev pub near : ℕ → ℕ → Float
near a c = round binary64 false a c
