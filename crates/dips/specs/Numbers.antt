-- The numbers of `find_dips` (demod.rs) that don't stand in `rates`, each by one name; the code has one name for each too. Assumes nothing.
use Rattle.std.specs.Prelude.{ℕ, Float}
use Rattle.std.specs.Float.Ieee.{neg}
use Rattle.floats.specs.Number.{num}

-- a dip lies strictly more than this under the lower side: dips are local minima at least 6 dB below both sides
abbrev pub dip_db : Float
dip_db = num 6

-- a real dip has a high level on a side: not both sides lie further than this under the burst's level
abbrev pub dim_db : Float
dim_db = num 25

-- where the fold over a side's samples starts: no side has a lower level
abbrev pub lowest_side : Float
lowest_side = neg (num 200)

-- 1.5 and 0.4 bits in samples, at the highest rate
abbrev pub widest_side : ℕ
widest_side = 60

abbrev pub widest_half : ℕ
widest_half = 16

-- no 12 s of samples have more dips
abbrev pub most_dips : ℕ
most_dips = 2906

-- the place of the first depth in the slice lent for dips: more than there are dips
abbrev pub depths_at : ℕ
depths_at = 3000
