-- The numbers of `burst_bits` (demod.rs) that don't stand in `rates`, each by one name; the code has one name for each too. Assumes nothing.
use Rattle.std.specs.Prelude.{ℕ, ◌^◌, Float}
use Rattle.floats.specs.Number.{num, near}

-- the fewest dips, and the fewest points of the grid, that make a clock
abbrev pub enough_dips : ℕ
enough_dips = 8

abbrev pub enough_points : ℕ
enough_points = 8

-- the first dips, whose mean phase anchors the grid
abbrev pub anchors : ℕ
anchors = 12

-- the points from which on the grid is fitted anew, so that a 1 % clock error doesn't slip a whole bit over a frame
abbrev pub refits : ℕ
refits = 4

-- a dip further than this from its place, in bits, is skipped
abbrev pub off_grid : Float
off_grid = near 35 100

-- 01: a bit index beyond ±2^31 gives none
abbrev pub farthest_bit : ℕ
farthest_bit = 2 ^ 31

-- the signal ends with the last sample that is not further than this under the level
abbrev pub end_db : Float
end_db = num 15

-- parts in a million
abbrev pub million : Float
million = num 1000000
