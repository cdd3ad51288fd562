-- Which times and distances are refused with 14 (02, request 11). Assumes nothing.
use Rattle.std.specs.Prelude.{Bool, true, false, ◌&&◌, Float}
use Rattle.std.specs.Float.{nan, inf, fin}
use Rattle.std.specs.Float.Ieee.{le}
use Rattle.floats.specs.Number.{num}

-- neither 'isn't a number' nor 'is infinite'
unfoldable pub is_finite : Float → Bool
is_finite nan = false
is_finite (inf s) = false
is_finite (fin s m e) = true

-- a distance is not 'negative' either; −0 is 0
abbrev pub distance_ok : Float → Bool
distance_ok x = is_finite x && le (num 0) x
