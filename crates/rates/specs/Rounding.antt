-- Rust's `f64::round`, which receiver.rs has where demod.rs has `round_half_up`: to the nearest whole number, a half away from zero. Assumes nothing.
use Rattle.std.specs.Prelude.{◌+◌, ◌*◌, ◌/◌, Float}
use Rattle.std.specs.Float.{nan, inf, fin, binary64}
use Rattle.std.specs.Float.Ieee.{up, down, round}

-- The magnitude is m * 2 ^ e = m * up e / down e: the largest whole number that is not above it plus a half, exactly. `round` of a whole number that the format holds is that number, with the sign.
unfoldable pub round_half_away : Float → Float
round_half_away nan = nan
round_half_away (inf s) = inf s
round_half_away (fin s m e) = round binary64 s ((2 * (m * up e) + down e) / (2 * down e)) 1
