-- Cause 9's ranges of what is handed to the tracker's calls. Assumes nothing.
use Rattle.std.specs.Prelude.{ℕ, Bool, ◌&&◌, Float}
use Rattle.std.specs.Float.Ieee.{lt, le}
use Rattle.floats.specs.Number.{num}

-- number 9: 'step not over 0 to 10,000'
abbrev pub highest_step : ℕ
highest_step = 10000

abbrev pub step_ok : Float → Bool
step_ok x = lt (num 0) x && le x (num highest_step)
