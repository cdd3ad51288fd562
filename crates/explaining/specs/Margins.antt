-- How near a number was: what a burst, a dip or a message has left of the client's four. Each number stands in the definition that the receiver is proved against. Assumes nothing.
use Rattle.std.specs.Prelude.{ℕ, cond, Float}
use Rattle.std.specs.Float.{binary64}
use Rattle.std.specs.Float.Ieee.{sub, mul, lt, to_unsigned}
use Rattle.floats.specs.Floor.{round_half_up}
use Rattle.floats.specs.Number.{num}
use Rattle.floats.specs.Trig.{magnitude}
use Rattle.rates.specs.Numbers.{gap_ms}
use Rattle.bursts.specs.Numbers.{above_db}
use Rattle.bursts.specs.Bursts.{threshold}
use Rattle.bursts.specs.declared.Burst.{Burst}
use Rattle.bursts.specs.declared.BurstOptions.{BurstOptions}
use Rattle.dips.specs.Numbers.{dip_db}
use Rattle.clock.specs.Numbers.{off_grid}
use Rattle.ledger.specs.Scanning.{scan_min_ms, scan_options}
use Rattle.ledger.specs.Merge.{quiet_s}

-- a scan's options without a shortest burst, and with a threshold that is 3 dB lower: what a scan leaves
abbrev pub any_options : BurstOptions
any_options = record { above_db = above_db; min_ms = num 0; gap_ms = gap_ms }

abbrev pub faint_db : Float
faint_db = num 12

abbrev pub faint_options : BurstOptions
faint_options = record { above_db = faint_db; min_ms = num scan_min_ms; gap_ms = gap_ms }

-- 15 dB: what the peak lies over the threshold of a scan
unfoldable pub margin_of : Burst → Float
margin_of b = sub binary64 b.peak_dbm (threshold scan_options b.floor_dbm)

-- 6 dB: what a dip's depth is over it
unfoldable pub depth_margin : Float → Float
depth_margin depth = sub binary64 depth dip_db

-- 0.35 of a bit: what a dip's distance from its grid line is under it
unfoldable pub grid_margin : Float → Float
grid_margin off = sub binary64 off_grid (magnitude off)

-- 10 s: what a message that a frame last joined at `last` has left at a time
unfoldable pub quiet_margin : Float → Float → Float
quiet_margin time last = sub binary64 quiet_s (sub binary64 time last)

-- of numbers the smaller
unfoldable pub lesser : Float → Float → Float
lesser a b = cond (lt b a) b a

-- the magnitude in units of 1 / scale, rounded to the nearest whole number
unfoldable pub scaled : Float → ℕ → ℕ
scaled x scale = to_unsigned 64 (round_half_up (mul binary64 (magnitude x) (num scale)))
