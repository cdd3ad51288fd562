-- The numbers of `noise_floor` and `find_bursts` (demod.rs) that don't stand in `rates`, each by one name; the code has one name for each too. Assumes nothing.
use Rattle.std.specs.Prelude.{ℕ, Float}
use Rattle.std.specs.Float.Ieee.{neg}
use Rattle.floats.specs.Number.{num}

-- BurstOptions::default, above_db: frames sit well above the noise
abbrev pub above_db : Float
above_db = num 15

-- BurstOptions::default, min_ms: frames last over a second. 02, request 07: "The default minimum becomes 1,000 ms"; the Rust has 300.
abbrev pub min_ms : ℕ
min_ms = 1000

-- 01, cause 9: above not 0 to 100 dB, ms not 0 to 10,000
abbrev pub most_db : Float
most_db = num 100

abbrev pub most_ms : Float
most_ms = num 10000

-- the noise floor of no samples
abbrev pub silence : Float
silence = neg (num 120)

-- where the fold over a burst's samples starts: no burst has a lower peak
abbrev pub lowest_peak : Float
lowest_peak = neg (num 200)

-- no 12 s of samples hold more bursts, where each lasts at least 300 ms and the gap is the default's
abbrev pub most_bursts : ℕ
most_bursts = 35
