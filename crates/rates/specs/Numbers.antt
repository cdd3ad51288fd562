-- The numbers that the Rust multiplies or divides by the rate, in seconds or bits, and its two quantiles: each by one name. Two of the same value that mean different things have two names.
-- The seconds that the buffer holds (BUFFER_S) are `buffer_s` of limits. Assumes nothing.
use Rattle.std.specs.Prelude.{ℕ, Float}
use Rattle.floats.specs.Number.{num, near}

-- ---- demod.rs

-- BIT_RATE: bits in a second
abbrev pub bit_rate : ℕ
bit_rate = 100

-- find_dips, 1.5 bits: a dip is measured against the local envelope on each side, as the transmit power may ramp during the first part of a frame
abbrev pub side_bits : Float
side_bits = near 3 2

-- find_dips, 0.4 bits: a dip is the lowest sample this far around, so that two are half a bit apart
abbrev pub half_bits : Float
half_bits = near 4 10

-- decode_burst, 0.02 s: the segment reaches this far past the burst on both sides
abbrev pub pad_s : Float
pad_s = near 2 100

-- noise_floor: the value at 0.2 of the sorted samples
abbrev pub floor_quantile : Float
floor_quantile = near 2 10

-- burst_bits: a burst's level is the value at 0.9 of its sorted samples
abbrev pub level_quantile : Float
level_quantile = near 9 10

-- BurstOptions::default, gap_ms: the dips inside a frame are short gaps
abbrev pub gap_ms : Float
gap_ms = num 40

-- milliseconds in a second
abbrev pub ms_per_s : Float
ms_per_s = num 1000

-- ---- receiver.rs

-- STEP_S: a scan is due after this long
abbrev pub step_s : Float
step_s = near 1 2

-- TAIL_S: a burst counts as finished once it ended this long before the newest sample
abbrev pub tail_s : Float
tail_s = near 3 10

-- SAME_BURST_S: the detected start of a burst moves a little between scans
abbrev pub same_burst_s : Float
same_burst_s = near 3 10

-- ---- frequency.rs

-- SETTLE_S: readings are trusted this long into a frame and after a retune
abbrev pub settle_s : Float
settle_s = near 3 10

-- GAP_S: a longer gap ends a frame (the dips are shorter)
abbrev pub gap_s : Float
gap_s = near 1 10

-- QUIET_S: a longer gap ends a message, and the tracker goes back to the base frequency
abbrev pub tracker_quiet_s : Float
tracker_quiet_s = num 10

-- KEEP_S: readings are kept this long
abbrev pub keep_s : Float
keep_s = num 60
