-- `decode_burst` of demod.rs: the burst with its margins, clamped to the samples, its bits, and the frame in them. Assumes nothing.
use Rattle.std.specs.Prelude.{ℕ, ◌+◌, ◌-◌, ◌*◌, min, max, Bool, cond, not, ◌&&◌, ◌||◌, List, map, ℤ, leb, ltb, length, take, drop, Float, Option, None, Some}
use Rattle.std.specs.Float.{binary64}
use Rattle.std.specs.Float.Ieee.{add, mul, div, is_nan, to_unsigned}
use Rattle.floats.specs.Floor.{floor}
use Rattle.floats.specs.Number.{num}
use Rattle.limits.specs.Limits.{bad_rate, short, long, bad_sample, bad_number, buffer_s, scratch64, longest_stream}
use Rattle.limits.specs.Samples.{rate_ok, is_dbm, time_ok, all_dbm}
use Rattle.limits.specs.Answer.{Answer, answer}
use Rattle.rates.specs.Rates.{pad_of}
use Rattle.coding.specs.Bits.{odd}
use Rattle.frame.specs.Decode.{decode_uplink}
use Rattle.frame.specs.declared.UplinkFrame.{UplinkFrame}
use Rattle.bursts.specs.declared.Burst.{Burst}
use Rattle.clock.specs.Bits as bits
use Rattle.demod.specs.declared.DecodedFrame.{DecodedFrame}

-- 0.02 s in samples, at the highest rate
abbrev pub widest_pad : ℕ
widest_pad = 80

-- clamped like a TypeScript subarray: a burst outside the samples gives an empty segment, which has no bits
unfoldable pub from_of : List Float → ℕ → Burst → ℕ
from_of dbm rate b = min (b.start - pad_of rate) (length dbm)

unfoldable pub to_of : List Float → ℕ → Burst → ℕ
unfolding from_of
to_of dbm rate b = max (from_of dbm rate b) (min (b.end + pad_of rate) (length dbm))

unfoldable pub segment_of : List Float → ℕ → Burst → List Float
unfolding from_of to_of
segment_of dbm rate b = take (to_of dbm rate b - from_of dbm rate b) (drop (from_of dbm rate b) dbm)

-- t0 + i / rate
abbrev pub time_at : Float → ℕ → ℕ → Float
time_at t0 rate i = add binary64 t0 (div binary64 (num i) (num rate))

-- 'Event byte 33 gives it in half decibels, rounded down, 255 if more' (02, request 05). Twice a depth is exact. A depth is over 0, a difference of levels from
-- -200 to 100 dBm; what is under 0 or no number would give 0
abbrev pub most_depth : ℕ
most_depth = 255

unfoldable pub depth_byte : Float → ℕ
depth_byte depth = min most_depth (to_unsigned 64 (floor (mul binary64 depth (num 2))))

-- a frame with the burst's times, its level, the clock's error and the dips' depth in half decibels
unfoldable pub with_burst : Float → Float → Float → ℤ → ℕ → Option UplinkFrame → Option DecodedFrame
with_burst time end rssi ppm depth None = None
with_burst time end rssi ppm depth (Some f) = Some (record { frame = f; time = time; end = end; rssi = rssi; clock_error_ppm = ppm; depth = depth })

unfoldable pub heard_in : Float → Float → Float → bits.Outcome → Option DecodedFrame
unfolding depth_byte with_burst
heard_in time end rssi None = None
heard_in time end rssi (Some b) = with_burst time end rssi b.ppm (depth_byte b.depth) (decode_uplink (map odd b.bits))

unfoldable pub decode_burst : List Float → ℕ → Burst → Float → Option DecodedFrame
unfolding segment_of heard_in
decode_burst dbm rate b t0 =
    heard_in (time_at t0 rate b.start) (time_at t0 rate b.end) b.peak_dbm (bits.outcome (segment_of dbm rate b) rate)

-- 01, cause 9 does not apply to a burst and a time that are handed in: indexes to 2^40, floor -200 to 100, no NaN
unfoldable pub burst_ok : Burst → Float → Bool
burst_ok b t0 = leb b.start longest_stream && (leb b.end longest_stream && (time_ok t0 && (is_dbm b.floor_dbm && not (is_nan b.peak_dbm))))

-- the first cause that applies to `decode_burst`, 0 where none does
unfoldable pub decode_cause : List Float → ℕ → Burst → Float → ℕ → ℕ → ℕ
unfolding burst_ok
decode_cause dbm rate b t0 s32 s64 =
    cond (not (rate_ok rate)) bad_rate
    (cond (ltb s32 (buffer_s * rate) || ltb s64 scratch64) short
    (cond (ltb (buffer_s * rate) (length dbm)) long
    (cond (not (all_dbm dbm)) bad_sample
    (cond (not (burst_ok b t0)) bad_number
    0))))

-- the answer of `decode_burst`; no frame is an ordinary one
abbrev pub decode_answer : List Float → ℕ → Burst → Float → ℕ → ℕ → Answer (Option DecodedFrame)
decode_answer dbm rate b t0 s32 s64 = answer (decode_cause dbm rate b t0 s32 s64) (decode_burst dbm rate b t0)
