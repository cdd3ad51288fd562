-- Which rates, samples and times are accepted (01, causes 1, 4 and 9). Assumes nothing.
use Rattle.std.specs.Prelude.{ℕ, ◌*◌, Bool, true, cond, not, ◌&&◌, List, [], ◌∷◌, length, leb, nat_lt, Float}
use Rattle.std.specs.Float.Ieee.{le, neg}
use Rattle.limits.specs.Limits.{bad_rate, long, bad_sample, buffer_s, lowest_rate, highest_rate, lowest_dbm, highest_dbm, farthest_s}

-- cause 1 does not apply
abbrev pub rate_ok : ℕ → Bool
rate_ok rate = leb lowest_rate rate && leb rate highest_rate

-- a sample, or a floor, from -200 to 100 dBm; a NaN is none
abbrev pub is_dbm : Float → Bool
is_dbm x = le lowest_dbm x && le x highest_dbm

-- cause 9, "times not within ±10^9", does not apply; a NaN is not within
abbrev pub time_ok : Float → Bool
time_ok x = le (neg farthest_s) x && le x farthest_s

-- cause 4 does not apply
unfoldable pub all_dbm : List Float → Bool
all_dbm [] = true
all_dbm (x ∷ xs) = is_dbm x && all_dbm xs

-- the first of the causes 1, 3 and 4 that applies to samples at a rate, 0 where none does
unfoldable pub samples_cause : List Float → ℕ → ℕ
samples_cause dbm rate =
    cond (not (rate_ok rate)) bad_rate
    (cond (nat_lt (buffer_s * rate) (length dbm)) long
    (cond (not (all_dbm dbm)) bad_sample
    0))
