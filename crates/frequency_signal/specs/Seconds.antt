-- frequency.rs's comparisons of sample indices with seconds, as the Rust has them, in binary64; proofs/Indices.antt says what they are on whole numbers.
-- rates/specs/Numbers.antt has SETTLE_S, GAP_S, QUIET_S and KEEP_S. The Rust's i64 index that may be -1 or absent is an `Option ℕ`. Assumes nothing.
use Rattle.std.specs.Prelude.{ℕ, ◌+◌, ◌-◌, ◌*◌, ◌≤◌, Bool, false, negsuc, Float, Option, None, Some}
use Rattle.std.specs.Float.{inf, binary64}
use Rattle.std.specs.Float.Ieee.{add, sub, mul, lt, le, of_int}
use Rattle.floats.specs.Number.{num}
use Rattle.limits.specs.Limits.{lowest_rate, highest_rate}
use Rattle.rates.specs.Numbers.{settle_s, gap_s, tracker_quiet_s, keep_s}

-- rate 200 to 4,000
abbrev pub Rate : ℕ → Type 0
Rate rate = (lowest_rate ≤ rate) × (rate ≤ highest_rate)

-- since_signal() > limit; None is infinitely long ago
abbrev pub since_over : Float → ℕ → Option ℕ → Bool
since_over limit n None = lt limit (inf false)
since_over limit n (Some s) = lt limit (num (n - s))

-- since_signal() > GAP_S * rate
unfoldable pub gap : ℕ → ℕ → Option ℕ → Bool
gap rate n last = since_over (mul binary64 gap_s (num rate)) n last

-- since_signal() > QUIET_S * rate
unfoldable pub quiet : ℕ → ℕ → Option ℕ → Bool
quiet rate n last = since_over (mul binary64 tracker_quiet_s (num rate)) n last

-- n - frame_from; frame_from -1 is None
abbrev pub since : ℕ → Option ℕ → ℕ
since n None = n + 1
since n (Some s) = n - s

-- ((n - frame_from) as f64) < SETTLE_S * rate
unfoldable pub young : ℕ → ℕ → Option ℕ → Bool
young rate n from = lt (num (since n from)) (mul binary64 settle_s (num rate))

-- frame_from as f64
abbrev pub index : Option ℕ → Float
index None = of_int binary64 (negsuc 0)
index (Some s) = num s

-- at as f64 >= frame_from as f64 + rate * GAP_S
unfoldable pub late : ℕ → Option ℕ → ℕ → Bool
late rate from at = le (add binary64 (index from) (mul binary64 (num rate) gap_s)) (num at)

-- (at as f64) < tuned_at as f64 + SETTLE_S * rate
unfoldable pub settling : ℕ → ℕ → ℕ → Bool
settling rate tuned at = lt (num at) (add binary64 (num tuned) (mul binary64 settle_s (num rate)))

-- at as f64 >= n as f64 - KEEP_S * rate
unfoldable pub kept : ℕ → ℕ → ℕ → Bool
kept rate n at = le (sub binary64 (num n) (mul binary64 keep_s (num rate))) (num at)

-- KEEP_S as a whole number
abbrev pub keep_whole : ℕ
keep_whole = 60

-- the same by whole numbers: what is kept is at this index or later (proofs/Indices.antt)
abbrev pub oldest_of : ℕ → ℕ → ℕ
oldest_of rate n = n - keep_whole * rate
