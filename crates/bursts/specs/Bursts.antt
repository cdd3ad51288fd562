-- `find_bursts` of demod.rs: the whole list of bursts, and the first of it that starts at or after an index. Assumes nothing.
use Rattle.std.specs.Prelude.{ℕ, suc, ◌+◌, ◌-◌, ◌*◌, Bool, cond, not, ◌&&◌, List, [], ◌∷◌, length, take, drop, nat_le, nat_lt, Float, Option, None, Some}
use Rattle.std.specs.Float.{binary64}
use Rattle.std.specs.Float.Ieee.{add, le, lt}
use Rattle.floats.specs.Fold.{max_from}
use Rattle.floats.specs.Number.{num}
use Rattle.limits.specs.Limits.{bad_rate, long, bad_sample, bad_number, buffer_s}
use Rattle.limits.specs.Samples.{rate_ok, is_dbm, all_dbm}
use Rattle.limits.specs.Answer.{Answer, answer}
use Rattle.rates.specs.Numbers.{gap_ms}
use Rattle.rates.specs.Rates.{gap_at, long_at}
use Rattle.bursts.specs.Numbers.{above_db, min_ms, most_db, most_ms, lowest_peak}
use Rattle.bursts.specs.declared.BurstOptions.{BurstOptions}
use Rattle.bursts.specs.declared.Burst.{Burst}

-- BurstOptions::default, with request 07's min_ms
abbrev pub default_options : BurstOptions
default_options = record { above_db = above_db; min_ms = num min_ms; gap_ms = gap_ms }

-- the Rust's `start` and `last_above`: no cluster is open, or one is, with its first and its last loud sample
pub data Open : Type 0 where
  none : Open
  since : ℕ → ℕ → Open

-- a cluster: its first and its last loud sample
pub record Cluster : Type 0 where
  pub first : ℕ
  pub last : ℕ

abbrev pub cluster : ℕ → ℕ → Cluster
cluster first last = record { first = first; last = last }

-- f64::from(x) > threshold: a sample is loud strictly over the threshold
abbrev pub loud : Float → Float → Bool
loud threshold x = lt threshold x

-- the Rust's loop over the samples from index i on: a cluster bridges at most the gap; the end of the list closes it too
unfoldable pub clusters : Float → ℕ → Open → ℕ → List Float → List Cluster
clusters t gap none i [] = []
clusters t gap (since s l) i [] = cluster s l ∷ []
clusters t gap none i (x ∷ xs) = cond (loud t x) (clusters t gap (since i i) (suc i) xs) (clusters t gap none (suc i) xs)
clusters t gap (since s l) i (x ∷ xs) =
    cond (loud t x) (clusters t gap (since s i) (suc i) xs)
    (cond (nat_lt gap (i - l)) (cluster s l ∷ clusters t gap none (suc i) xs)
    (clusters t gap (since s l) (suc i) xs))

-- f64::from(floor) + above_db
abbrev pub threshold : BurstOptions → Float → Float
threshold o floor = add binary64 floor o.above_db

-- round(gap_ms / 1000.0 * rate) as usize
abbrev pub gap_samples : BurstOptions → ℕ → ℕ
gap_samples o rate = gap_at o.gap_ms rate

-- (last_above - s) as f64 / rate >= min_ms / 1000.0
abbrev pub long_enough : BurstOptions → ℕ → Cluster → Bool
long_enough o rate c = long_at o.min_ms rate (c.last - c.first)

-- the samples from a to b, both in
abbrev pub between : ℕ → ℕ → List Float → List Float
between a b l = take (b + 1 - a) (drop a l)

-- the peak is over first..last, the bridged samples too
unfoldable pub burst_of : List Float → Float → Cluster → Burst
burst_of dbm floor c =
    record {
      start = c.first;
      end = c.last + 1;
      peak_dbm = max_from lowest_peak (between c.first c.last dbm);
      floor_dbm = floor;
    }

-- the bursts among clusters: those that are long enough
unfoldable pub bursts_in : List Float → ℕ → BurstOptions → Float → List Cluster → List Burst
unfolding burst_of
bursts_in dbm rate o floor [] = []
bursts_in dbm rate o floor (c ∷ cs) = cond (long_enough o rate c) (burst_of dbm floor c ∷ bursts_in dbm rate o floor cs) (bursts_in dbm rate o floor cs)

-- the whole list
unfoldable pub bursts_of : List Float → ℕ → BurstOptions → Float → List Burst
unfolding bursts_in clusters
bursts_of dbm rate o floor = bursts_in dbm rate o floor (clusters (threshold o floor) (gap_samples o rate) none 0 dbm)

-- 01: the first burst of the whole list that starts at or after an index, or none
unfoldable pub first_from : ℕ → List Burst → Option Burst
first_from from [] = None
first_from from (b ∷ bs) = cond (nat_le from b.start) (Some b) (first_from from bs)

-- 01, cause 9 does not apply: above 0 to 100 dB, ms 0 to 10,000, floor -200 to 100, no NaN
abbrev pub inside : Float → Float → Bool
inside top x = le (num 0) x && le x top

unfoldable pub options_ok : BurstOptions → Float → Bool
options_ok o floor = inside most_db o.above_db && (inside most_ms o.min_ms && (inside most_ms o.gap_ms && is_dbm floor))

-- the first cause that applies, 0 where none does
unfoldable pub burst_cause : List Float → ℕ → BurstOptions → Float → ℕ
unfolding options_ok
burst_cause dbm rate o floor =
    cond (not (rate_ok rate)) bad_rate
    (cond (nat_lt (buffer_s * rate) (length dbm)) long
    (cond (not (all_dbm dbm)) bad_sample
    (cond (not (options_ok o floor)) bad_number
    0)))

-- the answer of `find_bursts`; no burst is an ordinary one
unfoldable pub burst_answer : List Float → ℕ → BurstOptions → Float → ℕ → Answer (Option Burst)
unfolding bursts_of first_from burst_cause
burst_answer dbm rate o floor from = answer (burst_cause dbm rate o floor) (first_from from (bursts_of dbm rate o floor))
