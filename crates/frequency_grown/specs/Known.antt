-- Scaffolding. What a tracker that grew from a fresh one needs no test of, and the causes that are left. Assumes nothing.
use Rattle.std.specs.Prelude.{ℕ, ◌+◌, ◌*◌, ◌≡◌, true, cond, not, List, ltb, length, Float}
use Rattle.limits.specs.Limits.{short, long, bad_sample, stream, full, buffer_s, most_readings, longest_stream}
use Rattle.limits.specs.Samples.{rate_ok, all_dbm}
use Rattle.frequency_lists.specs.declared.Reading.{Reading}
use Rattle.frequency_lists.specs.Lists.{fits_readings}
use Rattle.frequency.specs.declared.FrequencyTracker.{FrequencyTracker}
use Rattle.frequency.specs.Lent.{Lists}
use Rattle.frequency.specs.Order.{in_order, numbers_ok}

-- 01's causes 1, 5 and 9 do not apply to the tracker s over these lists
pub record Known (s : FrequencyTracker) (l : Lists) : Type 0 where
  pub rate : rate_ok s.rate ≡ true
  pub order : in_order s l ≡ true
  pub numbers : numbers_ok s l.readings ≡ true

-- ---- the other causes, in the order of their numbers

-- samples: 3, 4, 7
abbrev pub line_cause : ℕ → ℕ → List Float → ℕ
line_cause rate n dbm =
    cond (ltb (buffer_s * rate) (length dbm)) long
    (cond (not (all_dbm dbm)) bad_sample
    (cond (ltb longest_stream (n + length dbm)) stream 0))

-- cfo: 3, 8
abbrev pub values_cause : ℕ → List ℕ → List Reading → ℕ
values_cause held raw rs =
    cond (ltb most_readings (length raw)) long
    (cond (not (fits_readings (held + length raw) rs)) full 0)

-- next_tuning: 2
abbrev pub room_cause : ℕ → ℕ → ℕ
room_cause held room = cond (ltb room held) short 0
