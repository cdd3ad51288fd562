-- 01's order rules for the tracker's state, and the causes of its calls. Assumes nothing.
use Rattle.std.specs.Prelude.{◌≡◌, ℕ, ◌+◌, ◌*◌, Bool, true, cond, not, ◌&&◌, List, ltb, eqb, length, take, Float}
use Rattle.limits.specs.Limits.{bad_rate, short, long, bad_sample, bad_state, stream, full, bad_number, buffer_s, most_readings, longest_stream}
use Rattle.limits.specs.Samples.{rate_ok, all_dbm}
use Rattle.frequency_signal.specs.Order.{signal_ok, floor_ok}
use Rattle.frequency_lists.specs.declared.Reading.{Reading}
use Rattle.frequency_lists.specs.declared.Tuning.{Tuning}
use Rattle.frequency_lists.specs.Lists.{read_up_to, tuned_up_to, all_numbers, freqs, last_or, fits_readings, fits_tunings}
use Rattle.frequency_tuning.specs.Ranges.{step_ok}
use Rattle.frequency.specs.declared.FrequencyTracker.{FrequencyTracker}
use Rattle.frequency.specs.Lent.{Lists}

-- 'reading indices 0 to it plus 32,760': a line's last value stands 8 * 4,095 samples past its start
abbrev pub ahead : ℕ
ahead = 32760

-- number 5: 'tracker counts within their lists, stream count 0 to 2^40, line start, last signal and tuning indices 0 to that count, frame start −1 to it, reading
-- indices 0 to it plus 32,760', of the lists that a call has
unfoldable pub tunings_in_order : FrequencyTracker → List Tuning → Bool
tunings_in_order s ts = signal_ok s.line_start s.signal && (fits_tunings s.tunings ts && tuned_up_to s.signal.n (take s.tunings ts))

unfoldable pub readings_in_order : FrequencyTracker → List Reading → Bool
readings_in_order s rs = signal_ok s.line_start s.signal && (fits_readings s.readings rs && read_up_to (s.signal.n + ahead) (take s.readings rs))

abbrev pub in_order : FrequencyTracker → Lists → Bool
in_order s l = tunings_in_order s l.tunings && readings_in_order s l.readings

-- number 9: the step's and the floor's range, of every call
abbrev pub floats_ok : FrequencyTracker → Bool
floats_ok s = step_ok s.step_hz && floor_ok s.signal.floor

-- 'any NaN': a call that is lent the readings looks at the frequencies that the count names too
unfoldable pub numbers_ok : FrequencyTracker → List Reading → Bool
numbers_ok s rs = floats_ok s && all_numbers (take s.readings rs)

-- what one look at the readings held may settle: that they are in order and that none of their frequencies is a NaN
pub record Sound (s : FrequencyTracker) (rs : List Reading) : Type 0 where
  pub indices : read_up_to (s.signal.n + ahead) (take s.readings rs) ≡ true
  pub numbers : all_numbers (take s.readings rs) ≡ true

-- ---- the causes, one nested choice a call, in the order of their numbers

-- new: 1, 9
abbrev pub cause_new : ℕ → Float → ℕ
cause_new rate step = cond (not (rate_ok rate)) bad_rate (cond (not (step_ok step)) bad_number 0)

-- freq: 1, 5, 9
unfoldable pub cause_freq : FrequencyTracker → List Tuning → ℕ
cause_freq s ts =
    cond (not (rate_ok s.rate)) bad_rate
    (cond (not (tunings_in_order s ts)) bad_state
    (cond (not (floats_ok s)) bad_number 0))

-- a tuning is due where there is none yet or its frequency is another
unfoldable pub due_of : FrequencyTracker → List Tuning → ℕ → Bool
due_of s ts f = cond (eqb s.tunings 0) true (not (eqb f (last_or s.base_freq (freqs (take s.tunings ts)))))

-- tuned: 1, 5, 8 'a tuning due and none free', 9
unfoldable pub cause_tuned : FrequencyTracker → List Tuning → ℕ → ℕ
unfolding due_of
cause_tuned s ts f =
    cond (not (rate_ok s.rate)) bad_rate
    (cond (not (tunings_in_order s ts)) bad_state
    (cond (due_of s ts f && not (fits_tunings (s.tunings + 1) ts)) full
    (cond (not (floats_ok s)) bad_number 0)))

-- samples: 1, 3, 4, 5, 7, 9
unfoldable pub cause_samples : FrequencyTracker → Lists → List Float → ℕ
cause_samples s l dbm =
    cond (not (rate_ok s.rate)) bad_rate
    (cond (ltb (buffer_s * s.rate) (length dbm)) long
    (cond (not (all_dbm dbm)) bad_sample
    (cond (not (in_order s l)) bad_state
    (cond (ltb longest_stream (s.signal.n + length dbm)) stream
    (cond (not (numbers_ok s l.readings)) bad_number 0)))))

-- cfo: 1, 3, 5, 8 'held + given readings over the lists', 9
unfoldable pub cause_cfo : FrequencyTracker → Lists → List ℕ → ℕ
cause_cfo s l raw =
    cond (not (rate_ok s.rate)) bad_rate
    (cond (ltb most_readings (length raw)) long
    (cond (not (in_order s l)) bad_state
    (cond (not (fits_readings (s.readings + length raw) l.readings)) full
    (cond (not (numbers_ok s l.readings)) bad_number 0))))

-- next_tuning: 1, 2 (f64 scratch, one for each reading held), 5, 9
unfoldable pub cause_next : FrequencyTracker → Lists → ℕ → ℕ
cause_next s l room =
    cond (not (rate_ok s.rate)) bad_rate
    (cond (ltb room s.readings) short
    (cond (not (in_order s l)) bad_state
    (cond (not (numbers_ok s l.readings)) bad_number 0)))

-- frame_frequency and frame1: 1, 2, 5, 9; ok: their spans
unfoldable pub cause_frame : FrequencyTracker → List Reading → ℕ → Bool → ℕ
cause_frame s rs room ok =
    cond (not (rate_ok s.rate)) bad_rate
    (cond (ltb room s.readings) short
    (cond (not (readings_in_order s rs)) bad_state
    (cond (not (numbers_ok s rs && ok)) bad_number 0)))
