-- frequency.rs: the tracker as a record with its lists, and each call as a function on it. Assumes nothing.
use Rattle.std.specs.Prelude.{ℕ, Bool, true, false, cond, not, List, [], ◌∷◌, ◌++◌, map, ltb, eqb, length, Float, Option}
use Rattle.frequency_signal.specs.declared.Signal.{Signal}
use Rattle.frequency_signal.specs.Seconds.{quiet, late, kept}
use Rattle.frequency_signal.specs.Heard.{heard}
use Rattle.frequency_lists.specs.declared.Reading.{Reading}
use Rattle.frequency_lists.specs.declared.Tuning.{Tuning}
use Rattle.frequency_lists.specs.Lists.{last_or, readings_from}
use Rattle.frequency_lists.specs.Marks.{retained}
use Rattle.frequency_retain.specs.Retain.{stays}
use Rattle.frequency_tuning.specs.declared.Step.{Step}
use Rattle.frequency_tuning.specs.declared.Step.TheVariants.{Stay, Base}
use Rattle.frequency_tuning.specs.Steps.{answered, waits, is_asked, settled_by, target, asked, retunes, with_retuned}

-- FrequencyTracker; requested is the Rust's Option<u32>
pub record Tracker : Type 0 where
  pub rate : ℕ
  pub base : ℕ
  pub step : Float
  pub line : ℕ
  pub requested : Option ℕ
  pub signal : Signal
  pub tunings : List Tuning
  pub readings : List Reading

-- ---- freq, tuned

-- tuning.last().map_or(base_freq, |&(_, f)| f)
unfoldable pub freq_of : Tracker → ℕ
freq_of t = last_or t.base (map (λ (u : Tuning). u.freq) t.tunings)

abbrev pub is_empty : {A : Type 0} → List A → Bool
is_empty [] = true
is_empty (x ∷ l) = false

-- freq != self.freq() || self.tuning.is_empty()
unfoldable pub due : Tracker → ℕ → Bool
unfolding freq_of
due t f = cond (is_empty t.tunings) true (not (eqb f (freq_of t)))

unfoldable pub tuned : Tracker → ℕ → Tracker
unfolding due
tuned t f = record {
  rate = t.rate;
  base = t.base;
  step = t.step;
  line = t.line;
  requested = answered t.requested f;
  signal = t.signal;
  tunings = cond (due t f) (t.tunings ++ (record { at = t.signal.n; freq = f } ∷ [])) t.tunings;
  readings = t.readings;
}

-- ---- samples
unfoldable pub samples : Tracker → List Float → Tracker
samples t dbm =
    let s = heard t.rate t.signal dbm in
    record {
      rate = t.rate;
      base = t.base;
      step = t.step;
      line = t.signal.n;
      requested = t.requested;
      signal = s;
      tunings = retained (stays t.rate s.n (map (λ (u : Tuning). u.at) t.tunings)) t.tunings;
      readings = retained (map (kept t.rate s.n) (map (λ (x : Reading). x.at) t.readings)) t.readings;
    }

-- ---- cfo
unfoldable pub cfo : Tracker → List ℕ → Tracker
unfolding freq_of
cfo t raw = record {
  rate = t.rate;
  base = t.base;
  step = t.step;
  line = t.line;
  requested = t.requested;
  signal = t.signal;
  tunings = t.tunings;
  readings = t.readings
      ++ readings_from t.rate t.step (ltb 1 (length t.tunings)) (last_or 0 (map (λ (u : Tuning). u.at) t.tunings)) (freq_of t) t.line raw;
}

-- ---- next_tuning

-- the frequencies of the readings from frame_from + rate * GAP_S on
unfoldable pub settled_hz : Tracker → List Float
settled_hz t = map (λ (x : Reading). x.hz) (retained (map (late t.rate t.signal.frame_from) (map (λ (x : Reading). x.at) t.readings)) t.readings)

-- where next_tuning goes: nowhere while a request is open; to the base frequency after a message; to the coarse frame 1 reading once it has settled
unfoldable pub step_of : Tracker → Step
unfolding settled_hz settled_by
step_of t =
    cond (is_asked t.requested) Stay
    (cond (quiet t.rate t.signal.n t.signal.last_signal) Base
    (cond (waits t.rate t.signal) (settled_by (settled_hz t)) Stay))

unfoldable pub next_tuning : Tracker → Option ℕ
unfolding freq_of step_of
next_tuning t = target t.base (freq_of t) (step_of t)

unfoldable pub after_tuning : Tracker → Tracker
unfolding next_tuning step_of
after_tuning t = record {
  rate = t.rate;
  base = t.base;
  step = t.step;
  line = t.line;
  requested = asked (next_tuning t) t.requested;
  signal = with_retuned t.signal (retunes (step_of t) t.signal.retuned);
  tunings = t.tunings;
  readings = t.readings;
}
