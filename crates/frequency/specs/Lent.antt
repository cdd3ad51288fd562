-- The tracker as the code has it: a struct with counts, and the lists lent. Assumes nothing.
use Rattle.std.specs.Prelude.{List, ◌++◌, length, take, drop}
use Rattle.frequency_lists.specs.declared.Reading.{Reading}
use Rattle.frequency_lists.specs.declared.Tuning.{Tuning}
use Rattle.frequency.specs.declared.FrequencyTracker.{FrequencyTracker}
use Rattle.frequency.specs.Tracker.{Tracker}

-- the two lists, whole
pub record Lists : Type 0 where
  pub readings : List Reading
  pub tunings : List Tuning

abbrev pub lists : List Reading → List Tuning → Lists
lists rs ts = record { readings = rs; tunings = ts }

-- what the struct and the lists stand for
unfoldable pub tracker : FrequencyTracker → Lists → Tracker
tracker s l = record {
  rate = s.rate;
  base = s.base_freq;
  step = s.step_hz;
  line = s.line_start;
  requested = s.requested;
  signal = s.signal;
  tunings = take s.tunings l.tunings;
  readings = take s.readings l.readings;
}

-- and back: the struct, and the lists, whose places past the counts keep their contents
unfoldable pub packed : Tracker → FrequencyTracker
packed t = record {
  rate = t.rate;
  base_freq = t.base;
  step_hz = t.step;
  line_start = t.line;
  readings = length t.readings;
  tunings = length t.tunings;
  requested = t.requested;
  signal = t.signal;
}

abbrev pub over : {A : Type 0} → List A → List A → List A
over l old = l ++ drop (length l) old

unfoldable pub stored : Tracker → Lists → Lists
stored t l = record { readings = over t.readings l.readings; tunings = over t.tunings l.tunings }
