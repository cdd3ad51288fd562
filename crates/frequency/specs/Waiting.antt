-- Scaffolding. `next_tuning` on the readings held, and what its parts ask of them. Assumes nothing.
use Rattle.std.specs.Prelude.{◌≡◌, ◌≤◌, true, cond, List, map, length, Float}
use Rattle.frequency_signal.specs.Seconds.{quiet, late}
use Rattle.frequency_lists.specs.declared.Reading.{Reading}
use Rattle.frequency_lists.specs.Lists.{Small, all_numbers, ats, hzs}
use Rattle.frequency_lists.specs.Marks.{retained}
use Rattle.frequency.specs.declared.FrequencyTracker.{FrequencyTracker}
use Rattle.frequency_tuning.specs.declared.Step.{Step}
use Rattle.frequency_tuning.specs.declared.Step.TheVariants.{Stay, Base}
use Rattle.frequency_tuning.specs.Steps.{Steady, is_asked, waits, settled_by}

-- readings in order, none of whose frequencies is a NaN, and scratch for as many
pub record Settling (s : FrequencyTracker) (held : List Reading) (out : List Float) : Type 0 where
  pub steady : Steady s.rate s.signal
  pub small : Small (ats held)
  pub room : length held ≤ length out
  pub numbers : all_numbers held ≡ true

-- settled_hz and step_of, of the readings held
abbrev pub settled_of : FrequencyTracker → List Reading → List Float
settled_of s held = hzs (retained (map (late s.rate s.signal.frame_from) (ats held)) held)

unfoldable pub step_by : FrequencyTracker → List Reading → Step
unfolding settled_by
step_by s held =
    cond (is_asked s.requested) Stay
    (cond (quiet s.rate s.signal.n s.signal.last_signal) Base
    (cond (waits s.rate s.signal) (settled_by (settled_of s held)) Stay))
