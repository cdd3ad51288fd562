-- Which bursts a scan looks at: receiver.rs `scan`, find_bursts(view, rate, options, noise_floor(view)), with options of the receiver's own. Assumes nothing.
use Rattle.std.specs.Prelude.{ℕ, List, Float}
use Rattle.floats.specs.Number.{num}
use Rattle.rates.specs.Numbers.{gap_ms}
use Rattle.bursts.specs.Numbers.{above_db}
use Rattle.bursts.specs.declared.Burst.{Burst}
use Rattle.bursts.specs.declared.BurstOptions.{BurstOptions}
use Rattle.bursts.specs.Levels.{noise_floor}
use Rattle.bursts.specs.Bursts.{bursts_of}

-- 02, request 07: "The streaming receiver relied on 300 ms and names 300 itself"; the bounds on starts, messages and records rest on it
abbrev pub scan_min_ms : ℕ
scan_min_ms = 300

abbrev pub scan_options : BurstOptions
scan_options = record { above_db = above_db; min_ms = num scan_min_ms; gap_ms = gap_ms }

abbrev pub held_bursts : ℕ → List Float → List Burst
held_bursts rate held = bursts_of held rate scan_options (noise_floor held)
