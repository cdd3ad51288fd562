-- The invariant: the list is compacted by the marks passed.
use mathlib.Core.List.{map}
use lib.ListN.{take}
use Rattle.frequency_lists.specs.Lists.{ats}
use Rattle.frequency_signal.specs.Seconds.{kept}
use Rattle.frequency_retain.specs.Retain.{Compacted}
use Rattle.frequency_retain.proofs.compact_readings.Given as goal

abbrev pub invariant-loop-i : goal.invariant-loop-i
invariant-loop-i l = Compacted (take l.i (map (kept l.stream.rate l.stream.n) (ats l.initial.readings))) l.initial.readings l.w l.readings
