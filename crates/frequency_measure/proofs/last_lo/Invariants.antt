use Rattle.std.proofs.Common.{◌≡◌, None, drop}
use Rattle.std.specs.List.{last_or}
use Rattle.frequency_measure.specs.Gathered.{in_frame, los}
use Rattle.frequency_measure.proofs.last_lo.Given as goal

abbrev pub invariant-loop-x : goal.invariant-loop-x
invariant-loop-x l = last_or l.last (los (in_frame l.frame.first l.frame.past (drop l.x-index l.readings))) ≡ last_or None (los (in_frame l.frame.first l.frame.past l.readings))
