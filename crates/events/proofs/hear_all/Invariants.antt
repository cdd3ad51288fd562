-- The buffer always has a place.
use Rattle.std.proofs.Common.{◌<◌}
use Rattle.events.proofs.hear_all.Given as goal

abbrev pub invariant-loop : goal.invariant-loop
invariant-loop g l = l.filled < 4096
