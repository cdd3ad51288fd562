use Rattle.std.proofs.Common.{◌≤◌, length}
use Rattle.events.proofs.arguments.read_given.Given as goal

abbrev pub invariant-loop-i : goal.invariant-loop-i
invariant-loop-i g l = l.dates ≤ length l.closed
