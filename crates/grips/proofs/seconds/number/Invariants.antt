use Rattle.std.proofs.Common.{◌≤◌}
use Rattle.grips.proofs.seconds.number.Given as goal

abbrev pub invariant-loop-c : goal.invariant-loop-c
invariant-loop-c l = (l.digits ≤ 1000000000000000) × (l.scale ≤ 1000000000000000)
