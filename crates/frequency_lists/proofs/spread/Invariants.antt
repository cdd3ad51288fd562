use Rattle.std.proofs.Common.{◌*◌}
use Rattle.frequency_lists.specs.Lists.{ats}
use Rattle.frequency_lists.proofs.Reach.{Reached}
use Rattle.frequency_lists.proofs.spread.Given as goal

abbrev pub invariant-loop-k : goal.invariant-loop-k
invariant-loop-k l = Reached l.low l.bits (ats l.readings) (16 * l.k)
