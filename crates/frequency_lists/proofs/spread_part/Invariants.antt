use Rattle.frequency_lists.specs.Lists.{ats}
use Rattle.frequency_lists.proofs.Reach.{Reached}
use Rattle.frequency_lists.proofs.spread_part.Given as goal

abbrev pub invariant-loop-x : goal.invariant-loop-x
invariant-loop-x l = Reached l.low l.bits (ats l.readings) l.x-index
