use Rattle.std.proofs.Common.{◌≡◌, ◌*◌, true, take}
use Rattle.frequency_lists.specs.Lists.{ats, all_numbers}
use Rattle.frequency_lists.proofs.Reach.{Reached}
use Rattle.frequency_lists.proofs.spread_of_numbers.Given as goal

abbrev pub invariant-loop-k : goal.invariant-loop-k
invariant-loop-k l = Reached l.low l.bits (ats l.readings) (16 * l.k) × (all_numbers (take (16 * l.k) l.readings) ≡ true)
