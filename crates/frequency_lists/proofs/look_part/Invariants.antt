use Rattle.std.proofs.Common.{◌≡◌, take}
use Rattle.frequency_lists.specs.Lists.{ats, all_numbers}
use Rattle.frequency_lists.proofs.Reach.{Reached}
use Rattle.frequency_lists.proofs.look_part.Given as goal

abbrev pub invariant-loop-x : goal.invariant-loop-x
invariant-loop-x l = Reached l.low l.bits (ats l.readings) l.x-index × (l.ok ≡ all_numbers (take l.x-index l.readings))
