-- The invariant: the list is compacted by the marks passed.
use lib.ListN.{take}
use Rattle.frequency_lists.specs.Lists.{tuneds}
use Rattle.frequency_retain.specs.Retain.{stays, Compacted}
use Rattle.frequency_retain.proofs.retain_tunings.Given as goal

abbrev pub invariant-loop-i : goal.invariant-loop-i
invariant-loop-i l = Compacted (take l.i (stays l.stream.rate l.stream.n (tuneds l.initial.tunings))) l.initial.tunings l.w l.tunings
