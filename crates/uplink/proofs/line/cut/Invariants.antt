-- The invariant: no space stands before the place.
use Rattle.uplink.proofs.Words.{Cut}
use Rattle.uplink.proofs.line.cut.Given as goal

abbrev pub invariant-loop-i : goal.invariant-loop-i
invariant-loop-i l = Cut l.line l.i
