-- The invariant: the clock so far, over the dips left, ends as the whole does, and the places of its points stand in front.
use Rattle.clock.proofs.FitLaws.{FitAt}
use Rattle.clock.proofs.fit_clock.Given as goal

abbrev pub invariant-loop-i : goal.invariant-loop-i
invariant-loop-i l = FitAt l.initial.clock l.initial.dips l.initial.depths l.dips l.depths l.clock l.i
