use Rattle.std.proofs.Common.{◌&&◌, eqb}
use Rattle.frequency_lists.specs.declared.Reading.{Reading}
use Rattle.frequency_measure.specs.Measured.{inside}
use Rattle.frequency_measure.proofs.Frames.{Gathers}
use Rattle.frequency_measure.proofs.gather_frame.Given as goal

abbrev pub invariant-loop-x : goal.invariant-loop-x
invariant-loop-x l = Gathers (λ (x : Reading). inside l.frame.first l.frame.past x.at && eqb x.lo l.lo) l.readings l.initial.out l.x-index l.w l.out
