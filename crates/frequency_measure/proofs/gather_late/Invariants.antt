use Rattle.frequency_lists.specs.declared.Reading.{Reading}
use Rattle.frequency_signal.specs.Seconds.{late}
use Rattle.frequency_measure.proofs.Frames.{Gathers}
use Rattle.frequency_measure.proofs.gather_late.Given as goal

abbrev pub invariant-loop-x : goal.invariant-loop-x
invariant-loop-x l = Gathers (λ (x : Reading). late l.pace.rate l.from x.at) l.readings l.initial.out l.x-index l.w l.out
