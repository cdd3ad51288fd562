use Rattle.frequency.specs.Lent.{lists}
use Rattle.frequency_grown.specs.Rising.{Single}
use Rattle.bench_tracker.proofs.hear_all.Given as goal

abbrev pub invariant-loop : goal.invariant-loop
invariant-loop g l = Single l.s.tracker (lists l.readings l.tunings)
