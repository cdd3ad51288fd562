use Rattle.receiver_grown.specs.Grown.{Grown}
use Rattle.bench_receiver.proofs.main.Given as goal

abbrev pub invariant-loop : goal.invariant-loop
invariant-loop l = Grown l.s.receiver l.lent.samples.now
