use Rattle.receiver_grown.specs.Grown.{Grown}
use Rattle.bench_receiver.proofs.push_chunk.Given as goal

abbrev pub invariant-loop-part : goal.invariant-loop-part
invariant-loop-part l = Grown l.s.receiver l.lent.samples.now
