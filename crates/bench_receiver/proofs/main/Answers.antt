-- `bench_receiver::main` ends.
use Rattle.std.proofs.Common.{arith}
use Rattle.receiver_grown.proofs.GrownLaws.{grown_new}
use Rattle.bench_receiver.proofs.main.Goals as goal

pub loop-init : goal.loop-init
loop-init c = grown_new _ _ c.new-receiver.ensures

pub push_chunk-requires : goal.push_chunk-requires
push_chunk-requires c = (omega arith, c.loop.invariant)

pub loop-preserved : goal.loop-preserved
loop-preserved c = c.push_chunk.ensures
