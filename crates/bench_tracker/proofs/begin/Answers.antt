use Rattle.std.proofs.Common.{refl, arith}
use Rattle.frequency.specs.Calls.{cause_of_new}
use Rattle.bench_tracker.proofs.TrackerLaws.{begins}
use Rattle.bench_tracker.proofs.begin.Goals as goal

pub returns-in-Ok : goal.returns-in-Ok
unfolding cause_of_new
returns-in-Ok c = λ l g. begins _ _ _ _ _ l (omega arith) c.in-Ok.ensures.number refl c.in-Ok.ensures.value
