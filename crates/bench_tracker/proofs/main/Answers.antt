use Rattle.std.proofs.Common.{refl, arith}
use Rattle.frequency.specs.Calls.{cause_of_new}
use Rattle.bench_tracker.proofs.TrackerLaws.{moved, begins}
use Rattle.bench_tracker.proofs.main.Goals as goal

pub hear_all-requires : goal.hear_all-requires
unfolding cause_of_new
hear_all-requires c = moved c.in-Ok-start.ensures (begins _ _ _ _ _ _ (omega arith) c.in-Ok.ensures.number refl c.in-Ok.ensures.value)
