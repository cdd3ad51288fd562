use Rattle.limits.specs.Answer.{said_by}
use Rattle.bench.proofs.Told.{written_told}
use Rattle.bench.proofs.bench_write_uplink.Goals as goal

pub returns-in-Err : goal.returns-in-Err
unfolding said_by
returns-in-Err c = written_told _ _ _ _ _ _ c.in-Err.ensures

pub returns-in-Ok : goal.returns-in-Ok
unfolding said_by
returns-in-Ok c = written_told _ _ _ _ _ _ c.in-Ok.ensures
