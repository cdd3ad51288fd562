use mathlib.Core.Path.{ap}
use Rattle.limits.specs.Answer.{said_by}
use Rattle.bench.specs.Demod.{count_of}
use Rattle.bench.proofs.bench_find_dips.Goals as goal

pub returns-in-Err : goal.returns-in-Err
unfolding said_by
returns-in-Err c = (ap count_of c.in-Err.ensures.0, c.in-Err.ensures.1)

pub returns-in-Ok : goal.returns-in-Ok
unfolding said_by
returns-in-Ok c = (ap count_of c.in-Ok.ensures.0, c.in-Ok.ensures.1)
