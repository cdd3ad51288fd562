use mathlib.Core.Path.{ap}
use Rattle.limits.specs.Answer.{said_by}
use Rattle.bench.specs.Demod.{end_of}
use Rattle.bench.proofs.Told.{asked}
use Rattle.bench.proofs.bench_next_burst.Goals as goal

pub returns-in-Err : goal.returns-in-Err
unfolding said_by
returns-in-Err c = ap end_of (asked _ _ _ _ c.in-Err.ensures c.new.ensures)

pub returns-in-Ok-None : goal.returns-in-Ok-None
unfolding said_by
returns-in-Ok-None c = rw c.in-Ok-None.field-0-is at (ap end_of (asked _ _ _ _ c.in-Ok-None.ensures c.new.ensures))

pub returns-in-Ok-Some : goal.returns-in-Ok-Some
unfolding said_by
returns-in-Ok-Some c = rw c.in-Ok-Some.field-0-is at (ap end_of (asked _ _ _ _ c.in-Ok-Some.ensures c.new.ensures))
