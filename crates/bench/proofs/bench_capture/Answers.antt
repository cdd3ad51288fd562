use mathlib.Core.Path.{refl}
use Rattle.limits.specs.Answer.{said_by}
use Rattle.bench.specs.Demod.{count_of}
use Rattle.bench.proofs.Told.{lent_told}
use Rattle.bench.proofs.bench_capture.Goals as goal

pub returns-in-Err : goal.returns-in-Err
unfolding said_by
returns-in-Err c = lent_told count_of _ _ _ _ _ _ _ _ _ _ c.in-Err.ensures refl

pub returns-in-Ok : goal.returns-in-Ok
unfolding said_by
returns-in-Ok c = lent_told count_of _ _ _ _ _ _ _ _ _ _ c.in-Ok.ensures refl
