use mathlib.Core.Path.{refl}
use Rattle.limits.specs.Answer.{said_by}
use Rattle.bench.specs.Demod.{bit_count_of}
use Rattle.bench.proofs.Told.{lent_told}
use Rattle.bench.proofs.bench_burst_bits.Goals as goal

pub returns-in-Err : goal.returns-in-Err
unfolding said_by
returns-in-Err c = lent_told bit_count_of _ _ _ _ _ _ _ _ _ _ c.in-Err.ensures refl

pub returns-in-Ok-None : goal.returns-in-Ok-None
unfolding said_by
returns-in-Ok-None c = lent_told bit_count_of _ _ _ _ _ _ _ _ _ _ c.in-Ok-None.ensures (rw c.in-Ok-None.field-0-is refl)

pub returns-in-Ok-Some : goal.returns-in-Ok-Some
unfolding said_by
returns-in-Ok-Some c = lent_told bit_count_of _ _ _ _ _ _ _ _ _ _ c.in-Ok-Some.ensures (rw c.in-Ok-Some.field-0-is refl)
