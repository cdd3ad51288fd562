use Rattle.std.proofs.Common.{refl}
use Rattle.frequency_measure.specs.Measured.{middle}
use Rattle.frequency_measure.proofs.middle_hz.Goals as goal

pub returns-in_default : goal.returns-in_default
unfolding middle
returns-in_default c = rw (c.in_default.is-0, c.in_default.is-1) refl

pub returns-in_default-2 : goal.returns-in_default-2
unfolding middle
returns-in_default-2 c = rw c.in_default.is-0 refl
