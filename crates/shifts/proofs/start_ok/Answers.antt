use mathlib.Core.Path.{refl}
use Rattle.shifts.specs.Shifts.{start_ok}
use Rattle.shifts.proofs.start_ok.Goals as goal

pub returns-in-Some : goal.returns-in-Some
unfolding start_ok
returns-in-Some c = rw c.in-Some.is refl

pub returns-in-None : goal.returns-in-None
unfolding start_ok
returns-in-None c = rw c.in-None.is refl
